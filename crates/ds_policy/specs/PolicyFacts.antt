-- What is true of each policy that was read.
use Rattle.std.specs.Prelude.{◌≡◌, ◌≤◌, ◌<◌, ◌==◌, ◌%◌, ◌^◌, ℕ, true, List, length, IfSome, is_some, count_by}
use Rattle.std.specs.List.{All, IsDistinct}
use Rattle.ds_policy.specs.Grants.{is_some_right, count_distinct}
use Rattle.ds_policy.specs.Value.{PolicyValue}
use Rattle.ds_policy.specs.PolicyParts.{is_page_name, is_source_name, regions_of, has_same_name, has_same_place}
use Rattle.ds_policy.specs.declared.policy.PolicyProcess.{PolicyProcess}
use Rattle.ds_policy.specs.declared.policy.Source.{Source}
use Rattle.ds_policy.specs.declared.policy.PolicyPage.{PolicyPage}
use Rattle.ds_policy.specs.declared.policy.PolicyRule.{PolicyRule}

-- a process starts at a word and has one of four lines
pub record IsGoodProcess (p : PolicyProcess) : Type 0 where
  pub start : p.start < 2 ^ 32
  pub line : p.line ≤ 3

-- a name and a part in bounds
pub record IsGoodSource (s : Source) : Type 0 where
  pub name : is_source_name s.name ≡ true
  pub part : s.part ≤ 15

-- a good name, and a good source if there is one
pub record IsGoodPage (p : PolicyPage) : Type 0 where
  pub name : is_page_name p.name ≡ true
  pub source : IfSome p.source IsGoodSource

-- a rule over so many processes and pages
pub record IsGoodRule (processes pages : ℕ) (r : PolicyRule) : Type 0 where
  pub process : (1 ≤ r.process) × (r.process ≤ processes)
  pub aligned : r.address % 4096 ≡ 0
  pub user : r.address < 2 ^ 31
  pub page : IfSome r.page (λ n. n < pages)
  pub right : is_some r.page ≡ is_some_right r.right
  pub until : IfSome r.until (λ n. (1 ≤ n) × (n ≤ 1000000000))

-- at most 256 rules of each process
abbrev pub HasFewRules : List PolicyRule → Type 0
HasFewRules rules = (p : ℕ) → count_by (λ (r : PolicyRule). r.process == p) rules ≤ 256

-- at most four regions of each process
abbrev pub HasFewRegions : List PolicyRule → Type 0
HasFewRegions rules = (p : ℕ) → count_distinct (regions_of p rules) ≤ 4

-- each page is good, and no two have one name
pub record AreGoodPages (pages : List PolicyPage) : Type 0 where
  pub good : All IsGoodPage pages
  pub names : IsDistinct has_same_name pages

-- each rule is good, no two are about one place, and no process has too many
pub record AreGoodRules (processes pages : ℕ) (rules : List PolicyRule) : Type 0 where
  pub good : All (IsGoodRule processes pages) rules
  pub places : IsDistinct has_same_place rules
  pub few : HasFewRules rules
  pub regions : HasFewRegions rules

-- all of a policy is within its bounds
pub record IsGoodPolicy (p : PolicyValue) : Type 0 where
  pub frames : (1 ≤ p.frames) × (p.frames ≤ 1024)
  pub rate : (p.rate ≤ 15) × (0 < p.rate → 3 ≤ p.rate)
  pub process_count : (1 ≤ length p.processes) × (length p.processes ≤ 100)
  pub processes : All IsGoodProcess p.processes
  pub page_count : length p.pages ≤ p.frames
  pub pages : AreGoodPages p.pages
  pub rule_count : length p.rules ≤ 999
  pub rules : AreGoodRules (length p.processes) (length p.pages) p.rules
