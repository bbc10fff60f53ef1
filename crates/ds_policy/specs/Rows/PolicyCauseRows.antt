-- Worked rows of why a policy is refused.
use Rattle.std.specs.Prelude.{codes, refl, ◌≡◌, ℕ, pos, List, [], ◌∷◌, ◌++◌, map, option_map, option_and_then, Option, Some, None}
use Rattle.std.specs.Result.{result_err}
use Rattle.toml.specs.Data.{Data, string, integer, array, table, Items, no_items, item, member, no_members}
use Rattle.toml.specs.Parse.{parse_document}
use Rattle.toml.proofs.OnLiterals.{toml_on_literals}
use Rattle.ds_policy.specs.declared.cause.PageCause.{PageCause}
use Rattle.ds_policy.specs.declared.cause.PageCause.TheVariants as page
use Rattle.ds_policy.specs.declared.cause.PolicyReason.{PolicyReason}
use Rattle.ds_policy.specs.declared.cause.PolicyReason.TheVariants as reason
use Rattle.ds_policy.specs.declared.cause.ProcessCause.{ProcessCause}
use Rattle.ds_policy.specs.declared.cause.ProcessCause.TheVariants as process
use Rattle.ds_policy.specs.declared.cause.RuleCause.{RuleCause}
use Rattle.ds_policy.specs.declared.cause.RuleCause.TheVariants.{OtherKey, UntilOfVersion1, BadProcess, BadAddress, BadRight, PageOfNone, UntilOfNone, BadPage, BadGive, BadUntil}
use Rattle.ds_policy.specs.declared.policy.PolicyPage.{PolicyPage}
use Rattle.ds_policy.specs.PolicyParts.{policy_process_of, source_of, page_of, new_page, grant_of, rule_of}
use Rattle.ds_policy.specs.PolicyText.{each_of, processes_of, pages_of}

-- what is wrong with a process of these keys
abbrev of_process : List ℕ → Option ProcessCause
of_process keys = option_and_then (λ ms. result_err (policy_process_of (table ms))) (parse_document keys)

pub processes : map of_process (
    codes "start = 0\nline = 3"
    ∷ codes "start = 0\nline = 3\nname = 1"
    ∷ codes "line = 4"
    ∷ codes "start = \"0\"\nline = 3"
    ∷ codes "start = 4294967296\nline = 3"
    ∷ codes "start = 0"
    ∷ codes "start = 0\nline = 4"
    ∷ [])
    ≡ None ∷ Some process.OtherKey ∷ Some process.BadStart ∷ Some process.BadStart ∷ Some process.BadStart ∷ Some process.BadLine ∷ Some process.BadLine ∷ []
unfolding toml_on_literals policy_process_of
processes = refl

-- the page of a name
abbrev page_named : List ℕ → PolicyPage
page_named name = record { name = name; source = None }

-- what is wrong with a page of these keys, after a page `code`
abbrev of_page : List ℕ → Option PageCause
of_page keys = option_and_then (λ ms. result_err (new_page (page_named (codes "code") ∷ []) (table ms))) (parse_document keys)

pub pages : map of_page (
    codes "name = \"data\""
    ∷ codes "name = \"data\"\nsource = \"one.s\"\npart = 0"
    ∷ codes "name = \"data\"\nfile = \"one.s\""
    ∷ codes "source = \"one.s\""
    ∷ codes "name = \"Data\""
    ∷ codes "name = \"data\"\npart = 0"
    ∷ codes "name = \"data\"\nsource = \"one s\"\npart = 16"
    ∷ codes "name = \"data\"\nsource = \"one.s\""
    ∷ codes "name = \"code\"\nsource = \"one.s\"\npart = 16"
    ∷ codes "name = \"code\""
    ∷ [])
    ≡ None ∷ None ∷ Some page.OtherKey ∷ Some page.BadName ∷ Some page.BadName ∷ Some page.BadSource ∷ Some page.BadSource ∷ Some page.BadPart ∷ Some page.BadPart ∷ Some page.SameName ∷ []
unfolding toml_on_literals source_of page_of new_page
pages = refl

-- a page of this name
abbrev named : List ℕ → Data
named name = table (member (codes "name") (string name) no_members)

-- an array of these
abbrev array_of : List Data → Data
array_of ds = array (items ds)
  where
    items : List Data → Items
    items [] = no_items
    items (d ∷ ds) = item d (items ds)

-- why pages are refused under so many frames
abbrev of_pages : ℕ → List Data → Option PolicyReason
of_pages frames ds = result_err (pages_of frames (Some (array_of ds)))

-- why processes are refused
abbrev of_processes : List Data → Option PolicyReason
of_processes ds = result_err (processes_of (Some (array_of ds)))

pub the_first_page_that_is_refused :
    of_pages 3 (named (codes "code") ∷ named (codes "data") ∷ named (codes "code") ∷ [])
    ∷ of_pages 2 (named (codes "code") ∷ named (codes "data") ∷ named (codes "code") ∷ [])
    ∷ of_pages 3 (named (codes "code") ∷ integer (pos 1) ∷ named (codes "Code") ∷ [])
    ∷ of_processes (named (codes "code") ∷ [])
    ∷ of_processes []
    ∷ []
    ≡ Some (reason.Page 3 page.SameName) ∷ Some reason.PageCount ∷ Some (reason.Page 2 page.NotTable) ∷ Some (reason.Process 1 process.OtherKey) ∷ Some reason.ProcessCount ∷ []
unfolding policy_process_of source_of page_of new_page each_of processes_of pages_of
the_first_page_that_is_refused = refl

-- what is wrong with a rule of these keys by itself, in a policy of this version, where there are two processes and a page `data`
abbrev of_rule : ℕ → List ℕ → Option (Option RuleCause)
of_rule version keys = option_map (λ ms. result_err (rule_of version 2 (page_named (codes "data") ∷ []) (table ms))) (parse_document keys)

pub rules : map (of_rule 1) (
    codes "process = 2\naddress = 0x1000\nright = \"read\"\npage = \"data\""
    ∷ codes "process = 2\naddress = 0x1000\nright = \"none\""
    ∷ codes "process = 3\nends = 1"
    ∷ codes "process = 3\naddress = 1"
    ∷ codes "process = 0\naddress = 0x1000\nright = \"read\"\npage = \"data\""
    ∷ codes "process = 2\naddress = 0x1004\nright = \"execute\""
    ∷ codes "process = 2\naddress = 0x80000000\nright = \"read\"\npage = \"data\""
    ∷ codes "process = 2\naddress = 0x1000\nright = \"execute\"\npage = \"stack\""
    ∷ codes "process = 2\naddress = 0x1000"
    ∷ codes "process = 2\naddress = 0x1000\nright = \"none\"\ngive = false"
    ∷ codes "process = 2\naddress = 0x1000\nright = \"write\"\npage = \"stack\"\ngive = 1"
    ∷ codes "process = 2\naddress = 0x1000\nright = \"write\""
    ∷ codes "process = 2\naddress = 0x1000\nright = \"write\"\npage = \"data\"\ngive = 1"
    ∷ [])
    ≡ Some None ∷ Some None ∷ Some (Some OtherKey) ∷ Some (Some BadProcess) ∷ Some (Some BadProcess) ∷ Some (Some BadAddress) ∷ Some (Some BadAddress) ∷ Some (Some BadRight) ∷ Some (Some BadRight) ∷ Some (Some PageOfNone) ∷ Some (Some BadPage) ∷ Some (Some BadPage) ∷ Some (Some BadGive) ∷ []
unfolding toml_on_literals grant_of rule_of
rules = refl

-- a rule with a right and this end
abbrev ending : List ℕ → List ℕ
ending until = codes "process = 2\naddress = 0x1000\nright = \"write\"\npage = \"data\"\nuntil = " ++ until

pub ends_of_version_2 : map (of_rule 2) (
    ending (codes "1")
    ∷ ending (codes "1000000000")
    ∷ ending (codes "0")
    ∷ ending (codes "1000000001")
    ∷ ending (codes "-1")
    ∷ ending (codes "\"5\"")
    ∷ ending (codes "5\ngive = 1")
    ∷ codes "process = 2\naddress = 0x1000\nright = \"none\"\nuntil = 5"
    ∷ codes "process = 2\naddress = 0x1000\nright = \"none\"\nuntil = 5\npage = \"data\""
    ∷ codes "process = 3\nuntil = 0"
    ∷ codes "process = 3\nuntil = 0\nends = 1"
    ∷ [])
    ≡ Some None ∷ Some None ∷ Some (Some BadUntil) ∷ Some (Some BadUntil) ∷ Some (Some BadUntil) ∷ Some (Some BadUntil) ∷ Some (Some BadGive) ∷ Some (Some UntilOfNone) ∷ Some (Some PageOfNone) ∷ Some (Some BadProcess) ∷ Some (Some OtherKey) ∷ []
unfolding toml_on_literals grant_of rule_of
ends_of_version_2 = refl

pub no_ends_of_version_1 : map (of_rule 1) (
    ending (codes "1")
    ∷ codes "process = 2\naddress = 0x1000\nright = \"none\"\nuntil = 5"
    ∷ codes "process = 3\nuntil = 0"
    ∷ codes "process = 3\nuntil = 0\nends = 1"
    ∷ [])
    ≡ Some (Some UntilOfVersion1) ∷ Some (Some UntilOfVersion1) ∷ Some (Some UntilOfVersion1) ∷ Some (Some OtherKey) ∷ []
unfolding toml_on_literals grant_of rule_of
no_ends_of_version_1 = refl
