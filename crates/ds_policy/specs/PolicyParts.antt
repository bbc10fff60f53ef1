-- What the parts of a policy's document mean.
use Rattle.std.specs.Prelude.{codes, ℕ, pos, Bool, false, not, ◌&&◌, ◌||◌, ◌==◌, ◌%◌, ◌^◌, ◌-◌, nat_le, nat_lt, bytes_eq, List, [], ◌∷◌, length, map, filter, Option, Some, None, is_some, count_by, position, option_map, Result, Ok, Err, if◌then◌else◌}
use Rattle.ds_text.specs.Words.{none_word, read_word, write_word}
use Rattle.std.specs.List.{list_any, list_all}
use Rattle.ds_word.specs.ResultBinding.{◌>>=◌}
use Rattle.toml.specs.Data.{Data, integer, Members, get_member, as_table, as_bool}
use Rattle.ds_policy.specs.Document.{has_only, number_in, number_at, text_at}
use Rattle.ds_policy.specs.Refusal.{or_else, check}
use Rattle.ds_policy.specs.Grants.{region, count_distinct}
use Rattle.ds_policy.specs.declared.cause.ProcessCause.{ProcessCause}
use Rattle.ds_policy.specs.declared.cause.ProcessCause.TheVariants as process
use Rattle.ds_policy.specs.declared.cause.PageCause.{PageCause}
use Rattle.ds_policy.specs.declared.cause.PageCause.TheVariants as page
use Rattle.ds_policy.specs.declared.cause.RuleCause.{RuleCause}
use Rattle.ds_policy.specs.declared.cause.RuleCause.TheVariants as rule
use Rattle.ds_policy.specs.declared.policy.PolicyProcess.{PolicyProcess}
use Rattle.ds_policy.specs.declared.policy.PolicyPage.{PolicyPage}
use Rattle.ds_policy.specs.declared.policy.Source.{Source}
use Rattle.ds_policy.specs.declared.policy.PolicyRule.{PolicyRule}
use Rattle.ds_policy.specs.declared.grant.Right.{Right}
use Rattle.ds_policy.specs.declared.grant.Right.TheVariants.{Nothing, Read, Write}

-- a process of the policy
unfoldable pub policy_process_of : Data → Result PolicyProcess ProcessCause
policy_process_of d = do
  ms ← or_else (as_table d) process.NotTable
  known ← check (has_only (codes "start" ∷ codes "line" ∷ []) ms) process.OtherKey
  start ← or_else (number_at (codes "start") 0 4294967295 ms) process.BadStart
  line ← or_else (number_at (codes "line") 0 3 ms) process.BadLine
  Ok (record { start = start; line = line })

-- it is the integer 0
abbrev pub is_zero : Data → Bool
is_zero (integer (pos n)) = n == 0
is_zero _ = false

-- `rate` is absent, or 0, or from 3 to 15
abbrev pub rate_of : Option Data → Option ℕ
rate_of None = Some 0
rate_of (Some d) = if is_zero d then Some 0 else number_in 3 15 d

-- a letter from a to z, or a digit
abbrev pub is_name_byte : ℕ → Bool
is_name_byte b = (nat_le 97 b && nat_le b 122) || (nat_le 48 b && nat_le b 57)

-- the name of a page
abbrev pub is_page_name : List ℕ → Bool
is_page_name text = (nat_le 1 (length text) && nat_le (length text) 16) && list_all is_name_byte text

-- a letter, a digit, or one of `-./_`
abbrev pub is_source_byte : ℕ → Bool
is_source_byte b = (((nat_le 97 b && nat_le b 122) || (nat_le 65 b && nat_le b 90)) || (nat_le 45 b && nat_le b 57)) || b == 95

-- the name of a source
abbrev pub is_source_name : List ℕ → Bool
is_source_name text = (nat_le 1 (length text) && nat_le (length text) 64) && list_all is_source_byte text

-- where a page's bytes come from: nowhere, or a part of a source
unfoldable pub source_of : Members → Result (Option Source) PageCause
source_of ms =
    if has_only (codes "name" ∷ []) ms then Ok None
    else do
      name ← or_else (text_at (codes "source") ms) page.BadSource
      good ← check (is_source_name name) page.BadSource
      part ← or_else (number_at (codes "part") 0 15 ms) page.BadPart
      Ok (Some (record { name = name; part = part }))

-- a page of the policy
unfoldable pub page_of : Data → Result PolicyPage PageCause
page_of d = do
  ms ← or_else (as_table d) page.NotTable
  known ← check (has_only (codes "name" ∷ codes "source" ∷ codes "part" ∷ []) ms) page.OtherKey
  name ← or_else (text_at (codes "name") ms) page.BadName
  good ← check (is_page_name name) page.BadName
  source ← source_of ms
  Ok (record { name = name; source = source })

-- two pages have one name
abbrev pub has_same_name : PolicyPage → PolicyPage → Bool
has_same_name p q = bytes_eq p.name q.name

-- a page whose name none of those before it has
unfoldable pub new_page : List PolicyPage → Data → Result PolicyPage PageCause
new_page before d = do
  p ← page_of d
  other ← check (not (list_any (λ (q : PolicyPage). has_same_name q p) before)) page.SameName
  Ok p

-- the number of the page of this name
abbrev pub page_named : List PolicyPage → List ℕ → Option ℕ
page_named pages name = position (λ (p : PolicyPage). bytes_eq p.name name) pages

-- the right that a rule's text names
abbrev pub right_named : List ℕ → Option Right
right_named text = if bytes_eq text none_word then Some Nothing else if bytes_eq text read_word then Some Read else if bytes_eq text write_word then Some Write else None

-- a flag that may be absent
abbrev pub flag_of : Option Data → Option Bool
flag_of None = Some false
flag_of (Some d) = as_bool d

-- an end that may be absent
abbrev pub until_of : Option Data → Option (Option ℕ)
until_of None = Some None
until_of (Some d) = option_map (λ end. Some end) (number_in 1 1000000000 d)

-- a rule of this version may have an end, or has none
abbrev pub may_end : ℕ → Members → Bool
may_end version ms = not (is_some (get_member (codes "until") ms)) || (version == 2)

-- nothing stands beside a right `none`
abbrev pub nothing_of : Members → Result (Option ℕ × Bool × Option ℕ) RuleCause
nothing_of ms =
    if has_only (codes "process" ∷ codes "address" ∷ codes "right" ∷ []) ms then Ok (None, false, None)
    else if has_only (codes "process" ∷ codes "address" ∷ codes "right" ∷ codes "until" ∷ []) ms then Err rule.UntilOfNone
    else Err rule.PageOfNone

-- the page, the flag and the end of a rule with this right
unfoldable pub grant_of : List PolicyPage → Right → Members → Result (Option ℕ × Bool × Option ℕ) RuleCause
grant_of pages Nothing ms = nothing_of ms
grant_of pages right ms = do
  name ← or_else (text_at (codes "page") ms) rule.BadPage
  page ← or_else (page_named pages name) rule.BadPage
  give ← or_else (flag_of (get_member (codes "give") ms)) rule.BadGive
  until ← or_else (until_of (get_member (codes "until") ms)) rule.BadUntil
  Ok (Some page, give, until)

-- the regions of a process's rules
abbrev pub regions_of : ℕ → List PolicyRule → List ℕ
regions_of process rules = map (λ (r : PolicyRule). region r.address) (filter (λ (r : PolicyRule). r.process == process) rules)

-- a rule of the policy, by itself
unfoldable pub rule_of : ℕ → ℕ → List PolicyPage → Data → Result PolicyRule RuleCause
rule_of version processes pages d = do
  ms ← or_else (as_table d) rule.NotTable
  known ← check (has_only (codes "process" ∷ codes "address" ∷ codes "right" ∷ codes "page" ∷ codes "give" ∷ codes "until" ∷ []) ms) rule.OtherKey
  dated ← check (may_end version ms) rule.UntilOfVersion1
  process ← or_else (number_at (codes "process") 1 processes ms) rule.BadProcess
  address ← or_else (number_at (codes "address") 0 (2 ^ 31 - 1) ms) rule.BadAddress
  aligned ← check (address % 4096 == 0) rule.BadAddress
  named ← or_else (text_at (codes "right") ms) rule.BadRight
  right ← or_else (right_named named) rule.BadRight
  grant ← grant_of pages right ms
  Ok (record { process = process; address = address; right = right; page = grant.0; give = grant.1; until = grant.2 })

-- two rules are about one process and one address
abbrev pub has_same_place : PolicyRule → PolicyRule → Bool
has_same_place r s = r.process == s.process && r.address == s.address

-- a rule at a place that none of these has, that is not the 257th of its process and opens no fifth region
unfoldable pub beside : List PolicyRule → PolicyRule → Result PolicyRule RuleCause
beside before r = do
  other ← check (not (list_any (λ (s : PolicyRule). has_same_place s r) before)) rule.SamePlace
  room ← check (nat_lt (count_by (λ (s : PolicyRule). s.process == r.process) before) 256) rule.TooManyRules
  near ← check (nat_le (count_distinct (region r.address ∷ regions_of r.process before)) 4) rule.FifthRegion
  Ok r

-- a rule beside those before it
unfoldable pub new_rule : ℕ → ℕ → List PolicyPage → List PolicyRule → Data → Result PolicyRule RuleCause
new_rule version processes pages before d = rule_of version processes pages d >>= beside before

-- each text once, in the order of first mention
abbrev pub first_mentions : List (List ℕ) → List (List ℕ)
first_mentions [] = []
first_mentions (x ∷ xs) = x ∷ filter (λ y. not (bytes_eq x y)) (first_mentions xs)

-- a source's name in front of others
abbrev pub with_name : Option Source → List (List ℕ) → List (List ℕ)
with_name None names = names
with_name (Some s) names = s.name ∷ names

-- the names of the pages' sources, page by page
abbrev pub source_names : List PolicyPage → List (List ℕ)
source_names [] = []
source_names (p ∷ pages) = with_name p.source (source_names pages)

-- the distinct names of the pages' sources, in the order of first mention
abbrev pub sources_of : List PolicyPage → List (List ℕ)
sources_of pages = first_mentions (source_names pages)
