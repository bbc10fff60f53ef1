-- What a policy text says, or its first refusal.
use Rattle.std.specs.Prelude.{codes, ℕ, ◌+◌, List, [], ◌∷◌, ◌++◌, length, Option, option_and_then, Result, Ok}
use Rattle.toml.specs.Data.{Data, Items, no_items, item, Members, get_member}
use Rattle.ds_word.specs.ResultBinding.{◌>>=◌}
use Rattle.ds_policy.specs.Refusal.{PolicyRefusal, refusal_of, or_else, check, told_as}
use Rattle.ds_policy.specs.Document.{document, has_only, number_at, items_between, items_if}
use Rattle.ds_policy.specs.PolicyParts.{rate_of, policy_process_of, new_page, new_rule}
use Rattle.ds_policy.specs.Value.{PolicyValue}
use Rattle.ds_policy.specs.declared.cause.PolicyReason.{PolicyReason}
use Rattle.ds_policy.specs.declared.cause.PolicyReason.TheVariants as reason
use Rattle.ds_policy.specs.declared.policy.PolicyProcess.{PolicyProcess}
use Rattle.ds_policy.specs.declared.policy.PolicyPage.{PolicyPage}
use Rattle.ds_policy.specs.declared.policy.PolicyRule.{PolicyRule}

-- reads the items in order; what an item says may depend on the values of those before it, and items count from 1
unfoldable pub each_of : {X C : Type 0} → (List X → Data → Result X C) → (ℕ → C → PolicyReason) → List X → Items → Result (List X) PolicyReason
each_of one tell before no_items = Ok before
each_of one tell before (item d ds) = told_as (tell (length before + 1)) (one before d) >>= (λ x. each_of one tell (before ++ x ∷ []) ds)

-- the processes of an array's items
abbrev pub processes_from : Items → Result (List PolicyProcess) PolicyReason
processes_from ds = each_of (λ before d. policy_process_of d) (λ n cause. reason.Process n cause) [] ds

-- 1 to 100 processes
unfoldable pub processes_of : Option Data → Result (List PolicyProcess) PolicyReason
processes_of found = or_else (option_and_then (items_between 1 100) found) reason.ProcessCount >>= processes_from

-- the pages of an array's items, no two with one name
abbrev pub pages_from : Items → Result (List PolicyPage) PolicyReason
pages_from ds = each_of new_page (λ n cause. reason.Page n cause) [] ds

-- no more pages than frames
unfoldable pub pages_of : ℕ → Option Data → Result (List PolicyPage) PolicyReason
pages_of frames found = or_else (items_if frames found) reason.PageCount >>= pages_from

-- the rules of an array's items
abbrev pub rules_from : ℕ → ℕ → List PolicyPage → Items → Result (List PolicyRule) PolicyReason
rules_from version processes pages ds = each_of (new_rule version processes pages) (λ n cause. reason.Rule n cause) [] ds

-- at most 999 rules
unfoldable pub rules_of : ℕ → ℕ → List PolicyPage → Option Data → Result (List PolicyRule) PolicyReason
rules_of version processes pages found = or_else (items_if 999 found) reason.RuleCount >>= rules_from version processes pages

-- what a document says
unfoldable pub says : Members → Result PolicyValue PolicyReason
says ms = do
  known ← check (has_only (codes "version" ∷ codes "frames" ∷ codes "rate" ∷ codes "process" ∷ codes "page" ∷ codes "rule" ∷ []) ms) reason.OtherKey
  version ← or_else (number_at (codes "version") 1 2 ms) reason.BadVersion
  frames ← or_else (number_at (codes "frames") 1 1024 ms) reason.BadFrames
  rate ← or_else (rate_of (get_member (codes "rate") ms)) reason.BadRate
  processes ← processes_of (get_member (codes "process") ms)
  pages ← pages_of frames (get_member (codes "page") ms)
  rules ← rules_of version (length processes) pages (get_member (codes "rule") ms)
  Ok (record { frames = frames; rate = rate; processes = processes; pages = pages; rules = rules })

-- what a text says, or why it is no policy
unfoldable pub read_policy : List ℕ → Result PolicyValue PolicyReason
read_policy text = do
  ms ← or_else (document text) reason.NotToml
  says ms

-- what a text says, or its refusal
unfoldable pub policy_of : List ℕ → Result PolicyValue PolicyRefusal
policy_of text = told_as refusal_of (read_policy text)
