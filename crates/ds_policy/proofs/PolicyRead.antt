-- What a document says is a good policy.
use Rattle.std.proofs.Common.{◌≡◌, subst, ℕ, ◌≤◌, ◌<◌, Bool, true, false, if◌then◌else◌, codes, List, [], ◌∷◌, length, Option, Some, None, IfOk, Ok, option_and_then, is_some, refl, arith, ◌+◌}
use Rattle.toml.specs.Data.{Data, Members, get_member}
use Rattle.ds_word.proofs.ResultBinding.{bind_ok}
use Rattle.ds_policy.specs.declared.policy.PolicyProcess.{PolicyProcess}
use Rattle.ds_policy.specs.declared.policy.PolicyPage.{PolicyPage}
use Rattle.ds_policy.specs.declared.policy.PolicyRule.{PolicyRule}
use Rattle.ds_policy.specs.declared.cause.PolicyReason.TheVariants as reason
use Rattle.ds_policy.specs.Refusal.{refusal_of}
use Rattle.ds_policy.specs.Document.{document, has_only, number_in, number_at, items_between, items_if}
use Rattle.ds_policy.specs.PolicyParts.{is_zero, rate_of, policy_process_of, new_page, new_rule}
use Rattle.ds_policy.specs.PolicyText.{processes_from, pages_from, processes_of, pages_of, rules_of, rules_from, says, read_policy, policy_of}
use Rattle.ds_policy.specs.PolicyFacts.{IsGoodProcess, AreGoodPages, AreGoodRules, IsGoodPolicy}
use Rattle.ds_policy.specs.Value.{PolicyValue}
use Rattle.std.specs.List.{All}
use Rattle.ds_policy.proofs.Binds.{bind_some, bind_else, bind_check, told_ok, number_in_range, number_at_range, each_counts, items_within, items_if_within}
use Rattle.ds_policy.proofs.GoodPolicy.{processes_good, pages_good, rules_good}

processes_said : (found : Option Data) (processes : List PolicyProcess) → processes_of found ≡ Ok processes → ((1 ≤ length processes) × (length processes ≤ 100)) × All IsGoodProcess processes
unfolding processes_of
processes_said found processes h =
    let (ds, h1, h2) = bind_else (option_and_then (items_between 1 100) found) _ processes_from processes h in
    let (d, h3, h4) = bind_some found (items_between 1 100) ds h1 in
    let within = items_within 1 100 d ds h4 in
    let count = each_counts (λ before d. policy_process_of d) (λ n cause. reason.Process n cause) [] ds processes h2 in
    ((omega (arith, within, count), omega (arith, within, count)), processes_good ds processes h2)

pages_said : (frames : ℕ) (found : Option Data) (pages : List PolicyPage) → pages_of frames found ≡ Ok pages → (length pages ≤ frames) × AreGoodPages pages
unfolding pages_of
pages_said frames found pages h =
    let (ds, h1, h2) = bind_else (items_if frames found) _ pages_from pages h in
    let within = items_if_within frames found ds h1 in
    let count = each_counts new_page (λ n cause. reason.Page n cause) [] ds pages h2 in
    (omega (arith, within, count), pages_good ds pages h2)

rules_said : (version n : ℕ) (pages : List PolicyPage) (found : Option Data) (rules : List PolicyRule) → rules_of version n pages found ≡ Ok rules → (length rules ≤ 999) × AreGoodRules n (length pages) rules
unfolding rules_of
rules_said version n pages found rules h =
    let (ds, h1, h3) = bind_else (items_if 999 found) _ (rules_from version n pages) rules h in
    let within = items_if_within 999 found ds h1 in
    let count = each_counts (new_rule version n pages) (λ n cause. reason.Rule n cause) [] ds rules h3 in
    (omega (arith, within, count), rules_good version n pages ds rules h3)

rate_said : (found : Option Data) (rate : ℕ) → rate_of found ≡ Some rate → (rate ≤ 15) × (0 < rate → 3 ≤ rate)
rate_said None rate h = let same : 0 ≡ rate = cc in (omega (arith, same), λ pos. omega (arith, same, pos))
rate_said (Some d) rate h = by (is_zero d) h
  where
    by : (b : Bool) → (if b then Some 0 else number_in 3 15 d) ≡ Some rate → (rate ≤ 15) × (0 < rate → 3 ≤ rate)
    by true g = let same : 0 ≡ rate = cc in (omega (arith, same), λ pos. omega (arith, same, pos))
    by false g = let within = number_in_range 3 15 d rate g in (within.1, λ pos. within.0)

pub says_good : (ms : Members) (v : PolicyValue) → says ms ≡ Ok v → IsGoodPolicy v
unfolding says
says_good ms v h =
    let (known, a) = bind_check (has_only (codes "version" ∷ codes "frames" ∷ codes "rate" ∷ codes "process" ∷ codes "page" ∷ codes "rule" ∷ []) ms) _ _ v h in
    let (version, h2, b) = bind_else (number_at (codes "version") 1 2 ms) _ _ v a in
    let (frames, h3, c) = bind_else (number_at (codes "frames") 1 1024 ms) _ _ v b in
    let (rate, h4, d) = bind_else (rate_of (get_member (codes "rate") ms)) _ _ v c in
    let (processes, h6, f) = bind_ok (processes_of (get_member (codes "process") ms)) _ v d in
    let (pages, h8, i) = bind_ok (pages_of frames (get_member (codes "page") ms)) _ v f in
    let (rules, h10, q) = bind_ok (rules_of version (length processes) pages (get_member (codes "rule") ms)) _ v i in
    let of_processes = processes_said (get_member (codes "process") ms) processes h6 in
    let of_pages = pages_said frames (get_member (codes "page") ms) pages h8 in
    let of_rules = rules_said version (length processes) pages (get_member (codes "rule") ms) rules h10 in
    subst (λ r. IfOk r IsGoodPolicy) q (record {
      frames = number_at_range (codes "frames") 1 1024 ms frames h3;
      rate = rate_said (get_member (codes "rate") ms) rate h4;
      process_count = of_processes.0;
      processes = of_processes.1;
      page_count = of_pages.0;
      pages = of_pages.1;
      rule_count = of_rules.0;
      rules = of_rules.1;
    })

-- what a text says is a good policy
pub policy_good : (text : List ℕ) (v : PolicyValue) → policy_of text ≡ Ok v → IsGoodPolicy v
unfolding policy_of read_policy
policy_good text v h =
    let (ms, h1, a) = bind_else (document text) _ says v (told_ok refusal_of (read_policy text) v h) in
    says_good ms v a

-- and the text is a document
pub policy_document : (text : List ℕ) (v : PolicyValue) → policy_of text ≡ Ok v → is_some (document text) ≡ true
unfolding policy_of read_policy
policy_document text v h =
    let (ms, h1, a) = bind_else (document text) _ says v (told_ok refusal_of (read_policy text) v h) in
    rw h1 refl
