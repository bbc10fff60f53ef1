-- What is true of each policy that was read.
use Rattle.std.proofs.Common.{◌≡◌, ap, subst, refl, Err, ℕ, ◌+◌, ◌<◌, ◌≤◌, ◌==◌, ◌||◌, ◌%◌, ◌^◌, ◌-◌, not, codes, nat_lt, nat_le, cond, true, false, Bool, bytes_eq, List, [], ◌∷◌, ◌++◌, length, filter, count_by, Option, if◌then◌else◌, Some, None, IfSome, is_some, IfOk, Result, Ok, option_map, arith, append-nil, inl, inr}
use Rattle.std.specs.List.{list_any, All, AllByRecursion, IsDistinct}
use Rattle.std.proofs.lemmas.Bool.{cases_Bool}
use Rattle.std.proofs.lemmas.List.{map-append}
use Rattle.std.proofs.lemmas.Bool.Decides.{nat_tests}
use Rattle.std.proofs.lemmas.List.Sums.{fold-append}
use Rattle.std.proofs.lemmas.List.Elements.{All-push, filter-append}
use Rattle.std.proofs.lemmas.List.Quantifiers.{position-Some}
use Rattle.toml.specs.Data.{Data, Items, Members, as_table, get_member}
use Rattle.ds_policy.specs.declared.policy.PolicyProcess.{PolicyProcess}
use Rattle.ds_policy.specs.declared.policy.Source.{Source}
use Rattle.ds_policy.specs.declared.policy.PolicyPage.{PolicyPage}
use Rattle.ds_policy.specs.declared.policy.PolicyRule.{PolicyRule}
use Rattle.ds_policy.specs.declared.grant.Right.{Right}
use Rattle.ds_policy.specs.declared.grant.Right.TheVariants.{Nothing, Read, Write}
use Rattle.ds_policy.specs.declared.cause.PolicyReason.TheVariants as reason
use Rattle.ds_policy.specs.declared.cause.PageCause.{PageCause}
use Rattle.ds_policy.specs.declared.cause.RuleCause.{RuleCause}
use Rattle.ds_word.proofs.ResultBinding.{bind_ok}
use Rattle.ds_policy.specs.Grants.{is_some_right, region, count_distinct}
use Rattle.ds_policy.specs.Document.{has_only, number_in, number_at, text_at}
use Rattle.ds_policy.specs.PolicyParts.{policy_process_of, is_page_name, is_source_name, source_of, page_of, new_page, right_named, page_named, flag_of, until_of, may_end, grant_of, has_same_name, regions_of, rule_of, has_same_place, beside, new_rule}
use Rattle.ds_policy.specs.PolicyText.{processes_from, pages_from, rules_from}
use Rattle.ds_policy.specs.PolicyFacts.{IsGoodProcess, IsGoodSource, IsGoodPage, IsGoodRule, AreGoodPages, AreGoodRules, HasFewRules, HasFewRegions}
use Rattle.ds_policy.proofs.DistinctCounts.{count_last}
use Rattle.ds_policy.proofs.Binds.{bind_else, bind_check, not_true, number_in_range, number_at_range, each_keeps}

pub process_good : (d : Data) (p : PolicyProcess) → policy_process_of d ≡ Ok p → IsGoodProcess p
unfolding policy_process_of
process_good d p h =
    let (ms, h1, a) = bind_else (as_table d) _ _ p h in
    let (known, b) = bind_check (has_only (codes "start" ∷ codes "line" ∷ []) ms) _ _ p a in
    let (start, h3, c) = bind_else (number_at (codes "start") 0 4294967295 ms) _ _ p b in
    let (line, h4, q) = bind_else (number_at (codes "line") 0 3 ms) _ _ p c in
    let starts = number_at_range (codes "start") 0 4294967295 ms start h3 in
    let lines = number_at_range (codes "line") 0 3 ms line h4 in
    subst (λ o. IfOk o IsGoodProcess) q (record { start = omega (arith, starts); line = lines.1 })

source_good : (ms : Members) (s : Option Source) → source_of ms ≡ Ok s → IfSome s IsGoodSource
unfolding source_of
source_good ms s h = elim (cases_Bool (has_only (codes "name" ∷ []) ms)) [
  | inl alone ↦ subst (λ (o : Result (Option Source) PageCause). IfOk o (λ s. IfSome s IsGoodSource)) (rw alone at h) tt
  | inr more ↦
      let (name, h2, b) = bind_else (text_at (codes "source") ms) _ _ s (rw more at h) in
      let (good, c) = bind_check (is_source_name name) _ _ s b in
      let (part, h4, q) = bind_else (number_at (codes "part") 0 15 ms) _ _ s c in
      let parts = number_at_range (codes "part") 0 15 ms part h4 in
      subst (λ (o : Result (Option Source) PageCause). IfOk o (λ s. IfSome s IsGoodSource)) q (record { name = good; part = parts.1 })
]

page_good : (d : Data) (p : PolicyPage) → page_of d ≡ Ok p → IsGoodPage p
unfolding page_of
page_good d p h =
    let (ms, h1, a) = bind_else (as_table d) _ _ p h in
    let (known, b) = bind_check (has_only (codes "name" ∷ codes "source" ∷ codes "part" ∷ []) ms) _ _ p a in
    let (name, h2, c) = bind_else (text_at (codes "name") ms) _ _ p b in
    let (good, e) = bind_check (is_page_name name) _ _ p c in
    let (source, h4, q) = bind_ok (source_of ms) _ p e in
    subst (λ o. IfOk o IsGoodPage) q (record { name = good; source = source_good ms source h4 })

new_page_good : (before : List PolicyPage) (d : Data) (p : PolicyPage) → new_page before d ≡ Ok p → IsGoodPage p × (list_any (λ (q : PolicyPage). has_same_name q p) before ≡ false)
unfolding new_page
new_page_good before d p h =
    let (page, h1, a) = bind_ok (page_of d) _ p h in
    let (other, q) = bind_check (not (list_any (λ (q : PolicyPage). bytes_eq q.name page.name) before)) _ _ p a in
    subst (λ (o : Result PolicyPage PageCause). IfOk o (λ p. IsGoodPage p × (list_any (λ (q : PolicyPage). has_same_name q p) before ≡ false))) q (page_good d page h1, not_true _ other)

neither : (a b : Bool) → a || b ≡ false → (a ≡ false) × (b ≡ false)
neither false b h = (refl, h)
neither true b h = cc

recursion_more : {X : Type 0} (P : X → Type 0) (before : List X) (x : X) → AllByRecursion P before → P x → AllByRecursion P (before ++ x ∷ [])
recursion_more P [] x all one = (one, tt)
recursion_more P (y ∷ before) x all one = (all.0, recursion_more P before x all.1 one)

-- one more that is apart from those before it
distinct_more : {X : Type 0} (e : X → X → Bool) (before : List X) (x : X) → IsDistinct e before → list_any (λ y. e y x) before ≡ false → IsDistinct e (before ++ x ∷ [])
unfolding IsDistinct
distinct_more e [] x d h = (tt, tt)
distinct_more e (y ∷ before) x d h =
    let (here, there) = neither (e y x) (list_any (λ y. e y x) before) h in
    (recursion_more (λ z. e y z ≡ false) before x d.0 here, distinct_more e before x d.1 there)

no_pages : AreGoodPages []
unfolding IsDistinct
no_pages = record { good = λ k d h. absurd (omega arith); names = tt }

-- the pages of a policy
pub pages_good : (ds : Items) (pages : List PolicyPage) → pages_from ds ≡ Ok pages → AreGoodPages pages
pages_good ds pages e =
    each_keeps new_page (λ n cause. reason.Page n cause) AreGoodPages
    (λ before d p good is. let (one, apart) = new_page_good before d p is in record {
      good = All-push IsGoodPage before p good.good one;
      names = distinct_more has_same_name before p good.names apart;
    }) [] ds pages no_pages e

-- the processes of a policy
pub processes_good : (ds : Items) (processes : List PolicyProcess) → processes_from ds ≡ Ok processes → All IsGoodProcess processes
processes_good ds processes e =
    each_keeps (λ before d. policy_process_of d) (λ n cause. reason.Process n cause) (All IsGoodProcess)
    (λ before d p good is. All-push IsGoodProcess before p good (process_good d p is)) [] ds processes (λ k d h. absurd (omega arith)) e

pub page_within : (pages : List PolicyPage) (name : List ℕ) (n : ℕ) → page_named pages name ≡ Some n → n < length pages
page_within [] name n h = cc
page_within (p ∷ pages) name n h = (position-Some (λ (q : PolicyPage). bytes_eq q.name name) (p ∷ pages) n p h).0

-- an end in its range
abbrev IsEnd : ℕ → Type 0
IsEnd n = (1 ≤ n) × (n ≤ 1000000000)

until_within : (found : Option Data) (until : Option ℕ) → until_of found ≡ Some until → IfSome until IsEnd
until_within None until h = subst (λ (o : Option (Option ℕ)). IfSome o (λ u. IfSome u IsEnd)) h tt
until_within (Some d) until h = by (number_in 1 1000000000 d) refl h
  where
    by : (o : Option ℕ) → number_in 1 1000000000 d ≡ o → option_map (λ end. Some end) o ≡ Some until → IfSome until IsEnd
    by None is h = absurd cc
    by (Some n) is h = subst (λ (o : Option (Option ℕ)). IfSome o (λ u. IfSome u IsEnd)) h (number_in_range 1 1000000000 d n is)

abbrev grants : ℕ → Right → Option ℕ × Bool × Option ℕ → Type 0
grants pages right g = IfSome g.0 (λ n. n < pages) × (is_some g.0 ≡ is_some_right right) × IfSome g.2 IsEnd

abbrev Granted : Type 0
Granted = Result (Option ℕ × Bool × Option ℕ) RuleCause

page_granted : (pages : List PolicyPage) (ms : Members) (g : Option ℕ × Bool × Option ℕ) → grant_of pages Read ms ≡ Ok g → grants (length pages) Read g
unfolding grant_of
page_granted pages ms g h =
    let (name, h2, b) = bind_else (text_at (codes "page") ms) _ _ g h in
    let (page, h3, c) = bind_else (page_named pages name) _ _ g b in
    let (give, h4, e) = bind_else (flag_of (get_member (codes "give") ms)) _ _ g c in
    let (until, h5, q) = bind_else (until_of (get_member (codes "until") ms)) _ _ g e in
    let at = page_within pages name page h3 in
    subst (λ (o : Granted). IfOk o (grants (length pages) Read)) q (at, refl, until_within (get_member (codes "until") ms) until h5)

-- beside a right `none` stands nothing
nothing_granted : (pages : ℕ) (alone dated : Bool) (none one : RuleCause) (g : Option ℕ × Bool × Option ℕ) → (if alone then Ok (None, false, None) else if dated then Err none else Err one) ≡ Ok g → grants pages Nothing g
nothing_granted pages true dated none one g h = subst (λ (o : Granted). IfOk o (grants pages Nothing)) h (tt, refl, tt)
nothing_granted pages false true none one g h = cc
nothing_granted pages false false none one g h = cc

grant_good : (pages : List PolicyPage) (right : Right) (ms : Members) (g : Option ℕ × Bool × Option ℕ) → grant_of pages right ms ≡ Ok g → grants (length pages) right g
unfolding grant_of
grant_good pages Nothing ms g h = nothing_granted (length pages) _ _ _ _ g h
grant_good pages Read ms g h = page_granted pages ms g h
grant_good pages Write ms g h = page_granted pages ms g h

equal : (a b : ℕ) → (a == b) ≡ true → a ≡ b
equal a b h = grind (arith, nat_tests)

below_kernel : (a : ℕ) → a ≤ 2 ^ 31 - 1 → a < 2 ^ 31
below_kernel a h = omega arith

rule_good : (version n : ℕ) (pages : List PolicyPage) (d : Data) (r : PolicyRule) → rule_of version n pages d ≡ Ok r → IsGoodRule n (length pages) r
unfolding rule_of
rule_good version n pages d r h =
    let (ms, h1, a) = bind_else (as_table d) _ _ r h in
    let (known, b) = bind_check (has_only (codes "process" ∷ codes "address" ∷ codes "right" ∷ codes "page" ∷ codes "give" ∷ codes "until" ∷ []) ms) _ _ r a in
    let (dated, c) = bind_check (may_end version ms) _ _ r b in
    let (process, h2, e) = bind_else (number_at (codes "process") 1 n ms) _ _ r c in
    let (address, h3, f) = bind_else (number_at (codes "address") 0 (2 ^ 31 - 1) ms) _ _ r e in
    let (aligned, g) = bind_check (address % 4096 == 0) _ _ r f in
    let (named, h5, i) = bind_else (text_at (codes "right") ms) _ _ r g in
    let (right, h6, j) = bind_else (right_named named) _ _ r i in
    let (grant, h8, q) = bind_ok (grant_of pages right ms) _ r j in
    let within = number_at_range (codes "address") 0 (2 ^ 31 - 1) ms address h3 in
    let granted = grant_good pages right ms grant h8 in
    subst (λ (o : Result PolicyRule RuleCause). IfOk o (IsGoodRule n (length pages))) q (record {
      process = number_at_range (codes "process") 1 n ms process h2;
      aligned = equal (address % 4096) 0 aligned;
      user = below_kernel address within.1;
      page = granted.0;
      right = granted.1;
      until = granted.2;
    })

-- a rule beside those before it
record IsBeside (before : List PolicyRule) (r : PolicyRule) : Type 0 where
  pub fresh : list_any (λ (s : PolicyRule). has_same_place s r) before ≡ false
  pub room : nat_lt (count_by (λ (s : PolicyRule). s.process == r.process) before) 256 ≡ true
  pub near : nat_le (count_distinct (region r.address ∷ regions_of r.process before)) 4 ≡ true

beside_good : (before : List PolicyRule) (rule r : PolicyRule) → beside before rule ≡ Ok r → (rule ≡ r) × IsBeside before rule
unfolding beside
beside_good before rule r h =
    let (other, b) = bind_check (not (list_any (λ (s : PolicyRule). has_same_place s rule) before)) _ _ r h in
    let (room, c) = bind_check (nat_lt (count_by (λ (s : PolicyRule). s.process == rule.process) before) 256) _ _ r b in
    let (near, q) = bind_check (nat_le (count_distinct (region rule.address ∷ regions_of rule.process before)) 4) _ _ r c in
    (ap (λ (o : Result PolicyRule RuleCause). elim o as (λ x. PolicyRule) [ Ok x ↦ x | Err e ↦ rule ]) q, record { fresh = not_true _ other; room = room; near = near })

new_rule_good : (version n : ℕ) (pages : List PolicyPage) (before : List PolicyRule) (d : Data) (r : PolicyRule) → new_rule version n pages before d ≡ Ok r → IsGoodRule n (length pages) r × IsBeside before r
unfolding new_rule
new_rule_good version n pages before d r h =
    let (rule, h1, a) = bind_ok (rule_of version n pages d) (beside before) r h in
    let (same, stands) = beside_good before rule r a in
    subst (λ (s : PolicyRule). IsGoodRule n (length pages) s × IsBeside before s) same (rule_good version n pages d rule h1, stands)

at_most_one_more : (b : Bool) (n m : ℕ) → m ≡ n + cond b 1 0 → (b ≡ true → nat_lt n 256 ≡ true) → n ≤ 256 → m ≤ 256
at_most_one_more true n m e room few = grind (arith, nat_tests, room refl)
at_most_one_more false n m e room few = omega arith

at_most_four : (n : ℕ) → nat_le n 4 ≡ true → n ≤ 4
at_most_four n h = grind (arith, nat_tests)

few_more : (before : List PolicyRule) (r : PolicyRule) → nat_lt (count_by (λ (s : PolicyRule). s.process == r.process) before) 256 ≡ true → HasFewRules before → HasFewRules (before ++ r ∷ [])
few_more before r room few p =
    at_most_one_more (r.process == p) (count_by (λ (s : PolicyRule). s.process == p) before) _ (fold-append (λ a (s : PolicyRule). a + cond (s.process == p) 1 0) 0 before (r ∷ []))
    (λ is. rw (← equal r.process p is) room) (few p)

regions_of_more : (p : ℕ) (before : List PolicyRule) (r : PolicyRule) → regions_of p (before ++ r ∷ []) ≡ regions_of p before ++ regions_of p (r ∷ [])
regions_of_more p before r =
    rw (filter-append (λ (s : PolicyRule). s.process == p) before (r ∷ [])) (map-append (λ (s : PolicyRule). region s.address) (filter (λ (s : PolicyRule). s.process == p) before) (filter (λ (s : PolicyRule). s.process == p) (r ∷ [])))

regions_more : (before : List PolicyRule) (r : PolicyRule) → nat_le (count_distinct (region r.address ∷ regions_of r.process before)) 4 ≡ true → HasFewRegions before → HasFewRegions (before ++ r ∷ [])
regions_more before r near few p = rw (regions_of_more p before r) (elim (cases_Bool (r.process == p)) [
  | inl is ↦
      let bound : nat_le (count_distinct (region r.address ∷ regions_of p before)) 4 ≡ true = subst (λ (p : ℕ). nat_le (count_distinct (region r.address ∷ regions_of p before)) 4 ≡ true) (equal r.process p is) near in
      rw (is, count_last (region r.address) (regions_of p before)) (at_most_four _ bound)
  | inr other ↦ rw (other, append-nil (regions_of p before)) (few p)
])

no_rules : (n pages : ℕ) → AreGoodRules n pages []
unfolding IsDistinct
no_rules n pages = record { good = λ k d h. absurd (omega arith); places = tt; few = λ p. omega arith; regions = λ p. omega arith }

-- the rules of a policy
pub rules_good : (version n : ℕ) (pages : List PolicyPage) (ds : Items) (rules : List PolicyRule) → rules_from version n pages ds ≡ Ok rules → AreGoodRules n (length pages) rules
rules_good version n pages ds rules e =
    each_keeps (new_rule version n pages) (λ n cause. reason.Rule n cause) (AreGoodRules n (length pages))
    (λ before d r good is. let (one, beside) = new_rule_good version n pages before d r is in record {
      good = All-push (IsGoodRule n (length pages)) before r good.good one;
      places = distinct_more has_same_place before r good.places beside.fresh;
      few = few_more before r beside.room good.few;
      regions = regions_more before r beside.near good.regions;
    }) [] ds rules (no_rules n (length pages)) e
