-- What a policy's rules grant: each row is good, and no entry names a page that the policy doesn't.
use Rattle.std.proofs.Common.{◌≡◌, ◌∙◌, nat_lt, sym, ap, ap₂, subst, refl, ℕ, zero, suc, slice_index, false, ◌+◌, ◌-◌, ◌<◌, ◌≤◌, ◌==◌, List, [], ◌∷◌, length, get_or, replicate, Option, Some, None, IfSome, inl, inr, arith, length-set}
use Rattle.std.specs.Prelude.{◌⊎◌, Bool}
use Rattle.std.specs.List.{All, IsDistinct}
use Rattle.std.proofs.lemmas.Bool.{cases_Bool, cases_lt}
use Rattle.std.proofs.lemmas.Bool.Decides.{nat_tests}
use Rattle.std.proofs.lemmas.List.{get_or_past, get_or-replicate, length-replicate}
use Rattle.std.proofs.lemmas.List.FromFn.{get_or-range_with_len}
use Rattle.std.proofs.lemmas.List.Elements.{All-nil, All-head, All-tail, All-set, All-get_or, All-replicate, All-from_get_or, All-weaker}
use Rattle.ds_policy.specs.declared.grant.Entry.{Entry}
use Rattle.ds_policy.specs.declared.grant.Grant.{Grant}
use Rattle.ds_policy.specs.declared.policy.PolicyRule.{PolicyRule}
use Rattle.ds_policy.specs.Value.{PolicyValue}
use Rattle.ds_policy.specs.Pages.{Table, entries_of, entry_at, found, put, names, is_named_by}
use Rattle.ds_policy.specs.PolicyFacts.{IsGoodRule, HasFewRules}
use Rattle.ds_policy.specs.FirstTable.{granted_by, with_rule, with_rules, table_of}
use Rattle.ds_policy.specs.Inner.FirstTable.{HasRoom, AreWithin}
use Rattle.ds_policy.proofs.Filling.{room_step, room_in_empty, good_within, IsAbout}
use Rattle.ds_grants.specs.Inner.Counts.{holders_in, holders_of}
use Rattle.ds_grants.specs.Inner.State.{place_of_page}
use Rattle.ds_grants.specs.First.{first_grants}
use Rattle.ds_grants.specs.Inner.First.{no_grants, first_place, AreInOrder}
use Rattle.ds_grants.specs.Inner.Sound.{AreCounted, IsWhole, IsAtPage, has_same_address, IsGoodRow, IsSound}
use Rattle.ds_grants.proofs.HolderCounts.{named_by_holders}
use Rattle.ds_grants.proofs.Sizes.{all_put, put_places, empty_row}

-- an entry that a rule makes: whole, and of a page that is named
record IsFirst (named : ℕ) (e : Entry) : Type 0 where
  pub whole : IsWhole e
  pub page : IfSome e.grant.page (λ n. n < named)
  pub place : IsAtPage e

-- the entries of a process in such a table
pub all_at : (P : Entry → Type 0) (t : Table) (p : ℕ) → All (All P) t → All P (entries_of t p)
all_at P t p all = elim (cases_lt (p - 1) (length t)) [
  | inl inside ↦ All-get_or (All P) t (p - 1) [] inside all
  | inr past ↦ rw (get_or_past t (p - 1) [] past) (All-nil P)
]

-- each entry that the rules make is one
all_first : (processes named n : ℕ) (rules : List PolicyRule) (t : Table) → All (IsGoodRule processes named) rules → All (All (IsFirst named)) t → All (All (IsFirst named)) (with_rules t n rules)
all_first processes named n [] t good all = all
all_first processes named n (r ∷ rules) t good all =
    let rule = All-head (IsGoodRule processes named) r rules good in
    let new : IsFirst named (record { address = r.address; grant = granted_by n r }) = record { whole = rule.right; page = rule.page; place = record { whole = rule.aligned; user = rule.user } } in
    let row = all_put (IsFirst named) (entries_of t r.process) r.address (granted_by n r) (all_at (IsFirst named) t r.process all) new in
    all_first processes named (n + 1) rules (with_rule t n r) (All-tail (IsGoodRule processes named) r rules good) (All-set (All (IsFirst named)) t (r.process - 1) (put (entries_of t r.process) r.address (granted_by n r)) row all)

-- so is each in the table that the policy begins with
first_rows : (policy : PolicyValue) → All (IsGoodRule (length policy.processes) (length policy.pages)) policy.rules → All (All (IsFirst (length policy.pages))) (table_of policy)
first_rows policy good = all_first (length policy.processes) (length policy.pages) 1 policy.rules (replicate (length policy.processes) []) good (All-replicate (All (IsFirst (length policy.pages))) (length policy.processes) [] (All-nil (IsFirst (length policy.pages))))

-- rows with room for no rules have no more than 256 entries
few_now : (t : Table) → HasRoom t [] → All (λ (es : List Entry). length es ≤ 256) t
few_now t room = All-from_get_or (λ (es : List Entry). length es ≤ 256) t [] (λ i within.
    let place : i + 1 - 1 ≡ i = omega arith in
    let same = ap (λ k. length (get_or t k [])) place in
    let here = room (i + 1) (omega arith) in
    omega (arith, same, here))

-- nor have they more once the rules are there that they have room for
all_few : (n : ℕ) (rules : List PolicyRule) (t : Table) → HasRoom t rules → AreWithin (length t) rules → All (λ (es : List Entry). length es ≤ 256) (with_rules t n rules)
all_few n [] t room within = few_now t room
all_few n (r ∷ rules) t room within =
    let first = All-head (IsAbout (length t)) r rules within in
    let more : AreWithin (length (with_rule t n r)) rules = subst (λ m. AreWithin m rules) (sym (length-set t (r.process - 1) (put (entries_of t r.process) r.address (granted_by n r)))) (All-tail (IsAbout (length t)) r rules within) in
    all_few (n + 1) rules (with_rule t n r) (room_step t n r rules first.0 first.1 room) more

-- so a policy of few rules has few entries to a row
few_rows : (policy : PolicyValue) → All (IsGoodRule (length policy.processes) (length policy.pages)) policy.rules → HasFewRules policy.rules → All (λ (es : List Entry). length es ≤ 256) (table_of policy)
few_rows policy good few =
    let within = good_within (length policy.processes) (length policy.pages) policy.rules good in
    let inside : AreWithin (length (replicate {A = List Entry} (length policy.processes) [])) policy.rules = rw length-replicate within in
    all_few 1 policy.rules (replicate (length policy.processes) []) (room_in_empty (length policy.processes) policy.rules few) inside

-- no two entries of a process are at one address, by whatever rules
all_apart : (n : ℕ) (rules : List PolicyRule) (t : Table) → All (IsDistinct has_same_address) t → All (IsDistinct has_same_address) (with_rules t n rules)
all_apart n [] t all = all
all_apart n (r ∷ rules) t all =
    all_apart (n + 1) rules (with_rule t n r)
    (All-set (IsDistinct has_same_address) t (r.process - 1) (put (entries_of t r.process) r.address (granted_by n r)) (put_places (entries_of t r.process) r.address (granted_by n r) (row (r.process - 1) (cases_lt (r.process - 1) (length t)))) all)
  where
    row : (i : ℕ) → (i < length t) ⊎ (length t ≤ i) → IsDistinct has_same_address (get_or t i [])
    row i (inl inside) = All-get_or (IsDistinct has_same_address) t i [] inside all
    row i (inr past) = subst (IsDistinct has_same_address) (sym (get_or_past t i [] past)) empty_row.places

apart_rows : (policy : PolicyValue) → All (IsDistinct has_same_address) (table_of policy)
apart_rows policy = all_apart 1 policy.rules (replicate (length policy.processes) []) (All-replicate (IsDistinct has_same_address) (length policy.processes) [] empty_row.places)

-- what is found among entries has what they all have
found_all : (Q : Grant → Type 0) (es : List Entry) (a : ℕ) (grant : Grant) → All (λ (e : Entry). Q e.grant) es → found es a ≡ Some grant → Q grant
found_all Q [] a grant all is = absurd cc
found_all Q (e ∷ es) a grant all is = elim (cases_Bool (e.address == a)) [
  | inl here ↦
      let same : Some e.grant ≡ Some grant = rw here at is in
      let is_it : e.grant ≡ grant = cc in
      subst Q is_it (All-head (λ (x : Entry). Q x.grant) e es all)
  | inr there ↦ found_all Q es a grant (All-tail (λ (x : Entry). Q x.grant) e es all) (rw there at is)
]

-- each page that rules name is below as many as they are over
pub rules_within : (processes named : ℕ) (rules : List PolicyRule) → All (IsGoodRule processes named) rules → (p a : ℕ) (grant : Grant) → entry_at (with_rules (replicate processes []) 1 rules) p a ≡ Some grant → IfSome grant.page (λ n. n < named)
rules_within processes named rules good p a grant is =
    let rows = all_first processes named 1 rules (replicate processes []) good (All-replicate (All (IsFirst named)) processes [] (All-nil (IsFirst named))) in
    found_all (λ (g : Grant). IfSome g.page (λ n. n < named)) (entries_of (with_rules (replicate processes []) 1 rules) p) a grant
    (All-weaker (IsFirst named) (λ (e : Entry). IfSome e.grant.page (λ n. n < named)) (λ e first. first.page) (entries_of (with_rules (replicate processes []) 1 rules) p) (all_at (IsFirst named) (with_rules (replicate processes []) 1 rules) p rows)) is

-- so they lie in order where all pages do
pub first_order : (policy : PolicyValue) → All (IsGoodRule (length policy.processes) (length policy.pages)) policy.rules → length policy.pages ≤ policy.frames → AreInOrder (first_grants policy)
first_order policy good few = λ p a grant is. by_page grant.page (rules_within (length policy.processes) (length policy.pages) policy.rules good p a grant is)
  where
    by_page : (page : Option ℕ) → IfSome page (λ n. n < length policy.pages) → place_of_page (first_grants policy) page ≡ first_place page
    by_page None low = refl
    by_page (Some q) low =
        let below : q < policy.frames = omega (arith, low, few) in
        ap₂ (λ (f : ℕ) (b : Bool). Some (record { frame = f; shared = b })) (get_or-range_with_len 0 policy.frames q 0 below ∙ (let e : 0 + q ≡ q = omega arith in e)) (get_or-replicate policy.frames q false false below)

-- the rows are good
pub first_good : (policy : PolicyValue) → All (IsGoodRule (length policy.processes) (length policy.pages)) policy.rules → HasFewRules policy.rules → All IsGoodRow (table_of policy)
first_good policy good few = λ k d h. record {
  few = few_rows policy good few k d h;
  whole = All-weaker (IsFirst (length policy.pages)) IsWhole (λ e first. first.whole) (get_or (table_of policy) k d) (first_rows policy good k d h);
  pages = All-weaker (IsFirst (length policy.pages)) IsAtPage (λ e first. first.place) (get_or (table_of policy) k d) (first_rows policy good k d h);
  places = apart_rows policy k d h;
}

-- a page above those that are named isn't
unnamed : (named page : ℕ) (o : Option ℕ) → named ≤ page → IfSome o (λ n. n < named) → names page o ≡ false
unnamed named page None past within = refl
unnamed named page (Some q) past within = let q_within : q < named = within in grind (arith, nat_tests)

-- no row names such a page
none_in : (named page : ℕ) (es : List Entry) → named ≤ page → All (IsFirst named) es → holders_in page es ≡ 0
none_in named page [] past all = refl
none_in named page (e ∷ es) past all =
    let here = unnamed named page e.grant.page past (All-head (IsFirst named) e es all).page in
    let rest = none_in named page es past (All-tail (IsFirst named) e es all) in
    rw here (omega (arith, rest))

-- nor do rows
none_among : (named page : ℕ) (t : Table) → named ≤ page → All (All (IsFirst named)) t → holders_of t page ≡ 0
none_among named page [] past all = refl
none_among named page (es ∷ t) past all =
    let row = none_in named page es past (All-head (All (IsFirst named)) es t all) in
    let rest = none_among named page t past (All-tail (All (IsFirst named)) es t all) in
    omega (arith, row, rest)

-- nor does the table that the policy begins with
pub none_of : (policy : PolicyValue) (page : ℕ) → All (IsGoodRule (length policy.processes) (length policy.pages)) policy.rules → length policy.pages ≤ page → holders_of (table_of policy) page ≡ 0
none_of policy page good past = none_among (length policy.pages) page (table_of policy) past (first_rows policy good)

-- so such a page doesn't live
pub unnamed_is_free : (policy : PolicyValue) (page : ℕ) → All (IsGoodRule (length policy.processes) (length policy.pages)) policy.rules → length policy.pages ≤ page → is_named_by (table_of policy) page ≡ false
unnamed_is_free policy page good past = named_by_holders (table_of policy) page ∙ ap (nat_lt 0) (none_of policy page good past)

-- no page has holders where no process has an entry
no_holders : (processes page : ℕ) → holders_of (replicate processes []) page ≡ 0
no_holders zero page = refl
no_holders (suc processes) page = let rest = no_holders processes page in omega (arith, rest)

-- each of so many zeros is zero, as is what lies beyond them
zero_at : (n page : ℕ) → slice_index (replicate n 0) page ≡ 0
zero_at zero page = refl
zero_at (suc n) zero = refl
zero_at (suc n) (suc page) = zero_at n page

-- the grants of processes that have none are counted by zeros, and within their bounds
pub none_counted : (processes frames : ℕ) → AreCounted (replicate processes []) (replicate frames 0)
none_counted processes frames page = zero_at frames page ∙ sym (no_holders processes page)

pub none_sound : (processes frames named : ℕ) → processes ≤ 100 → named ≤ frames → frames ≤ 1024 → IsSound (no_grants processes frames named)
none_sound processes frames named some within few = record {
  rows = All-replicate IsGoodRow processes [] empty_row;
  processes = omega (arith, some, length-replicate {A = List Entry} processes []);
  ended = length-replicate processes false ∙ sym (length-replicate processes []);
  named = within;
  frames = few;
}
