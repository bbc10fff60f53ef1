-- Slots of addresses that are known: an address whose slot has no place isn't known, and one stands alone.
use Rattle.std.proofs.Common.{◌≡◌, ◌≢◌, ℕ, zero, suc, ◌<◌, ◌==◌, true, false, nat_lt, List, [], ◌∷◌, ◌++◌, length, length-set, get_or, set, position, Some, None, refl, sym, ap, subst, ◌∙◌, inl, inr, arith}
use Rattle.std.specs.List.{position_or_len}
use Rattle.std.proofs.lemmas.Bool.{cases_Bool, cases_eq, cases_lt, false≢true}
use Rattle.std.proofs.lemmas.Bool.Decides.{nat_tests}
use Rattle.std.proofs.lemmas.List.{get_or-set_same, get_or-set_other, get_or_past, set_past}
use Rattle.std.proofs.lemmas.List.Elements.{All-nil, All-cons, All-append, All-get_or, All-set, All-from_get_or}
use Rattle.std.proofs.lemmas.List.Quantifiers.{all_pairs_push}
use Rattle.std.proofs.lemmas.List.Sums.{position_or_len_is}
use Rattle.ds_grants.specs.declared.origins.Origin.{Origin}
use Rattle.ds_grants.specs.Inner.Origins.{slot_of, AreSeen, AreApart}
use Rattle.ds_grants.proofs.FifthRegion.{same_number, itself}
use Rattle.ds_grants.proofs.Known.{is_at, none_at_place}

-- a slot has a place from now on
slot_seen : (places : List ℕ) (i n : ℕ) → 0 < n → 0 < get_or (set places i n) i 1
slot_seen places i n some = elim (cases_lt i (length places)) [
  | inl inside ↦ subst (λ (m : ℕ). 0 < m) (sym (get_or-set_same places i n 1 inside)) some
  | inr past ↦ subst (λ (m : ℕ). 0 < m) (sym (ap (λ (s : List ℕ). get_or s i 1) (set_past places i n past) ∙ get_or_past places i 1 past)) (omega arith)
]

-- one that has a place keeps one
seen_still : (places : List ℕ) (i j n : ℕ) → 0 < n → 0 < get_or places j 1 → 0 < get_or (set places i n) j 1
seen_still places i j n some is = elim (cases_eq j i) [
  | inl same ↦ rw same (slot_seen places i n some)
  | inr other ↦ subst (λ (m : ℕ). 0 < m) (sym (get_or-set_other places i j n 1 other)) is
]

-- where another set of processes may have what was shared from an address
pub seen_set : (places : List ℕ) (known : List Origin) (i : ℕ) (d o : Origin) → i < length known → o.address ≡ (get_or known i d).address → AreSeen places known → AreSeen places (set known i o)
seen_set places known i d o inside same all =
    let P = λ (x : Origin). 0 < get_or places (slot_of x.address) 1 in
    All-set P known i o (subst (λ (n : ℕ). 0 < get_or places (slot_of n) 1) (sym same) (All-get_or P known i d inside all)) all

-- where a slot has another place
pub seen_moved : (places : List ℕ) (known : List Origin) (i n : ℕ) → 0 < n → AreSeen places known → AreSeen (set places i n) known
seen_moved places known i n some all =
    let P = λ (x : Origin). 0 < get_or places (slot_of x.address) 1 in
    let Q = λ (x : Origin). 0 < get_or (set places i n) (slot_of x.address) 1 in
    let d : Origin = record { address = 0; receivers = 0 } in
    All-from_get_or Q known d (λ k inside. seen_still places i (slot_of (get_or known k d).address) n some (All-get_or P known k d inside all))

-- where another address is known, whose slot has a place now
pub seen_more : (places : List ℕ) (known : List Origin) (o : Origin) (n : ℕ) → 0 < n → AreSeen places known → AreSeen (set places (slot_of o.address) n) (known ++ o ∷ [])
seen_more places known o n some all =
    let Q = λ (x : Origin). 0 < get_or (set places (slot_of o.address) n) (slot_of x.address) 1 in
    All-append Q known (o ∷ []) (seen_moved places known (slot_of o.address) n some all) (All-cons Q o [] (slot_seen places (slot_of o.address) n some) (All-nil Q))

-- an address whose slot has no place isn't known
pub unseen : (places : List ℕ) (known : List Origin) (a : ℕ) → AreSeen places known → get_or places (slot_of a) 1 ≡ 0 → position (is_at a) known ≡ None
unseen places known a all never =
    let P = λ (x : Origin). 0 < get_or places (slot_of x.address) 1 in
    let d : Origin = record { address = 0; receivers = 0 } in
    let none : position_or_len (is_at a) known ≡ length known = position_or_len_is (is_at a) known (length known) d (omega arith)
    (λ k inside. elim (cases_Bool (is_at a (get_or known k d))) [
      | inl here ↦ (
          let at = same_number (get_or known k d).address a here in
          let some = subst (λ (n : ℕ). 0 < get_or places (slot_of n) 1) at (All-get_or P known k d inside all) in
          absurd (omega (arith, some, never))
          )
      | inr other ↦ other
    ])
    (λ h. absurd (omega (arith, h))) in
    let past : nat_lt (length known) (length known) ≡ false = grind (arith, nat_tests) in
    rw (none, past) refl

-- No two are alike.

set_address : (known : List Origin) (i j : ℕ) (d o e : Origin) → o.address ≡ (get_or known i d).address → (get_or (set known i o) j e).address ≡ (get_or known j e).address
set_address [] i j d o e same = refl
set_address (x ∷ rest) zero zero d o e same = same
set_address (x ∷ rest) zero (suc j) d o e same = refl
set_address (x ∷ rest) (suc i) zero d o e same = refl
set_address (x ∷ rest) (suc i) (suc j) d o e same = set_address rest i j d o e same

pub apart_set : (known : List Origin) (i : ℕ) (d o : Origin) → o.address ≡ (get_or known i d).address → AreApart known → AreApart (set known i o)
apart_set known i d o same apart j k e low inside = λ alike.
    apart j k e low (subst (λ (n : ℕ). k < n) (length-set known i o) inside)
    (sym (set_address known i j d o e same) ∙ alike ∙ set_address known i k d o e same)

pub apart_more : (known : List Origin) (o : Origin) → position (is_at o.address) known ≡ None → AreApart known → AreApart (known ++ o ∷ [])
apart_more known o none apart = all_pairs_push (λ (x y : Origin). x.address ≢ y.address) known o apart
    (λ k d inside. λ alike. absurd (false≢true (sym (none_at_place known o.address k d none inside) ∙ ap (λ (n : ℕ). n == o.address) alike ∙ itself o.address)))

pub none_apart : AreApart []
none_apart i j d low inside = absurd (omega (arith, inside))

-- who stands at a place stands there alone
pub known_there : (known : List Origin) (a i : ℕ) (d : Origin) → AreApart known → i < length known → (get_or known i d).address ≡ a → position (is_at a) known ≡ Some i
known_there known a i d apart inside at =
    let first : position_or_len (is_at a) known ≡ i = position_or_len_is (is_at a) known i d (omega (arith, inside))
    (λ k low. elim (cases_Bool (is_at a (get_or known k d))) [
      | inl here ↦ absurd (apart k i d low inside (same_number (get_or known k d).address a here ∙ sym at))
      | inr other ↦ other
    ])
    (λ h. subst (λ (n : ℕ). (n == a) ≡ true) (sym at) (itself a)) in
    let less : nat_lt i (length known) ≡ true = grind (arith, nat_tests) in
    rw (first, less) refl
