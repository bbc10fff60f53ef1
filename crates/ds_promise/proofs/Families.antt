-- Families of shares: however long the way, and the nearest that stays.
use Rattle.std.proofs.Common.{◌≡◌, ◌≢◌, ◌⊎◌, inl, inr, ℕ, zero, suc, ◌-◌, ◌<◌, ◌≤◌, Bool, true, false, cond, ◌||◌, List, [], ◌∷◌, Option, Some, None, refl, sym, ap, ◌∙◌, subst, arith}
use Rattle.std.specs.Option.{option_map}
use Rattle.std.proofs.lemmas.Bool.{cases_Bool, cases_eq}
use Rattle.std.proofs.lemmas.Bool.Decides.{nat_tests}
use Rattle.ds_policy.specs.declared.grant.Grant.{Grant}
use Rattle.ds_policy.specs.declared.grant.Entry.{Entry}
use Rattle.ds_policy.specs.declared.grant.EntryPlace.{EntryPlace}
use Rattle.ds_policy.specs.Pages.{Table, entries_of, found, entry_at, erased_entry}
use Rattle.ds_policy.specs.Families.{parent_of, is_place, without_entry, without_entries, comes_from, count_entries}
use Rattle.ds_promise.specs.Families.{IsNearest, none_above, stays, goes}
use Rattle.ds_promise.proofs.Entries.{false_is_not_true, or_first, or_second, one_grant, no_grant_found, erased_gone, erased_left, same_place, entry_same, erased_shorter, handed, handed_grant, without_left, without_gone}

-- However long the way.

or_more : (b c d : Bool) → (c ≡ true → d ≡ true) → (b || c) ≡ true → (b || d) ≡ true
or_more true c d more e = refl
or_more false c d more e = more e

pub comes_of_none : (t : Table) (p a n : ℕ) → comes_from t p a n None ≡ false
comes_of_none t p a zero = refl
comes_of_none t p a (suc n) = refl

-- more steps reach as far
pub comes_more : (t : Table) (p a n m : ℕ) (parent : Option EntryPlace) → n ≤ m → comes_from t p a n parent ≡ true → comes_from t p a m parent ≡ true
comes_more t p a zero m parent more e = false_is_not_true e
comes_more t p a (suc n) zero parent more e = absurd (omega arith)
comes_more t p a (suc n) (suc m) None more e = false_is_not_true e
comes_more t p a (suc n) (suc m) (Some place) more e =
    let next = parent_of (entry_at t place.process place.address) in
    or_more (is_place p a (Some place)) (comes_from t p a n next) (comes_from t p a m next) (comes_more t p a n m next (omega arith)) e

-- a way in a table of which an entry is erased is one in the table
comes_in_more : (t : Table) (q b p a n : ℕ) (parent : Option EntryPlace) → comes_from (erased_entry t q b) p a n parent ≡ true → comes_from t p a n parent ≡ true
comes_in_more t q b p a zero parent e = false_is_not_true e
comes_in_more t q b p a (suc n) None e = false_is_not_true e
comes_in_more t q b p a (suc n) (Some place) e =
    let was = entry_at (erased_entry t q b) place.process place.address in
    let is = entry_at t place.process place.address in
    or_more (is_place p a (Some place)) (comes_from (erased_entry t q b) p a n (parent_of was)) (comes_from t p a n (parent_of is))
    (λ (way : comes_from (erased_entry t q b) p a n (parent_of was) ≡ true). elim (same_place place.process place.address q b) [
      | inl same ↦ false_is_not_true (sym (comes_of_none (erased_entry t q b) p a n) ∙ subst (λ (o : Option Grant). comes_from (erased_entry t q b) p a n (parent_of o) ≡ true)
          (entry_same (erased_entry t q b) place.process place.address place.process b refl same.1 ∙ erased_gone t q b place.process same.0) way)
      | inr apart ↦ comes_in_more t q b p a n (parent_of is) (subst (λ (o : Option Grant). comes_from (erased_entry t q b) p a n (parent_of o) ≡ true) (erased_left t q b place.process place.address apart) way)
    ]) e

-- a way of fewer than n steps
abbrev Shorter : Table → ℕ → ℕ → ℕ → Option EntryPlace → Type 0
Shorter t p a n parent = (m : ℕ) × (m < n) × (comes_from t p a m parent ≡ true)

longer : (t : Table) (p a n : ℕ) (parent : Option EntryPlace) → Shorter t p a n parent → Shorter t p a (suc n) parent
longer t p a n parent s = let below = s.1 in (s.0, omega (arith, below), s.2)

-- a way never comes by an entry, or there is a shorter one from that entry
avoids : (t : Table) (q b : ℕ) (g : Grant) → entry_at t q b ≡ Some g → (p a n : ℕ) (parent : Option EntryPlace) → comes_from t p a n parent ≡ true
    → (comes_from (erased_entry t q b) p a n parent ≡ true) ⊎ Shorter t p a n g.parent
avoids t q b g held p a zero parent e = false_is_not_true e
avoids t q b g held p a (suc n) None e = false_is_not_true e
avoids t q b g held p a (suc n) (Some place) e =
    let was = entry_at (erased_entry t q b) place.process place.address in
    let is = entry_at t place.process place.address in
    elim (cases_Bool (is_place p a (Some place))) [
      | inl here ↦ inl (or_first (is_place p a (Some place)) (comes_from (erased_entry t q b) p a n (parent_of was)) here)
      | inr on ↦
          let way = subst (λ (c : Bool). (c || comes_from t p a n (parent_of is)) ≡ true) on e in
          elim (same_place place.process place.address q b) [
            | inl same ↦ inr (n, omega arith, subst (λ (o : Option Grant). comes_from t p a n (parent_of o) ≡ true) (entry_same t place.process place.address q b same.0 same.1 ∙ held) way)
            | inr apart ↦ elim (avoids t q b g held p a n (parent_of is) way) [
              | inl away ↦ inl (or_second (is_place p a (Some place)) (comes_from (erased_entry t q b) p a n (parent_of was))
                  (subst (λ (o : Option Grant). comes_from (erased_entry t q b) p a n (parent_of o) ≡ true) (sym (erased_left t q b place.process place.address apart)) away))
              | inr shorter ↦ inr (longer t p a n g.parent shorter)
            ]
          ]
    ]

-- no way in a table with at most k entries needs more steps than there are entries
abbrev IsWithin : ℕ → Type 0
IsWithin k = (t : Table) (q b : ℕ) (g : Grant) (p a n : ℕ) → count_entries t ≤ k → entry_at t q b ≡ Some g → comes_from t p a n g.parent ≡ true → comes_from t p a (count_entries t) g.parent ≡ true

none_within : IsWithin 0
none_within t q b g p a n few held way = let l = erased_shorter t q b g held in absurd (omega (arith, l, few))

module _ (k : ℕ) (less : IsWithin k) (t : Table) (q b : ℕ) (g : Grant) (p a j : ℕ) (few : count_entries t ≤ suc k) (held : entry_at t q b ≡ Some g)
    (of_shorter : (m : ℕ) → m < j → comes_from t p a m g.parent ≡ true → comes_from t p a (count_entries t) g.parent ≡ true) where
  way_from : (n : ℕ) (place : EntryPlace) → g.parent ≡ Some place → n < j → (o : Option Grant) → entry_at t place.process place.address ≡ o → comes_from t p a n (parent_of o) ≡ true → comes_from t p a (count_entries t) (Some place) ≡ true
  way_from n place is below None at way = false_is_not_true (sym (comes_of_none t p a n) ∙ way)
  way_from n place is below (Some h) at way = elim (same_place place.process place.address q b) [
    | inl same ↦
        let back : h ≡ g = one_grant g h (sym held ∙ (sym (entry_same t place.process place.address q b same.0 same.1) ∙ at)) in
        subst (λ (parent : Option EntryPlace). comes_from t p a (count_entries t) parent ≡ true) is
        (of_shorter n below (subst (λ (x : Grant). comes_from t p a n x.parent ≡ true) back way))
    | inr apart ↦ elim (avoids t q b g held p a n h.parent way) [
      | inl away ↦
          let fewer = erased_shorter t q b g held in
          let rest = less (erased_entry t q b) place.process place.address h p a n (omega (arith, fewer, few)) (erased_left t q b place.process place.address apart ∙ at) away in
          let inside = comes_in_more t q b p a (count_entries (erased_entry t q b)) h.parent rest in
          comes_more t p a (suc (count_entries (erased_entry t q b))) (count_entries t) (Some place) (omega (arith, fewer))
          (or_second (is_place p a (Some place)) (comes_from t p a (count_entries (erased_entry t q b)) (parent_of (entry_at t place.process place.address)))
          (subst (λ (o : Option Grant). comes_from t p a (count_entries (erased_entry t q b)) (parent_of o) ≡ true) (sym at) inside))
      | inr shorter ↦
          let fewer = shorter.1 in
          subst (λ (parent : Option EntryPlace). comes_from t p a (count_entries t) parent ≡ true) is (of_shorter shorter.0 (omega (arith, fewer, below)) shorter.2)
    ]
  ]

  way_up : (n : ℕ) (parent : Option EntryPlace) → g.parent ≡ parent → n < suc j → comes_from t p a n parent ≡ true → comes_from t p a (count_entries t) parent ≡ true
  way_up zero parent is below way = false_is_not_true way
  way_up (suc n) None is below way = false_is_not_true way
  way_up (suc n) (Some place) is below way = elim (cases_Bool (is_place p a (Some place))) [
    | inl here ↦ let fewer = erased_shorter t q b g held in comes_more t p a 1 (count_entries t) (Some place) (omega (arith, fewer)) (or_first (is_place p a (Some place)) false here)
    | inr on ↦ way_from n place is (omega (arith, below)) (entry_at t place.process place.address) refl
        (subst (λ (c : Bool). (c || comes_from t p a n (parent_of (entry_at t place.process place.address))) ≡ true) on way)
  ]

-- by ways of fewer than j steps
one_more_within : (k : ℕ) → IsWithin k → (j : ℕ) (t : Table) (q b : ℕ) (g : Grant) (p a n : ℕ) → n < j → count_entries t ≤ suc k → entry_at t q b ≡ Some g → comes_from t p a n g.parent ≡ true → comes_from t p a (count_entries t) g.parent ≡ true
one_more_within k less zero t q b g p a n below few held way = absurd (omega (arith, below))
one_more_within k less (suc j) t q b g p a n below few held way =
    way_up k less t q b g p a j few held (λ m under shorter. one_more_within k less j t q b g p a m under few held shorter) n g.parent refl below way

within : (k : ℕ) → IsWithin k
within zero = none_within
within (suc k) = λ t q b g p a n few held way. one_more_within k (within k) (suc n) t q b g p a n (omega arith) few held way

-- an entry that comes of another by any number of steps comes of it by as many as there are entries
pub however_long : (t : Table) (q b : ℕ) (g : Grant) (p a n : ℕ) → entry_at t q b ≡ Some g → comes_from t p a n g.parent ≡ true → comes_from t p a (count_entries t) g.parent ≡ true
however_long t q b g p a n held way = within (count_entries t) t q b g p a n (omega arith) held way

-- The nearest that stays.

is_place_of : (p a : ℕ) (place : EntryPlace) → is_place p a (Some place) ≡ true → (place.process ≡ p) × (place.address ≡ a)
is_place_of p a place e = (grind (arith, nat_tests), grind (arith, nat_tests))

not_place : (p a : ℕ) (place : EntryPlace) → place.process ≢ p → is_place p a (Some place) ≡ false
not_place p a place apart = grind (arith, nat_tests)

not_place_at : (p a : ℕ) (place : EntryPlace) → place.address ≢ a → is_place p a (Some place) ≡ false
not_place_at p a place apart = grind (arith, nat_tests)

is_place_there : (p a : ℕ) (place : EntryPlace) → place.process ≡ p → place.address ≡ a → is_place p a (Some place) ≡ true
is_place_there p a place is at = grind (arith, nat_tests)

-- to hand an entry's own parent on to that parent changes nothing
handed_own : (p a : ℕ) (parent : Option EntryPlace) → handed p a parent parent ≡ parent
handed_own p a parent = by (is_place p a parent)
  where
    by : (c : Bool) → cond c parent parent ≡ parent
    by true = refl
    by false = refl

-- with one entry of process p gone the nearest that stays is the same
nearest_left : (t : Table) (p a : ℕ) (parent up : Option EntryPlace) → IsNearest t p parent up → IsNearest (without_entry t p a) p (handed p a (parent_of (entry_at t p a)) parent) up
nearest_left t p a parent up none_above = none_above
nearest_left t p a parent up (stays place apart) =
    subst (λ (c : Bool). IsNearest (without_entry t p a) p (cond c (parent_of (entry_at t p a)) (Some place)) (Some place)) (sym (not_place p a place apart)) (stays place apart)
nearest_left t p a parent up (goes place g next is held way) = elim (cases_eq place.address a) [
  | inl same ↦
      let there : entry_at t p a ≡ Some g = ap (entry_at t p) (sym same) ∙ held in
      let rest = nearest_left t p a g.parent next way in
      let own : handed p a (parent_of (entry_at t p a)) g.parent ≡ parent_of (entry_at t p a) =
      ap (λ (o : Option Grant). handed p a (parent_of o) g.parent) there ∙ (handed_own p a g.parent ∙ ap parent_of (sym there)) in
      subst (λ (c : Bool). IsNearest (without_entry t p a) p (cond c (parent_of (entry_at t p a)) (Some place)) next) (sym (is_place_there p a place is same))
      (subst (λ (o : Option EntryPlace). IsNearest (without_entry t p a) p o next) own rest)
  | inr apart ↦
      let rest = nearest_left t p a g.parent next way in
      subst (λ (c : Bool). IsNearest (without_entry t p a) p (cond c (parent_of (entry_at t p a)) (Some place)) next) (sym (not_place_at p a place apart))
      (goes place (handed_grant p a (parent_of (entry_at t p a)) g) next is (without_left t p a p place.address (inr apart) ∙ ap (option_map (handed_grant p a (parent_of (entry_at t p a)))) held) rest)
]

-- where process p has no entries the nearest that stays is the parent itself
nearest_at_end : (t : Table) (p : ℕ) (parent up : Option EntryPlace) → ((x : ℕ) → entry_at t p x ≡ None) → IsNearest t p parent up → parent ≡ up
nearest_at_end t p parent up none none_above = refl
nearest_at_end t p parent up none (stays place apart) = refl
nearest_at_end t p parent up none (goes place g next is held way) = no_grant_found g (sym (none place.address) ∙ held)

no_grant_left : (k : Grant → Grant) (o : Option Grant) → o ≡ None → option_map k o ≡ None
no_grant_left k o e = ap (option_map k) e

-- process p has no entry once all of a list are gone that has all of its addresses
pub all_gone : (p : ℕ) (es : List Entry) (t : Table) → ((x : ℕ) → found es x ≡ None → entry_at t p x ≡ None) → (x : ℕ) → entry_at (without_entries t p es) p x ≡ None
all_gone p [] t has x = has x refl
all_gone p (e ∷ rest) t has x = all_gone p rest (without_entry t p e.address) still x
  where
    still : (x : ℕ) → found rest x ≡ None → entry_at (without_entry t p e.address) p x ≡ None
    still x none = elim (cases_eq x e.address) [
      | inl is ↦ ap (entry_at (without_entry t p e.address) p) is ∙ without_gone t p e.address p refl
      | inr apart ↦ without_left t p e.address p x (inr apart) ∙ no_grant_left (handed_grant p e.address (parent_of (entry_at t p e.address))) (entry_at t p x) (has x (other x apart none))
    ]
      where
        other : (x : ℕ) → x ≢ e.address → found rest x ≡ None → found (e ∷ rest) x ≡ None
        other x apart none = grind arith

-- an entry of another process, once all of a list are gone: its parent alone may be another
pub record IsHandedOn (t after : Table) (p q b : ℕ) (g : Grant) : Type 0 where
  pub parent : Option EntryPlace
  pub is : entry_at after q b ≡ Some (record g { parent = parent })
  pub nearest : (up : Option EntryPlace) → IsNearest t p g.parent up → IsNearest after p parent up

others_stay : (p : ℕ) (es : List Entry) (t : Table) (q b : ℕ) (g : Grant) → q - 1 ≢ p - 1 → entry_at t q b ≡ Some g → IsHandedOn t (without_entries t p es) p q b g
others_stay p [] t q b g other held = record { parent = g.parent; is = held; nearest = λ up way. way }
others_stay p (e ∷ rest) t q b g other held =
    let above = parent_of (entry_at t p e.address) in
    let next : Grant = handed_grant p e.address above g in
    let there : entry_at (without_entry t p e.address) q b ≡ Some next = without_left t p e.address q b (inl other) ∙ ap (option_map (handed_grant p e.address above)) held in
    let later = others_stay p rest (without_entry t p e.address) q b next other there in
    record { parent = later.parent; is = later.is; nearest = λ up way. later.nearest up (nearest_left t p e.address g.parent up way) }

-- once all entries of process p are gone an entry of another process has the nearest that stays as parent
pub nearest_stays : (t : Table) (p q b : ℕ) (g : Grant) (up : Option EntryPlace) → q - 1 ≢ p - 1 → entry_at t q b ≡ Some g → IsNearest t p g.parent up
    → entry_at (without_entries t p (entries_of t p)) q b ≡ Some (record g { parent = up })
nearest_stays t p q b g up other held way =
    let on = others_stay p (entries_of t p) t q b g other held in
    let none = all_gone p (entries_of t p) t (λ x e. e) in
    on.is ∙ ap (λ (parent : Option EntryPlace). Some (record g { parent = parent })) (nearest_at_end (without_entries t p (entries_of t p)) p on.parent up none (on.nearest up way))

-- and whatever its parent, all else of it stays
pub rest_stays : (t : Table) (p q b : ℕ) (g : Grant) → q - 1 ≢ p - 1 → entry_at t q b ≡ Some g → IsHandedOn t (without_entries t p (entries_of t p)) p q b g
rest_stays t p q b g other held = others_stay p (entries_of t p) t q b g other held

-- and nobody has a new one
pub none_stays : (p : ℕ) (es : List Entry) (t : Table) (q b : ℕ) → q - 1 ≢ p - 1 → entry_at t q b ≡ None → entry_at (without_entries t p es) q b ≡ None
none_stays p [] t q b other none = none
none_stays p (e ∷ rest) t q b other none =
    none_stays p rest (without_entry t p e.address) q b other
    (without_left t p e.address q b (inl other) ∙ no_grant_left (handed_grant p e.address (parent_of (entry_at t p e.address))) (entry_at t q b) none)
