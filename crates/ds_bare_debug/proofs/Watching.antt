-- The bytes of watches, one after another, and the first that has changed.
use Rattle.std.proofs.Common.{◌≡◌, ℕ, suc, ◌+◌, ◌-◌, ◌<◌, ◌≤◌, Bool, true, false, cond, List, [], ◌∷◌, ◌++◌, length, take, drop, get_or, Option, Some, None, append_assoc, refl, sym, ap, ◌∙◌, arith}
use Rattle.std.proofs.lemmas.List.{append-nil, take-append-drop, take_more}
use Rattle.ds_bare.specs.Machine.{Machine}
use Rattle.ds_gdb.specs.declared.stops.Reason.{Reason}
use Rattle.ds_gdb.specs.declared.stops.Reason.TheVariants.{Watch}
use Rattle.ds_bare_debug.specs.Watches.{first_differing, differs_from, watched_at, watched_from}
use Rattle.ds_bare_debug.specs.declared.watches.Seen.{Seen}

one_left : (count i : ℕ) → i < count → count - i ≡ suc (count - (i + 1))
one_left count i within = omega (arith, within)

module _ (m : Machine) (first : ℕ) where
  seen_first : (i n : ℕ) → watched_at m first i ∷ watched_from m first (i + 1) n ≡ watched_from m first i (suc n)
  unfolding watched_from
  seen_first i n = refl

  seen_none : (i : ℕ) → [] ≡ watched_from m first i 0
  unfolding watched_from
  seen_none i = refl

  -- at first all of them are left
  pub seen_start : (count : ℕ) (before : List Seen) → before ++ watched_from m first 0 (count - 0) ≡ before ++ watched_from m first 0 count
  seen_start count before = let all : count - 0 ≡ count = omega arith in ap (λ (n : ℕ). before ++ watched_from m first 0 n) all

  -- with one more, so many are left
  pub seen_more : (i count : ℕ) (before all : List Seen) (next : Seen) → i < count → next ≡ watched_at m first i → before ++ watched_from m first i (count - i) ≡ all
      → (before ++ next ∷ []) ++ watched_from m first (i + 1) (count - (i + 1)) ≡ all
  seen_more i count before all next within is left =
      let rest : List Seen = watched_from m first (i + 1) (count - (i + 1)) in
      append_assoc before (next ∷ []) rest
      ∙ (ap (λ (x : Seen). before ++ x ∷ rest) is
      ∙ (ap (λ (x : List Seen). before ++ x) (seen_first i (count - (i + 1)))
      ∙ (ap (λ (n : ℕ). before ++ watched_from m first i n) (sym (one_left count i within)) ∙ left)))

  -- and at the end none is
  pub seen_end : (i count : ℕ) (before all : List Seen) → count ≤ i → before ++ watched_from m first i (count - i) ≡ all → before ≡ all
  seen_end i count before all past left =
      let none : 0 ≡ count - i = omega (arith, past) in
      sym (append-nil before) ∙ (ap (λ (x : List Seen). before ++ x) (seen_none i) ∙ (ap (λ (n : ℕ). before ++ watched_from m first i n) none ∙ left))

later_by : (b : Bool) (reason : Reason) (rest whole last : Option Reason) → cond b (Some reason) rest ≡ None → (rest ≡ None → whole ≡ last) → cond b (Some reason) whole ≡ last
later_by true reason rest whole last none more = absurd (cc)
later_by false reason rest whole last none more = more none

module _ (m : Machine) where
  -- where none of the first has changed, the first that has is one of the others
  changed_later : (xs ys : List Seen) → first_differing m xs ≡ None → first_differing m (xs ++ ys) ≡ first_differing m ys
  changed_later [] ys none = refl
  changed_later (s ∷ xs) ys none = later_by (differs_from m s) (Watch s.first) (first_differing m xs) (first_differing m (xs ++ ys)) (first_differing m ys) none (changed_later xs ys)

  -- it is the one at a place
  pub found_at : (xs : List Seen) (i : ℕ) (d : Seen) → i < length xs → first_differing m (take i xs) ≡ None → differs_from m (get_or xs i d) ≡ true → first_differing m xs ≡ Some (Watch (get_or xs i d).first)
  found_at xs i d within none is =
      let s : Seen = get_or xs i d in
      let rest : List Seen = drop (i + 1) xs in
      let whole : take i xs ++ s ∷ rest ≡ xs = sym (append_assoc (take i xs) (s ∷ []) rest) ∙ (ap (λ (x : List Seen). x ++ rest) (sym (take_more xs i d within)) ∙ take-append-drop (i + 1) xs) in
      ap (first_differing m) (sym whole) ∙ (changed_later (take i xs) (s ∷ rest) none ∙ ap (λ (b : Bool). cond b (Some (Watch s.first)) (first_differing m rest)) is)

  -- or it is later
  pub unfound_at : (xs : List Seen) (i : ℕ) (d : Seen) → i < length xs → first_differing m (take i xs) ≡ None → differs_from m (get_or xs i d) ≡ false → first_differing m (take (i + 1) xs) ≡ None
  unfound_at xs i d within none is =
      let s : Seen = get_or xs i d in
      ap (first_differing m) (take_more xs i d within) ∙ (changed_later (take i xs) (s ∷ []) none ∙ ap (λ (b : Bool). cond b (Some (Watch s.first)) None) is)
