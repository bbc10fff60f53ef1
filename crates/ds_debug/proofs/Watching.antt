-- The bytes of watches, one after another, and the first that has changed.
use Rattle.std.proofs.Common.{◌≡◌, ℕ, suc, ◌+◌, ◌-◌, ◌<◌, ◌≤◌, Bool, true, false, cond, List, [], ◌∷◌, ◌++◌, length, take, drop, get_or, Option, Some, None, append_assoc, refl, sym, ap, ◌∙◌, arith}
use Rattle.std.proofs.lemmas.List.{append-nil, take-append-drop, take_more}
use Rattle.ds_refinement.specs.Held.{Held}
use Rattle.ds_debug.specs.Goals.{Aim, first_changed, has_changed, watch_stop}
use Rattle.ds_debug.specs.Watches.{seen_at, seen_from}
use Rattle.ds_debug.specs.declared.goals.Stop.{Stop}
use Rattle.ds_debug.specs.declared.watches.Seen.{Seen}
use Rattle.ds_gdb.specs.declared.points.Watchpoint.{Watchpoint}

one_left : (count i : ℕ) → i < count → count - i ≡ suc (count - (i + 1))
one_left count i within = omega (arith, within)

seen_first : (h : Held) (w : Watchpoint) (i n : ℕ) → seen_at h w i ∷ seen_from h w (i + 1) n ≡ seen_from h w i (suc n)
unfolding seen_from
seen_first h w i n = refl

seen_none : (h : Held) (w : Watchpoint) (i : ℕ) → [] ≡ seen_from h w i 0
unfolding seen_from
seen_none h w i = refl

-- at first all of them are left
pub seen_start : (h : Held) (w : Watchpoint) (count : ℕ) (before : List Seen) → before ++ seen_from h w 0 (count - 0) ≡ before ++ seen_from h w 0 count
seen_start h w count before = let all : count - 0 ≡ count = omega arith in ap (λ (n : ℕ). before ++ seen_from h w 0 n) all

-- with one more, so many are left
pub seen_more : (h : Held) (w : Watchpoint) (i count : ℕ) (before all : List Seen) (next : Seen) → i < count → next ≡ seen_at h w i → before ++ seen_from h w i (count - i) ≡ all
    → (before ++ next ∷ []) ++ seen_from h w (i + 1) (count - (i + 1)) ≡ all
seen_more h w i count before all next within is left =
    let rest : List Seen = seen_from h w (i + 1) (count - (i + 1)) in
    append_assoc before (next ∷ []) rest
    ∙ (ap (λ (x : Seen). before ++ x ∷ rest) is
    ∙ (ap (λ (x : List Seen). before ++ x) (seen_first h w i (count - (i + 1)))
    ∙ (ap (λ (n : ℕ). before ++ seen_from h w i n) (sym (one_left count i within)) ∙ left)))

-- and at the end none is
pub seen_end : (h : Held) (w : Watchpoint) (i count : ℕ) (before all : List Seen) → count ≤ i → before ++ seen_from h w i (count - i) ≡ all → before ≡ all
seen_end h w i count before all past left =
    let none : 0 ≡ count - i = omega (arith, past) in
    sym (append-nil before) ∙ (ap (λ (x : List Seen). before ++ x) (seen_none h w i) ∙ (ap (λ (n : ℕ). before ++ seen_from h w i n) none ∙ left))

later_by : (b : Bool) (stop : Stop) (rest whole last : Option Stop) → cond b (Some stop) rest ≡ None → (rest ≡ None → whole ≡ last) → cond b (Some stop) whole ≡ last
later_by true stop rest whole last none more = absurd (cc)
later_by false stop rest whole last none more = more none

module _ (a : Aim) (h : Held) where
  -- where none of the first has changed, the first that has is one of the others
  pub changed_later : (xs ys : List Seen) → first_changed a h xs ≡ None → first_changed a h (xs ++ ys) ≡ first_changed a h ys
  changed_later [] ys none = refl
  changed_later (s ∷ xs) ys none =
      later_by (has_changed a h s) (watch_stop s.watchpoint) (first_changed a h xs) (first_changed a h (xs ++ ys)) (first_changed a h ys) none (changed_later xs ys)

  -- it is the next
  pub changed_here : (xs ys : List Seen) (s : Seen) → first_changed a h xs ≡ None → has_changed a h s ≡ true → first_changed a h (xs ++ s ∷ ys) ≡ Some (watch_stop s.watchpoint)
  changed_here xs ys s none is = changed_later xs (s ∷ ys) none ∙ ap (λ (b : Bool). cond b (Some (watch_stop s.watchpoint)) (first_changed a h ys)) is

  -- or the next has not changed either
  pub unchanged_here : (xs : List Seen) (s : Seen) → first_changed a h xs ≡ None → has_changed a h s ≡ false → first_changed a h (xs ++ s ∷ []) ≡ None
  unchanged_here xs s none is = changed_later xs (s ∷ []) none ∙ ap (λ (b : Bool). cond b (Some (watch_stop s.watchpoint)) None) is

  -- of a list it is the one at a place
  pub found_at : (xs : List Seen) (i : ℕ) (d : Seen) → i < length xs → first_changed a h (take i xs) ≡ None → has_changed a h (get_or xs i d) ≡ true → first_changed a h xs ≡ Some (watch_stop (get_or xs i d).watchpoint)
  found_at xs i d within none is =
      let s : Seen = get_or xs i d in
      let rest : List Seen = drop (i + 1) xs in
      let whole : take i xs ++ s ∷ rest ≡ xs = sym (append_assoc (take i xs) (s ∷ []) rest) ∙ (ap (λ (x : List Seen). x ++ rest) (sym (take_more xs i d within)) ∙ take-append-drop (i + 1) xs) in
      ap (first_changed a h) (sym whole) ∙ changed_here (take i xs) rest s none is

  -- or it is later
  pub unfound_at : (xs : List Seen) (i : ℕ) (d : Seen) → i < length xs → first_changed a h (take i xs) ≡ None → has_changed a h (get_or xs i d) ≡ false → first_changed a h (take (i + 1) xs) ≡ None
  unfound_at xs i d within none is = ap (first_changed a h) (take_more xs i d within) ∙ unchanged_here (take i xs) (get_or xs i d) none is
