-- Of events in order, those that are due are a prefix, and those that come later the rest.
use Rattle.std.proofs.Common.{◌≡◌, ℕ, suc, ◌+◌, ◌≤◌, Bool, true, false, cond, not, nat_le, List, [], ◌∷◌, take, drop, filter, refl, ap, ◌∙◌, arith}
use Rattle.std.specs.List.{All}
use Rattle.std.specs.List.Sorted.{IsNonDecreasingBy}
use Rattle.std.proofs.lemmas.Bool.Decides.{nat_tests}
use Rattle.std.proofs.lemmas.List.Elements.{All-head, All-tail}
use Rattle.ds_pagemap_laws.specs.Due.{SplitsAt, due_count}

-- after one that comes later all come later
rest_later : {X : Type 0} (time : X → ℕ) (x : X) (xs : List X) → IsNonDecreasingBy time (x ∷ xs) → All (λ y. time x ≤ time y) xs
rest_later time x xs order k d within = order 0 (suc k) d (omega arith) (omega (arith, within))

rest_ordered : {X : Type 0} (time : X → ℕ) (x : X) (xs : List X) → IsNonDecreasingBy time (x ∷ xs) → IsNonDecreasingBy time xs
rest_ordered time x xs order i j d le within = order (suc i) (suc j) d (omega (arith, le)) (omega (arith, within))

not_due : (now a b : ℕ) → nat_le a now ≡ false → a ≤ b → nat_le b now ≡ false
not_due now a b late le = grind (arith, nat_tests)

none_due : {X : Type 0} (time : X → ℕ) (now first : ℕ) (xs : List X) → nat_le first now ≡ false → All (λ y. first ≤ time y) xs → filter (λ x. nat_le (time x) now) xs ≡ []
none_due time now first [] late all = refl
none_due time now first (y ∷ ys) late all =
    ap (λ (b : Bool). cond b (y ∷ filter (λ x. nat_le (time x) now) ys) (filter (λ x. nat_le (time x) now) ys)) (not_due now first (time y) late (All-head (λ z. first ≤ time z) y ys all))
    ∙ none_due time now first ys late (All-tail (λ z. first ≤ time z) y ys all)

all_rest : {X : Type 0} (time : X → ℕ) (now first : ℕ) (xs : List X) → nat_le first now ≡ false → All (λ y. first ≤ time y) xs → filter (λ x. not (nat_le (time x) now)) xs ≡ xs
all_rest time now first [] late all = refl
all_rest time now first (y ∷ ys) late all =
    ap (λ (b : Bool). cond (not b) (y ∷ filter (λ x. not (nat_le (time x) now)) ys) (filter (λ x. not (nat_le (time x) now)) ys)) (not_due now first (time y) late (All-head (λ z. first ≤ time z) y ys all))
    ∙ ap (λ l. y ∷ l) (all_rest time now first ys late (All-tail (λ z. first ≤ time z) y ys all))

due_step : {X : Type 0} (b : Bool) (x : X) (xs fs : List X) (k : ℕ) → fs ≡ take k xs → (b ≡ false → fs ≡ []) → cond b (x ∷ fs) fs ≡ take (cond b (1 + k) 0) (x ∷ xs)
due_step true x xs fs k e f = let is : suc k ≡ 1 + k = omega arith in ap (λ l. x ∷ l) e ∙ ap (λ (n : ℕ). take n (x ∷ xs)) is
due_step false x xs fs k e f = f refl

rest_step : {X : Type 0} (b : Bool) (x : X) (xs gs : List X) (k : ℕ) → gs ≡ drop k xs → (b ≡ false → gs ≡ xs) → cond (not b) (x ∷ gs) gs ≡ drop (cond b (1 + k) 0) (x ∷ xs)
rest_step true x xs gs k e f = let is : suc k ≡ 1 + k = omega arith in e ∙ ap (λ (n : ℕ). drop n (x ∷ xs)) is
rest_step false x xs gs k e f = ap (λ l. x ∷ l) (f refl)

pub splits : {X : Type 0} (time : X → ℕ) (now : ℕ) (xs : List X) → IsNonDecreasingBy time xs → SplitsAt time now xs (due_count time now xs)
splits time now [] order = record { due = refl; rest = refl }
splits time now (x ∷ xs) order =
    let more = splits time now xs (rest_ordered time x xs order) in
    let later = rest_later time x xs order in
    record {
      due = due_step (nat_le (time x) now) x xs _ _ more.due (λ late. none_due time now (time x) xs late later);
      rest = rest_step (nat_le (time x) now) x xs _ _ more.rest (λ late. all_rest time now (time x) xs late later);
    }
