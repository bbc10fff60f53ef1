-- Before the time at which something next comes, nothing is due and no period ends.
use Rattle.std.proofs.Common.{◌≡◌, ℕ, ◌+◌, ◌*◌, ◌/◌, ◌<◌, ◌^◌, Bool, true, false, cond, not, nat_le, List, [], ◌∷◌, filter, refl, arith}
use Rattle.std.specs.Prelude.{◌==◌, ◌&&◌, nat_lt}
use Rattle.std.proofs.lemmas.Bool.Decides.{nat_tests}
use Rattle.std.proofs.lemmas.Nat.{pow_pos}
use Rattle.std.proofs.Math.Nat.{div-lt_iff_lt-mul}
use Rattle.ds_pagemap.specs.Boundary.{has_passed}
use Rattle.ds_monitor.specs.Inner.Coming.{never, first_time, period_end}

-- where none is due, it is before the first
pub due_later : {X : Type 0} (time : X → ℕ) (now : ℕ) (xs : List X) → now < never → filter (λ (x : X). nat_le (time x) now) xs ≡ [] → now < first_time time xs
due_later time now [] soon none = soon
due_later time now (x ∷ rest) soon none = by (nat_le (time x) now) refl none
  where
    not_yet : nat_le (time x) now ≡ false → now < time x
    not_yet e = grind (arith, nat_tests)

    by : (b : Bool) → nat_le (time x) now ≡ b → cond b (x ∷ filter (λ y. nat_le (time y) now) rest) (filter (λ y. nat_le (time y) now) rest) ≡ [] → now < time x
    by true e none = absurd (cc)
    by false e none = not_yet e

-- The end of a period.

-- how many periods are over
over_by : (p q t : ℕ) → 0 < p → t < (q + 1) * p → nat_lt q (t / p) ≡ false
over_by p q t some early = (let few : t / p < q + 1 = (div-lt_iff_lt-mul {k = p} {x = t} {y = q + 1} some).1 early in grind (arith, nat_tests, few))

not_over : (p q t : ℕ) → 0 < p → nat_lt q (t / p) ≡ false → t < (q + 1) * p
not_over p q t some e = (let few : t / p < q + 1 = grind (arith, nat_tests) in (div-lt_iff_lt-mul {k = p} {x = t} {y = q + 1} some).0 few)

pub none_passed : (rate ticked now : ℕ) → now < period_end rate ticked → has_passed rate ticked now ≡ false
none_passed rate ticked now = by (rate == 0)
  where
    by : (off : Bool) → now < cond off never ((ticked / 2 ^ (rate + 2) + 1) * 2 ^ (rate + 2)) → (not off && nat_lt (ticked / 2 ^ (rate + 2)) (now / 2 ^ (rate + 2))) ≡ false
    by true early = refl
    by false early = over_by (2 ^ (rate + 2)) (ticked / 2 ^ (rate + 2)) now (pow_pos (rate + 2)) early

pub passed_later : (rate ticked now : ℕ) → now < never → has_passed rate ticked now ≡ false → now < period_end rate ticked
passed_later rate ticked now soon = by (rate == 0)
  where
    by : (off : Bool) → (not off && nat_lt (ticked / 2 ^ (rate + 2)) (now / 2 ^ (rate + 2))) ≡ false → now < cond off never ((ticked / 2 ^ (rate + 2) + 1) * 2 ^ (rate + 2))
    by true none = soon
    by false none = not_over (2 ^ (rate + 2)) (ticked / 2 ^ (rate + 2)) now (pow_pos (rate + 2)) none
