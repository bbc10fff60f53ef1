-- The clock counts modulo 2^17 ticks, and rings where the whole time ends a period.
use Rattle.std.proofs.Common.{◌≡◌, ℕ, zero, suc, ◌+◌, ◌-◌, ◌*◌, ◌/◌, ◌%◌, ◌<◌, ◌≤◌, ◌^◌, Bool, true, false, refl, sym, ap, ap₂, ◌∙◌, arith, div-mul-le_self, le_trans}
use Rattle.std.specs.Prelude.{nat_lt, nat_le, ◌&&◌, ◌==◌, not}
use Rattle.std.proofs.lemmas.Bool.Decides.{nat_tests}
use Rattle.std.proofs.lemmas.Nat.{pow_pos, le-div}
use Rattle.ds_dev.specs.Clock.{rings}
use Rattle.ds_pagemap.specs.Boundary.{has_passed}

less_alike : (a b c : ℕ) → nat_lt a b ≡ nat_lt (c + a) (c + b)
less_alike a b c = elim (nat_lt a b) as (λ t. nat_lt a b ≡ t → t ≡ nat_lt (c + a) (c + b)) [
  | true ↦ λ e. (let l : a < b = grind (arith, nat_tests) in let m : c + a < c + b = omega (arith, l) in grind (arith, nat_tests, m))
  | false ↦ λ e. (let l : b ≤ a = grind (arith, nat_tests) in let m : c + b ≤ c + a = omega (arith, l) in grind (arith, nat_tests, m))
] refl

-- so many periods of the rate are 2^17 ticks
by_period : (p n t k : ℕ) → t / p ≡ t / 2 ^ 17 * n + t % 2 ^ 17 / p → (t + k) / p ≡ t / 2 ^ 17 * n + (t % 2 ^ 17 + k) / p → nat_lt (t % 2 ^ 17 / p) ((t % 2 ^ 17 + k) / p) ≡ nat_lt (t / p) ((t + k) / p)
by_period p n t k e f = less_alike (t % 2 ^ 17 / p) ((t % 2 ^ 17 + k) / p) (t / 2 ^ 17 * n) ∙ ap₂ nat_lt (sym e) (sym f)

rings_alike : (r t k : ℕ) → 3 ≤ r → r ≤ 15 → nat_lt (t % 2 ^ 17 / 2 ^ (r + 2)) ((t % 2 ^ 17 + k) / 2 ^ (r + 2)) ≡ nat_lt (t / 2 ^ (r + 2)) ((t + k) / 2 ^ (r + 2))
rings_alike zero t k l h = absurd (omega (arith, l))
rings_alike (suc zero) t k l h = absurd (omega (arith, l))
rings_alike (suc (suc zero)) t k l h = absurd (omega (arith, l))
rings_alike (suc (suc (suc zero))) t k l h = by_period 32 4096 t k (omega arith) (omega arith)
rings_alike (suc (suc (suc (suc zero)))) t k l h = by_period 64 2048 t k (omega arith) (omega arith)
rings_alike (suc (suc (suc (suc (suc zero))))) t k l h = by_period 128 1024 t k (omega arith) (omega arith)
rings_alike (suc (suc (suc (suc (suc (suc zero)))))) t k l h = by_period 256 512 t k (omega arith) (omega arith)
rings_alike (suc (suc (suc (suc (suc (suc (suc zero))))))) t k l h = by_period 512 256 t k (omega arith) (omega arith)
rings_alike (suc (suc (suc (suc (suc (suc (suc (suc zero)))))))) t k l h = by_period 1024 128 t k (omega arith) (omega arith)
rings_alike (suc (suc (suc (suc (suc (suc (suc (suc (suc zero))))))))) t k l h = by_period 2048 64 t k (omega arith) (omega arith)
rings_alike (suc (suc (suc (suc (suc (suc (suc (suc (suc (suc zero)))))))))) t k l h = by_period 4096 32 t k (omega arith) (omega arith)
rings_alike (suc (suc (suc (suc (suc (suc (suc (suc (suc (suc (suc zero))))))))))) t k l h = by_period 8192 16 t k (omega arith) (omega arith)
rings_alike (suc (suc (suc (suc (suc (suc (suc (suc (suc (suc (suc (suc zero)))))))))))) t k l h = by_period 16384 8 t k (omega arith) (omega arith)
rings_alike (suc (suc (suc (suc (suc (suc (suc (suc (suc (suc (suc (suc (suc zero))))))))))))) t k l h = by_period 32768 4 t k (omega arith) (omega arith)
rings_alike (suc (suc (suc (suc (suc (suc (suc (suc (suc (suc (suc (suc (suc (suc zero)))))))))))))) t k l h = by_period 65536 2 t k (omega arith) (omega arith)
rings_alike (suc (suc (suc (suc (suc (suc (suc (suc (suc (suc (suc (suc (suc (suc (suc zero))))))))))))))) t k l h = by_period 131072 1 t k (omega arith) (omega arith)
rings_alike (suc (suc (suc (suc (suc (suc (suc (suc (suc (suc (suc (suc (suc (suc (suc (suc n)))))))))))))))) t k l h = absurd (omega (arith, h))

-- the time after the ticks that passed since it
later_is : (t now : ℕ) → t ≤ now → t + (now - t) ≡ now
later_is t now before = omega (arith, before)

-- a clock rings within the ticks since it was ticked, where its period ended
pub rings_as : (rate ticked now : ℕ) → rate ≤ 15 → (0 < rate → 3 ≤ rate) → ticked ≤ now → rings rate (ticked % 2 ^ 17) (now - ticked) ≡ has_passed rate ticked now
rings_as zero ticked now high low before = refl
rings_as (suc zero) ticked now high low before = (let no : 3 ≤ 1 = low (omega arith) in absurd (omega (arith, no)))
rings_as (suc (suc zero)) ticked now high low before = (let no : 3 ≤ 2 = low (omega arith) in absurd (omega (arith, no)))
rings_as (suc (suc (suc r))) ticked now high low before =
    let rate = suc (suc (suc r)) in
    let on : nat_le 3 rate ≡ true = (let l : 3 ≤ rate = omega arith in grind (arith, nat_tests)) in
    let some : not (rate == 0) ≡ true = grind (arith, nat_tests) in
    ap (λ (b : Bool). b && nat_lt (ticked % 2 ^ 17 / 2 ^ (rate + 2)) ((ticked % 2 ^ 17 + (now - ticked)) / 2 ^ (rate + 2))) on
    ∙ (rings_alike rate ticked (now - ticked) (omega arith) high
    ∙ (ap (λ (t : ℕ). nat_lt (ticked / 2 ^ (rate + 2)) (t / 2 ^ (rate + 2))) (later_is ticked now before)
    ∙ sym (ap (λ (b : Bool). b && nat_lt (ticked / 2 ^ (rate + 2)) (now / 2 ^ (rate + 2))) some)))

-- where no period ended up to the begin of a turn, one that ended since the clock was ticked ended in the turn
pub passed_since : (rate ticked began now : ℕ) → ticked ≤ began → has_passed rate ticked began ≡ false → has_passed rate ticked now ≡ has_passed rate began now
passed_since rate ticked began now later none = by (not (rate == 0)) none
  where
    grows : ticked / 2 ^ (rate + 2) ≤ began / 2 ^ (rate + 2)
    grows = le-div (ticked / 2 ^ (rate + 2)) began (2 ^ (rate + 2)) (pow_pos (rate + 2)) (le_trans (div-mul-le_self ticked (2 ^ (rate + 2))) later)

    same : (a b : ℕ) → a ≤ b → nat_lt a b ≡ false → a ≡ b
    same a b le e = grind (arith, nat_tests)

    by : (on : Bool) → (on && nat_lt (ticked / 2 ^ (rate + 2)) (began / 2 ^ (rate + 2))) ≡ false
        → (on && nat_lt (ticked / 2 ^ (rate + 2)) (now / 2 ^ (rate + 2))) ≡ (on && nat_lt (began / 2 ^ (rate + 2)) (now / 2 ^ (rate + 2)))
    by true e = ap (λ (n : ℕ). nat_lt n (now / 2 ^ (rate + 2))) (same (ticked / 2 ^ (rate + 2)) (began / 2 ^ (rate + 2)) grows e)
    by false e = refl

-- at the time to which the clock was brought no period has ended since
pub none_since : (rate now : ℕ) → has_passed rate now now ≡ false
none_since rate now = by (not (rate == 0)) (now / 2 ^ (rate + 2))
  where
    never : (n : ℕ) → nat_lt n n ≡ false
    never n = grind (arith, nat_tests)

    by : (on : Bool) (n : ℕ) → (on && nat_lt n n) ≡ false
    by true n = never n
    by false n = refl

-- the clock's time after the ticks
pub time_is : (ticked now : ℕ) → ticked ≤ now → (ticked % 2 ^ 17 + (now - ticked)) % 2 ^ 17 ≡ now % 2 ^ 17
time_is ticked now before = omega (arith, before)
