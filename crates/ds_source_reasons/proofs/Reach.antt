-- In an image a target is reached exactly where it is a multiple of four.
use Rattle.std.proofs.Common.{◌≡◌, refl, inl, inr, ℕ, ◌+◌, ◌-◌, ◌/◌, ◌%◌, ◌^◌, ◌<◌, ◌≤◌, ◌==◌, nat_le, is_some, eq-eqb, arith}
use Rattle.std.proofs.lemmas.Bool.{cases_Bool, lt-ltb, le-leb}
use Rattle.ds_asm.specs.Assembly.{branch_field, jump_field, origin}

near_ahead : (at a : ℕ) → a ≤ 65536 → (origin + a - (origin + at + 4)) / 4 < 2 ^ 15
near_ahead at a within = omega (arith, within)

near_back : (at a : ℕ) → at ≤ 65536 → (origin + at + 4 - (origin + a)) / 4 ≤ 2 ^ 15
near_back at a within = omega (arith, within)

pub branch_reached : (at a : ℕ) → at ≤ 65536 → a ≤ 65536 → is_some (branch_field (origin + at + 4) (origin + a)) ≡ ((origin + a) % 4 == 0)
branch_reached at a place within = elim (cases_Bool ((origin + a) % 4 == 0)) [
  | inr e ↦ rw e refl
  | inl e ↦ rw e (elim (cases_Bool (nat_le (origin + at + 4) (origin + a))) [
    | inl f ↦ rw f (rw (lt-ltb ((origin + a - (origin + at + 4)) / 4) (2 ^ 15) (near_ahead at a within)) refl)
    | inr f ↦ rw f (rw (le-leb ((origin + at + 4 - (origin + a)) / 4) (2 ^ 15) (near_back at a place)) refl)
  ])
]

same_region : (at a : ℕ) → at ≤ 65536 → a ≤ 65536 → (origin + a) / 2 ^ 28 ≡ (origin + at + 4) / 2 ^ 28
same_region at a place within =
    let low : (origin + a) / 2 ^ 28 ≡ 0 = omega (arith, within) in
    let slot : (origin + at + 4) / 2 ^ 28 ≡ 0 = omega (arith, place) in
    rw (low, slot) refl

pub jump_reached : (at a : ℕ) → at ≤ 65536 → a ≤ 65536 → is_some (jump_field (origin + at + 4) (origin + a)) ≡ ((origin + a) % 4 == 0)
jump_reached at a place within = elim (cases_Bool ((origin + a) % 4 == 0)) [
  | inr e ↦ rw e refl
  | inl e ↦ rw e (rw (same_region at a place within) (rw (eq-eqb ((origin + at + 4) / 2 ^ 28) ((origin + at + 4) / 2 ^ 28) refl) refl))
]
