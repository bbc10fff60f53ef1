-- Whether all processes but one have ended, one after another.
use Rattle.std.proofs.Common.{◌≡◌, ℕ, suc, ◌+◌, ◌-◌, ◌<◌, ◌≤◌, Bool, true, false, refl, sym, ap, ◌∙◌, arith}
use Rattle.std.specs.Prelude.{◌&&◌}
use Rattle.ds_refinement.specs.Held.{Held}
use Rattle.ds_debug.specs.Exits.{is_out, others_from}

one_left : (count i : ℕ) → i < count → count - i ≡ suc (count - (i + 1))
one_left count i within = omega (arith, within)

others_first : (h : Held) (p i n : ℕ) → others_from h p i (suc n) ≡ (is_out h p i && others_from h p (i + 1) n)
unfolding others_from
others_first h p i n = refl

others_none : (h : Held) (p i : ℕ) → true ≡ others_from h p i 0
unfolding others_from
others_none h p i = refl

-- at first all of them are left
pub others_start : (h : Held) (p count : ℕ) → others_from h p 0 (count - 0) ≡ others_from h p 0 count
others_start h p count = let all : count - 0 ≡ count = omega arith in ap (others_from h p 0) all

module _ (h : Held) (p i count : ℕ) (all : Bool) where
  by_first : (b : Bool) → i < count → is_out h p i ≡ b → others_from h p i (count - i) ≡ all → (b && others_from h p (i + 1) (count - (i + 1))) ≡ all
  by_first b within is left =
      ap (λ (x : Bool). x && others_from h p (i + 1) (count - (i + 1))) (sym is)
      ∙ (sym (others_first h p i (count - (i + 1))) ∙ (ap (others_from h p i) (sym (one_left count i within)) ∙ left))

  -- with one more that has ended, so many are left
  pub others_more : i < count → is_out h p i ≡ true → others_from h p i (count - i) ≡ all → others_from h p (i + 1) (count - (i + 1)) ≡ all
  others_more within is left = by_first true within is left

  -- or one has not
  pub others_some : i < count → is_out h p i ≡ false → others_from h p i (count - i) ≡ all → false ≡ all
  others_some within is left = by_first false within is left

  -- and at the end none is left
  pub others_end : count ≤ i → others_from h p i (count - i) ≡ all → true ≡ all
  others_end past left = let none : 0 ≡ count - i = omega (arith, past) in others_none h p i ∙ (ap (others_from h p i) none ∙ left)
