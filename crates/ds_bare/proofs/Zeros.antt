-- A word that is not 0 is among the first ones.
use Rattle.std.proofs.Common.{◌≡◌, ◌∙◌, ap, refl, ℕ, zero, suc, ◌+◌, ◌*◌, ◌<◌, ◌==◌, true, false, ◌&&◌, Bool, List, arith, subst}
use Rattle.std.proofs.lemmas.Bool.{eqb-true}
use Rattle.ds_word.specs.Bytes.{word_at}
use Rattle.ds_bare.specs.Endings.{are_zero}

and_false : (b : Bool) → (b && false) ≡ false
and_false true = refl
and_false false = refl

-- where one of them is not 0, or a later one
lost_at : (memory : List ℕ) (place i n : ℕ) (same : Bool) → (i == n) ≡ same → i < suc n → (word_at memory (place + 4 * i) == 0) ≡ false → (i < n → are_zero memory place n ≡ false) → are_zero memory place (suc n) ≡ false
unfolding are_zero
lost_at memory place i n true same l e before =
    ap (λ (b : Bool). are_zero memory place n && b) (subst (λ (j : ℕ). (word_at memory (place + 4 * j) == 0) ≡ false) (eqb-true i n same) e) ∙ and_false (are_zero memory place n)
lost_at memory place i n false same l e before =
    ap (λ (b : Bool). b && (word_at memory (place + 4 * n) == 0)) (before (grind (arith, same, l)))

-- so they are not all 0
pub zero_lost : (memory : List ℕ) (place i n : ℕ) → i < n → (word_at memory (place + 4 * i) == 0) ≡ false → are_zero memory place n ≡ false
unfolding are_zero
zero_lost memory place i zero l e = absurd (omega arith)
zero_lost memory place i (suc n) l e = lost_at memory place i n (i == n) refl l e (λ less. zero_lost memory place i n less e)
