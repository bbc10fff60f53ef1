-- From one line of a text to another.
use Rattle.std.proofs.Common.{◌≡◌, ◌∙◌, refl, sym, ap, ℕ, suc, ◌+◌, ◌-◌, ◌≤◌, ◌<◌, ◌==◌, false, List, [], ◌∷◌, length, drop, drop-drop, ne_eqb, arith}
use Rattle.std.specs.List.{before_first, after_first}
use Rattle.ds_asm.specs.Assembly.{lines_of}
use Rattle.ds_asm.proofs.SourceLines.{lines_of-first}
use Rattle.ds_check.specs.Lines.{first_line_of}
use Rattle.ds_check.specs.Inner.Lines.{StandAt}

-- a line less is to go
pub one_less : (n : ℕ) (text line afterwards : List ℕ) → lines_of text ≡ line ∷ lines_of afterwards → 0 < n
    → drop (n - 1) (lines_of afterwards) ≡ drop n (lines_of text)
one_less n text line afterwards first some =
    let e : n ≡ suc (n - 1) = omega (arith, some) in
    sym (ap (drop n) first ∙ ap (λ (k : ℕ). drop k (line ∷ lines_of afterwards)) e)

-- the first line of what is left
pub first_left : (text line : List ℕ) → line ≡ before_first (λ b. b == 10) text → line ≡ first_line_of (lines_of text)
first_left [] line is = is
first_left (b ∷ text) line is =
    let some : (length (b ∷ text) == 0) ≡ false = ne_eqb _ _ (omega arith) in
    sym (ap first_line_of (lines_of-first (b ∷ text) line (after_first (λ b. b == 10) (b ∷ text)) some is refl))

-- the line that is wanted is no earlier
pub stand_later : (text rest left : List ℕ) (number wanted : ℕ) → StandAt text number rest → number ≤ wanted
    → lines_of left ≡ drop (wanted - number) (lines_of rest) → lines_of left ≡ drop (wanted - 1) (lines_of text)
stand_later text rest left number wanted stands later is =
    let e : number - 1 + (wanted - number) ≡ wanted - 1 = omega (arith, later, stands.0) in
    is ∙ (ap (drop (wanted - number)) stands.1 ∙ (drop-drop (wanted - number) (number - 1) (lines_of text) ∙ ap (λ (k : ℕ). drop k (lines_of text)) e))
