-- A first line that is looked for.
use Rattle.std.proofs.Common.{◌≡◌, ◌∙◌, sym, refl, ℕ, true, false, List, [], ◌∷◌, length, arith}
use Rattle.ds_asm.specs.Assembly.{lines_of}
use Rattle.ds_policy_reasons.specs.Kinds.{first_said, is_silent}

-- the first line says something
pub said_first : (text line after whole : List ℕ) → lines_of text ≡ line ∷ lines_of after → is_silent line ≡ false → first_said (lines_of text) ≡ whole → line ≡ whole
said_first text line after whole is said before = let e : first_said (lines_of text) ≡ line = rw (is, said) refl in sym e ∙ before

-- the first line says nothing
pub silent_first : (text line after whole : List ℕ) → lines_of text ≡ line ∷ lines_of after → is_silent line ≡ true → first_said (lines_of text) ≡ whole → first_said (lines_of after) ≡ whole
silent_first text line after whole is silent before = let e : first_said (lines_of text) ≡ first_said (lines_of after) = rw (is, silent) refl in sym e ∙ before

-- there are no lines
pub none_said : (text whole : List ℕ) → length text ≡ 0 → first_said (lines_of text) ≡ whole → [] ≡ whole
none_said [] whole none before = before
none_said (c ∷ cs) whole none before = absurd (omega (arith, none))
