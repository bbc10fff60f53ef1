-- A label that is looked for, line by line.
use Rattle.std.proofs.Common.{◌≡◌, ◌∙◌, sym, ap, ℕ, ◌+◌, List, [], ◌∷◌, length, Option, None, Some, arith}
use Rattle.std.specs.Option.{option_or}
use Rattle.ds_asm.specs.Assembly.{lines_of}
use Rattle.ds_asm.specs.Faults.{label_in}
use Rattle.ds_asm.specs.Lines.{line_of}
use Rattle.ds_source_reasons.specs.Missing.{Labelled, first_like, like_in}

-- the first of lines, and those after it
begun : (name : List ℕ) (n : ℕ) (text line after : List ℕ) (first : Option Labelled) → lines_of text ≡ line ∷ lines_of after → first ≡ like_in name n (label_in (line_of line))
    → first_like name n (lines_of text) ≡ option_or first (first_like name (n + 1) (lines_of after))
begun name n text line after first is has = ap (first_like name n) is ∙ ap (λ o. option_or o (first_like name (n + 1) (lines_of after))) (sym has)

-- the first line has one
pub found_in_line : (name : List ℕ) (n : ℕ) (text line after : List ℕ) (label : Labelled) (first whole : Option Labelled) → lines_of text ≡ line ∷ lines_of after → first ≡ like_in name n (label_in (line_of line))
    → first ≡ Some label → first_like name n (lines_of text) ≡ whole → Some label ≡ whole
found_in_line name n text line after label first whole is has some before =
    sym (begun name n text line after first is has ∙ ap (λ o. option_or o (first_like name (n + 1) (lines_of after))) some) ∙ before

-- the first line has none
pub passed_line : (name : List ℕ) (n : ℕ) (text line after : List ℕ) (first whole : Option Labelled) → lines_of text ≡ line ∷ lines_of after → first ≡ like_in name n (label_in (line_of line))
    → first ≡ None → first_like name n (lines_of text) ≡ whole → first_like name (n + 1) (lines_of after) ≡ whole
passed_line name n text line after first whole is has none before =
    sym (begun name n text line after first is has ∙ ap (λ o. option_or o (first_like name (n + 1) (lines_of after))) none) ∙ before

-- there are no lines
pub no_line : (name : List ℕ) (n : ℕ) (text : List ℕ) (whole : Option Labelled) → length text ≡ 0 → first_like name n (lines_of text) ≡ whole → None ≡ whole
no_line name n [] whole none before = before
no_line name n (c ∷ cs) whole none before = absurd (omega (arith, none))
