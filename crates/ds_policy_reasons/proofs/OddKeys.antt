-- A key that is looked for, line by line.
use Rattle.std.proofs.Common.{◌≡◌, ◌∙◌, sym, ap, ℕ, ◌+◌, List, [], ◌∷◌, length, Option, None, Some, arith}
use Rattle.std.specs.Option.{option_or}
use Rattle.ds_asm.specs.Assembly.{lines_of}
use Rattle.ds_policy_reasons.specs.Keys.{OddKey, first_odd, key_in, key_text, odd_one}

-- the first of lines, and those after it
begun : (n : ℕ) (text line after : List ℕ) (first : Option OddKey) → lines_of text ≡ line ∷ lines_of after → first ≡ odd_one n line (key_in (key_text line))
    → first_odd n (lines_of text) ≡ option_or first (first_odd (n + 1) (lines_of after))
begun n text line after first is has = ap (first_odd n) is ∙ ap (λ o. option_or o (first_odd (n + 1) (lines_of after))) (sym has)

-- the first line has one
pub found_in_line : (n : ℕ) (text line after : List ℕ) (key : OddKey) (first whole : Option OddKey) → lines_of text ≡ line ∷ lines_of after → first ≡ odd_one n line (key_in (key_text line))
    → first ≡ Some key → first_odd n (lines_of text) ≡ whole → Some key ≡ whole
found_in_line n text line after key first whole is has some before =
    sym (begun n text line after first is has ∙ ap (λ o. option_or o (first_odd (n + 1) (lines_of after))) some) ∙ before

-- the first line has none
pub passed_line : (n : ℕ) (text line after : List ℕ) (first whole : Option OddKey) → lines_of text ≡ line ∷ lines_of after → first ≡ odd_one n line (key_in (key_text line))
    → first ≡ None → first_odd n (lines_of text) ≡ whole → first_odd (n + 1) (lines_of after) ≡ whole
passed_line n text line after first whole is has none before =
    sym (begun n text line after first is has ∙ ap (λ o. option_or o (first_odd (n + 1) (lines_of after))) none) ∙ before

-- there are no lines
pub no_line : (n : ℕ) (text : List ℕ) (whole : Option OddKey) → length text ≡ 0 → first_odd n (lines_of text) ≡ whole → None ≡ whole
no_line n [] whole none before = before
no_line n (c ∷ cs) whole none before = absurd (omega (arith, none))
