-- Lines that are passed one after the other.
use Rattle.std.proofs.Common.{◌≡◌, ◌∙◌, sym, refl, ℕ, suc, ◌+◌, ◌-◌, ◌<◌, List, arith}
use Rattle.ds_source_reasons.specs.Told.{line_in, after_line, line_after, after_lines, offset_after}

-- one line more is passed
place_steps : (count i place : ℕ) (text : List ℕ) → i < count → offset_after (count - i) place text ≡ offset_after (count - (i + 1)) (line_after place (line_in text)) (after_line text)
place_steps count i place text less = let e : count - i ≡ suc (count - (i + 1)) = omega (arith, less) in rw e refl

rest_steps : (count i : ℕ) (text : List ℕ) → i < count → after_lines (count - i) text ≡ after_lines (count - (i + 1)) (after_line text)
rest_steps count i text less = let e : count - i ≡ suc (count - (i + 1)) = omega (arith, less) in rw e refl

pub place_kept : (count i place next all : ℕ) (text line rest : List ℕ) → i < count → next ≡ line_after place line → line ≡ line_in text → rest ≡ after_line text
    → offset_after (count - i) place text ≡ all → offset_after (count - (i + 1)) next rest ≡ all
place_kept count i place next all text line rest less n l r h = rw (n, l, r) (sym (place_steps count i place text less) ∙ h)

pub rest_kept : (count i : ℕ) (text rest all : List ℕ) → i < count → rest ≡ after_line text → after_lines (count - i) text ≡ all → after_lines (count - (i + 1)) rest ≡ all
rest_kept count i text rest all less r h = rw r (sym (rest_steps count i text less) ∙ h)
