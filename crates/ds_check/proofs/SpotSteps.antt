-- Where a byte stands among the lines of a source, a line at a time.
use Rattle.std.proofs.Common.{◌≡◌, ◌∙◌, refl, sym, ap, ℕ, ◌+◌, List, ◌∷◌, Bool, true, false, length, take, drop, Option, Some}
use Rattle.std.specs.Prelude.{◌==◌, nat_lt, if◌then◌else◌}
use Rattle.ds_asm.specs.Lines.{line_of}
use Rattle.ds_asm.specs.Assembly.{lines_of}
use Rattle.ds_asm.specs.Faults.{label_in, size_in}
use Rattle.ds_listing.specs.Listing.{rows_from}
use Rattle.ds_check.specs.Spots.{SourceSpot, label_after, spot_after}

module _ (n at byte : ℕ) (before label next : Option (List ℕ)) (left bytes further text line afterwards : List ℕ)
    (first : lines_of text ≡ line ∷ lines_of afterwards)
    (b : bytes ≡ take (size_in (line_of line)) left)
    (d : further ≡ drop (size_in (line_of line)) left)
    (own : label ≡ label_in (line_of line))
    (then_is : next ≡ label_after before (at == byte) label) where
  same_line : spot_after byte (label_after before (at == byte) (label_in (line_of line))) (rows_from (n + 1) (at + length (take (size_in (line_of line)) left)) (drop (size_in (line_of line)) left) (lines_of afterwards))
      ≡ spot_after byte next (rows_from (n + 1) (at + length bytes) further (lines_of afterwards))
  same_line = rw (then_is, own, d, b) refl

  -- the lines by whether the byte lies in the first
  by_first : (is_here : Bool) → nat_lt byte (at + length bytes) ≡ is_here
      → spot_after byte before (rows_from n at left (lines_of text))
      ≡ (if is_here then Some (record { line = n; label = next }) else spot_after byte next (rows_from (n + 1) (at + length bytes) further (lines_of afterwards)))
  by_first is_here is =
      let tested : nat_lt byte (at + length (take (size_in (line_of line)) left)) ≡ is_here = ap (λ (bs : List ℕ). nat_lt byte (at + length bs)) (sym b) ∙ is in
      ap (λ (ls : List (List ℕ)). spot_after byte before (rows_from n at left ls)) first
      ∙ (ap (λ (c : Bool). if c
      then Some (record { line = n; label = label_after before (at == byte) (label_in (line_of line)) })
      else spot_after byte (label_after before (at == byte) (label_in (line_of line))) (rows_from (n + 1) (at + length (take (size_in (line_of line)) left)) (drop (size_in (line_of line)) left) (lines_of afterwards))) tested
      ∙ (ap (λ (l : Option (List ℕ)). if is_here
      then Some (record { line = n; label = l })
      else spot_after byte (label_after before (at == byte) (label_in (line_of line))) (rows_from (n + 1) (at + length (take (size_in (line_of line)) left)) (drop (size_in (line_of line)) left) (lines_of afterwards))) (sym (then_is ∙ ap (label_after before (at == byte)) own))
      ∙ ap (λ (p : Option SourceSpot). if is_here then Some (record { line = n; label = next }) else p) same_line))

  -- the byte lies in no line before those that are left
  pub spot_later : nat_lt byte (at + length bytes) ≡ false
      → spot_after byte before (rows_from n at left (lines_of text)) ≡ spot_after byte next (rows_from (n + 1) (at + length bytes) further (lines_of afterwards))
  spot_later out = by_first false out

  -- the byte lies in the first of these lines
  pub spot_here : nat_lt byte (at + length bytes) ≡ true
      → spot_after byte before (rows_from n at left (lines_of text)) ≡ Some (record { line = n; label = next })
  spot_here here = by_first true here
