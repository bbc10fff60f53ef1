-- The notes on the lines of a source, a line at a time.
use Rattle.std.proofs.Common.{◌≡◌, ◌∙◌, sym, ap, ℕ, ◌+◌, List, [], ◌∷◌, ◌++◌, length, append_assoc, append-nil, take, drop, Option, arith}
use Rattle.ds_isa.specs.declared.instr.Instr.{Instr}
use Rattle.ds_asm.specs.Lines.{line_of}
use Rattle.ds_asm.specs.Assembly.{lines_of}
use Rattle.ds_asm.specs.Faults.{size_in}
use Rattle.ds_listing.specs.Listing.{rows_from}
use Rattle.ds_check.specs.declared.notes.instruction.PlacedNote.{PlacedNote}
use Rattle.ds_check.specs.CodeNotes.{last_done, line_notes, notes_after}

-- a line more
pub line_more : (n at place : ℕ) (before next : Option Instr) (left bytes further text line afterwards : List ℕ) (xs new whole : List PlacedNote)
    → lines_of text ≡ line ∷ lines_of afterwards
    → bytes ≡ take (size_in (line_of line)) left → further ≡ drop (size_in (line_of line)) left
    → place ≡ at + length bytes
    → new ≡ xs ++ line_notes (record { line = n; offset = at }) before bytes
    → next ≡ last_done before bytes
    → xs ++ notes_after before (rows_from n at left (lines_of text)) ≡ whole
    → new ++ notes_after next (rows_from (n + 1) place further (lines_of afterwards)) ≡ whole
line_more n at place before next left bytes further text line afterwards xs new whole first b d p added then_is h =
    rw (added, then_is, p, d, b)
    (append_assoc xs (line_notes (record { line = n; offset = at }) before (take (size_in (line_of line)) left)) _
    ∙ (ap (λ (ls : List (List ℕ)). xs ++ notes_after before (rows_from n at left ls)) (sym first) ∙ h))

-- no line is left
pub no_line : (n at : ℕ) (before : Option Instr) (left text : List ℕ) (xs whole : List PlacedNote) → length text ≡ 0
    → xs ++ notes_after before (rows_from n at left (lines_of text)) ≡ whole → xs ≡ whole
no_line n at before left [] xs whole none h = sym (append-nil xs) ∙ h
no_line n at before left (x ∷ text) xs whole none h = absurd (omega arith)
