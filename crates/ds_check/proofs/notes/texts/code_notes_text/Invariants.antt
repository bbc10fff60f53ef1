use Rattle.std.proofs.Common.{◌≡◌, take}
use Rattle.std.specs.List.{flat_map}
use Rattle.ds_check.specs.NoteTexts.{code_line}
use Rattle.ds_check.proofs.notes.texts.code_notes_text.Given as goal

abbrev pub invariant-loop-note : goal.invariant-loop-note
invariant-loop-note l = l.sheet.items ≡ flat_map (code_line l.name) (take l.note-index l.notes)
