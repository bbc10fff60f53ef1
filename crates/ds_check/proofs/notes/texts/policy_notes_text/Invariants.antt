use Rattle.std.proofs.Common.{◌≡◌, take}
use Rattle.std.specs.List.{flat_map}
use Rattle.ds_check.specs.NoteTexts.{policy_line}
use Rattle.ds_check.proofs.notes.texts.policy_notes_text.Given as goal

abbrev pub invariant-loop-note : goal.invariant-loop-note
invariant-loop-note l = l.sheet.items ≡ flat_map (policy_line l.pages) (take l.note-index l.notes)
