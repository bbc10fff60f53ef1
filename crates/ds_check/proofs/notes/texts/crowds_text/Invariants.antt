use Rattle.std.proofs.Common.{◌≡◌, take}
use Rattle.std.specs.List.{flat_map}
use Rattle.ds_check.specs.NoteTexts.{crowd_line}
use Rattle.ds_check.proofs.notes.texts.crowds_text.Given as goal

abbrev pub invariant-loop-crowd : goal.invariant-loop-crowd
invariant-loop-crowd l = l.sheet.items ≡ flat_map (crowd_line) (take l.crowd-index l.crowds)
