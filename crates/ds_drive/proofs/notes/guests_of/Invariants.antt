use Rattle.std.proofs.Common.{◌≡◌, map, take}
use Rattle.std.specs.List.{flat_map}
use Rattle.ds_drive.specs.Noted.{image_of, source_notes}
use Rattle.ds_drive.proofs.notes.guests_of.Given as goal

abbrev pub invariant-loop-source : goal.invariant-loop-source
invariant-loop-source l = record {
  images : l.images.items ≡ map (λ s. image_of s.text.items) (take l.source-index l.texts);
  notes : l.notes.items ≡ flat_map (λ s. source_notes s.name s.text.items) (take l.source-index l.texts);
}
