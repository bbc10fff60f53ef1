use Rattle.std.proofs.Common.{◌≡◌, map, take}
use Rattle.ds_drive.specs.Noted.{image_of}
use Rattle.ds_drive.proofs.explain.images_of.Given as goal

abbrev pub invariant-loop-source : goal.invariant-loop-source
invariant-loop-source l = record {
  images : l.images.items ≡ map (λ s. image_of s.text.items) (take l.source-index l.texts);
}
