use Rattle.std.proofs.Common.{◌≡◌, ℕ, List, map, take, All}
use Rattle.ds_drive.specs.Reading.{ReadsAll}
use Rattle.ds_drive.proofs.run.texts_of.Given as goal

abbrev pub invariant-loop-name : goal.invariant-loop-name
invariant-loop-name g l = record {
  names : map (λ s. s.name) l.texts.items ≡ take l.name-index l.names;
  found : All (λ s. g.F.Files.holds l.initial.files s.name s.text.items) l.texts.items;
  kept : (file bytes : List ℕ) → g.F.Files.holds l.files file bytes → g.F.Files.holds l.initial.files file bytes;
  read : ReadsAll (take l.name-index l.names) (g.F.Files.asked l.initial.files) (g.F.Files.asked l.files);
  lacked : (file : List ℕ) → g.F.Files.lacks l.files file → g.F.Files.lacks l.initial.files file;
}
