use Rattle.std.proofs.Common.{◌≡◌, map, take}
use Rattle.ds_station.specs.Headline.{sources_seen}
use Rattle.ds_drive.proofs.run.lent.Given as goal

abbrev pub invariant-loop-source : goal.invariant-loop-source
invariant-loop-source l = sources_seen l.sources.items ≡ map (λ s. (s.name, s.text.items)) (take l.source-index l.texts)
