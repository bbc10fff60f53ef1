-- Where a byte of an image stands in its source.
use Rattle.std.specs.Prelude.{option_map}
use Rattle.ds_check.specs.declared.spots.Spot.{Spot}
use Rattle.ds_check.specs.Spots.{SourceSpot}

-- the same of the code's places
abbrev pub seen : Spot → SourceSpot
seen s = record { line = s.line; label = option_map (λ t. t.now) s.label }
