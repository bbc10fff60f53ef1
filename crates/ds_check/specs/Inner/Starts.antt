-- Where the processes of a policy start, as a reader is told it.
use Rattle.std.specs.Prelude.{map}
use Rattle.ds_check.specs.declared.starts.AssembledSources.{AssembledSources}
use Rattle.ds_check.specs.Starts.{Assembled}

-- the same of the code's
abbrev pub assembled : AssembledSources → Assembled
assembled a = record { sources = map (λ s. (s.0.now, s.1.now)) a.sources.now; images = a.images.now }
