-- What a run on the bare machine writes, and what is left where there is none.
use Rattle.std.specs.Prelude.{ℕ, List, Option, Result, Ok, Err}
use Rattle.std.specs.Io.KnownBytes.{Keeps}
use Rattle.ds_bare.specs.declared.fault.BareFault.{BareFault}
use Rattle.ds_bare.specs.declared.fault.BareFault.TheVariants as bare
use Rattle.ds_station.specs.declared.fault.Fault.{Fault}
use Rattle.ds_station.specs.declared.fault.Fault.TheVariants as fault
use Rattle.ds_drive.specs.declared.list.Listing.{Listing}
use Rattle.ds_drive.specs.declared.list.Listing.TheVariants as listing
use Rattle.ds_words.specs.declared.words.BareRequest.{BareRequest}
use Rattle.ds_words.specs.declared.words.BareStart.{BareStart}
use Rattle.ds_drive.specs.declared.bare.BareInputs.{BareInputs}
use Rattle.ds_drive.specs.declared.refused.FaultySource.{FaultySource}
use Rattle.ds_drive.specs.BareRuns.{RunsBare, HasBareFaults, HoldsBare}

-- what a refusal of a bare run is to the program
abbrev pub of_bare : BareFault → Fault
of_bare bare.BadRandom = fault.BadRandom
of_bare bare.WriteFault = fault.WriteFault
of_bare bare.Memory = fault.Memory

-- what comes of it: the run is told, or the faults are all that the source has, and nothing is written
abbrev pub RunsOrIsFaulty : Listing → (List ℕ → List ℕ → Type 0) → BareRequest → Option (List ℕ) → Option (List ℕ) → Type 0
RunsOrIsFaulty listing.Written holds request old new = RunsBare holds request old new
RunsOrIsFaulty (listing.Faults source) holds request old new = HasBareFaults holds request.start source.text.items source.faults.items × Keeps old new

-- what comes of reading: an image and characters, or the faults are all that the source has
abbrev pub IsReadBare : Result BareInputs FaultySource → (List ℕ → List ℕ → Type 0) → BareStart → Type 0
IsReadBare (Ok inputs) holds start = HoldsBare holds start inputs.image inputs.keys.items
IsReadBare (Err source) holds start = HasBareFaults holds start source.text.items source.faults.items
