-- What was handed to a writer of a text.
use Rattle.std.specs.Prelude.{◌≡◌, ℕ, List, ◌++◌, Option}
use Rattle.std.specs.Io.KnownBytes.{Appends}
use Rattle.ds_refinement.specs.Held.{Held}
use Rattle.ds_station.specs.Headline.{held_text}
use Rattle.ds_station.specs.declared.fault.Fault.{Fault}
use Rattle.ds_station.specs.declared.fault.Fault.TheVariants as fault
use Rattle.ds_words.specs.declared.view.View.{View}
use Rattle.ds_trace.specs.Counts.{Counted}
use Rattle.ds_trace.specs.Inner.Shows.{end_held}

-- a front of a text is written, and the rest of it is to be written
pub record IsHandedOn (old new : Option (List ℕ)) (text rest : List ℕ) : Type 0 where
  pub sent : List ℕ
  pub appends : Appends old new sent
  pub whole : sent ++ rest ≡ text

-- a text and the end's text of a station with these counts are written, and then the station's own text
pub record IsFinished (v : View) (k : Counted) (old new : Option (List ℕ)) (text : List ℕ) (h : Held) : Type 0 where
  pub between : Option (List ℕ)
  pub trace : Appends old between (text ++ end_held v k h)
  pub written : Appends between new (held_text h)

-- a fault that comes while a run is told
abbrev pub IsLate : Fault → Type 0
IsLate fault.Memory = Unit {0}
IsLate fault.WriteFault = Unit {0}
IsLate _ = ⊥
