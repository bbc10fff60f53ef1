-- What is told of a run in plain words, with what was counted of it.
use Rattle.std.specs.Prelude.{◌≡◌, ◌⊎◌, false, ℕ, List, [], Option, Some, None, Ok}
use Rattle.std.specs.Io.KnownBytes.{Appends, Keeps}
use Rattle.ds_text.specs.Sent.{AppendsPart}
use Rattle.ds_listing.specs.declared.names.RegisterNames.TheVariants.{Numbers}
use Rattle.ds_policy.specs.Value.{InputValue}
use Rattle.ds_policy.specs.InputText.{input_of}
use Rattle.ds_policy.specs.declared.policy.PolicyPage.{PolicyPage}
use Rattle.ds_pagemap.specs.Machine.{State}
use Rattle.ds_pagemap.specs.Run.{Ends, Reaches}
use Rattle.ds_pagemap.specs.Text.{state_text}
use Rattle.ds_refinement.specs.Held.{Held}
use Rattle.ds_refinement.specs.Stands.{Stands}
use Rattle.ds_station.specs.Headline.{held_text}
use Rattle.ds_station.specs.declared.fault.Fault.{Fault}
use Rattle.ds_station.specs.declared.fault.Fault.TheVariants as fault
use Rattle.ds_words.specs.declared.view.View.{View}
use Rattle.ds_words.specs.declared.view.Only.TheVariants.{Calls}
use Rattle.ds_words.specs.Sets.{no_processes}
use Rattle.ds_words.specs.Views.{whole}
use Rattle.ds_trace.specs.Counts.{Counted}
use Rattle.ds_trace.specs.Processors.{CameTo}
use Rattle.ds_trace.specs.Inner.Shows.{IsCutIf, IsStopped, Traces}
use Rattle.ds_trace.specs.Traces.{counts_along, WritesTraceBy}
use Rattle.ds_trace.specs.Summed.{summed_text}

-- with those of an input's text, as it is read under a policy's pages
abbrev pub TellsOf : List PolicyPage → List ℕ → ℕ → Counted → Held → List ℕ → Type 0
TellsOf pages input n k h text = (said : InputValue) → input_of pages input ≡ Ok said → text ≡ summed_text n said.characters k h

-- A view by which all turns are counted, and none of them is told.
abbrev pub counting : View
counting = record { from = 0; to = None; processes = Some no_processes; only = Some Calls; processor = false; entries = false; names = Numbers; source = false; pages = record { ref_ptr = (0, 0); now = [] } }

-- a run for n from m has come to a state that a station stands for, with these counts of all its turns; the station began at a start
pub record IsCountedTo (n : ℕ) (start : Held) (m : State) (h : Held) (k : Counted) : Type 0 where
  pub last : State
  pub reached : Reaches n m last
  pub stands : Stands h last
  pub counted : k ≡ counts_along whole n reached.choices m
  pub came : CameTo start last

-- each run from there is counted to its end, or to where a fault cut it short
pub record CountsAll (cut : Option Fault) (n : ℕ) (from h : Held) (k : Counted) : Type 0 where
  pub runs : (m : State) → Stands from m → IsCountedTo n from m h k
  pub stopped : IsStopped cut n h
  pub refused : IsCutIf cut from h

-- each run from there is counted to its end, a text tells of it, by an input under a policy's pages, and its own text is written
pub record SumsUp (pages : List PolicyPage) (input text : List ℕ) (n : ℕ) (from to : Held) (old new : Option (List ℕ)) : Type 0 where
  pub counts : Counted
  pub all : CountsAll None n from to counts
  pub told : TellsOf pages input n counts to text
  pub written : Appends old new (held_text to)

-- memory ran out for it, and its text so far is written
pub record CountsShort (n : ℕ) (from to : Held) (old new : Option (List ℕ)) : Type 0 where
  pub counts : Counted
  pub all : CountsAll (Some fault.Memory) n from to counts
  pub written : Appends old new (held_text to)

-- it ended or was cut short, and a part of its text is written
pub record CountsPart (n : ℕ) (from to : Held) (old new : Option (List ℕ)) : Type 0 where
  pub cut : Option Fault
  pub counts : Counted
  pub all : CountsAll cut n from to counts
  pub written : AppendsPart old new (held_text to)

-- what is written of a run that is counted where each fault comes
abbrev pub SumsUpShort : Fault → ℕ → Held → Held → Option (List ℕ) → Option (List ℕ) → Type 0
SumsUpShort fault.Memory n from to old new = Keeps old new ⊎ CountsShort n from to old new
SumsUpShort fault.WriteFault n from to old new = CountsPart n from to old new
SumsUpShort f n from to old new = ⊥

-- A run for n from the first state has ended in a state for which the station stands, its text is written, and this is told of it,
-- with the counts of all its turns.
pub record WritesSummed (text : List ℕ) (h : Held) (old new : Option (List ℕ)) (n : ℕ) (first : State) : Type 0 where
  pub last : State
  pub ends : Ends n first last
  pub stands : Stands h last
  pub written : Appends old new (state_text last)
  pub told : text ≡ summed_text n first.characters (counts_along whole n ends.reached.choices first) h

-- Its trace is written, and its text, and this is told of it, with the counts of the turns that the view wants.
pub record WritesTraceSummed (v : View) (text : List ℕ) (h : Held) (old new : Option (List ℕ)) (n : ℕ) (first : State) : Type 0 where
  pub trace : WritesTraceBy v h old new n first
  pub told : text ≡ summed_text n first.characters (counts_along v n trace.ends.reached.choices first) h

-- each run from there is traced to its end, and a text tells of it, by an input under a policy's pages
pub record TracesSummed (v : View) (pages : List PolicyPage) (input text : List ℕ) (n : ℕ) (from to : Held) (old new : Option (List ℕ)) : Type 0 where
  pub counts : Counted
  pub traces : Traces v n from to old new counts
  pub told : TellsOf pages input n counts to text
