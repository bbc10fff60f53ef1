-- What the processor did in a run, and what is told of it. It depends on Random.
use Rattle.std.specs.Prelude.{codes, decimal, ◌≡◌, ◌⊎◌, ⊤, ℕ, ◌+◌, ◌*◌, ◌%◌, ◌^◌, Bool, true, false, if◌then◌else◌, List, [], ◌∷◌, ◌++◌, Option, Some, None, min, nat_lt, is_some, ◌||◌, ◌&&◌}
use Rattle.std.specs.List.{All}
use Rattle.ds_text.specs.Digits.{hex8}
use Rattle.ds_text.specs.Words.{read_word, write_word}
use Rattle.ds_tlb.specs.declared.entry.Entry.{Entry}
use Rattle.ds_pagemap.specs.Machine.{State}
use Rattle.ds_pagemap.specs.Run.{goes_on, Reaches}
use Rattle.ds_refinement.specs.Held.{Held}
use Rattle.ds_refinement.specs.Stands.{Stands}
use Rattle.ds_refinement.specs.Real.{RealPath, Through}
use Rattle.ds_station.specs.declared.stage.Stage.{Stage}
use Rattle.ds_station.specs.declared.stage.Stage.TheVariants.{Rest, Instruction, Refill, Service, DoubleMiss}
use Rattle.ds_station.specs.Reads.{stage_of}
use Rattle.ds_words.specs.declared.view.View.{View}
use Rattle.ds_words.specs.Views.{has_lines, is_before}
use Rattle.ds_trace.specs.declared.processor.ProcessorCounts.{ProcessorCounts}

-- Counts.

-- nothing is counted
abbrev pub none_processed : ProcessorCounts
none_processed = record { instructions = 0; refills = 0; double_misses = 0; services = 0 }

-- what is counted after a step of this stage: a word of the refill handler is an instruction, and a double miss takes a service
abbrev pub stage_after : ProcessorCounts → Stage → ProcessorCounts
stage_after c Rest = c
stage_after c Instruction = record c { instructions = c.instructions + 1 }
stage_after c Refill = record c { instructions = c.instructions + 1; refills = c.refills + 1 }
stage_after c Service = record c { services = c.services + 1 }
stage_after c DoubleMiss = record c { double_misses = c.double_misses + 1; services = c.services + 1 }

-- after a step from what a station holds
abbrev pub processor_after : ProcessorCounts → Held → ProcessorCounts
processor_after c h = stage_after c (stage_of h)

-- along steps, the newest first, each by what was held before it
abbrev pub processor_along : List Held → ProcessorCounts
processor_along [] = none_processed
processor_along (last ∷ before) = processor_after (processor_along before) last

-- Texts.

-- a count after its name
abbrev pub named_text : List ℕ → ℕ → List ℕ
named_text name count = name ++ decimal count

-- the line of the counts
abbrev pub processor_line : ProcessorCounts → List ℕ
processor_line c =
    named_text (codes "processor instructions ") c.instructions ++ named_text (codes " refills ") c.refills
    ++ named_text (codes " double ") c.double_misses ++ named_text (codes " services ") c.services ++ codes ", as Random fell\n"

-- what may be done with a page, by the dirty bit
abbrev pub dirty_text : Bool → List ℕ
dirty_text dirty = if dirty then write_word else read_word

-- the line of an entry: its slot, the page's address, the address space's number, the frame's address, and what may be done
abbrev pub buffer_entry_line : ℕ → Entry → List ℕ
buffer_entry_line slot e =
    codes "entry " ++ decimal slot ++ codes " " ++ hex8 (e.vpn % 2 ^ 20 * 2 ^ 12) ++ codes " " ++ decimal e.asid
    ++ codes " " ++ hex8 (e.pfn % 2 ^ 20 * 2 ^ 12) ++ codes " " ++ dirty_text e.d ++ codes "\n"

-- an entry that is not valid has no line
abbrev pub valid_entry_text : ℕ → Entry → List ℕ
valid_entry_text slot e = if e.v then buffer_entry_line slot e else []

-- the lines of entries, of which the first is in this slot
abbrev pub buffer_lines_text : ℕ → List Entry → List ℕ
buffer_lines_text slot [] = []
buffer_lines_text slot (e ∷ rest) = valid_entry_text slot e ++ buffer_lines_text (slot + 1) rest

-- what the processor did, and what its buffer holds
abbrev pub processor_text : ProcessorCounts → List Entry → List ℕ
processor_text c entries = processor_line c ++ buffer_lines_text 0 entries

-- Where a window ends.

-- the end of a window, where a view has one, and wants lines and what the processor did
abbrev pub window_end : View → Option ℕ
window_end v = if v.processor && has_lines v then v.to else None

-- a boundary is owed, or the time is before the end of a window, where there is one
abbrev pub is_in_window : Option ℕ → Held → Bool
is_in_window end h = is_some h.kept.state.owed || is_before end h.kept.state.time

-- the station at which a run left the window before, or else this one, if it is no longer within the window
abbrev pub left_by : Option ℕ → Option Held → Held → Option Held
left_by end (Some before) h = Some before
left_by end None h = if is_in_window end h then None else Some h

-- of these stations, the newest first, the first that is no longer within the window
abbrev pub left_along : Option ℕ → List Held → Option Held
left_along end [] = None
left_along end (last ∷ before) = left_by end (left_along end before) last

-- the time at which a run left the window, and the lines of what the buffer holds there
abbrev pub window_left_text : Held → List ℕ
window_left_text h = codes "entries at " ++ decimal h.kept.state.time ++ codes ", as Random fell\n" ++ buffer_lines_text 0 h.core.entries

-- nothing, where it did not
abbrev pub window_text : Option Held → List ℕ
window_text None = []
window_text (Some h) = window_left_text h

-- where it did, a run for n from this state came there, and no instruction of a unit is counted there: it is between two turns
abbrev pub IsPassed : ℕ → State → Option Held → Type 0
IsPassed n first None = ⊤
IsPassed n first (Some h) = (h.own.spent ≡ 0) × ((m : State) × Reaches n first m × Stands h m)

-- What was counted.

-- a boundary is owed, or the time of a run for n is not over
abbrev pub IsEarly : ℕ → Held → Type 0
IsEarly n h = (is_some h.kept.state.owed || nat_lt h.kept.state.time n) ≡ true

-- From the one to the other by real steps, each of which comes before the time n is over; this is what they count.
pub record StepsTo (n : ℕ) (from to : Held) (c : ProcessorCounts) : Type 0 where
  pub path : List Held
  pub through : Through from path to
  pub early : All (IsEarly n) path
  pub counts : c ≡ processor_along path

-- Of a run for n from first to last: a station came by real steps from where the run for k was over to where it stands for the
-- last state. This text tells what the buffer held at the first station on this way that was no longer within a window, if one was
-- not, and then what the steps count, and what the buffer holds in the end. Where the run for k was cut short, there are no steps.
pub record HasProcessed (window : Option ℕ) (k n : ℕ) (first last : State) (text : List ℕ) : Type 0 where
  pub begin : State
  pub reached : Reaches k first begin
  pub from : Held
  pub stands : Stands from begin
  -- there no instruction of a unit is counted
  pub unbegun : from.own.spent ≡ 0
  pub to : Held
  pub counts : ProcessorCounts
  pub steps : StepsTo n from to counts
  pub begins : (goes_on k begin ≡ false) ⊎ (steps.path ≡ [])
  pub comes : Stands to last
  -- where the window ended
  pub left : Option Held
  pub leaves : left ≡ left_along window (to ∷ steps.path)
  pub passed : IsPassed n first left
  pub told : text ≡ window_text left ++ processor_text counts to.core.entries

-- the time from which on a run for n is told step by step
abbrev pub told_from : View → ℕ → ℕ
told_from v n = if has_lines v then min v.from n else n

-- The same of a run of this station, as a view wants it: it came by real steps to where the steps that are counted begin.
pub record HasProcessedFrom (v : View) (n : ℕ) (start : Held) (first last : State) (text : List ℕ) : Type 0 where
  pub processed : HasProcessed (window_end v) (told_from v n) n first last text
  pub path : RealPath start processed.from

-- a text tells this if it is wanted, and else nothing
abbrev pub TellsIf : Bool → (List ℕ → Type 0) → List ℕ → Type 0
TellsIf false Tells text = text ≡ []
TellsIf true Tells text = Tells text

-- what the processor did, as a view wants it
abbrev pub TellsProcessor : View → ℕ → State → State → List ℕ → Type 0
TellsProcessor v n first last text = TellsIf v.processor (HasProcessed (window_end v) (told_from v n) n first last) text

-- a station came by real steps to where it stands for the last state
pub record CameTo (start : Held) (last : State) : Type 0 where
  pub to : Held
  pub path : RealPath start to
  pub comes : Stands to last

-- this station did, and what it did in that run
abbrev pub TellsFrom : View → ℕ → Held → State → State → List ℕ → Type 0
TellsFrom v n start first last text = CameTo start last × TellsIf v.processor (HasProcessedFrom v n start first last) text
