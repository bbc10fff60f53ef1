-- The lines of a log, each told with what a station holds that has run to its time.
use Rattle.std.specs.Prelude.{◌≡◌, ℕ, ◌==◌, ◌&&◌, Bool, true, false, not, nat_le, nat_lt, min, if◌then◌else◌, List, [], ◌∷◌, ◌++◌, length, slice_index, Option, Some, None}
use Rattle.ds_log.specs.declared.line.Line.{Line}
use Rattle.ds_log.specs.declared.line.Line.TheVariants.{Denial, Refused}
use Rattle.ds_policy.specs.Pages.{entries_of}
use Rattle.ds_refinement.specs.declared.step.Step.{Step}
use Rattle.ds_refinement.specs.declared.step.Step.TheVariants as step
use Rattle.ds_refinement.specs.Held.{Held}
use Rattle.ds_refinement.specs.Real.{IsReal, RealPath}
use Rattle.ds_refinement.specs.Runs.{RunsTo}
use Rattle.ds_refinement.specs.Steps.{Follows, Moves}
use Rattle.ds_station.specs.Reads.{address_held, fetched, general_held, memory_held}
use Rattle.ds_log_reasons.specs.Lines.{log_line_of}
use Rattle.ds_log_reasons.specs.Sentences.{Placed, Sighted, denial_text, refused_text}
use Rattle.ds_log_reasons.specs.declared.sentences.Denial as denial

-- the time of a line
abbrev pub line_time : Line → ℕ
line_time (Denial time process pc kind addr rule code) = time
line_time (Refused time command number) = time

-- what a station holds at three moments of a unit: where it begins, before its last instruction, and where it is over
pub record Moments : Type 0 where
  pub first : Held
  pub last : Held
  pub after : Held

-- where it does not go on
abbrev pub still : Held → Moments
still h = record { first = h; last = h; after = h }

-- a step of this kind
abbrev pub Steps : Step → Held → Held → Type 0
Steps kind old new = Follows kind old new × Moves kind old new × IsReal old new

-- the unit goes on after a step of this kind
abbrev pub is_inside : Step → Bool
is_inside step.Inside = true
is_inside other = false

-- steps inside of a unit, by the states that they begin from, the newest first
abbrev pub Inside : Held → List Held → Held → Type 0
Inside first [] new = new ≡ first
Inside first (last ∷ before) new = Steps step.Inside last new × Inside first before last

-- the newest of these states; where there is none, the first
abbrev pub newest_state : Held → List Held → Held
newest_state first [] = first
newest_state first (last ∷ before) = last

-- A unit goes on to its end. Its last step is the service of an exception, where one stopped it; so the step before that was the instruction which was stopped.
pub record IsUnit (m : Moments) : Type 0 where
  pub before : List Held
  pub served : Held
  pub inside : Inside m.first before served
  pub last : m.last ≡ newest_state m.first before
  pub kind : Step
  pub over : is_inside kind ≡ false
  pub ends : Steps kind served m.after

-- there is a process of this number, and time for a unit
abbrev pub is_there : Held → ℕ → Bool
is_there h p = (not (p == 0) && nat_le p (length h.kept.state.processes)) && nat_lt h.kept.state.time 1000000000

-- what is seen of a process, and the word at an address
abbrev pub sighted_held : Moments → ℕ → ℕ → Sighted
sighted_held m p pc = record {
  unit = address_held m.first p;
  word = fetched (memory_held m.first) p pc;
  general = general_held m.last p;
  late = m.last.core.registers.late;
  entries = entries_of m.first.kept.grants.table p;
  answer = slice_index (general_held m.after p) 2;
}

-- what is told of a denial, if there is such a process
abbrev pub denied_text : Placed → denial.Denial → Moments → List ℕ
denied_text x d m = if is_there m.first d.process then denial_text x d (sighted_held m d.process d.pc) else []

-- what is told of a line
abbrev pub known_text : Placed → Line → Moments → List ℕ
known_text x (Denial time process pc kind addr rule code) m = denied_text x (record { process = process; pc = pc; kind = kind; addr = addr; rule = rule; code = code }) m
known_text x (Refused time command number) m = refused_text command number

-- what is told of a text, where it is a line of a log
abbrev pub said_text : Placed → Option Line → Moments → List ℕ
said_text x None m = []
said_text x (Some l) m = known_text x l m

-- the text itself, and what is told of it
abbrev pub told_text : Placed → List ℕ → Moments → List ℕ
told_text x line m = (line ++ 10 ∷ []) ++ said_text x (log_line_of line) m

-- the unit goes on to its end, or the station stays
abbrev pub UnitWhere : Bool → Moments → Type 0
UnitWhere true m = IsUnit m
UnitWhere false m = m ≡ still m.first

-- how a station goes on from the time of a line: of a denial to the end of the unit
abbrev pub GoesOn : Line → Moments → Type 0
GoesOn (Denial time process pc kind addr rule code) m = UnitWhere (is_there m.first process) m
GoesOn (Refused time command number) m = m ≡ still m.first

-- It goes on to the time of a line, or to that of the run where it is earlier, by real steps, and from there.
abbrev pub RunsFor : ℕ → Option Line → Held → Moments → Type 0
RunsFor n None h m = m ≡ still h
RunsFor n (Some l) h m = RunsTo (min (line_time l) n) h m.first × RealPath h m.first × GoesOn l m

-- Each of these lines is told once, in their order, each by what the station holds at its time: it goes on from one line to the next.
abbrev pub AreTold : Placed → ℕ → Held → List (List ℕ) → List ℕ → Type 0
AreTold x n h [] text = text ≡ []
AreTold x n h (line ∷ lines) text = (m : Moments) × (rest : List ℕ) × RunsFor n (log_line_of line) h m × (text ≡ told_text x line m ++ rest) × AreTold x n m.after lines rest
