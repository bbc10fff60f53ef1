-- The lines of a log, each told with what a station holds that has run to its time.
use Rattle.std.specs.Prelude.{◌≡◌, ℕ, List, ◌++◌}
use Rattle.ds_log.specs.declared.line.Line.{Line}
use Rattle.ds_refinement.specs.Held.{Held}
use Rattle.ds_station.specs.Reads.{general_held}
use Rattle.ds_log_reasons.specs.Lines.{log_line_of}
use Rattle.ds_log_reasons.specs.Sentences.{Placed}
use Rattle.ds_log_reasons.specs.declared.sentences.Denial as denial
use Rattle.ds_explain.specs.declared.moments.Found.{Found}
use Rattle.ds_explain.specs.Moments.{Moments, IsUnit, is_there, denied_text, known_text, told_text, UnitWhere, GoesOn, RunsFor}

abbrev pub moments : Held → Held → Held → Moments
moments first last after = record { first = first; last = last; after = after }

-- the registers of a process, and the one whose load is late
abbrev pub found_held : Held → ℕ → Found
found_held h p = record { general = general_held h p; late = h.core.registers.late }

-- these are those before the last instruction of the unit that goes on to its end
abbrev pub IsStopped : ℕ → Found → Held → Held → Type 0
IsStopped p found h new = (last : Held) × IsUnit (moments h last new) × (found ≡ found_held last p)

-- the unit goes on where there is such a process, and what is told of the denial is added
abbrev pub IsShown : Placed → denial.Denial → Held → Held → List ℕ → List ℕ → Type 0
IsShown x d h new text more = (last : Held) × UnitWhere (is_there h d.process) (moments h last new) × (more ≡ text ++ denied_text x d (moments h last new))

-- it does so from the time of a line, and what is told of that is added
abbrev pub IsKnown : Placed → Line → Held → Held → List ℕ → List ℕ → Type 0
IsKnown x l h new text more = (last : Held) × GoesOn l (moments h last new) × (more ≡ text ++ known_text x l (moments h last new))

-- it does, and what is told of the line by what it holds there is added
abbrev pub IsTold : Placed → ℕ → List ℕ → Held → Held → List ℕ → List ℕ → Type 0
IsTold x n line h new text more = (first : Held) × (last : Held) × RunsFor n (log_line_of line) h (moments first last new) × (more ≡ text ++ told_text x line (moments first last new))
