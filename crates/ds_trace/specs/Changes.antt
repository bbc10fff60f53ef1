-- The lines of who runs, and how each stands.
use Rattle.std.specs.Prelude.{codes, decimal, ℕ, ◌+◌, ◌-◌, Bool, true, false, ◌==◌, ◌&&◌, ◌||◌, not, if◌then◌else◌, List, [], ◌∷◌, ◌++◌, slice_get, Option, Some, None}
use Rattle.ds_procs.specs.declared.process.Standing.{Standing}
use Rattle.ds_procs.specs.declared.process.Standing.TheVariants.{Ready, Waiting, Parked, Ended}
use Rattle.ds_pagemap.specs.Boundary.{is_first}
use Rattle.ds_words.specs.declared.view.View.{View}
use Rattle.ds_words.specs.Views.{shows_process, shows_switches}
use Rattle.ds_trace.specs.Looks.{Looked, Found}

-- how a process stands
abbrev pub standing_text : Standing → List ℕ
standing_text Ready = codes "ready"
standing_text Waiting = codes "waiting"
standing_text Parked = codes "parked"
standing_text Ended = codes "ended"

-- whether two stand alike
abbrev pub same_standing : Standing → Standing → Bool
same_standing Ready Ready = true
same_standing Waiting Waiting = true
same_standing Parked Parked = true
same_standing Ended Ended = true
same_standing s t = false

-- the line of a process that stands otherwise than before
abbrev pub standing_line : View → ℕ → ℕ → Option Standing → Standing → List ℕ
standing_line v time p None t = []
standing_line v time p (Some s) t =
    if not (same_standing s t) && shows_process v p then decimal time ++ codes " " ++ decimal p ++ codes " " ++ standing_text t ++ codes "\n" else []

-- those of processes, the first of which has this number
abbrev pub standings_text : View → ℕ → List Standing → ℕ → List Standing → List ℕ
standings_text v time before p [] = []
standings_text v time before p (t ∷ rest) = standing_line v time p (slice_get before (p - 1)) t ++ standings_text v time before (p + 1) rest

-- whether it stands ready
abbrev pub is_ready : Option Standing → Bool
is_ready (Some Ready) = true
is_ready other = false

-- the line of the process that ran, where it is still ready and another is before it
abbrev pub way_text : View → Found → Option ℕ → List ℕ
way_text v f None = []
way_text v f (Some p) =
    if not (is_first f.runner p) && (is_ready (slice_get f.standings (p - 1)) && shows_process v p)
    then decimal f.time ++ codes " " ++ decimal p ++ codes " gives way\n" else []

-- whether the same process is first, or nobody
abbrev pub same_first : Option ℕ → Option ℕ → Bool
same_first None None = true
same_first None (Some q) = false
same_first (Some p) None = false
same_first (Some p) (Some q) = p == q

-- who runs from a time on
abbrev pub runner_text : ℕ → Option ℕ → List ℕ
runner_text time None = decimal time ++ codes " nobody runs\n"
runner_text time (Some p) = decimal time ++ codes " " ++ decimal p ++ codes " runs\n"

-- whether a process is one that is told of
abbrev pub is_shown : View → Option ℕ → Bool
is_shown v None = false
is_shown v (Some p) = shows_process v p

-- a line where another process runs than before, and one of the two is told of
abbrev pub switch_text : View → ℕ → Option ℕ → Option ℕ → List ℕ
switch_text v time before after =
    if not (same_first before after) && (is_shown v before || is_shown v after) then runner_text time after else []

-- who stands otherwise, who gives way, and who runs
abbrev pub changes_text : View → Looked → Found → List ℕ
changes_text v b f =
    if shows_switches v then
    standings_text v f.time b.standings 1 f.standings ++ way_text v f b.runner ++ switch_text v f.time b.runner f.runner
    else []
