-- The line that tells of a process that has not ended, where all have to.
use Rattle.std.specs.Prelude.{codes, decimal, ℕ, List, [], ◌++◌}
use Rattle.ds_text.specs.Digits.{hex8}
use Rattle.ds_procs.specs.declared.process.Standing.{Standing}
use Rattle.ds_procs.specs.declared.process.Standing.TheVariants.{Ready, Waiting, Parked, Ended}
use Rattle.ds_refinement.specs.Held.{Held}
use Rattle.ds_station.specs.Reads.{address_held}
use Rattle.ds_station.specs.declared.outcome.Unended.{Unended}
use Rattle.ds_trace.specs.Accounts.{why_parked_text}
use Rattle.ds_trace.specs.Logs.{lines_of}

-- how it stands, before the address
abbrev pub unended_words : Standing → List ℕ
unended_words Ready = codes "it is ready at "
unended_words Waiting = codes "it waits for a character at "
unended_words Parked = codes "it is parked at "
unended_words Ended = codes "it has ended at "

-- after the address, of a process that could go on
abbrev pub ticks_words : Standing → List ℕ
ticks_words Ready = codes ", and the ticks ran out"
ticks_words other = []

-- which process has not ended
abbrev pub which_text : ℕ → List ℕ
which_text p = codes "dsmon: process " ++ decimal p ++ codes " has not ended: "

-- how it stands and where
abbrev pub where_text : Standing → ℕ → List ℕ
where_text standing pc = unended_words standing ++ hex8 pc

-- the line of a process by these lines of the log: its number, how it stands and where, and why
abbrev pub unended_text : List (List ℕ) → ℕ → Standing → ℕ → List ℕ
unended_text lines p standing pc = (which_text p ++ where_text standing pc) ++ ticks_words standing ++ why_parked_text lines p standing ++ codes "\n"

-- by what a station holds
abbrev pub unended_line : Held → Unended → List ℕ
unended_line h u = unended_text (lines_of h.kept.log) u.process u.standing (address_held h u.process)
