-- What is told of a run in plain words, with what was counted of it.
use Rattle.std.specs.Prelude.{codes, decimal, ℕ, ◌==◌, if◌then◌else◌, List, [], ◌++◌, slice_index}
use Rattle.ds_policy.specs.declared.command.Character.{Character}
use Rattle.ds_refinement.specs.Held.{Held}
use Rattle.ds_trace.specs.Accounts.{came_text, denied_by}
use Rattle.ds_trace.specs.Counts.{Counted}
use Rattle.ds_trace.specs.Logs.{lines_of}
use Rattle.ds_trace.specs.Losses.{losses_text}

-- how many calls there were of numbers that are no call
abbrev pub unknown_count_text : ℕ → List ℕ
unknown_count_text count =
    if count == 0 then []
    else (if count == 1 then codes "1 call of a number that is no call\n" else decimal count ++ codes " calls of numbers that are no call\n")

-- what was counted: such calls, and what was lost of these characters of the input
abbrev pub counted_text : List Character → Counted → List ℕ
counted_text all k = unknown_count_text (slice_index k.calls 10) ++ losses_text all k.losses

-- what is told of a run for n with these characters, by what was counted of it and what a station holds at its end
abbrev pub summed_text : ℕ → List Character → Counted → Held → List ℕ
summed_text n all k h = came_text n (lines_of h.kept.log) h ++ counted_text all k ++ denied_by (lines_of h.kept.log)
