-- What a trace tells of the whole run before how each process stands.
use Rattle.std.specs.Prelude.{codes, decimal, ℕ, ◌+◌, ◌==◌, if◌then◌else◌, List, [], ◌∷◌, ◌++◌, length}
use Rattle.ds_words.specs.declared.view.View.{View}
use Rattle.ds_words.specs.Views.{has_lines}
use Rattle.ds_trace.specs.Counts.{Counted}
use Rattle.ds_trace.specs.Logs.{lines_of, denied_rules, rules_text}

-- the name of a call by its number
abbrev pub call_name : ℕ → List ℕ
call_name n =
    if n == 0 then codes "exit" else
    if n == 1 then codes "put" else
    if n == 2 then codes "get" else
    if n == 3 then codes "yield" else
    if n == 4 then codes "time" else
    if n == 5 then codes "self" else
    if n == 6 then codes "give" else
    if n == 7 then codes "take" else
    if n == 8 then codes "drop" else
    if n == 9 then codes "wait" else codes "unknown"

-- how often a call was made, where it was
abbrev pub call_line : ℕ → ℕ → List ℕ
call_line n count = if count == 0 then [] else codes "call " ++ call_name n ++ codes " " ++ decimal count ++ codes "\n"

-- those of calls, the first of which has this number
abbrev pub calls_text : ℕ → List ℕ → List ℕ
calls_text n [] = []
calls_text n (count ∷ rest) = call_line n count ++ calls_text (n + 1) rest

-- from when on is counted, and how many half turns were what
abbrev pub halves_text : ℕ → Counted → List ℕ
halves_text from k = codes "from " ++ decimal from ++ codes " units " ++ decimal k.units ++ codes " idle " ++ decimal k.idle ++ codes " switches " ++ decimal k.switches

-- how many calls, denials, gives by copy and lost characters there were
abbrev pub event_counts_text : Counted → ℕ → List ℕ
event_counts_text k denials = codes " calls " ++ decimal k.made ++ codes " denials " ++ decimal denials ++ codes " copies " ++ decimal k.copies ++ codes " lost " ++ decimal k.lost

-- the line of all counts, with this number of denials
abbrev pub totals_text : ℕ → Counted → ℕ → List ℕ
totals_text from k denials = halves_text from k ++ event_counts_text k denials ++ codes "\n"

-- the counts of the turns from a time on: all of them, each call, and what was denied by each of these rules
abbrev pub counts_text : ℕ → Counted → List (List ℕ) → List ℕ
counts_text from k rules = totals_text from k (length rules) ++ calls_text 0 k.calls ++ rules_text [] rules

-- where the end alone is told, the time, and what was denied by each of these rules
abbrev pub end_time_text : ℕ → List (List ℕ) → List ℕ
end_time_text time rules = codes "time " ++ decimal time ++ codes "\n" ++ rules_text [] rules

-- what is told of the whole run, by its counts, its last time, and the lines of its log
abbrev pub summary_text : View → Counted → ℕ → List (List ℕ) → List ℕ
summary_text v k time lines = if has_lines v then counts_text v.from k (denied_rules (lines_of k.denied)) else end_time_text time (denied_rules lines)
