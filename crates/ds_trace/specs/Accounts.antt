-- An account of a run in plain words: whether it ended, how each process stands and why, and what was denied by each rule.
use Rattle.std.specs.Prelude.{codes, decimal, bytes_eq, ℕ, zero, suc, ◌+◌, ◌==◌, nat_lt, if◌then◌else◌, List, [], ◌∷◌, ◌++◌, length, Option, Some, None}
use Rattle.ds_text.specs.Digits.{hex8}
use Rattle.ds_procs.specs.declared.process.Standing.{Standing}
use Rattle.ds_procs.specs.declared.process.Standing.TheVariants.{Parked}
use Rattle.ds_pagemap.specs.Machine.{process_of}
use Rattle.ds_refinement.specs.Held.{Held}
use Rattle.ds_station.specs.Outcome.{first_unended}
use Rattle.ds_station.specs.Reads.{address_held}
use Rattle.ds_station.specs.declared.outcome.Unended.{Unended}
use Rattle.ds_trace.specs.Changes.{standing_text}
use Rattle.ds_trace.specs.Logs.{fourth_word, last_of, lines_of, denied_rules, rules_text, sixth_word}

-- what a rule does not let a process do, by what was denied
abbrev pub denied_words : List ℕ → List ℕ
denied_words kind = if bytes_eq kind (codes "store") then codes " does not grant writing here" else codes " grants nothing here"

-- by its number
abbrev pub number_words : List ℕ → List ℕ → List ℕ
number_words digits kind = if bytes_eq digits (codes "0") then codes "no rule grants anything here" else codes "rule " ++ digits ++ denied_words kind

-- what a rule says without a number: that of the upper half of addresses, of alignment, or of instructions
abbrev pub letter_words : ℕ → List ℕ
letter_words letter =
    if letter == 75 then codes "no process may use this address"
    else (if letter == 65 then codes "the address is not a multiple of the size" else codes "no process may do this instruction")

-- what a rule of a denial says in words: `r` and its number, or another letter
abbrev pub rule_words : List ℕ → List ℕ → List ℕ
rule_words [] kind = []
rule_words (letter ∷ digits) kind = if letter == 114 then number_words digits kind else letter_words letter

-- by which line of the log a process is parked, and its rule in words
abbrev pub why_by : Option (List ℕ) → List ℕ
why_by None = []
why_by (Some line) = codes " by " ++ line ++ codes ": " ++ rule_words (sixth_word line) (fourth_word line)

-- where it is parked
abbrev pub why_parked_text : List (List ℕ) → ℕ → Standing → List ℕ
why_parked_text lines p Parked = why_by (last_of p lines)
why_parked_text lines p other = []

-- the line of a process: its number, how it stands and where, and why
abbrev pub stands_text : List (List ℕ) → ℕ → Standing → ℕ → List ℕ
stands_text lines p standing pc =
    (codes "process " ++ decimal p ++ codes " " ++ standing_text standing ++ codes " " ++ hex8 pc) ++ why_parked_text lines p standing ++ codes "\n"

-- the lines of so many processes, the first of which has this number
abbrev pub all_stand : List (List ℕ) → Held → ℕ → ℕ → List ℕ
all_stand lines h p zero = []
all_stand lines h p (suc n) = stands_text lines p (process_of h.kept.state p).standing (address_held h p) ++ all_stand lines h (p + 1) n

-- whether all have ended, or a run for n is over, or it was stopped before
abbrev pub came_words : Option Unended → ℕ → ℕ → List ℕ
came_words None n time = codes "ended at "
came_words (Some u) n time = if nat_lt time n then codes "stopped at " else codes "out of ticks at "

-- how a run for n came to its end, and how all processes stand there, by these lines of the log
abbrev pub came_text : ℕ → List (List ℕ) → Held → List ℕ
came_text n lines h =
    (came_words (first_unended h.kept.state) n h.kept.state.time ++ decimal h.kept.state.time ++ codes "\n")
    ++ all_stand lines h 1 (length h.kept.state.processes)

-- what was denied by each rule
abbrev pub denied_by : List (List ℕ) → List ℕ
denied_by lines = rules_text [] (denied_rules lines)

-- the account of a run for n by what a station holds at its end
abbrev pub account_text : ℕ → Held → List ℕ
account_text n h = came_text n (lines_of h.kept.log) h ++ denied_by (lines_of h.kept.log)
