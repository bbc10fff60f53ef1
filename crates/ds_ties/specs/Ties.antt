-- What ties a process to the others, by the rules of a policy and the commands of an input.
use Rattle.std.specs.Prelude.{ℕ, ◌+◌, ◌==◌, not, if◌then◌else◌, List, [], ◌∷◌, Option, None, Some, option_map}
use Rattle.std.specs.Option.{option_or}
use Rattle.ds_policy.specs.declared.command.TimedCommand.{TimedCommand}
use Rattle.ds_policy.specs.declared.grant.Entry.{Entry}
use Rattle.ds_policy.specs.Pages.{Table, entries_of}
use Rattle.ds_pagemap.specs.Laws.{process_named}
use Rattle.ds_alone.specs.Tests.{is_lasting, is_elsewhere, leaves_alone, lets_give}
use Rattle.ds_ties.specs.declared.ties.Tie.{Tie}
use Rattle.ds_ties.specs.declared.ties.Tie.TheVariants.{Ends, Shares, Names, Grants, MayGive, LetsGive}

-- the rule of the first of its entries that doesn't last
abbrev pub ending_rule : List Entry → Option ℕ
ending_rule [] = None
ending_rule (e ∷ es) = if not (is_lasting e.grant) then Some e.grant.rule else ending_rule es

-- the rule of the first of these entries that gives a right to a page of its own
abbrev pub shared_rule : List Entry → List Entry → Option ℕ
shared_rule mine [] = None
shared_rule mine (e ∷ es) = if not (is_elsewhere mine e.grant) then Some e.grant.rule else shared_rule mine es

-- the same, of the entries of process n, where that is another
abbrev pub shared_with : List Entry → ℕ → ℕ → List Entry → Option ℕ
shared_with mine p n es = if n == p then None else shared_rule mine es

-- the same, of processes, of which the first is process n
abbrev pub shared_among : List Entry → ℕ → ℕ → Table → Option ℕ
shared_among mine p n [] = None
shared_among mine p n (es ∷ rows) = option_or (shared_with mine p n es) (shared_among mine p (n + 1) rows)

-- the rule of the first of these entries that its process may give on
abbrev pub giving_rule : List Entry → Option ℕ
giving_rule [] = None
giving_rule (e ∷ es) = if e.grant.give then Some e.grant.rule else giving_rule es

-- the same, of processes
abbrev pub giving_among : Table → Option ℕ
giving_among [] = None
giving_among (es ∷ rows) = option_or (giving_rule es) (giving_among rows)

-- the tie of a command that doesn't leave process p alone: it names it, or grants a page of its own
abbrev pub tie_by : ℕ → TimedCommand → Tie
tie_by p c = if process_named c.command == p then Names c.number else Grants c.number

-- that of the first such command
abbrev pub commanded_tie : Table → ℕ → List TimedCommand → Option Tie
commanded_tie table p [] = None
commanded_tie table p (c ∷ cs) = if not (leaves_alone table p c.command) then Some (tie_by p c) else commanded_tie table p cs

-- the number of the first command that lets a process give
abbrev pub letting_command : List TimedCommand → Option ℕ
letting_command [] = None
letting_command (c ∷ cs) = if lets_give c.command then Some c.number else letting_command cs

-- what ties process p to the others, if anything does: the first of these
abbrev pub tie_of : Table → List TimedCommand → ℕ → Option Tie
tie_of table commands p =
    option_or (option_map Ends (ending_rule (entries_of table p)))
    (option_or (option_map Shares (shared_among (entries_of table p) p 1 table))
    (option_or (commanded_tie table p commands)
    (option_or (option_map MayGive (giving_among table))
    (option_map LetsGive (letting_command commands)))))
