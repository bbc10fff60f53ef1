-- What ties each process to the others, as a reader is told it.
use Rattle.std.specs.Prelude.{codes, decimal, ℕ, ◌+◌, ◌++◌, List, [], ◌∷◌, Option, None, Some}
use Rattle.ds_policy.specs.declared.policy.PolicyProcess.{PolicyProcess}
use Rattle.ds_policy.specs.FirstTable.{table_of}
use Rattle.ds_policy.specs.Pages.{Table}
use Rattle.ds_policy.specs.Value.{InputValue, PolicyValue}
use Rattle.ds_ties.specs.declared.ties.Tie.{Tie}
use Rattle.ds_ties.specs.declared.ties.Tie.TheVariants.{Ends, Shares, Names, Grants, MayGive, LetsGive}
use Rattle.ds_ties.specs.Ties.{tie_of}

-- a rule or a command, with what it does
abbrev pub numbered : List ℕ → ℕ → List ℕ → List ℕ
numbered before number what = before ++ (decimal number ++ what)

-- what a tie is
abbrev pub why_text : Tie → List ℕ
why_text (Ends rule) = numbered (codes "its right by rule ") rule (codes " has an end\n")
why_text (Shares rule) = numbered (codes "rule ") rule (codes " gives a page that it has to another process\n")
why_text (Names command) = numbered (codes "command ") command (codes " is about it\n")
why_text (Grants command) = numbered (codes "command ") command (codes " grants a page that it has\n")
why_text (MayGive rule) = numbered (codes "rule ") rule (codes " lets a process give a page on\n")
why_text (LetsGive command) = numbered (codes "command ") command (codes " lets a process give a page on\n")

-- that it is tied to the others, and why
abbrev pub tied_text : Tie → List ℕ
tied_text tie = codes ": it may tell who else is there, since " ++ why_text tie

-- what is said of a process, by what ties it to the others; where nothing does, what its program may do all the same to tell who is there
abbrev pub tie_text : Option Tie → List ℕ
tie_text (Some tie) = tied_text tie
tie_text None = codes ": it can't tell who else is there, unless it calls `time`, `give` or `take`; calls `get` or `wait` where its line gets characters; or reads register 26, 27 or one still being loaded\n"

-- process n
abbrev pub process_text : Table → InputValue → ℕ → List ℕ
process_text table input n = codes "process " ++ (decimal n ++ tie_text (tie_of table input.commands n))

-- processes, of which the first is process n
abbrev pub process_texts : Table → InputValue → ℕ → List PolicyProcess → List ℕ
process_texts table input n [] = []
process_texts table input n (p ∷ ps) = process_text table input n ++ process_texts table input (n + 1) ps

-- what ties the processes of a policy to each other, where it is run with an input
abbrev pub ties_text : PolicyValue → InputValue → List ℕ
ties_text policy input = process_texts (table_of policy) input 1 policy.processes
