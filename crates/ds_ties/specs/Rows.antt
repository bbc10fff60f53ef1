-- What ties a process to the others, worked out: each row is a theorem about the definitions alone.
use Rattle.std.specs.Prelude.{codes, refl, ◌≡◌, ◌++◌, ℕ, Bool, true, false, List, [], ◌∷◌, Option, None, Some}
use Rattle.std.specs.Fmt.{digits}
use Rattle.ds_policy.specs.declared.command.Command.{Command}
use Rattle.ds_policy.specs.declared.command.Command.TheVariants as command
use Rattle.ds_policy.specs.declared.command.TimedCommand.{TimedCommand}
use Rattle.ds_policy.specs.declared.grant.Grant.{Grant}
use Rattle.ds_policy.specs.declared.grant.Right.{Right}
use Rattle.ds_policy.specs.declared.grant.Right.TheVariants.{Nothing, Read, Write}
use Rattle.ds_policy.specs.declared.grant.Entry.{Entry}
use Rattle.ds_policy.specs.declared.policy.PolicyRule.{PolicyRule}
use Rattle.ds_policy.specs.Pages.{Table}
use Rattle.ds_policy.specs.Value.{PolicyValue}
use Rattle.ds_ties.specs.declared.ties.Tie.TheVariants.{Ends, Shares, Names, Grants, MayGive, LetsGive}
use Rattle.ds_ties.specs.Texts.{ties_text}
use Rattle.ds_ties.specs.Ties.{tie_of}

-- the entry of a rule over a page
abbrev entry : ℕ → Right → Option ℕ → Bool → Option ℕ → Entry
entry rule right page give until = record { address = 0x1000; grant = record { right = right; page = page; rule = rule; give = give; giver = 0; parent = None; until = until } }

-- process 1 has this, and process 2 page 2
abbrev table : Entry → Table
table mine = (mine ∷ []) ∷ (entry 2 Write (Some 2) false None ∷ []) ∷ []

-- process 1 has page 1
abbrev plain : Table
plain = table (entry 1 Write (Some 1) false None)

abbrev come : Command → List TimedCommand
come c = record { time = 5; number = 3; command = c } ∷ []

pub nothing_ties_who_has_a_page_of_its_own : tie_of plain [] 1 ≡ None
nothing_ties_who_has_a_page_of_its_own = refl

pub an_end_ties : tie_of (table (entry 1 Write (Some 1) false (Some 9))) [] 1 ≡ Some (Ends 1)
an_end_ties = refl

pub the_end_of_another_does_not : tie_of (table (entry 1 Write (Some 1) false (Some 9))) [] 2 ≡ None
the_end_of_another_does_not = refl

pub a_shared_page_ties : tie_of (table (entry 1 Read (Some 2) false None)) [] 1 ≡ Some (Shares 2)
a_shared_page_ties = refl

pub it_ties_the_other_too : tie_of (table (entry 1 Read (Some 2) false None)) [] 2 ≡ Some (Shares 1)
it_ties_the_other_too = refl

pub without_a_right_nothing_is_shared : tie_of (table (entry 1 Nothing (Some 2) false None)) [] 1 ≡ None
without_a_right_nothing_is_shared = refl

pub who_is_named_is_tied : tie_of plain (come (command.Stop 1)) 1 ≡ Some (Names 3)
who_is_named_is_tied = refl

pub a_neighbour_that_is_stopped_does_not_tie : tie_of plain (come (command.Stop 2)) 1 ≡ None
a_neighbour_that_is_stopped_does_not_tie = refl

pub a_grant_of_its_page_ties : tie_of plain (come (command.Grant 2 0x2000 1 Read false)) 1 ≡ Some (Grants 3)
a_grant_of_its_page_ties = refl

pub a_grant_of_another_page_does_not : tie_of plain (come (command.Grant 2 0x2000 3 Read false)) 1 ≡ None
a_grant_of_another_page_does_not = refl

pub who_may_give_ties_all : tie_of (table (entry 1 Write (Some 1) true None)) [] 2 ≡ Some (MayGive 1)
who_may_give_ties_all = refl

pub so_does_a_command_that_lets_give : tie_of plain (come (command.Grant 2 0x2000 3 Read true)) 1 ≡ Some (LetsGive 3)
so_does_a_command_that_lets_give = refl

-- an end is told before a page that is shared
pub the_first_is_told : tie_of (table (entry 1 Write (Some 2) true (Some 9))) (come (command.Stop 1)) 1 ≡ Some (Ends 1)
the_first_is_told = refl

-- a process may read this page
abbrev reads : ℕ → ℕ → PolicyRule
reads process page = record { process = process; address = 0x1000; right = Read; page = Some page; give = false; until = None }

-- two processes, each with a page of its own
abbrev apart : PolicyValue
apart = record {
  frames = 16;
  rate = 0;
  processes = record { start = 0x1000; line = 0 } ∷ record { start = 0x1000; line = 1 } ∷ [];
  pages = record { name = codes "one"; source = None } ∷ record { name = codes "two"; source = None } ∷ [];
  rules = reads 1 0 ∷ reads 2 1 ∷ [];
}

pub each_process_has_a_line : ties_text apart (record { commands = come (command.Stop 2); characters = [] })
    ≡ codes "process 1: it can't tell who else is there, unless it calls `time`, `give` or `take`; calls `get` or `wait` where its line gets characters; or reads register 26, 27 or one still being loaded\n"
    ++ codes "process 2: it may tell who else is there, since command 3 is about it\n"
unfolding digits
each_process_has_a_line = refl
