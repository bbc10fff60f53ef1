-- Tests by which a state, or the first state of a policy and an input, is seen to leave a process alone.
use Rattle.std.specs.Prelude.{◌≡◌, ◌<◌, ℕ, zero, suc, ◌-◌, Bool, true, false, not, ◌&&◌, nat_lt, nat_le, ◌==◌, is_none, List, [], ◌∷◌, length, map, Option, Some, None}
use Rattle.std.specs.List.{list_any, list_all}
use Rattle.ds_isa.specs.Registers.{Registers}
use Rattle.ds_procs.specs.declared.process.Standing.{Standing}
use Rattle.ds_policy.specs.declared.command.Command.{Command}
use Rattle.ds_policy.specs.declared.command.Command.TheVariants as command
use Rattle.ds_policy.specs.declared.grant.Grant.{Grant}
use Rattle.ds_policy.specs.declared.grant.Entry.{Entry}
use Rattle.ds_policy.specs.Pages.{Pages, Table, entries_of, names}
use Rattle.ds_policy.specs.Grants.{is_some_right}
use Rattle.ds_pagemap.specs.Machine.{State, process_of, is_waiting}
use Rattle.ds_pagemap.specs.Calls.{queue_of}
use Rattle.ds_pagemap.specs.Laws.{process_named}
use Rattle.ds_promise.specs.Stores.{live_page}
use Rattle.ds_alone.specs.Deeds.{alone_after}

-- a grant of the operator's, without an end
abbrev pub is_lasting : Grant → Bool
is_lasting g = (g.giver == 0) && (is_none g.parent && is_none g.until)

-- an entry of these has a right to the page
abbrev pub have_page : List Entry → ℕ → Bool
have_page es page = list_any (λ e. is_some_right e.grant.right && names page e.grant.page) es

-- the page, if it is one, is one of those that these entries have a right to
abbrev pub is_page_of : List Entry → Option ℕ → Bool
is_page_of mine None = false
is_page_of mine (Some page) = have_page mine page

-- a grant gives no right to a page of these entries
abbrev pub is_elsewhere : List Entry → Grant → Bool
is_elsewhere mine g = not (is_some_right g.right && is_page_of mine g.page)

-- none of these entries does
abbrev pub are_elsewhere : List Entry → List Entry → Bool
are_elsewhere mine es = list_all (λ e. is_elsewhere mine e.grant) es

-- nor do those of any row but one
abbrev pub others_elsewhere : List Entry → ℕ → Table → Bool
others_elsewhere mine i [] = true
others_elsewhere mine zero (row ∷ rows) = list_all (are_elsewhere mine) rows
others_elsewhere mine (suc i) (row ∷ rows) = are_elsewhere mine row && others_elsewhere mine i rows

-- what process p has lasts, and no other process has a right to a page of its own
abbrev pub shares_nothing : ℕ → Table → Bool
shares_nothing p table = let mine = entries_of table p in list_all (λ e. is_lasting e.grant) mine && others_elsewhere mine (p - 1) table

-- a command doesn't grant a page of these entries
abbrev pub grants_elsewhere : List Entry → Command → Bool
grants_elsewhere mine (command.Grant q address page right give) = not (have_page mine page)
grants_elsewhere mine other = true

-- a command is about another process than p, and doesn't grant a page of its own
abbrev pub leaves_alone : Table → ℕ → Command → Bool
leaves_alone table p c = not (process_named c == p) && grants_elsewhere (entries_of table p) c

-- no character waits on the line of process p, and none is to come there
abbrev pub has_silent_line : ℕ → State → Bool
has_silent_line p m = (length (queue_of m p) == 0) && list_all (λ c. not (c.line == (process_of m p).line)) m.characters

-- where process p may listen for characters, none comes to its line; where it may not, it doesn't wait for one
abbrev pub hears_nothing : Bool → ℕ → State → Bool
hears_nothing true p m = has_silent_line p m
hears_nothing false p m = not (is_waiting (process_of m p).standing)

-- process p is there, shares nothing, and hears nothing; and the commands that are to come leave it alone
abbrev pub is_alone : Bool → ℕ → State → Bool
is_alone listens p m =
    (nat_lt 0 p && nat_le p (length m.processes))
    && (shares_nothing p m.memory.table
    && (list_all (λ c. leaves_alone m.memory.table p c.command) m.commands
    && hears_nothing listens p m))

-- a command grants with leave to give
abbrev pub lets_give : Command → Bool
lets_give (command.Grant q address page right give) = give
lets_give other = false

-- no process has leave to give something, and no command that is to come gives it
abbrev pub nobody_may_give : State → Bool
nobody_may_give m =
    list_all (λ row. list_all (λ e. not e.grant.give) row) m.memory.table
    && list_all (λ c. not (lets_give c.command)) m.commands

-- what a process has: its registers and where it stands, its entries, the bytes of their pages, and the number of frames
pub record Holdings : Type 0 where
  pub registers : Registers
  pub pc : ℕ
  pub standing : Standing
  pub entries : List Entry
  pub pages : List (Option (List ℕ))
  pub frames : ℕ

-- the bytes of the page that is named
abbrev pub bytes_named : Pages → Option ℕ → Option (List ℕ)
bytes_named pages None = None
bytes_named pages (Some page) = live_page pages page

abbrev pub holdings : ℕ → State → Holdings
holdings p m =
    let q = process_of m p in
    let es = entries_of m.memory.table p in
    record { registers = q.registers; pc = q.pc; standing = q.standing; entries = es; pages = map (λ e. bytes_named m.memory.pages e.grant.page) es; frames = length m.memory.pages }

-- alone, process p has after so many units what it has so many more later: so it goes round for ever
pub record GoesRound (p before round : ℕ) (m : State) : Type 0 where
  pub some : 0 < round
  pub again : holdings p (alone_after p before m) ≡ holdings p (alone_after p round (alone_after p before m))
