-- A process that shares nothing with the others.
use Rattle.std.specs.Prelude.{◌≡◌, ◌≢◌, ◌<◌, ◌≤◌, ℕ, Bool, true, false, not, ◌&&◌, ◌||◌, ◌==◌, is_some, zero, suc, List, [], ◌∷◌, length, Some, None}
use Rattle.std.specs.List.{All}
use Rattle.ds_procs.specs.declared.process.Standing.TheVariants.{Waiting}
use Rattle.ds_procs.specs.declared.call.Call.{Call}
use Rattle.ds_procs.specs.declared.call.Call.TheVariants as call
use Rattle.ds_procs.specs.Calls.{call_of}
use Rattle.ds_policy.specs.declared.grant.Grant.{Grant}
use Rattle.ds_policy.specs.declared.command.Character.{Character}
use Rattle.ds_policy.specs.declared.command.Command.{Command}
use Rattle.ds_policy.specs.declared.command.Command.TheVariants as command
use Rattle.ds_policy.specs.declared.command.TimedCommand.{TimedCommand}
use Rattle.ds_policy.specs.Pages.{Table, entry_at}
use Rattle.ds_policy.specs.Grants.{is_some_right, give}
use Rattle.ds_pagemap.specs.Machine.{State, process_of, lives}
use Rattle.ds_pagemap.specs.Calls.{queue_of}
use Rattle.ds_pagemap.specs.Unit.{Outcome, Called, instruction}
use Rattle.ds_pagemap.specs.Run.{goes_on, go}
use Rattle.ds_pagemap.specs.Laws.{process_named}
use Rattle.ds_pagemap_laws.specs.Lawful.{IsLawful}
use Rattle.ds_promise.specs.Lines.{refused_by}
use Rattle.ds_promise.specs.Whole.{HasWholePages}
use Rattle.ds_promise.specs.Seen.{LookAlike}

-- a grant of the operator's, without an end
pub record IsLasting (g : Grant) : Type 0 where
  pub giver : g.giver ≡ 0
  pub parent : g.parent ≡ None
  pub until : g.until ≡ None

-- process p has a right to the page, by some entry
pub record HasPage (table : Table) (p page : ℕ) : Type 0 where
  pub address : ℕ
  pub grant : Grant
  pub held : entry_at table p address ≡ Some grant
  pub right : is_some_right grant.right ≡ true
  pub names : grant.page ≡ Some page

-- what process p has lasts, and no other process has a right to a page of its own
pub record SharesNothing (p : ℕ) (table : Table) : Type 0 where
  pub own : (address : ℕ) (g : Grant) → entry_at table p address ≡ Some g → IsLasting g
  pub others : (q page : ℕ) → 0 < q → q ≢ p → HasPage table p page → HasPage table q page → ⊥

-- a command doesn't grant a page of process p's
abbrev pub GrantsElsewhere : Table → ℕ → Command → Type 0
GrantsElsewhere table p (command.Grant q address page right give) = HasPage table p page → ⊥
GrantsElsewhere table p other = Unit {0}

-- a command is about another process, and doesn't grant a page of process p's
pub record LeavesAlone (table : Table) (p : ℕ) (c : Command) : Type 0 where
  pub another : p ≢ process_named c
  pub grants : GrantsElsewhere table p c

-- no character waits on the line of process p, and none is to come there
pub record HasSilentLine (p : ℕ) (m : State) : Type 0 where
  pub queue : queue_of m p ≡ []
  pub coming : All (λ (c : Character). c.line ≢ (process_of m p).line) m.characters

-- where process p may listen for characters, none comes to its line; where it may not, it doesn't wait for one
abbrev pub HearsNothing : Bool → ℕ → State → Type 0
HearsNothing true p m = HasSilentLine p m
HearsNothing false p m = (process_of m p).standing ≢ Waiting

-- process p is there, shares nothing, and hears nothing; and the commands that are to come leave it alone
pub record IsAlone (listens : Bool) (p : ℕ) (m : State) : Type 0 where
  pub above : 0 < p
  pub here : p ≤ length m.processes
  pub shares : SharesNothing p m.memory.table
  pub commands : All (λ (c : TimedCommand). LeavesAlone m.memory.table p c.command) m.commands
  pub hears : HearsNothing listens p m

-- as runs have it: all that each state of a run is, and process p alone
pub record StandsAlone (listens : Bool) (p : ℕ) (m : State) : Type 0 where
  pub lawful : IsLawful m
  pub whole : HasWholePages m
  pub alone : IsAlone listens p m

-- the call of process q gives process p something, and isn't refused
abbrev pub call_gives : State → ℕ → Call → ℕ → Bool
call_gives m q (call.Give address receiver to mode) p = (receiver == p) && not (is_some (refused_by (give (lives m) m.memory q address receiver to mode)))
call_gives m q other p = false

-- of all that an instruction of process q comes to, a call alone can give
abbrev pub instruction_gives : State → ℕ → Outcome → ℕ → Bool
instruction_gives m q Called p = call_gives m q (call_of (process_of m q).registers.general) p
instruction_gives m q other p = false

-- the unit of the first of the ready processes gives process p something
abbrev pub unit_gives : State → List ℕ → ℕ → Bool
unit_gives m [] p = false
unit_gives m (q ∷ rest) p = instruction_gives m q (instruction m q (process_of m q).pc) p

-- in the first so many half turns of a run for n ticks that never touches, nobody gives process p something
abbrev pub is_given_nothing : ℕ → ℕ → ℕ → State → Bool
is_given_nothing p n zero m = true
is_given_nothing p n (suc k) m = (not (goes_on n m) || (is_some m.owed || not (unit_gives m m.ready p))) && is_given_nothing p n k (go n false m)

-- where process p may listen, no character waits on its line
abbrev pub NothingWaits : Bool → ℕ → State → Type 0
NothingWaits true p m = queue_of m p ≡ []
NothingWaits false p m = Unit {0}

-- two states are alike to process p, and it stands alike in both
pub record SeemsAlike (p : ℕ) (m t : State) : Type 0 where
  pub look : LookAlike p m t
  pub standing : (process_of m p).standing ≡ (process_of t p).standing
