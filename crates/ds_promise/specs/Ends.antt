-- Rights that end by themselves, and when they are granted anew.
use Rattle.std.specs.Prelude.{◌≡◌, ◌<◌, ◌-◌, ℕ, Bool, true, false, not, ◌&&◌, ◌||◌, ◌==◌, is_some, if◌then◌else◌, List, [], ◌∷◌, Option, Some, None}
use Rattle.ds_isa.specs.declared.instr.Kind.{Kind}
use Rattle.ds_procs.specs.declared.call.Call.{Call}
use Rattle.ds_procs.specs.declared.call.Call.TheVariants as call
use Rattle.ds_procs.specs.Calls.{call_of}
use Rattle.ds_policy.specs.declared.command.Command.{Command}
use Rattle.ds_policy.specs.declared.command.Command.TheVariants as command
use Rattle.ds_policy.specs.declared.command.TimedCommand.{TimedCommand}
use Rattle.ds_policy.specs.declared.grant.Grant.{Grant}
use Rattle.ds_policy.specs.declared.grant.EntryPlace.{EntryPlace}
use Rattle.ds_policy.specs.Pages.{Table, entry_at}
use Rattle.ds_policy.specs.Grants.{is_some_right, give}
use Rattle.ds_policy.specs.Ends.{is_reached}
use Rattle.ds_pagemap.specs.Machine.{State, process_of, lives, touched}
use Rattle.ds_pagemap.specs.Calls.{after_command}
use Rattle.ds_pagemap.specs.Unit.{Outcome, Went, Branched, Called, Stopped, instruction}
use Rattle.ds_pagemap.specs.Run.{goes_on, after}
use Rattle.ds_pagemap.specs.Laws.{due}
use Rattle.ds_promise.specs.Stores.{Holds}
use Rattle.ds_promise.specs.Lines.{refused_by, command_refusal, after_ends}

-- no entry has a right that ends at this time or earlier
abbrev pub NoneHasEnded : ℕ → Table → Type 0
NoneHasEnded time table = (q b : ℕ) (g : Grant) → entry_at table q b ≡ Some g → is_some_right g.right ≡ true → is_reached time g.until ≡ false

-- where a unit is next, no entry has a right that ends at its time or earlier
abbrev pub IsInTime : State → Type 0
IsInTime m = m.owed ≡ None → NoneHasEnded m.time m.memory.table

-- process p holds an entry at the address that lets this be done on the page, and its end has not come
pub record HoldsInTime (m : State) (p : ℕ) (kind : Kind) (address page : ℕ) : Type 0 where
  pub holds : Holds m.memory.table p kind address page
  pub in_time : is_reached m.time holds.grant.until ≡ false

-- the command is a grant to process q at an address
abbrev pub grants_at : ℕ → ℕ → Command → Bool
grants_at q b (command.Grant process address page right give) = process == q && address == b
grants_at q b (command.Narrow process address) = false
grants_at q b (command.Revoke process address) = false
grants_at q b (command.Drop process address) = false
grants_at q b (command.Resume process) = false
grants_at q b (command.Stop process) = false

-- one of the commands is a grant to process q at an address, and isn't refused
abbrev pub commands_grant : State → List TimedCommand → ℕ → ℕ → Bool
commands_grant m [] q b = false
commands_grant m (c ∷ rest) q b =
    (grants_at q b c.command && not (is_some (command_refusal m c.number c.command)))
    || commands_grant (after_command m c.number c.command) rest q b

-- the call of process p gives something to process q at an address, and isn't refused
abbrev pub call_grants : State → ℕ → Call → ℕ → ℕ → Bool
call_grants m p (call.Give address receiver to mode) q b =
    (receiver == q && to == b) && not (is_some (refused_by (give (lives m) m.memory p address receiver to mode)))
call_grants m p other q b = false

-- of all that an instruction of process p comes to, a call alone can give
abbrev pub instruction_grants : State → ℕ → Outcome → ℕ → ℕ → Bool
instruction_grants m p (Went after) q b = false
instruction_grants m p (Branched after target) q b = false
instruction_grants m p Called q b = call_grants m p (call_of (process_of m p).registers.general) q b
instruction_grants m p (Stopped stop) q b = false

-- the unit of the first of the ready processes gives something to process q at an address
abbrev pub unit_grants : State → List ℕ → ℕ → ℕ → Bool
unit_grants m [] q b = false
unit_grants m (p ∷ rest) q b = instruction_grants m p (instruction m p (process_of m p).pc) q b

-- in half a turn something is granted to process q at an address: by a command at its boundary, or
-- by the call of its unit
abbrev pub turn_grants : State → ℕ → ℕ → Bool
turn_grants m q b = if is_some m.owed then commands_grant (after_ends m) (due m) q b else unit_grants m m.ready q b

-- somewhere along a run something is granted to process q at an address
abbrev pub grants_along : ℕ → List Bool → State → ℕ → ℕ → Bool
grants_along n [] m q b = false
grants_along n (touch ∷ earlier) m q b =
    (goes_on n (after n earlier m) && turn_grants (touched touch (after n earlier m)) q b)
    || grants_along n earlier m q b

-- an entry stands at the place with a right and this end, and has a lower rank
pub record StandsAbove (table : Table) (rank : ℕ → ℕ → ℕ) (place : EntryPlace) (until : Option ℕ) (below : ℕ) : Type 0 where
  pub counted : 0 < place.process
  pub grant : Grant
  pub held : entry_at table place.process place.address ≡ Some grant
  pub right : is_some_right grant.right ≡ true
  pub same : grant.until ≡ until
  pub lower : rank (place.process - 1) place.address < below

-- whatever has a right and was shared from an entry: that entry stands with a right, and ends at the
-- same time; by a rank of rows and addresses no entry came of itself
pub record EndsWithParents (table : Table) : Type 0 where
  pub rank : ℕ → ℕ → ℕ
  pub parents : (q b : ℕ) (g : Grant) (place : EntryPlace) → entry_at table q b ≡ Some g → is_some_right g.right ≡ true → g.parent ≡ Some place → StandsAbove table rank place g.until (rank (q - 1) b)
