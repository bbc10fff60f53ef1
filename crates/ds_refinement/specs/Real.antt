-- Which steps of the station are steps of the processor.
use Rattle.std.specs.Prelude.{◌≡◌, ◌≢◌, ◌⊎◌, ℕ, ◌/◌, ◌^◌, true, false, if◌then◌else◌, List, [], ◌∷◌, slice_index, slice_set, Some, None, IsSome}
use Rattle.ds_tlb.specs.Entries.{find}
use Rattle.ds_tlb.specs.Words.{entry_of}
use Rattle.ds_cp0.specs.System.{asid_of, is_user}
use Rattle.ds_policy.specs.declared.access.Verdict.TheVariants.{Allowed}
use Rattle.ds_policy.specs.Pages.{decide}
use Rattle.ds_policy.specs.Grants.{PageState}
use Rattle.ds_grants.specs.State.{page_state}
use Rattle.ds_grants.specs.Copies.{AreRewritten}
use Rattle.ds_core.specs.declared.event.Event.{Event}
use Rattle.ds_core.specs.Core.{CoreState}
use Rattle.ds_core.specs.Effect.{step}
use Rattle.ds_refinement.specs.declared.cause.Cause.{Cause}
use Rattle.ds_refinement.specs.declared.cause.Cause.TheVariants as cause
use Rattle.ds_refinement.specs.declared.step.Step.{Step}
use Rattle.ds_refinement.specs.Held.{Held}
use Rattle.ds_refinement.specs.Told.{told}
use Rattle.ds_refinement.specs.Units.{EndsUnit, has_left_user, is_served}
use Rattle.ds_refinement.specs.Copying.{AwaitsCopy}
use Rattle.ds_refinement.specs.Pairs.{HasNoNewPairs}
use Rattle.ds_refinement.specs.Steps.{Follows, Moves}

-- no boundary is owed, and a process is ready
abbrev pub HasUnit : Held → Type 0
HasUnit h = (h.kept.state.owed ≡ None) × (h.kept.state.ready ≢ [])

-- what was told may let the unit of a process go on: an access that the table allows
abbrev pub MayGoBack : PageState → ℕ → ℕ → Cause → Type 0
MayGoBack s p bad (cause.Access access) = (page : ℕ) × (offset : ℕ) × (decide s.table p access.kind access.size bad ≡ Allowed page offset)
MayGoBack s p bad (cause.Fault code) = ⊥
MayGoBack s p bad cause.Call = ⊥

-- what the coprocessor tells ends the unit of whoever is first
abbrev pub EndsFirstUnit : List ℕ → Held → Type 0
EndsFirstUnit [] h = ⊥
EndsFirstUnit (p ∷ rest) h =
    let s : PageState = page_state h.kept.grants h.bus.memory in
    EndsUnit s p h.core.system.bad_vaddr (told h.core.system s p)

-- or lets it go on: it is a store that waits for a copy
abbrev pub GoesBackBy : List ℕ → Held → Type 0
GoesBackBy [] h = ⊥
GoesBackBy (p ∷ rest) h =
    let s : PageState = page_state h.kept.grants h.bus.memory in
    MayGoBack s p h.core.system.bad_vaddr (told h.core.system s p) × AwaitsCopy h.core.system h.kept.grants p

-- the unit's address: it is in EPC where the exception came from user mode, and else the handler has it in register 27
abbrev pub unit_address : CoreState → ℕ
unit_address c = if has_left_user c then c.system.epc else slice_index c.registers.general 27

-- The unit goes on in user mode at its address, and no byte of a page and no device has changed. After a double miss a
-- slot of the buffer answers for the page that EntryHi names: an entry of that page was put into the slot whose turn it was.
-- After a copy each slot keeps its page and its address space.
pub record GoesBack (old new : Held) : Type 0 where
  pub mode : is_user new.core.system ≡ true
  pub address : new.core.pc ≡ unit_address old.core
  pub pages : page_state new.kept.grants new.bus.memory ≡ page_state old.kept.grants old.bus.memory
  pub devices : record new.bus { memory = [] } ≡ record old.bus { memory = [] }
  pub answered : has_left_user old.core ≡ false
      → (slot : ℕ) × (find new.core.entries (old.core.system.entry_hi / 2 ^ 12) (asid_of new.core.system) ≡ Some slot)
  pub written : has_left_user old.core ≡ false
      → (lo : ℕ) × (new.core.entries ≡ slice_set old.core.entries old.own.wired (entry_of old.core.system.entry_hi lo))
  pub rewritten : has_left_user old.core ≡ true → AreRewritten old.core.entries new.core.entries

-- The unit ends: the exception came from user mode, and what was told ends it.
pub record EndsUnitReally (old new : Held) : Type 0 where
  pub owed : IsSome new.kept.state.owed
  pub left : has_left_user old.core ≡ true
  pub stops : EndsFirstUnit old.kept.state.ready old

-- It goes on: after a double miss, or where what was told lets it.
pub record GoesOnReally (old new : Held) : Type 0 where
  pub may : (has_left_user old.core ≡ false) ⊎ GoesBackBy old.kept.state.ready old
  pub back : GoesBack old new

-- A unit that goes on takes one instruction of the processor, or a service that ends it or lets it go on, as what was told
-- asks. Besides instructions nothing moves Random, or puts a pair of a user's page and an address space into the buffer.
pub record IsReal (old new : Held) : Type 0 where
  pub instruction : HasUnit old → is_served old.core ≡ false
      → (event : Event) × (step old.core old.bus ≡ (record { event = event; core = new.core; bus = new.bus }))
  pub service : HasUnit old → is_served old.core ≡ true
      → EndsUnitReally old new ⊎ GoesOnReally old new
  pub random : (HasUnit old → is_served old.core ≡ true) → new.core.random ≡ old.core.random
  pub pairs : (HasUnit old → is_served old.core ≡ true) → HasNoNewPairs old.core.entries new.core.entries

-- by these steps, the newest first, each of which is real and is followed by the machine with its counts
abbrev pub Through : Held → List Held → Held → Type 0
Through old [] new = new ≡ old
Through old (last ∷ before) new = ((kind : Step) × Follows kind last new × Moves kind last new × IsReal last new) × Through old before last

-- a path of such steps
pub record RealPath (old new : Held) : Type 0 where
  pub path : List Held
  pub through : Through old path new
