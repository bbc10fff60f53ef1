-- What is granted, the page state that it has in a memory, and what a call answers.
use Rattle.std.specs.Prelude.{◌≡◌, ℕ, ◌-◌, Bool, true, not, ◌&&◌, nat_lt, List, length, slice_index, slice_index_or, Option, Some, None, Result, Ok, Err}
use Rattle.ds_policy.specs.declared.grant.Grant.{Grant}
use Rattle.ds_policy.specs.Pages.{with_entry, erased_entry}
use Rattle.ds_policy.specs.Families.{without_entry}
use Rattle.ds_policy.specs.Grants.{PageState}
use Rattle.ds_grants.specs.declared.fault.GrantFault.{GrantFault}
use Rattle.ds_grants.specs.declared.layout.Place.{Place}
use Rattle.ds_grants.specs.declared.fault.GrantFault.TheVariants.{NoProcess, NotPage, NoGrant, NotAllowed, Taken, TableFull, Regions, NoFrames, NotGiven}
use Rattle.ds_grants.specs.State.{GrantsState, is_shared}

-- where the pages lie: of each the number, among the frames of pages, of its frame, and whether
-- another page may lie there
pub record LayoutState : Type 0 where
  pub lies : List ℕ
  pub shared : List Bool

-- where a page lies, if there is one
abbrev pub place_of_page : GrantsState → Option ℕ → Option Place
place_of_page g None = None
place_of_page g (Some page) = Some (record { frame = slice_index g.lies page; shared = is_shared g page })

-- there is such a process, and it hasn't ended
abbrev pub lives_in : GrantsState → ℕ → Bool
lives_in g process = nat_lt 0 process && not (slice_index_or g.ended (process - 1) true)

-- with this entry of a process at an address
abbrev pub with_grant : GrantsState → ℕ → ℕ → Grant → GrantsState
with_grant g process address grant = record g { table = with_entry g.table process address grant }

-- without the entry of a process at an address, all others as they are
abbrev pub erased_grant : GrantsState → ℕ → ℕ → GrantsState
erased_grant g process address = record g { table = erased_entry g.table process address }

-- without the entry of a process at an address; what was shared from it has its parent
abbrev pub without_grant : GrantsState → ℕ → ℕ → GrantsState
without_grant g process address = record g { table = without_entry g.table process address }

-- as many processes, as many pages that may live, and as many that the policy names
pub record IsAsLarge (old new : GrantsState) : Type 0 where
  pub processes : length new.table ≡ length old.table
  pub frames : new.frames ≡ old.frames
  pub named : new.named ≡ old.named

-- a refusal's number
abbrev pub grant_fault_number : GrantFault → ℕ
grant_fault_number NoProcess = 12
grant_fault_number NotPage = 13
grant_fault_number NoGrant = 14
grant_fault_number NotAllowed = 15
grant_fault_number Taken = 16
grant_fault_number TableFull = 17
grant_fault_number Regions = 11
grant_fault_number NoFrames = 18
grant_fault_number NotGiven = 19

-- its outcome is the page state that is meant, or it was refused by the number meant and left
-- the page state
abbrev pub DoesCall : {R : Type 0} → PageState → PageState → Result R GrantFault
    → Result PageState ℕ → Type 0
DoesCall old new (Ok x) meant = meant ≡ Ok new
DoesCall old new (Err refusal) meant = (meant ≡ Err (grant_fault_number refusal)) × (new ≡ old)
