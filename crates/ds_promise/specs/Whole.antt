-- Pages as runs have them, and where a page comes from.
use Rattle.std.specs.Prelude.{◌≡◌, ◌⊎◌, ◌<◌, ◌≤◌, ℕ, ◌+◌, ◌%◌, Bool, true, List, [], ◌∷◌, length, slice_index, Some, None}
use Rattle.ds_procs.specs.declared.call.Call.TheVariants as call
use Rattle.ds_procs.specs.Calls.{call_of}
use Rattle.ds_policy.specs.declared.grant.Right.TheVariants.{Write}
use Rattle.ds_policy.specs.declared.grant.Grant.{Grant}
use Rattle.ds_policy.specs.Pages.{Pages, entry_at}
use Rattle.ds_policy.specs.Grants.{PageState, is_some_right}
use Rattle.ds_policy.specs.InputFacts.{AreGoodCommands}
use Rattle.ds_pagemap.specs.Machine.{State, process_of, touched}
use Rattle.ds_pagemap.specs.Unit.{Called, instruction}
use Rattle.ds_pagemap.specs.Run.{after}
use Rattle.ds_promise.specs.Stores.{live_page, UnitStores}
use Rattle.ds_promise.specs.Families.{AllHaveOwnAddresses}

-- the page lives
abbrev pub Lives : Pages → ℕ → Type 0
Lives pages page = (bytes : List ℕ) × (live_page pages page ≡ Some bytes)

-- the grant names a page that lives
pub record NamesLiving (pages : Pages) (g : Grant) : Type 0 where
  pub page : ℕ
  pub names : g.page ≡ Some page
  pub lives : Lives pages page

-- each page that lives has 4096 bytes; each page of the policy lives, and so does each page that is
-- granted; no process has two entries at one address
pub record ArePagesWhole (s : PageState) : Type 0 where
  pub sizes : (page : ℕ) (bytes : List ℕ) → live_page s.pages page ≡ Some bytes → length bytes ≡ 4096
  pub named : (page : ℕ) → page < s.named → Lives s.pages page
  pub granted : (p address : ℕ) (g : Grant) → entry_at s.table p address ≡ Some g → is_some_right g.right ≡ true → NamesLiving s.pages g
  pub places : AllHaveOwnAddresses s.table

-- and the commands that are still to come grant pages of the policy
pub record HasWholePages (m : State) : Type 0 where
  pub memory : ArePagesWhole m.memory
  pub commands : AreGoodCommands m.memory.named m.commands

-- the bytes are the same outside of one aligned word
pub record OneWordDiffers (old new : List ℕ) : Type 0 where
  pub place : ℕ
  pub within : place ≤ 4092
  pub aligned : place % 4 ≡ 0
  pub size : length new ≡ length old
  pub others : (j : ℕ) → (j < place) ⊎ (place + 4 ≤ j) → slice_index new j ≡ slice_index old j

-- process p's entry at the address names a page with these bytes
pub record HoldsBytes (m : State) (p address : ℕ) (bytes : List ℕ) : Type 0 where
  pub grant : Grant
  pub held : entry_at m.memory.table p address ≡ Some grant
  pub right : is_some_right grant.right ≡ true
  pub page : ℕ
  pub names : grant.page ≡ Some page
  pub holds : live_page m.memory.pages page ≡ Some bytes

-- a new page of t has the bytes that the giver's page had in m, and the receiver may write it
pub record IsCopied (m t : State) (p address receiver to : ℕ) : Type 0 where
  pub bytes : List ℕ
  pub given : HoldsBytes m p address bytes
  pub copy : ℕ
  pub new : live_page m.memory.pages copy ≡ None
  pub same : live_page t.memory.pages copy ≡ Some bytes
  pub entry : entry_at t.memory.table receiver to ≡ Some (record given.grant { right = Write; page = Some copy; giver = p; parent = None; until = None })

-- no boundary is owed, and the first ready process gives a copy of a page of its own with these bytes
pub record UnitCopies (m : State) (bytes : List ℕ) : Type 0 where
  pub process : ℕ
  pub others : List ℕ
  pub no_boundary : m.owed ≡ None
  pub runs : m.ready ≡ process ∷ others
  pub calls : instruction m process (process_of m process).pc ≡ Called
  pub address : ℕ
  pub receiver : ℕ
  pub to : ℕ
  pub gives : call_of (process_of m process).registers.general ≡ call.Give address receiver to 3
  pub given : HoldsBytes m process address bytes

-- the page lived, and the unit that runs stores these bytes on it, of which one word is new
pub record IsStoredTo (m : State) (page : ℕ) (new : List ℕ) : Type 0 where
  pub old : List ℕ
  pub before : live_page m.memory.pages page ≡ Some old
  pub stores : UnitStores m page old new
  pub word : OneWordDiffers old new

-- the page didn't live, and the unit that runs copies these bytes
pub record IsNewCopy (m : State) (page : ℕ) (new : List ℕ) : Type 0 where
  pub before : live_page m.memory.pages page ≡ None
  pub copies : UnitCopies m new

-- each page that lives afterwards is as it was, or was stored to, or is a new copy
abbrev pub ChangesAsGranted : State → State → Type 0
ChangesAsGranted m t = (page : ℕ) (new : List ℕ) → live_page t.memory.pages page ≡ Some new
    → (live_page m.memory.pages page ≡ Some new) ⊎ (IsStoredTo m page new ⊎ IsNewCopy m page new)

-- the same of each half turn of a run
abbrev pub ChangesAsGrantedAlong : ℕ → List Bool → State → Type 0
ChangesAsGrantedAlong n [] m = Unit {0}
ChangesAsGrantedAlong n (touch ∷ earlier) m = ChangesAsGranted (touched touch (after n earlier m)) (after n (touch ∷ earlier) m) × ChangesAsGrantedAlong n earlier m
