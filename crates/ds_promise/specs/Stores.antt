-- Who may change the bytes of a page.
use Rattle.std.specs.Prelude.{◌≡◌, ◌⊎◌, ℕ, ◌+◌, ◌%◌, Bool, true, false, List, [], ◌∷◌, slice_index_or, Option, Some, None}
use Rattle.ds_word.specs.Word.{word}
use Rattle.ds_word.specs.Bytes.{word_at, with_word}
use Rattle.ds_isa.specs.declared.instr.Kind.{Kind}
use Rattle.ds_isa.specs.declared.instr.Kind.TheVariants.{Fetch, Load, Store}
use Rattle.ds_isa.specs.declared.instr.Size.{Size}
use Rattle.ds_isa.specs.declared.instr.Size.TheVariants.{Word}
use Rattle.ds_isa.specs.Instruction.{instruction_of}
use Rattle.ds_isa.specs.Meaning.{Effect, Stores, meaning}
use Rattle.ds_policy.specs.declared.access.Verdict.TheVariants.{Allowed}
use Rattle.ds_policy.specs.declared.grant.Right.{Right}
use Rattle.ds_policy.specs.declared.grant.Right.TheVariants.{Nothing, Read, Write}
use Rattle.ds_policy.specs.declared.grant.Grant.{Grant}
use Rattle.ds_policy.specs.Pages.{Pages, Table, decide, entry_at, page_address, bytes_of}
use Rattle.ds_pagemap.specs.Machine.{State, process_of, touched}
use Rattle.ds_pagemap.specs.Unit.{Branched, instruction}
use Rattle.ds_pagemap.specs.Run.{goes_on, after}

-- the bytes of a page, if it lives
abbrev pub live_page : Pages → ℕ → Option (List ℕ)
live_page pages page = slice_index_or pages page None

-- whether a right lets an access of this kind be done
abbrev pub lets : Right → Kind → Bool
lets Nothing kind = false
lets Read Store = false
lets Read Load = true
lets Read Fetch = true
lets Write kind = true

-- process p holds an entry at the address with a right that lets this be done, and it names the page
pub record Holds (table : Table) (p : ℕ) (kind : Kind) (address page : ℕ) : Type 0 where
  pub grant : Grant
  pub held : entry_at table p (page_address address) ≡ Some grant
  pub right : lets grant.right kind ≡ true
  pub names : grant.page ≡ Some page

-- process p may fetch at pc, and the instruction there has this effect
pub record Fetches (m : State) (p pc : ℕ) (e : Effect) : Type 0 where
  pub page : ℕ
  pub offset : ℕ
  pub fetched : decide m.memory.table p Fetch Word pc ≡ Allowed page offset
  pub does : meaning (instruction_of (word_at (bytes_of m.memory.pages page) offset)) pc (process_of m p).registers ≡ e

-- the instruction at pc is a store that an entry of process p allows, and it changes one word of the page
pub record Stored (m : State) (p pc page : ℕ) (old new : List ℕ) : Type 0 where
  pub size : Size
  pub address : ℕ
  pub value : ℕ → ℕ
  pub fetches : Fetches m p pc (Stores size address value)
  pub allowed : decide m.memory.table p Store size address ≡ Allowed page (address % 4096)
  pub granted : Holds m.memory.table p Store address page
  pub word : new ≡ with_word old (address % 4096) (value (word_at old (address % 4096)))

-- the instruction at pc branches, and the one in its slot is such a store
pub record StoredInSlot (m : State) (p pc page : ℕ) (old new : List ℕ) : Type 0 where
  pub between : State
  pub target : ℕ
  pub branched : instruction m p pc ≡ Branched between target
  pub memory : between.memory ≡ m.memory
  pub stored : Stored between p (word (pc + 4)) page old new

-- no boundary is owed, and the first ready process stores on the page, by its instruction or by the one in its slot
pub record UnitStores (m : State) (page : ℕ) (old new : List ℕ) : Type 0 where
  pub process : ℕ
  pub others : List ℕ
  pub no_boundary : m.owed ≡ None
  pub runs : m.ready ≡ process ∷ others
  pub stored : Stored m process (process_of m process).pc page old new ⊎ StoredInSlot m process (process_of m process).pc page old new

-- a page that lives before and after has the same bytes, or the unit that ran stored there
abbrev pub OnlyStores : State → State → Type 0
OnlyStores m t = (page : ℕ) (old new : List ℕ) → live_page m.memory.pages page ≡ Some old → live_page t.memory.pages page ≡ Some new → (new ≡ old) ⊎ UnitStores m page old new

-- the same of each half turn of a run
abbrev pub OnlyStoresAlong : ℕ → List Bool → State → Type 0
OnlyStoresAlong n [] m = Unit {0}
OnlyStoresAlong n (touch ∷ earlier) m = OnlyStores (touched touch (after n earlier m)) (after n (touch ∷ earlier) m) × OnlyStoresAlong n earlier m

-- after these choices a run for n goes on, and its next half turn stores on the page
pub record StoresThere (n : ℕ) (touch : Bool) (earlier : List Bool) (m : State) (page : ℕ) : Type 0 where
  pub old : List ℕ
  pub new : List ℕ
  pub on : goes_on n (after n earlier m) ≡ true
  pub lives_before : live_page (after n earlier m).memory.pages page ≡ Some old
  pub lives_after : live_page (after n (touch ∷ earlier) m).memory.pages page ≡ Some new
  pub stores : UnitStores (touched touch (after n earlier m)) page old new

-- somewhere along a run a unit stores on the page
abbrev pub StoresAlong : ℕ → List Bool → State → ℕ → Type 0
StoresAlong n [] m page = ⊥
StoresAlong n (touch ∷ earlier) m page = StoresThere n touch earlier m page ⊎ StoresAlong n earlier m page

-- somewhere along a run the page does not live
abbrev pub DiesAlong : ℕ → List Bool → State → ℕ → Type 0
DiesAlong n [] m page = live_page m.memory.pages page ≡ None
DiesAlong n (touch ∷ earlier) m page = (live_page (after n (touch ∷ earlier) m).memory.pages page ≡ None) ⊎ DiesAlong n earlier m page
