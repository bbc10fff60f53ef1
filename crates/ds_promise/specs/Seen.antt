-- What an instruction of a process can see.
use Rattle.std.specs.Prelude.{◌≡◌, ◌<◌, ◌≤◌, ℕ, true, length, Some}
use Rattle.ds_isa.specs.Registers.{Registers, settled}
use Rattle.ds_policy.specs.declared.grant.Grant.{Grant}
use Rattle.ds_policy.specs.Pages.{entry_at}
use Rattle.ds_policy.specs.Grants.{is_some_right}
use Rattle.ds_pagemap.specs.Machine.{State, process_of}
use Rattle.ds_pagemap.specs.Unit.{Stop, Outcome, Went, Branched, Called, Stopped, with_registers, stored}
use Rattle.ds_promise.specs.Stores.{live_page}

-- Process p is in both, with the same registers, address and entries, and each page that an entry
-- of its own lets it read or write has the same bytes; there is room for as many pages.
pub record LookAlike (p : ℕ) (m t : State) : Type 0 where
  pub above : 0 < p
  pub here : p ≤ length m.processes
  pub there : p ≤ length t.processes
  pub registers : (process_of m p).registers ≡ (process_of t p).registers
  pub pc : (process_of m p).pc ≡ (process_of t p).pc
  pub entries : (address : ℕ) → entry_at m.memory.table p address ≡ entry_at t.memory.table p address
  pub pages : (address page : ℕ) (g : Grant) → entry_at m.memory.table p address ≡ Some g → is_some_right g.right ≡ true → g.page ≡ Some page → live_page m.memory.pages page ≡ live_page t.memory.pages page
  pub room : length m.memory.pages ≡ length t.memory.pages

-- what an instruction does, whatever else the state holds
pub data Action : Type 0 where
  -- it goes on with these registers
  Computes : (after : Registers) → Action
  -- it branches with these registers, to go on at the target
  Jumps : (after : Registers) (target : ℕ) → Action
  -- it puts this word into a page, at an offset
  WritesWord : (page offset w : ℕ) → Action
  -- it makes a call
  MakesCall : Action
  -- it stops, and this is told
  Stops : (stop : Stop) → Action

-- an action of process p carried out in a state
abbrev pub carried_out : State → ℕ → Action → Outcome
carried_out m p (Computes after) = Went (with_registers m p after)
carried_out m p (Jumps after target) = Branched (with_registers m p after) target
carried_out m p (WritesWord page offset w) = Went (stored (with_registers m p (settled (process_of m p).registers)) page offset (λ old. w))
carried_out m p MakesCall = Called
carried_out m p (Stops stop) = Stopped stop

-- one and the same action comes to o in m and to u in t
pub record BySameAction (p : ℕ) (m t : State) (o u : Outcome) : Type 0 where
  pub action : Action
  pub here : o ≡ carried_out m p action
  pub there : u ≡ carried_out t p action

-- outcomes that leave states alike for p, and alike targets and stops
abbrev pub StayAlike : ℕ → Outcome → Outcome → Type 0
StayAlike p (Went a) (Went b) = LookAlike p a b
StayAlike p (Branched a target) (Branched b there) = LookAlike p a b × (target ≡ there)
StayAlike p Called Called = Unit {0}
StayAlike p (Stopped stop) (Stopped other) = stop ≡ other
StayAlike p o u = ⊥
