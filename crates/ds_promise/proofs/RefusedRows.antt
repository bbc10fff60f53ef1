-- Wrong machines, worked out and refused.
use Rattle.std.proofs.Common.{ap, ap₂, inl, inr, sym, ◌∙◌, subst}
use Rattle.std.specs.Prelude.{◌≡◌, ◌⊎◌, refl, ℕ, ◌%◌, List, [], ◌∷◌, replicate, slice_index, Some}
use Rattle.ds_word.specs.Bytes.{word_at}
use Rattle.ds_isa.specs.declared.instr.Size.{Size}
use Rattle.ds_isa.specs.declared.instr.Size.TheVariants.{Word}
use Rattle.ds_isa.specs.declared.instr.Kind.TheVariants.{Store}
use Rattle.ds_isa.specs.Registers.{Registers, zero_registers, loaded}
use Rattle.ds_isa.specs.Instruction.{instruction_of}
use Rattle.ds_isa.specs.Meaning.{Stores, meaning}
use Rattle.ds_policy.specs.declared.access.Verdict.TheVariants.{Allowed}
use Rattle.ds_policy.specs.Pages.{bytes_of, decide}
use Rattle.ds_pagemap.specs.Machine.{State, process_of}
use Rattle.ds_pagemap.specs.Unit.{Stop, Outcome, Went, Branched, Called, Stopped, with_registers}
use Rattle.ds_pagemap.specs.Run.{after}
use Rattle.ds_pagemap.specs.Rows.{run_on_literals}
use Rattle.ds_promise.specs.Stores.{live_page, Stored, StoredInSlot, OnlyStores}
use Rattle.ds_promise.specs.Seen.{LookAlike, Action, Computes, Jumps, WritesWord, MakesCall, Stops, carried_out, BySameAction}
use Rattle.ds_promise.specs.Rows.{storing, written}

-- the same guest with nobody ready
abbrev asleep : State
asleep = record storing { ready = [] }

-- a page that changes where nobody runs is refused
pub nobody_changes_a_page : (other : State) → live_page other.memory.pages 1 ≡ Some written → OnlyStores asleep other → ⊥
unfolding run_on_literals
nobody_changes_a_page other is only = elim (only 1 (replicate 4096 0) written refl is) [
  | inl same ↦ zero_is_not_65 (ap (λ (bs : List ℕ). slice_index bs 6) same)
  | inr s ↦ nobody_runs s.process s.others s.runs
]
  where
    zero_is_not_65 : ◌≡◌ {A = ℕ} 0x41 0 → ⊥
    zero_is_not_65 e = cc

    nobody_runs : (p : ℕ) (rest : List ℕ) → ◌≡◌ {A = List ℕ} [] (p ∷ rest) → ⊥
    nobody_runs p rest e = cc

-- what the store at this place asks for
one_store : (size : Size) (address : ℕ) (value : ℕ → ℕ) → Stores Word 0x00410004 (λ w. 0x00410000) ≡ Stores size address value → (size ≡ Word) × (address ≡ 0x00410004)
one_store size address value e = (same_size size address value e, same_address size address value e)
  where
    same_size : (size : Size) (address : ℕ) (value : ℕ → ℕ) → Stores Word 0x00410004 (λ w. 0x00410000) ≡ Stores size address value → size ≡ Word
    same_size size address value e = cc

    same_address : (size : Size) (address : ℕ) (value : ℕ → ℕ) → Stores Word 0x00410004 (λ w. 0x00410000) ≡ Stores size address value → address ≡ 0x00410004
    same_address size address value e = cc

-- a store into page 1 is none into page 0, its neighbour
pub a_store_in_another_page_is_refused : (old new : List ℕ) → Stored storing 1 0x00400004 0 old new → ⊥
unfolding run_on_literals
a_store_in_another_page_is_refused old new s =
    let at = one_verdict s.fetches.page s.fetches.offset s.fetches.fetched in
    let asks : Stores Word 0x00410004 (λ w. 0x00410000) ≡ Stores s.size s.address s.value = sym (ap₂ (λ page offset. meaning (instruction_of (word_at (bytes_of storing.memory.pages page) offset)) 0x00400004 (process_of storing 1).registers) at.0 at.1) ∙ s.fetches.does in
    let is = one_store s.size s.address s.value asks in
    other_page (s.address % 4096) (subst (λ (address : ℕ). decide storing.memory.table 1 Store Word address ≡ Allowed 0 (s.address % 4096)) is.1 (subst (λ (size : Size). decide storing.memory.table 1 Store size s.address ≡ Allowed 0 (s.address % 4096)) is.0 s.allowed))
  where
    one_verdict : (page offset : ℕ) → Allowed 0 4 ≡ Allowed page offset → (page ≡ 0) × (offset ≡ 4)
    one_verdict page offset e = (first_is page offset e, second_is page offset e)
      where
        first_is : (page offset : ℕ) → Allowed 0 4 ≡ Allowed page offset → page ≡ 0
        first_is page offset e = cc

        second_is : (page offset : ℕ) → Allowed 0 4 ≡ Allowed page offset → offset ≡ 4
        second_is page offset e = cc

    other_page : (offset : ℕ) → Allowed 1 4 ≡ Allowed 0 offset → ⊥
    other_page offset e = cc

-- What is seen.

-- a call and a stop are not one action
pub a_call_is_no_stop : (p : ℕ) (m t : State) (stop : Stop) → BySameAction p m t Called (Stopped stop) → ⊥
a_call_is_no_stop p m t stop d = of d.action d.here d.there
  where
    of : (action : Action) → Called ≡ carried_out m p action → Stopped stop ≡ carried_out t p action → ⊥
    of (Computes after) e f = cc
    of (Jumps after target) e f = cc
    of (WritesWord page offset w) e f = cc
    of MakesCall e f = cc
    of (Stops s) e f = cc

-- nor do processes with other registers look alike
pub other_registers_are_seen : LookAlike 1 storing (with_registers storing 1 zero_registers) → ⊥
unfolding run_on_literals
other_registers_are_seen k = differ (ap (λ (r : Registers). slice_index r.general 8) k.registers)
  where
    differ : ◌≡◌ {A = ℕ} 0x00410000 0 → ⊥
    differ e = cc

-- Wrong machines, refused.

-- a turn that changes the page of code, the neighbour of the page that is stored to
pub a_neighbour_that_changes_is_refused : (other : State) (old new : List ℕ) → live_page storing.memory.pages 0 ≡ Some old → live_page other.memory.pages 0 ≡ Some new → (new ≡ old → ⊥) → OnlyStores storing other → ⊥
unfolding run_on_literals
a_neighbour_that_changes_is_refused other old new before now apart only = elim (only 0 old new before now) [
  | inl same ↦ apart same
  | inr s ↦ neither (subst (λ p. Stored storing p (process_of storing p).pc 0 old new ⊎ StoredInSlot storing p (process_of storing p).pc 0 old new) (runner s.process s.others s.runs) s.stored)
]
  where
    runner : (p : ℕ) (rest : List ℕ) → ◌≡◌ {A = List ℕ} (1 ∷ []) (p ∷ rest) → p ≡ 1
    runner p rest e = cc

    went_is_not_branched : (m t : State) (target : ℕ) → Went m ≡ Branched t target → ⊥
    went_is_not_branched m t target e = cc

    neither : Stored storing 1 0x00400004 0 old new ⊎ StoredInSlot storing 1 0x00400004 0 old new → ⊥
    neither (inl s) = a_store_in_another_page_is_refused old new s
    neither (inr s) = went_is_not_branched _ s.between s.target s.branched

-- register 9 of process 1 after an instruction that goes on
abbrev register_9 : Outcome → ℕ
register_9 (Went m) = slice_index (process_of m 1).registers.general 9
register_9 (Branched m target) = 0
register_9 Called = 0
register_9 (Stopped stop) = 0

one_is_not_two : ◌≡◌ {A = ℕ} 1 2 → ⊥
one_is_not_two e = cc

one_is_not_zero : ◌≡◌ {A = ℕ} 1 0 → ⊥
one_is_not_zero e = cc

-- a load that brings 1 in one state and 2 in another, from a page that isn't granted, is no one action
pub a_load_of_what_is_not_granted_is_refused : BySameAction 1 storing storing (Went (with_registers storing 1 (loaded zero_registers 9 1))) (Went (with_registers storing 1 (loaded zero_registers 9 2))) → ⊥
unfolding run_on_literals
a_load_of_what_is_not_granted_is_refused d = of d.action (ap register_9 d.here) (ap register_9 d.there)
  where
    of : (action : Action) → 1 ≡ register_9 (carried_out storing 1 action) → 2 ≡ register_9 (carried_out storing 1 action) → ⊥
    of (Computes after) e f = one_is_not_two (e ∙ sym f)
    of (Jumps after target) e f = one_is_not_zero e
    of (WritesWord page offset w) e f = one_is_not_zero e
    of MakesCall e f = one_is_not_zero e
    of (Stops s) e f = one_is_not_zero e
