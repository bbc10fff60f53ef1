-- The pages that a unit asks for.
use Rattle.std.proofs.Common.{◌≡◌, ℕ, ◌+◌, ◌∷◌, true, List, refl, ap, ap₂, ◌∙◌}
use Rattle.std.specs.Prelude.{Some, unwrap_or}
use Rattle.ds_word.specs.Word.{word}
use Rattle.ds_word.specs.Bytes.{word_at}
use Rattle.ds_isa.specs.declared.instr.Size.TheVariants.{Word}
use Rattle.ds_isa.specs.declared.instr.Kind.{Kind}
use Rattle.ds_isa.specs.declared.instr.Kind.TheVariants as kind
use Rattle.ds_isa.specs.Instruction.{instruction_of}
use Rattle.ds_isa.specs.Meaning.{Effect, Goes, Branches, Loads, Stores, Faults, Calls, Privileged, meaning}
use Rattle.ds_policy.specs.declared.access.Verdict.{Verdict}
use Rattle.ds_policy.specs.declared.access.Verdict.TheVariants.{Allowed, Denied}
use Rattle.ds_policy.specs.Pages.{decide, bytes_of}
use Rattle.ds_pagemap.specs.Machine.{State, Process, process_of, touched, touched_process, touch_first}
use Rattle.ds_pagemap.specs.Unit.{Outcome, Went, Branched, Called, Stopped, instruction, done, where_allowed}
use Rattle.ds_pagemap.proofs.Touches.{touched_again}
use Rattle.ds_refinement.proofs.Registers.{HasSeat, process_put}
use Rattle.ds_refinement.specs.Inner.Course.{after_touch}
use Rattle.ds_refinement.specs.Needs.{page_of_address, asked_by, asked_where, asked_at, asked_after, data_page, pages_of_unit}

-- What asks for data is no branch.

where_no_branch : (v : Verdict) (kind : Kind) (address : ℕ) (f : ℕ → ℕ → State) (s : State) (target : ℕ) → where_allowed v kind address (λ page offset. Went (f page offset)) ≡ Branched s target → ⊥
where_no_branch (Allowed page offset) kind address f s target e = absurd cc
where_no_branch (Denied rule code) kind address f s target e = absurd cc

done_no_branch : (m : State) (p pc : ℕ) (e : Effect) (page : ℕ) (s : State) (target : ℕ) → asked_by e ≡ Some page → done m p pc e ≡ Branched s target → ⊥
done_no_branch m p pc (Goes after) page s target asks is = absurd cc
done_no_branch m p pc (Branches after to) page s target asks is = absurd cc
done_no_branch m p pc (Loads size address after) page s target asks is = where_no_branch (decide m.memory.table p kind.Load size address) kind.Load address _ s target is
done_no_branch m p pc (Stores size address after) page s target asks is = where_no_branch (decide m.memory.table p kind.Store size address) kind.Store address _ s target is
done_no_branch m p pc (Faults code) page s target asks is = absurd cc
done_no_branch m p pc Calls page s target asks is = absurd cc
done_no_branch m p pc Privileged page s target asks is = absurd cc

fetched_no_branch : (m : State) (p pc : ℕ) (v : Verdict) (page : ℕ) (s : State) (target : ℕ) → asked_where m p pc v ≡ Some page
    → where_allowed v kind.Fetch pc (λ page offset. done m p pc (meaning (instruction_of (word_at (bytes_of m.memory.pages page) offset)) pc (process_of m p).registers)) ≡ Branched s target → ⊥
fetched_no_branch m p pc (Denied rule code) page s target asks is = absurd cc
fetched_no_branch m p pc (Allowed at offset) page s target asks is =
    done_no_branch m p pc (meaning (instruction_of (word_at (bytes_of m.memory.pages at) offset)) pc (process_of m p).registers) page s target asks is

pub no_branch : (m : State) (p pc page : ℕ) (s : State) (target : ℕ) → asked_at m p pc ≡ Some page → instruction m p pc ≡ Branched s target → ⊥
unfolding instruction
no_branch m p pc page s target asks is = fetched_no_branch m p pc (decide m.memory.table p kind.Fetch Word pc) page s target asks is

-- so it asks for the unit
outcome_asks : (m : State) (p pc page : ℕ) (o : Outcome) → asked_at m p pc ≡ Some page → instruction m p pc ≡ o → asked_after m p pc o ≡ Some page
outcome_asks m p pc page (Went after) asks is = asks
outcome_asks m p pc page (Branched after target) asks is = absurd (no_branch m p pc page after target asks is)
outcome_asks m p pc page Called asks is = asks
outcome_asks m p pc page (Stopped stop) asks is = asks

pub first_asks : (m : State) (p page : ℕ) → asked_at m p (process_of m p).pc ≡ Some page → data_page m p ≡ Some page
first_asks m p page asks = outcome_asks m p (process_of m p).pc page (instruction m p (process_of m p).pc) asks refl

-- the slot asks for the unit
pub slot_asks : (m after : State) (p target page : ℕ) → instruction m p (process_of m p).pc ≡ Branched after target → asked_at after p (word ((process_of m p).pc + 4)) ≡ Some page → data_page m p ≡ Some page
slot_asks m after p target page is asks = ap (asked_after m p (process_of m p).pc) is ∙ asks

-- A touch leaves what a unit asks for, but for its data; a second one leaves all.
pub pages_touched : (m : State) (p : ℕ) (rest : List ℕ) → m.ready ≡ p ∷ rest → HasSeat m p → pages_of_unit (touched true m) p ≡ after_touch (pages_of_unit m p)
pages_touched m p rest ready seat =
    let first : (process_of (touched true m) p).pc ≡ (process_of m p).pc =
    ap (λ (rs : List ℕ). (process_of (touch_first m rs) p).pc) ready ∙ ap (λ (q : Process). q.pc) (process_put m p (touched_process (process_of m p)) seat) in
    ap₂ (λ (pc : ℕ) (s : State). record {
      fetch = page_of_address pc;
      slot = page_of_address (word (pc + 4));
      access = unwrap_or (data_page (touched true m) p) 0;
      touched = unwrap_or (data_page s p) 0;
    }) first (touched_again true m)
