-- Instructions, units and touches keep states lawful.
use Rattle.std.proofs.Common.{◌≡◌, ◌≢◌, ℕ, ◌+◌, ◌%◌, ◌<◌, ◌≤◌, Bool, true, false, cond, List, [], ◌∷◌, length, length-set, set, Option, Some, None, refl, ◌∙◌, subst, arith}
use Rattle.std.specs.Prelude.{◌==◌, slice_index}
use Rattle.std.specs.List.{All}
use Rattle.std.proofs.lemmas.List.{get_or-set_other}
use Rattle.std.proofs.lemmas.List.Elements.{All-head}
use Rattle.std.proofs.lemmas.Bool.Decides.{nat_tests}
use Rattle.ds_word.specs.Word.{word}
use Rattle.ds_isa.specs.declared.instr.Instr.{Instr}
use Rattle.ds_isa.specs.declared.instr.Instr.TheVariants as instr
use Rattle.ds_isa.specs.Registers.{Registers, settled, written, loaded}
use Rattle.ds_isa.specs.Meaning.{Effect, Goes, Branches, Loads, Stores, Faults, Calls, Privileged, meaning, written_or_trap, with_hi_lo}
use Rattle.ds_isa.specs.Instruction.{instruction_of}
use Rattle.ds_isa.specs.declared.instr.Kind.TheVariants.{Fetch, Load, Store}
use Rattle.ds_policy.specs.declared.access.Verdict.{Verdict}
use Rattle.ds_policy.specs.declared.access.Verdict.TheVariants.{Allowed, Denied}
use Rattle.ds_word.specs.Bytes.{word_at}
use Rattle.ds_policy.specs.Pages.{decide, bytes_of}
use Rattle.ds_isa.specs.declared.instr.Size.TheVariants.{Word}
use Rattle.ds_procs.specs.declared.process.Standing.TheVariants.{Parked}
use Rattle.ds_procs.specs.Calls.{call_of}
use Rattle.ds_pagemap.specs.Machine.{State, process_of, made_unready, touched_process, touch_first, touched, first}
use Rattle.ds_pagemap.specs.Unit.{Outcome, Went, Branched, Called, Stopped, Stop, with_registers, at_pc, where_allowed, stored, fault, done, instruction, ticked, settle, parked, after_slot, after_call, after_instruction, unit_of_first, unit}
use Rattle.ds_pagemap_laws.specs.Lawful.{AreRegisters, IsReady, IsLawful}
use Rattle.ds_pagemap_laws.proofs.Formed.{as_many, still_within, put_formed, formed_with, unready_formed}
use Rattle.ds_pagemap_laws.proofs.Asleep.{put_asleep, unready_asleep}
use Rattle.ds_pagemap_laws.proofs.LawfulCalls.{served_lawful}

-- Registers.

pub settled_good : (r : Registers) → AreRegisters r → AreRegisters (settled r)
settled_good r k = record { size = k.size; nought = k.nought; late = tt }

put_size : (b : Bool) (g : List ℕ) (i v : ℕ) → length (cond b g (set g i v)) ≡ length g
put_size true g i v = refl
put_size false g i v = length-set g i v

put_nought : (b : Bool) (g : List ℕ) (i v : ℕ) → (i == 0) ≡ b → slice_index g 0 ≡ 0 → slice_index (cond b g (set g i v)) 0 ≡ 0
put_nought true g i v e k = k
put_nought false g i v e k = get_or-set_other g i 0 v 0 (other i e) ∙ k
  where
    other : (i : ℕ) → (i == 0) ≡ false → 0 ≢ i
    other i e = λ (f : ◌≡◌ {A = ℕ} 0 i). grind (arith, nat_tests)

pub written_good : (r : Registers) (n v : ℕ) → AreRegisters r → AreRegisters (written r n v)
written_good r n v k = record { size = put_size (n % 32 == 0) r.general (n % 32) v ∙ k.size; nought = put_nought (n % 32 == 0) r.general (n % 32) v refl k.nought; late = tt }

loaded_by : (b : Bool) (r : Registers) (i v : ℕ) → (i == 0) ≡ b → i < 32 → AreRegisters r
    → AreRegisters (cond b (settled r) (record r { general = set r.general i v; late = Some (record { register = i; old = slice_index r.general i }) }))
loaded_by true r i v e small k = settled_good r k
loaded_by false r i v e small k = record { size = length-set r.general i v ∙ k.size; nought = put_nought false r.general i v e k.nought; late = small }

pub loaded_good : (r : Registers) (n v : ℕ) → AreRegisters r → AreRegisters (loaded r n v)
loaded_good r n v k = loaded_by (n % 32 == 0) r (n % 32) v refl (omega arith) k

-- the registers after an effect
abbrev Keeps : Effect → Type 0
Keeps (Goes r) = AreRegisters r
Keeps (Branches r to) = AreRegisters r
Keeps (Loads size address f) = (w : ℕ) → AreRegisters (f w)
Keeps (Stores size address f) = Unit {0}
Keeps (Faults code) = Unit {0}
Keeps Calls = Unit {0}
Keeps Privileged = Unit {0}

hi_lo_good : (r : Registers) (v : ℕ × ℕ) → AreRegisters r → Keeps (with_hi_lo r v)
hi_lo_good r v k = record { size = k.size; nought = k.nought; late = tt }

trap_good : (r : Registers) (n : ℕ) (v : Option ℕ) → AreRegisters r → Keeps (written_or_trap r n v)
trap_good r n None k = tt
trap_good r n (Some v) k = written_good r n v k

meaning_good : (i : Instr) (pc : ℕ) (r : Registers) → AreRegisters r → Keeps (meaning i pc r)
meaning_good (instr.Sll rd rt shamt) pc r k = written_good r rd _ k
meaning_good other pc r k = search (written_good, settled_good, hi_lo_good, trap_good, loaded_good, k)

-- Instructions.

registers_lawful : (m : State) (p : ℕ) (r : Registers) → AreRegisters r → IsLawful m → IsLawful (with_registers m p r)
registers_lawful m p r good k = record {
  formed = put_formed m p (record (process_of m p) { registers = r }) (record { registers = good; line = (k.formed.processes p).line }) refl k.formed;
  asleep = put_asleep m p (record (process_of m p) { registers = r }) refl k.asleep;
}

at_pc_lawful : (m : State) (p pc : ℕ) → IsLawful m → IsLawful (at_pc m p pc)
at_pc_lawful m p pc k = record {
  formed = put_formed m p (record (process_of m p) { pc = pc }) (record { registers = (k.formed.processes p).registers; line = (k.formed.processes p).line }) refl k.formed;
  asleep = put_asleep m p (record (process_of m p) { pc = pc }) refl k.asleep;
}

settle_lawful : (m : State) (p : ℕ) → IsLawful m → IsLawful (settle m p)
settle_lawful m p k = registers_lawful m p (settled (process_of m p).registers) (settled_good (process_of m p).registers (k.formed.processes p).registers) k

ticked_lawful : (n : ℕ) (m : State) → IsLawful m → IsLawful (ticked n m)
ticked_lawful n m k = record { formed = formed_with m m.memory m.queues m.consoles m.log (m.time + n) m.commands m.characters m.owed refl refl refl k.formed; asleep = k.asleep }

stored_lawful : (m : State) (page offset : ℕ) (f : ℕ → ℕ) → IsLawful m → IsLawful (stored m page offset f)
stored_lawful m page offset f k = record { formed = formed_with m (stored m page offset f).memory m.queues m.consoles m.log m.time m.commands m.characters m.owed refl refl refl k.formed; asleep = k.asleep }

-- as many processes, and lawful
record Follows (m t : State) : Type 0 where
  lawful : IsLawful t
  many : length t.processes ≡ length m.processes

abbrev IsLawfulOutcome : State → Outcome → Type 0
IsLawfulOutcome m (Went t) = Follows m t
IsLawfulOutcome m (Branched t to) = Follows m t
IsLawfulOutcome m Called = Unit {0}
IsLawfulOutcome m (Stopped stop) = Unit {0}

went : (m : State) (p : ℕ) (r : Registers) → AreRegisters r → IsLawful m → Follows m (with_registers m p r)
went m p r good k = record { lawful = registers_lawful m p r good k; many = as_many m p _ }

loads_by : (m : State) (p address : ℕ) (f : ℕ → Registers) (v : Verdict) → ((w : ℕ) → AreRegisters (f w)) → IsLawful m
    → IsLawfulOutcome m (where_allowed v Load address (λ page offset. Went (with_registers m p (f (word_at (bytes_of m.memory.pages page) offset)))))
loads_by m p address f (Allowed page offset) good k = went m p _ (good (word_at (bytes_of m.memory.pages page) offset)) k
loads_by m p address f (Denied rule code) good k = tt

stores_by : (m : State) (p address : ℕ) (f : ℕ → ℕ) (v : Verdict) → IsLawful m
    → IsLawfulOutcome m (where_allowed v Store address (λ page offset. Went (stored (with_registers m p (settled (process_of m p).registers)) page offset f)))
stores_by m p address f (Allowed page offset) k = record { lawful = stored_lawful (settle m p) page offset f (settle_lawful m p k); many = as_many m p _ }
stores_by m p address f (Denied rule code) k = tt

done_lawful : (m : State) (p pc : ℕ) (e : Effect) → Keeps e → IsLawful m → IsLawfulOutcome m (done m p pc e)
done_lawful m p pc (Goes r) good k = went m p r good k
done_lawful m p pc (Branches r to) good k = went m p r good k
done_lawful m p pc (Loads size address f) good k = loads_by m p address f (decide m.memory.table p Load size address) good k
done_lawful m p pc (Stores size address f) good k = stores_by m p address f (decide m.memory.table p Store size address) k
done_lawful m p pc (Faults code) good k = tt
done_lawful m p pc Calls good k = tt
done_lawful m p pc Privileged good k = tt

fetched_by : (m : State) (p pc : ℕ) (v : Verdict) → IsLawful m
    → IsLawfulOutcome m (where_allowed v Fetch pc (λ page offset. done m p pc (meaning (instruction_of (word_at (bytes_of m.memory.pages page) offset)) pc (process_of m p).registers)))
fetched_by m p pc (Allowed page offset) k = done_lawful m p pc _ (meaning_good (instruction_of (word_at (bytes_of m.memory.pages page) offset)) pc (process_of m p).registers (k.formed.processes p).registers) k
fetched_by m p pc (Denied rule code) k = tt

instruction_lawful : (m : State) (p pc : ℕ) → IsLawful m → IsLawfulOutcome m (instruction m p pc)
unfolding instruction
instruction_lawful m p pc k = fetched_by m p pc (decide m.memory.table p Fetch Word pc) k

-- Units.

pub parked_lawful : (m : State) (p unit pc : ℕ) (stop : Stop) → 0 < p → IsLawful m → IsLawful (parked m p unit pc stop)
parked_lawful m p unit pc stop above k =
    let out : IsLawful (made_unready m p Parked) = record { formed = unready_formed m p Parked above k.formed; asleep = unready_asleep m p Parked refl k.asleep } in
    let t = at_pc (settle (made_unready m p Parked) p) p unit in
    let l : IsLawful t = at_pc_lawful (settle (made_unready m p Parked) p) p unit (settle_lawful (made_unready m p Parked) p out) in
    record { formed = formed_with t t.memory t.queues t.consoles (parked m p unit pc stop).log (t.time + 1) t.commands t.characters t.owed refl refl refl l.formed; asleep = l.asleep }

after_slot_lawful : (m : State) (p unit pc target : ℕ) (o : Outcome) → 0 < p → IsLawful m → IsLawfulOutcome m o → IsLawful (after_slot m p unit pc target o)
after_slot_lawful m p unit pc target (Went t) above k f = ticked_lawful 2 (at_pc t p target) (at_pc_lawful t p target f.lawful)
after_slot_lawful m p unit pc target (Branched t next) above k f = parked_lawful m p unit pc (fault pc 10) above k
after_slot_lawful m p unit pc target Called above k f = parked_lawful m p unit pc (fault pc 8) above k
after_slot_lawful m p unit pc target (Stopped stop) above k f = parked_lawful m p unit pc stop above k

pub after_call_lawful : (m : State) (p pc : ℕ) → 0 < p → p ≤ length m.processes → IsLawful m → IsLawful (after_call m p pc)
after_call_lawful m p pc above within k =
    let afterwards = at_pc (settle m p) p (word (pc + 4)) in
    ticked_lawful 1 _ (served_lawful afterwards p pc (call_of (process_of afterwards p).registers.general) above (still_within (settle m p) p p _ (still_within m p p _ within)) (at_pc_lawful (settle m p) p (word (pc + 4)) (settle_lawful m p k)))

after_lawful : (m : State) (p pc : ℕ) (o : Outcome) → 0 < p → p ≤ length m.processes → IsLawful m → IsLawfulOutcome m o → IsLawful (after_instruction m p pc o)
after_lawful m p pc (Went t) above within k f = ticked_lawful 1 (at_pc t p (word (pc + 4))) (at_pc_lawful t p (word (pc + 4)) f.lawful)
after_lawful m p pc (Branched t target) above within k f = after_slot_lawful t p pc (word (pc + 4)) target (instruction t p (word (pc + 4))) above f.lawful (instruction_lawful t p (word (pc + 4)) f.lawful)
after_lawful m p pc Called above within k f = after_call_lawful m p pc above within k
after_lawful m p pc (Stopped stop) above within k f = parked_lawful m p pc pc stop above k

first_lawful : (m : State) (ready : List ℕ) → m.ready ≡ ready → IsLawful m → IsLawful (unit_of_first m ready)
first_lawful m [] is k = ticked_lawful 1 m k
first_lawful m (p ∷ rest) is k =
    let head = All-head (IsReady m) p rest (subst (All (IsReady m)) is k.formed.ready) in
    after_lawful m p (process_of m p).pc (instruction m p (process_of m p).pc) head.0 head.1 k (instruction_lawful m p (process_of m p).pc k)

pub unit_lawful : (m : State) → IsLawful m → IsLawful (unit m)
unfolding unit
unit_lawful m k =
    let t = unit_of_first m m.ready in
    let l : IsLawful t = first_lawful m m.ready refl k in
    record { formed = formed_with t t.memory t.queues t.consoles t.log t.time t.commands t.characters (Some (record { began = m.time; runner = first m.ready })) refl refl refl l.formed; asleep = l.asleep }

-- Touches.

touch_lawful : (m : State) (ready : List ℕ) → IsLawful m → IsLawful (touch_first m ready)
touch_lawful m [] k = k
touch_lawful m (p ∷ rest) k =
    let q = process_of m p in
    let r = (k.formed.processes p).registers in
    record {
      formed = put_formed m p (touched_process q) (record {
        registers = record {
          size = length-set (set q.registers.general 26 0) 27 q.pc ∙ (length-set q.registers.general 26 0 ∙ r.size);
          nought = get_or-set_other (set q.registers.general 26 0) 27 0 q.pc 0 (λ e. omega (arith, e)) ∙ (get_or-set_other q.registers.general 26 0 0 0 (λ e. omega (arith, e)) ∙ r.nought);
          late = tt;
        };
        line = (k.formed.processes p).line;
      }) refl k.formed;
      asleep = put_asleep m p (touched_process q) refl k.asleep;
    }

pub touched_lawful : (b : Bool) (m : State) → IsLawful m → IsLawful (touched b m)
touched_lawful true m k = touch_lawful m m.ready k
touched_lawful false m k = k
