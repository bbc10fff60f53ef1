-- An instruction stops just where the table denies it something, or where it faults.
use Rattle.std.proofs.Common.{◌≡◌, ℕ, ◌+◌, ◌<◌, ◌≤◌, List, ◌∷◌, length, length-set, ◌⊎◌, inl, inr, refl, sym, ap, ◌∙◌, subst, arith}
use Rattle.std.specs.Prelude.{◌-◌, slice_set}
use Rattle.ds_word.specs.Word.{word}
use Rattle.ds_word.specs.Bytes.{word_at}
use Rattle.ds_isa.specs.declared.instr.Kind.{Kind}
use Rattle.ds_isa.specs.declared.instr.Kind.TheVariants.{Fetch, Load, Store}
use Rattle.ds_isa.specs.declared.instr.Size.{Size}
use Rattle.ds_isa.specs.declared.instr.Size.TheVariants.{Word}
use Rattle.ds_isa.specs.Registers.{Registers, settled}
use Rattle.ds_isa.specs.Instruction.{instruction_of}
use Rattle.ds_isa.specs.Meaning.{Effect, Goes, Branches, Loads, Stores, Faults, Calls, Privileged, meaning}
use Rattle.ds_procs.specs.declared.process.Standing.TheVariants.{Parked}
use Rattle.ds_policy.specs.declared.access.Verdict.{Verdict}
use Rattle.ds_policy.specs.declared.access.Verdict.TheVariants.{Allowed, Denied}
use Rattle.ds_policy.specs.Pages.{Table, decide, bytes_of}
use Rattle.ds_pagemap.specs.Machine.{State, Process, process_of, made_unready}
use Rattle.ds_pagemap.specs.Unit.{Outcome, Went, Branched, Called, Stopped, Stop, where_allowed, with_registers, stored, done, fault, instruction, settle, parked, unit_of_first, unit, after_instruction, after_slot}
use Rattle.ds_pagemap.proofs.Processes.{process_of-with_process}
use Rattle.ds_promise.specs.Stores.{Fetches}
use Rattle.ds_promise.specs.Denied.{IsDenied, EffectStops, InstructionStops, IsParkedAt, EndsInSlot}

stopped_is : (s t : Stop) → Stopped s ≡ Stopped t → t ≡ s
stopped_is s t e = cc

not_went : {X : Type 0} (m : State) (s : Stop) → Went m ≡ Stopped s → X
not_went m s e = absurd (no m s e)
  where
    no : (m : State) (s : Stop) → Went m ≡ Stopped s → ⊥
    no m s e = cc

not_branched : (m : State) (to : ℕ) (s : Stop) → Branched m to ≡ Stopped s → ⊥
not_branched m to s e = cc

not_called : (s : Stop) → Called ≡ Stopped s → ⊥
not_called s e = cc

-- an access is denied, or allowed and what is done then stops
record AllowedAndStops (table : Table) (p : ℕ) (kind : Kind) (size : Size) (address : ℕ) (f : ℕ → ℕ → Outcome) (stop : Stop) : Type 0 where
  page : ℕ
  offset : ℕ
  allowed : decide table p kind size address ≡ Allowed page offset
  stops : f page offset ≡ Stopped stop

access_by : (table : Table) (p : ℕ) (kind : Kind) (size : Size) (address : ℕ) (f : ℕ → ℕ → Outcome) (stop : Stop) (v : Verdict) → decide table p kind size address ≡ v → where_allowed v kind address f ≡ Stopped stop
    → IsDenied table p kind size address stop ⊎ AllowedAndStops table p kind size address f stop
access_by table p kind size address f stop (Allowed page offset) is e = inr (record { page = page; offset = offset; allowed = is; stops = e })
access_by table p kind size address f stop (Denied rule code) is e = inl (record { rule = rule; code = code; answer = is; is = stopped_is _ stop e })

loads_stop : (m : State) (p : ℕ) (size : Size) (address : ℕ) (after : ℕ → Registers) (stop : Stop)
    → where_allowed (decide m.memory.table p Load size address) Load address (λ page offset. Went (with_registers m p (after (word_at (bytes_of m.memory.pages page) offset)))) ≡ Stopped stop → IsDenied m.memory.table p Load size address stop
loads_stop m p size address after stop e = elim (access_by m.memory.table p Load size address _ stop (decide m.memory.table p Load size address) refl e) [
  | inl d ↦ d
  | inr g ↦ not_went _ stop g.stops
]

stores_stop : (m : State) (p : ℕ) (size : Size) (address : ℕ) (value : ℕ → ℕ) (stop : Stop)
    → where_allowed (decide m.memory.table p Store size address) Store address (λ page offset. Went (stored (with_registers m p (settled (process_of m p).registers)) page offset value)) ≡ Stopped stop → IsDenied m.memory.table p Store size address stop
stores_stop m p size address value stop e = elim (access_by m.memory.table p Store size address _ stop (decide m.memory.table p Store size address) refl e) [
  | inl d ↦ d
  | inr g ↦ not_went _ stop g.stops
]

effect_stops : (m : State) (p pc : ℕ) (e : Effect) (stop : Stop) → done m p pc e ≡ Stopped stop → EffectStops m p pc e stop
effect_stops m p pc (Goes r) stop h = not_went _ stop h
effect_stops m p pc (Branches r to) stop h = not_branched _ to stop h
effect_stops m p pc (Loads size address after) stop h = loads_stop m p size address after stop h
effect_stops m p pc (Stores size address value) stop h = stores_stop m p size address value stop h
effect_stops m p pc (Faults code) stop h = stopped_is _ stop h
effect_stops m p pc Calls stop h = not_called stop h
effect_stops m p pc Privileged stop h = stopped_is _ stop h

pub why_stopped : (m : State) (p pc : ℕ) (stop : Stop) → instruction m p pc ≡ Stopped stop → InstructionStops m p pc stop
unfolding instruction
why_stopped m p pc stop h = elim (access_by m.memory.table p Fetch Word pc _ stop (decide m.memory.table p Fetch Word pc) refl h) [
  | inl d ↦ inl d
  | inr g ↦ (let e = meaning (instruction_of (word_at (bytes_of m.memory.pages g.page) g.offset)) pc (process_of m p).registers in
      inr (e, record { page = g.page; offset = g.offset; fetched = g.allowed; does = refl }, effect_stops m p pc e stop g.stops))
]

-- And the other way.

denied_stops : (table : Table) (p : ℕ) (kind : Kind) (size : Size) (address : ℕ) (f : ℕ → ℕ → Outcome) (stop : Stop) → IsDenied table p kind size address stop → where_allowed (decide table p kind size address) kind address f ≡ Stopped stop
denied_stops table p kind size address f stop d = ap (λ (v : Verdict). where_allowed v kind address f) d.answer ∙ ap Stopped (sym d.is)

done_stops : (m : State) (p pc : ℕ) (e : Effect) (stop : Stop) → EffectStops m p pc e stop → done m p pc e ≡ Stopped stop
done_stops m p pc (Goes r) stop d = absurd d
done_stops m p pc (Branches r to) stop d = absurd d
done_stops m p pc (Loads size address after) stop d = denied_stops m.memory.table p Load size address _ stop d
done_stops m p pc (Stores size address value) stop d = denied_stops m.memory.table p Store size address _ stop d
done_stops m p pc (Faults code) stop d = ap Stopped (sym d)
done_stops m p pc Calls stop d = absurd d
done_stops m p pc Privileged stop d = ap Stopped (sym d)

done_fetched : (m : State) (p pc : ℕ) (e : Effect) → Fetches m p pc e → instruction m p pc ≡ done m p pc e
unfolding instruction
done_fetched m p pc e a =
    ap (λ (v : Verdict). where_allowed v Fetch pc (λ page offset. done m p pc (meaning (instruction_of (word_at (bytes_of m.memory.pages page) offset)) pc (process_of m p).registers))) a.fetched
    ∙ ap (done m p pc) a.does

fetch_stops : (m : State) (p pc : ℕ) (stop : Stop) → IsDenied m.memory.table p Fetch Word pc stop → instruction m p pc ≡ Stopped stop
unfolding instruction
fetch_stops m p pc stop d = denied_stops m.memory.table p Fetch Word pc _ stop d

pub it_stops : (m : State) (p pc : ℕ) (stop : Stop) → InstructionStops m p pc stop → instruction m p pc ≡ Stopped stop
it_stops m p pc stop (inl d) = fetch_stops m p pc stop d
it_stops m p pc stop (inr (e, a, d)) = done_fetched m p pc e a ∙ done_stops m p pc e stop d

-- Parked.

is_parked : (m : State) (p a pc : ℕ) (stop : Stop) → 0 < p → p ≤ length m.processes → IsParkedAt (parked m p a pc stop) p a
is_parked m p a pc stop above within =
    let o = made_unready m p Parked in
    let s = settle o p in
    let long : p ≤ length o.processes = longer m.processes (p - 1) _ p within in
    let longest : p ≤ length s.processes = longer o.processes (p - 1) _ p long in
    let e1 = process_of-with_process m p (record (process_of m p) { standing = Parked }) above within in
    let e2 = process_of-with_process o p (record (process_of o p) { registers = settled (process_of o p).registers }) above long in
    let e3 = process_of-with_process s p (record (process_of s p) { pc = a }) above longest in
    record {
      standing = ap (λ (q : Process). q.standing) e3 ∙ (ap (λ (q : Process). q.standing) e2 ∙ ap (λ (q : Process). q.standing) e1);
      at = ap (λ (q : Process). q.pc) e3;
    }
  where
    longer : (ps : List Process) (i : ℕ) (x : Process) (p : ℕ) → p ≤ length ps → p ≤ length (slice_set ps i x)
    longer ps i x p within = omega (arith, length-set ps i x)

-- a unit whose instruction stops parks its process where it stood
pub unit_parks : (m : State) (p : ℕ) (rest : List ℕ) (stop : Stop) → 0 < p → p ≤ length m.processes → m.ready ≡ p ∷ rest → instruction m p (process_of m p).pc ≡ Stopped stop → IsParkedAt (unit m) p (process_of m p).pc
unfolding unit
unit_parks m p rest stop above within is stops =
    let pc = (process_of m p).pc in
    let same : unit_of_first m m.ready ≡ parked m p pc pc stop = ap (unit_of_first m) is ∙ ap (after_instruction m p pc) stops in
    let k : IsParkedAt (unit_of_first m m.ready) p pc = subst (λ (t : State). IsParkedAt t p pc) (sym same) (is_parked m p pc pc stop above within) in
    record { standing = k.standing; at = k.at }

-- a branch leaves as many processes
abbrev AsMany : State → Outcome → Type 0
AsMany m (Went t) = Unit {0}
AsMany m (Branched t target) = length t.processes ≡ length m.processes
AsMany m Called = Unit {0}
AsMany m (Stopped stop) = Unit {0}

many_where : (m : State) (v : Verdict) (kind : Kind) (address : ℕ) (f : ℕ → ℕ → Outcome) → ((page offset : ℕ) → AsMany m (f page offset)) → AsMany m (where_allowed v kind address f)
many_where m (Allowed page offset) kind address f h = h page offset
many_where m (Denied rule code) kind address f h = tt

many_done : (m : State) (p pc : ℕ) (e : Effect) → AsMany m (done m p pc e)
many_done m p pc (Goes r) = tt
many_done m p pc (Branches r target) = length-set m.processes (p - 1) _
many_done m p pc (Loads size address after) = many_where m (decide m.memory.table p Load size address) Load address _ (λ page offset. tt)
many_done m p pc (Stores size address value) = many_where m (decide m.memory.table p Store size address) Store address _ (λ page offset. tt)
many_done m p pc (Faults code) = tt
many_done m p pc Calls = tt
many_done m p pc Privileged = tt

many_instruction : (m : State) (p pc : ℕ) → AsMany m (instruction m p pc)
unfolding instruction
many_instruction m p pc = many_where m (decide m.memory.table p Fetch Word pc) Fetch pc _ (λ page offset. many_done m p pc (meaning (instruction_of (word_at (bytes_of m.memory.pages page) offset)) pc (process_of m p).registers))

slot_parks : (m : State) (p a pc target : ℕ) (o : Outcome) → 0 < p → p ≤ length m.processes → EndsInSlot o → IsParkedAt (after_slot m p a pc target o) p a
slot_parks m p a pc target (Went t) above within e = absurd e
slot_parks m p a pc target (Branched t next) above within e = is_parked m p a pc (fault pc 10) above within
slot_parks m p a pc target Called above within e = is_parked m p a pc (fault pc 8) above within
slot_parks m p a pc target (Stopped stop) above within e = is_parked m p a pc stop above within

-- nor does one whose slot stops, or is a branch or a call, go on: its process is parked at the branch
pub unit_parks_in_slot : (m t : State) (p target : ℕ) (rest : List ℕ) → 0 < p → p ≤ length m.processes → m.ready ≡ p ∷ rest → instruction m p (process_of m p).pc ≡ Branched t target
    → EndsInSlot (instruction t p (word ((process_of m p).pc + 4))) → IsParkedAt (unit m) p (process_of m p).pc
unfolding unit
unit_parks_in_slot m t p target rest above within is branched ends =
    let pc = (process_of m p).pc in
    let slot = word (pc + 4) in
    let many : length t.processes ≡ length m.processes = subst (AsMany m) branched (many_instruction m p pc) in
    let same : unit_of_first m m.ready ≡ after_slot t p pc slot target (instruction t p slot) = ap (unit_of_first m) is ∙ ap (after_instruction m p pc) branched in
    let k : IsParkedAt (unit_of_first m m.ready) p pc = subst (λ (u : State). IsParkedAt u p pc) (sym same) (slot_parks t p pc slot target (instruction t p slot) above (as_many p (length t.processes) (length m.processes) many within) ends) in
    record { standing = k.standing; at = k.at }
  where
    as_many : (p a b : ℕ) → a ≡ b → p ≤ b → p ≤ a
    as_many p a b e within = omega (arith, e, within)
