-- A quiet unit makes twins of twins.
use Rattle.std.proofs.Common.{◌≡◌, ℕ, ◌+◌, ◌-◌, Bool, true, false, cond, List, [], ◌∷◌, ◌++◌, refl, sym, ap, ap₂, ◌∙◌, subst, arith, length-set, ◌<◌, ◌%◌}
use Rattle.std.proofs.Math.Path.{fun_ext}
use Rattle.std.specs.Prelude.{◌^◌, ◌&&◌, ◌==◌, nat_lt, not, slice_index, slice_index_or, slice_set, Some, Result, Ok, Err}
use Rattle.ds_word.specs.Word.{word}
use Rattle.ds_isa.specs.declared.instr.Size.TheVariants.{Word}
use Rattle.ds_isa.specs.Registers.{Registers, settled}
use Rattle.ds_isa.specs.Instruction.{instruction_of}
use Rattle.ds_isa.specs.Meaning.{Effect, Goes, Branches, Loads, Stores, Faults, Calls, Privileged, meaning}
use Rattle.ds_procs.specs.declared.process.Standing.{Standing}
use Rattle.ds_procs.specs.declared.process.Standing.TheVariants.{Waiting, Parked, Ended}
use Rattle.ds_procs.specs.declared.call.Call.{Call}
use Rattle.ds_procs.specs.declared.call.Call.TheVariants as call
use Rattle.ds_procs.specs.Calls.{call_of}
use Rattle.ds_log.specs.declared.line.Line.TheVariants.{Denial}
use Rattle.ds_isa.specs.declared.instr.Kind.TheVariants.{Fetch, Load, Store}
use Rattle.ds_policy.specs.declared.access.Verdict.{Verdict}
use Rattle.ds_policy.specs.declared.access.Verdict.TheVariants.{Allowed, Denied}
use Rattle.ds_word.specs.Bytes.{word_at, with_word}
use Rattle.ds_policy.specs.Pages.{decide, bytes_of}
use Rattle.ds_policy.specs.Grants.{PageState, give, take, drop_own, end_process}
use Rattle.ds_pagemap.specs.Machine.{State, Process, process_of, has_ended, lives, first}
use Rattle.ds_pagemap.specs.Calls.{with_pages, ended, answered, or_number, or_denied, queue_of, after_put, after_get, after_wait, served}
use Rattle.ds_pagemap.specs.Unit.{Stop, Outcome, Went, Branched, Called, Stopped, with_registers, where_allowed, stored, done, instruction, parked, after_slot, after_call, after_instruction, fault, unit_of_first, unit}
use Rattle.ds_promise.specs.Alike.{AreAlike, DoAlike}
use Rattle.ds_promise.specs.Inner.Twins.{AreTwins, IsTwin, OutcomesAlike}
use Rattle.ds_promise.specs.Quiet.{quiet_where, quiet_at, quiet_after, quiet_first}
use Rattle.ds_promise.proofs.Quietness.{quiet, settled_alike, sets_alike}
use Rattle.ds_promise.proofs.Twins.{twin, same, via, registers_alike, at_pc_alike, ticked_alike, logged_alike, settle_alike, ready_alike, unready_alike}

-- The outcome of an instruction.

loads_by : (m : State) (qs : List Process) (p address : ℕ) (f g : ℕ → Registers) (v : Verdict) → AreTwins m.processes qs → ((w : ℕ) → AreAlike (f w) (g w))
    → OutcomesAlike (where_allowed v Load address (λ page offset. Went (with_registers m p (f (word_at (bytes_of m.memory.pages page) offset)))))
    (where_allowed v Load address (λ page offset. Went (with_registers (twin m qs) p (g (word_at (bytes_of m.memory.pages page) offset)))))
loads_by m qs p address f g (Allowed page offset) k e = registers_alike m qs p _ _ k (e (word_at (bytes_of m.memory.pages page) offset))
loads_by m qs p address f g (Denied rule code) k e = refl

stored_alike : (m t : State) (page offset : ℕ) (f g : ℕ → ℕ) → IsTwin m t → ((w : ℕ) → f w ≡ g w) → IsTwin (stored m page offset f) (stored t page offset g)
stored_alike m t page offset f g k e = record {
  processes = k.processes;
  is = ap (λ (s : State). stored s page offset g) k.is
      ∙ ap (λ (w : ℕ). record (twin m k.processes) { memory = record m.memory { pages = slice_set m.memory.pages page (Some (with_word (bytes_of m.memory.pages page) offset w)) } }) (sym (e (word_at (bytes_of m.memory.pages page) offset)));
  twins = k.twins;
}

stores_by : (m : State) (qs : List Process) (p address : ℕ) (f g : ℕ → ℕ) (v : Verdict) → AreTwins m.processes qs → ((w : ℕ) → f w ≡ g w)
    → OutcomesAlike (where_allowed v Store address (λ page offset. Went (stored (with_registers m p (settled (process_of m p).registers)) page offset f)))
    (where_allowed v Store address (λ page offset. Went (stored (with_registers (twin m qs) p (settled (process_of (twin m qs) p).registers)) page offset g)))
stores_by m qs p address f g (Allowed page offset) k e = stored_alike _ _ page offset f g (registers_alike m qs p _ _ k (settled_alike _ _ ((k.each (p - 1)).registers))) e
stores_by m qs p address f g (Denied rule code) k e = refl

done_alike : (m : State) (qs : List Process) (p pc : ℕ) (e f : Effect) → AreTwins m.processes qs → DoAlike e f → OutcomesAlike (done m p pc e) (done (twin m qs) p pc f)
done_alike m qs p pc (Goes r) (Goes s) k a = registers_alike m qs p r s k a
done_alike m qs p pc (Branches r to) (Branches s there) k a = (registers_alike m qs p r s k a.0, a.1)
done_alike m qs p pc (Loads size address f) (Loads other place g) k a = rw (a.0, a.1) (loads_by m qs p place f g (decide m.memory.table p Load other place) k a.2)
done_alike m qs p pc (Stores size address f) (Stores other place g) k a = rw (a.0, a.1) (stores_by m qs p place f g (decide m.memory.table p Store other place) k a.2)
done_alike m qs p pc (Faults code) (Faults number) k a = ap (fault pc) a
done_alike m qs p pc Calls Calls k a = tt
done_alike m qs p pc Privileged Privileged k a = refl
done_alike m qs p pc e f k a = absurd a

fetched_by : (m : State) (qs : List Process) (p pc : ℕ) (v : Verdict) → AreTwins m.processes qs → quiet_where m p v ≡ true
    → OutcomesAlike (where_allowed v Fetch pc (λ page offset. done m p pc (meaning (instruction_of (word_at (bytes_of m.memory.pages page) offset)) pc (process_of m p).registers)))
    (where_allowed v Fetch pc (λ page offset. done (twin m qs) p pc (meaning (instruction_of (word_at (bytes_of m.memory.pages page) offset)) pc (process_of (twin m qs) p).registers)))
fetched_by m qs p pc (Allowed page offset) k q = done_alike m qs p pc _ _ k (quiet (instruction_of (word_at (bytes_of m.memory.pages page) offset)) pc (process_of m p).registers (process_of (twin m qs) p).registers (k.each (p - 1)).registers q)
fetched_by m qs p pc (Denied rule code) k q = refl

pub instruction_alike : (m : State) (qs : List Process) (p pc : ℕ) → AreTwins m.processes qs → quiet_at m p pc ≡ true → OutcomesAlike (instruction m p pc) (instruction (twin m qs) p pc)
unfolding instruction
instruction_alike m qs p pc k q = fetched_by m qs p pc (decide m.memory.table p Fetch Word pc) k q

-- the same of twins that are not written out
instruction_of_twin : (m t : State) (p pc : ℕ) → IsTwin m t → quiet_at m p pc ≡ true → OutcomesAlike (instruction m p pc) (instruction t p pc)
instruction_of_twin m t p pc k q = subst (λ (s : State). OutcomesAlike (instruction m p pc) (instruction s p pc)) (sym k.is) (instruction_alike m k.processes p pc k.twins q)

-- Stops and slots.

pub parked_alike : (a b : State) (p unit pc : ℕ) (stop : Stop) → IsTwin a b → IsTwin (parked a p unit pc stop) (parked b p unit pc stop)
parked_alike a b p unit pc stop = via (λ m. parked m p unit pc stop) a b (λ qs k.
    ticked_alike _ _ 1 (logged_alike _ _ (Denial a.time p pc stop.kind stop.address stop.rule stop.code) (at_pc_alike _ _ p unit (settle_alike _ _ p (unready_alike a (twin a qs) p Parked (same a qs k))))))

after_slot_alike : (a b : State) (p unit pc to there : ℕ) (o u : Outcome) → IsTwin a b → to ≡ there → OutcomesAlike o u → IsTwin (after_slot a p unit pc to o) (after_slot b p unit pc there u)
after_slot_alike a b p unit pc to there (Went m) (Went t) k e s = rw e (ticked_alike _ _ 2 (at_pc_alike m t p there s))
after_slot_alike a b p unit pc to there (Branched m x) (Branched t y) k e s = parked_alike a b p unit pc (fault pc 10) k
after_slot_alike a b p unit pc to there Called Called k e s = parked_alike a b p unit pc (fault pc 8) k
after_slot_alike a b p unit pc to there (Stopped stop) (Stopped other) k e s = rw s (parked_alike a b p unit pc other k)
after_slot_alike a b p unit pc to there o u k e s = absurd s

-- Calls.

pub lives_alike : (m : State) (qs : List Process) → AreTwins m.processes qs → lives (twin m qs) ≡ lives m
lives_alike m qs k = fun_ext (λ p. ap₂ (λ (n : ℕ) (s : Standing). nat_lt 0 p && (nat_lt p (n + 1) && not (has_ended s))) (sym k.size) (sym ((k.each (p - 1)).standing)))

answered_alike : (a b : State) (p value : ℕ) → IsTwin a b → IsTwin (answered a p value) (answered b p value)
answered_alike a b p value = via (λ m. answered m p value) a b (λ qs k. (let t = k.each (p - 1) in let r = t.registers in
    registers_alike a qs p _ _ k (record {
      general = λ n e. sets_alike (process_of a p).registers.general (process_of (twin a qs) p).registers.general 2 value n (within r.size) (within r.same_size) (r.general n e);
      hi = r.hi;
      lo = r.lo;
      late = r.late;
      size = length-set (process_of a p).registers.general 2 value ∙ r.size;
      same_size = length-set (process_of (twin a qs) p).registers.general 2 value ∙ r.same_size;
    })))
  where
    within : {n : ℕ} → n ≡ 32 → 2 < n
    within e = omega arith

pub pages_alike : (a b : State) (s : PageState) → IsTwin a b → IsTwin (with_pages a s) (with_pages b s)
pages_alike a b s = via (λ m. with_pages m s) a b (λ qs k. same (with_pages a s) qs k)

or_number_alike : (a b : State) (p : ℕ) (r : Result PageState ℕ) → IsTwin a b → IsTwin (or_number a p r) (or_number b p r)
or_number_alike a b p (Ok s) k = answered_alike _ _ p 0 (pages_alike a b s k)
or_number_alike a b p (Err number) k = answered_alike a b p number k

or_denied_alike : (a : State) (qs : List Process) (p pc address : ℕ) (r : Result PageState ℕ) → AreTwins a.processes qs → IsTwin (or_denied a p pc address r) (or_denied (twin a qs) p pc address r)
or_denied_alike a qs p pc address (Ok s) k = answered_alike _ _ p 0 (pages_alike a (twin a qs) s (same a qs k))
or_denied_alike a qs p pc address (Err number) k = logged_alike _ _ _ (answered_alike a (twin a qs) p number (same a qs k))

pub ended_alike : (a b : State) (p : ℕ) → IsTwin a b → IsTwin (ended a p) (ended b p)
ended_alike a b p = via (λ m. ended m p) a b (λ qs k. pages_alike _ _ (end_process a.memory p) (unready_alike a (twin a qs) p Ended (same a qs k)))

put_text : (a : State) (qs : List Process) (p byte : ℕ) → AreTwins a.processes qs → IsTwin (after_put a p byte) (after_put (twin a qs) p byte)
put_text a qs p byte k = record {
  processes = qs;
  is = ap (λ (l : ℕ). record (twin a qs) { consoles = slice_set a.consoles l (slice_index_or a.consoles l [] ++ byte ∷ []) }) (sym ((k.each (p - 1)).line));
  twins = k;
}

pub queue_alike : (a : State) (qs : List Process) (p : ℕ) → AreTwins a.processes qs → queue_of (twin a qs) p ≡ queue_of a p
queue_alike a qs p k = ap (λ (l : ℕ). slice_index_or a.queues l []) (sym ((k.each (p - 1)).line))

get_by : (a : State) (qs : List Process) (p : ℕ) (queue : List ℕ) → AreTwins a.processes qs → IsTwin (after_get a p queue) (after_get (twin a qs) p queue)
get_by a qs p [] k = answered_alike a (twin a qs) p (2 ^ 32 - 1) (same a qs k)
get_by a qs p (byte ∷ rest) k = answered_alike _ _ p byte (record {
  processes = qs;
  is = ap (λ (l : ℕ). record (twin a qs) { queues = slice_set a.queues l rest }) (sym ((k.each (p - 1)).line));
  twins = k;
})

wait_by : (a b : State) (p : ℕ) (queue : List ℕ) → IsTwin a b → IsTwin (after_wait a p queue) (after_wait b p queue)
wait_by a b p [] k = unready_alike a b p Waiting k
wait_by a b p (byte ∷ rest) k = k

served_alike : (a : State) (qs : List Process) (p pc : ℕ) (c : Call) → AreTwins a.processes qs → IsTwin (served a p pc c) (served (twin a qs) p pc c)
served_alike a qs p pc call.Exit k = ended_alike a (twin a qs) p (same a qs k)
served_alike a qs p pc (call.Put byte) k = answered_alike _ _ p 0 (put_text a qs p byte k)
served_alike a qs p pc call.Get k = subst (λ (queue : List ℕ). IsTwin (after_get a p (queue_of a p)) (after_get (twin a qs) p queue)) (sym (queue_alike a qs p k)) (get_by a qs p (queue_of a p) k)
served_alike a qs p pc call.Yield k = ready_alike _ _ p (answered_alike a (twin a qs) p 0 (same a qs k))
served_alike a qs p pc call.Time k = answered_alike a (twin a qs) p a.time (same a qs k)
served_alike a qs p pc call.Own k = answered_alike a (twin a qs) p p (same a qs k)
served_alike a qs p pc (call.Give address receiver to mode) k =
    subst (λ (alive : ℕ → Bool). IsTwin (or_denied a p pc address (give (lives a) a.memory p address receiver to mode)) (or_denied (twin a qs) p pc address (give alive a.memory p address receiver to mode))) (sym (lives_alike a qs k))
    (or_denied_alike a qs p pc address (give (lives a) a.memory p address receiver to mode) k)
served_alike a qs p pc (call.Take process address) k =
    subst (λ (alive : ℕ → Bool). IsTwin (or_number a p (take (lives a) a.memory p process address)) (or_number (twin a qs) p (take alive a.memory p process address))) (sym (lives_alike a qs k))
    (or_number_alike a (twin a qs) p (take (lives a) a.memory p process address) (same a qs k))
served_alike a qs p pc (call.Drop address) k = or_number_alike a (twin a qs) p (drop_own a.memory p address) (same a qs k)
served_alike a qs p pc call.Wait k = subst (λ (queue : List ℕ). IsTwin (after_wait (answered a p 0) p (queue_of a p)) (after_wait (answered (twin a qs) p 0) p queue)) (sym (queue_alike a qs p k))
    (wait_by _ _ p (queue_of a p) (answered_alike a (twin a qs) p 0 (same a qs k)))
served_alike a qs p pc call.Unknown k = answered_alike a (twin a qs) p (2 ^ 32 - 1) (same a qs k)

served_twins : (a b : State) (p pc : ℕ) (c d : Call) → IsTwin a b → c ≡ d → IsTwin (served a p pc c) (served b p pc d)
served_twins a b p pc c d k e = rw e (via (λ m. served m p pc d) a b (λ qs t. served_alike a qs p pc d t) k)

-- the call of a number with its arguments
abbrev call_by : ℕ → ℕ → ℕ → ℕ → ℕ → Call
call_by n a b c d =
    cond (n == 0) call.Exit (cond (n == 1) (call.Put (a % 256)) (cond (n == 2) call.Get (cond (n == 3) call.Yield (cond (n == 4) call.Time (cond (n == 5) call.Own
    (cond (n == 6) (call.Give a b c d) (cond (n == 7) (call.Take a b) (cond (n == 8) (call.Drop a) (cond (n == 9) call.Wait call.Unknown)))))))))

-- a call's registers are none that a touch can reach
call_alike : (r s : Registers) → AreAlike r s → call_of r.general ≡ call_of s.general
call_alike r s k =
    ap₂ (λ (n a : ℕ). call_by n a (slice_index r.general 5) (slice_index r.general 6) (slice_index r.general 7)) (k.general 2 refl) (k.general 4 refl)
    ∙ (ap₂ (λ (b c : ℕ). call_by (slice_index s.general 2) (slice_index s.general 4) b c (slice_index r.general 7)) (k.general 5 refl) (k.general 6 refl)
    ∙ ap (call_by (slice_index s.general 2) (slice_index s.general 4) (slice_index s.general 5) (slice_index s.general 6)) (k.general 7 refl))

registers_of_twin : (a b : State) (p : ℕ) → IsTwin a b → AreAlike (process_of a p).registers (process_of b p).registers
registers_of_twin a b p k = subst (λ (m : State). AreAlike (process_of a p).registers (process_of m p).registers) (sym k.is) ((k.twins.each (p - 1)).registers)

after_call_alike : (a b : State) (p pc : ℕ) → IsTwin a b → IsTwin (after_call a p pc) (after_call b p pc)
after_call_alike a b p pc k =
    let afterwards = at_pc_alike _ _ p (word (pc + 4)) (settle_alike a b p k) in
    ticked_alike _ _ 1 (served_twins _ _ p pc _ _ afterwards (call_alike _ _ (registers_of_twin _ _ p afterwards)))

after_alike : (a b : State) (p pc : ℕ) (o u : Outcome) → IsTwin a b → OutcomesAlike o u → quiet_after p pc o ≡ true → IsTwin (after_instruction a p pc o) (after_instruction b p pc u)
after_alike a b p pc (Went m) (Went t) k s q = ticked_alike _ _ 1 (at_pc_alike m t p (word (pc + 4)) s)
after_alike a b p pc (Branched m x) (Branched t y) k s q = after_slot_alike m t p pc (word (pc + 4)) x y _ _ s.0 s.1 (instruction_of_twin m t p (word (pc + 4)) s.0 q)
after_alike a b p pc Called Called k s q = after_call_alike a b p pc k
after_alike a b p pc (Stopped stop) (Stopped other) k s q = rw s (parked_alike a b p pc pc other k)
after_alike a b p pc o u k s q = absurd s

both : (x y : Bool) → (x && y) ≡ true → (x ≡ true) × (y ≡ true)
both true y e = (refl, e)
both false y e = absurd cc

first_alike : (m : State) (qs : List Process) (ready : List ℕ) → AreTwins m.processes qs → quiet_first m ready ≡ true → IsTwin (unit_of_first m ready) (unit_of_first (twin m qs) ready)
first_alike m qs [] k q = ticked_alike m (twin m qs) 1 (same m qs k)
first_alike m qs (p ∷ rest) k q =
    let pc = (process_of m p).pc in
    let parts = both (quiet_at m p pc) _ q in
    let here : IsTwin (after_instruction m p pc (instruction m p pc)) (after_instruction (twin m qs) p pc (instruction (twin m qs) p pc)) =
    after_alike m (twin m qs) p pc _ _ (same m qs k) (instruction_alike m qs p pc k parts.0) parts.1 in
    subst (λ (n : ℕ). IsTwin (after_instruction m p pc (instruction m p pc)) (after_instruction (twin m qs) p n (instruction (twin m qs) p n))) ((k.each (p - 1)).pc) here

pub unit_alike : (m : State) (qs : List Process) → AreTwins m.processes qs → quiet_first m m.ready ≡ true → IsTwin (unit m) (unit (twin m qs))
unfolding unit
unit_alike m qs k q = let t = first_alike m qs m.ready k q in
    via (λ (s : State). record s { owed = Some (record { began = m.time; runner = first m.ready }) }) _ _ (λ rs l. record { processes = rs; is = refl; twins = l }) t
