-- What a call leaves of the registers of the process that calls: register 2 alone may differ.
use Rattle.std.proofs.Common.{◌≡◌, ◌∙◌, ℕ, ◌+◌, ◌-◌, ◌<◌, ◌^◌, List, [], ◌∷◌, length, Result, Ok, Err, sym, ap, slice_index, slice_set}
use Rattle.std.proofs.lemmas.List.{get_or-set_same, set-get_or}
use Rattle.ds_word.specs.Word.{word}
use Rattle.ds_isa.specs.Registers.{Registers, settled}
use Rattle.ds_grants.specs.State.{page_state}
use Rattle.ds_policy.specs.Grants.{PageState, give, take, drop_own}
use Rattle.ds_procs.specs.declared.call.Call.{Call}
use Rattle.ds_procs.specs.declared.call.Call.TheVariants as call
use Rattle.ds_procs.specs.declared.process.Standing.TheVariants.{Ready, Waiting, Ended}
use Rattle.ds_procs.specs.Calls.{call_of}
use Rattle.ds_pagemap.specs.Machine.{State, Process, process_of, lives}
use Rattle.ds_pagemap.specs.Calls.{answered, or_number, or_denied, queue_of, after_get, after_wait, served}
use Rattle.ds_pagemap.specs.Unit.{settle, at_pc}
use Rattle.ds_refinement.specs.Held.{Kept}
use Rattle.ds_refinement.specs.Units.{ends_in_call}
use Rattle.ds_refinement.specs.Inner.Services.{Serves}
use Rattle.ds_refinement.proofs.Registers.{HasSeat, seat_kept, process_put, registers_put}
use Rattle.ds_kernel.specs.Inner.Seats.{AreAnswered}

-- the registers but for an answer in register 2
abbrev Answers : Registers → Registers → Type 0
Answers r x = (v : ℕ) × (x ≡ record r { general = slice_set r.general 2 v })

carried : (r x y : Registers) → Answers r x → y ≡ x → Answers r y
carried r x y a e = (a.0, e ∙ a.1)

untouched : (r x : Registers) → x ≡ r → Answers r x
untouched r x e = (slice_index r.general 2, e ∙ sym (ap (λ (xs : List ℕ). record r { general = xs }) (set-get_or r.general 2 0)))

module _ (m : State) (p : ℕ) (seat : HasSeat m p) where
  abbrev caller : Registers
  caller = (process_of m p).registers

  by_answer : (v : ℕ) → Answers caller (process_of (answered m p v) p).registers
  by_answer v = (v, ap (λ (q : Process). q.registers) (process_put m p (record (process_of m p) { registers = record caller { general = slice_set caller.general 2 v } }) seat))

  by_get : (queue : List ℕ) → Answers caller (process_of (after_get m p queue) p).registers
  by_get [] = by_answer (2 ^ 32 - 1)
  by_get (byte ∷ rest) = by_answer byte

  by_number : (r : Result PageState ℕ) → Answers caller (process_of (or_number m p r) p).registers
  by_number (Ok s) = by_answer 0
  by_number (Err number) = by_answer number

  by_denied : (pc address : ℕ) (r : Result PageState ℕ) → Answers caller (process_of (or_denied m p pc address r) p).registers
  by_denied pc address (Ok s) = by_answer 0
  by_denied pc address (Err number) = by_answer number

  abbrev answer : State
  answer = answered m p 0

  its_seat : HasSeat answer p
  its_seat = seat_kept m p (record (process_of m p) { registers = record caller { general = slice_set caller.general 2 0 } }) seat

  by_wait : (queue : List ℕ) → Answers caller (process_of (after_wait answer p queue) p).registers
  by_wait [] = carried caller (process_of answer p).registers _ (by_answer 0) (ap (λ (q : Process). q.registers) (process_put answer p (record (process_of answer p) { standing = Waiting }) its_seat))
  by_wait (byte ∷ rest) = by_answer 0

  by_call : (pc : ℕ) (c : Call) → Answers caller (process_of (served m p pc c) p).registers
  by_call pc call.Exit = untouched caller _ (ap (λ (q : Process). q.registers) (process_put m p (record (process_of m p) { standing = Ended }) seat))
  by_call pc (call.Put byte) = by_answer 0
  by_call pc call.Get = by_get (queue_of m p)
  by_call pc call.Yield = carried caller (process_of answer p).registers _ (by_answer 0) (ap (λ (q : Process). q.registers) (process_put answer p (record (process_of answer p) { standing = Ready }) its_seat))
  by_call pc call.Time = by_answer m.time
  by_call pc call.Own = by_answer p
  by_call pc (call.Give address receiver to mode) = by_denied pc address (give (lives m) m.memory p address receiver to mode)
  by_call pc (call.Take process address) = by_number (take (lives m) m.memory p process address)
  by_call pc (call.Drop address) = by_number (drop_own m.memory p address)
  by_call pc call.Wait = by_wait (queue_of m p)
  by_call pc call.Unknown = by_answer (2 ^ 32 - 1)

-- registers with an answer are answered
named : (r x : Registers) → 2 < length r.general → Answers (settled r) x → AreAnswered r x
named r x long a =
    let there : slice_index x.general 2 ≡ a.0 = ap (λ (y : Registers). slice_index y.general 2) a.1 ∙ get_or-set_same r.general 2 a.0 0 long in
    a.1 ∙ ap (λ (v : ℕ). record (settled r) { general = slice_set r.general 2 v }) (sym there)

-- what a service of the call leaves in the caller's seat
pub caller_answered : (old new : Kept) (before after : List ℕ) (p unit : ℕ) → HasSeat old.state p → 2 < length (process_of old.state p).registers.general
    → Serves (ends_in_call p unit) old before new after → AreAnswered (process_of old.state p).registers (process_of new.state p).registers
caller_answered old new before after p unit seat long serves =
    let m : State = record old.state { memory = page_state old.grants before; log = [] } in
    let r : Registers = (process_of old.state p).registers in
    let quiet : State = settle m p in
    let quiet_seat : HasSeat quiet p = seat_kept m p (record (process_of m p) { registers = settled r }) seat in
    let afterwards : State = at_pc quiet p (word (unit + 4)) in
    let after_seat : HasSeat afterwards p = seat_kept quiet p (record (process_of quiet p) { pc = word (unit + 4) }) quiet_seat in
    let same : (process_of afterwards p).registers ≡ settled r =
    ap (λ (q : Process). q.registers) (process_put quiet p (record (process_of quiet p) { pc = word (unit + 4) }) quiet_seat) ∙ registers_put m p (settled r) seat in
    let done : Answers (process_of afterwards p).registers (process_of (served afterwards p unit (call_of (process_of afterwards p).registers.general)) p).registers =
    by_call afterwards p after_seat unit (call_of (process_of afterwards p).registers.general) in
    named r (process_of new.state p).registers long
    (done.0, sym (ap (λ (s : State). (process_of s p).registers) (serves.state [])) ∙ (done.1 ∙ ap (λ (x : Registers). record x { general = slice_set x.general 2 done.0 }) same))
