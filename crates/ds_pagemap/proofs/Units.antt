-- What a unit leaves of the log, the time, the pages and the table.
use Rattle.std.proofs.Common.{◌≡◌, ◌≢◌, ℕ, ◌+◌, List, [], ◌∷◌, Result, Ok, Err, inl, inr, refl, ap, ◌∙◌, subst}
use Rattle.ds_isa.specs.declared.instr.Kind.{Kind}
use Rattle.ds_policy.specs.declared.access.Verdict.{Verdict}
use Rattle.ds_policy.specs.declared.access.Verdict.TheVariants as verdict
use Rattle.ds_policy.specs.Grants.{PageState, give, take, drop_own}
use Rattle.ds_word.specs.Bytes.{word_at}
use Rattle.ds_policy.specs.Pages.{decide, bytes_of}
use Rattle.ds_isa.specs.declared.instr.Size.TheVariants.{Word}
use Rattle.ds_isa.specs.declared.instr.Kind.TheVariants as kind
use Rattle.ds_word.specs.Word.{word}
use Rattle.ds_isa.specs.Instruction.{instruction_of}
use Rattle.ds_isa.specs.Meaning.{Effect, Goes, Branches, Loads, Stores, Faults, Calls, Privileged, meaning}
use Rattle.ds_procs.specs.declared.call.Call.{Call}
use Rattle.ds_procs.specs.declared.call.Call.TheVariants as call
use Rattle.ds_procs.specs.Calls.{call_of}
use Rattle.ds_pagemap.specs.Machine.{State, process_of, lives}
use Rattle.ds_pagemap.specs.Calls.{served, or_number, or_denied, after_get, after_wait, queue_of, answered}
use Rattle.ds_pagemap.specs.Unit.{Outcome, Went, Branched, Called, Stopped, Stop, where_allowed, done, instruction, after_slot, after_instruction, after_call, unit_of_first, unit, settle, at_pc}
use Rattle.ds_pagemap.specs.Laws.{GrowsByALineAtMost, IsOneOrTwoLater}

-- the same log, time and table
pub record SameBeside (m t : State) : Type 0 where
  pub log : t.log ≡ m.log
  pub time : t.time ≡ m.time
  pub table : t.memory.table ≡ m.memory.table

same : (m : State) → SameBeside m m
same m = record { log = refl; time = refl; table = refl }

-- what an instruction leaves: a branch all memory, and what goes on at least the table
abbrev pub Leaves : State → Outcome → Type 0
Leaves m (Went t) = SameBeside m t
Leaves m (Branched t target) = SameBeside m t × (t.memory ≡ m.memory)
Leaves m Called = Unit {0}
Leaves m (Stopped stop) = Unit {0}

leaves_where_allowed : (m : State) (v : Verdict) (kind : Kind) (address : ℕ) (f : ℕ → ℕ → Outcome) → ((page offset : ℕ) → Leaves m (f page offset)) → Leaves m (where_allowed v kind address f)
leaves_where_allowed m (verdict.Allowed page offset) kind address f h = h page offset
leaves_where_allowed m (verdict.Denied rule code) kind address f h = tt

leaves_done : (m : State) (p pc : ℕ) (e : Effect) → Leaves m (done m p pc e)
leaves_done m p pc (Goes after) = record { log = refl; time = refl; table = refl }
leaves_done m p pc (Branches after target) = (record { log = refl; time = refl; table = refl }, refl)
leaves_done m p pc (Loads size address after) = leaves_where_allowed m (decide m.memory.table p kind.Load size address) kind.Load address _ (λ page offset. record { log = refl; time = refl; table = refl })
leaves_done m p pc (Stores size address after) = leaves_where_allowed m (decide m.memory.table p kind.Store size address) kind.Store address _ (λ page offset. record { log = refl; time = refl; table = refl })
leaves_done m p pc (Faults code) = tt
leaves_done m p pc Privileged = tt
leaves_done m p pc Calls = tt

pub leaves_instruction : (m : State) (p pc : ℕ) → Leaves m (instruction m p pc)
unfolding instruction
leaves_instruction m p pc = leaves_where_allowed m (decide m.memory.table p kind.Fetch Word pc) kind.Fetch pc _ (λ page offset. leaves_done m p pc (meaning (instruction_of (word_at (bytes_of m.memory.pages page) offset)) pc (process_of m p).registers))

-- Calls.

-- the same time, and a line more in the log at most
record CallLeaves (m t : State) : Type 0 where
  time : t.time ≡ m.time
  log : GrowsByALineAtMost m.log t.log

after_get-leaves : (m : State) (p : ℕ) (queue : List ℕ) → CallLeaves m (after_get m p queue)
after_get-leaves m p [] = record { time = refl; log = inl refl }
after_get-leaves m p (b ∷ rest) = record { time = refl; log = inl refl }

after_wait-leaves : (m : State) (p : ℕ) (queue : List ℕ) → CallLeaves m (after_wait m p queue)
after_wait-leaves m p [] = record { time = refl; log = inl refl }
after_wait-leaves m p (b ∷ rest) = record { time = refl; log = inl refl }

or_denied-leaves : (m : State) (p pc address : ℕ) (r : Result PageState ℕ) → CallLeaves m (or_denied m p pc address r)
or_denied-leaves m p pc address (Ok s) = record { time = refl; log = inl refl }
or_denied-leaves m p pc address (Err number) = record { time = refl; log = inr (_, refl) }

or_number-leaves : (m : State) (p : ℕ) (r : Result PageState ℕ) → CallLeaves m (or_number m p r)
or_number-leaves m p (Ok s) = record { time = refl; log = inl refl }
or_number-leaves m p (Err number) = record { time = refl; log = inl refl }

served-leaves : (m : State) (p pc : ℕ) (c : Call) → CallLeaves m (served m p pc c)
served-leaves m p pc call.Exit = record { time = refl; log = inl refl }
served-leaves m p pc (call.Put byte) = record { time = refl; log = inl refl }
served-leaves m p pc call.Get = after_get-leaves m p (queue_of m p)
served-leaves m p pc call.Yield = record { time = refl; log = inl refl }
served-leaves m p pc call.Time = record { time = refl; log = inl refl }
served-leaves m p pc call.Own = record { time = refl; log = inl refl }
served-leaves m p pc (call.Give address receiver to mode) = or_denied-leaves m p pc address (give (lives m) m.memory p address receiver to mode)
served-leaves m p pc (call.Take process address) = or_number-leaves m p (take (lives m) m.memory p process address)
served-leaves m p pc (call.Drop address) = or_number-leaves m p (drop_own m.memory p address)
served-leaves m p pc call.Wait = let l = after_wait-leaves (answered m p 0) p (queue_of m p) in record { time = l.time; log = l.log }
served-leaves m p pc call.Unknown = record { time = refl; log = inl refl }

-- Units.

-- a tick or two more, and a line more in the log at most
record UnitLeaves (m t : State) : Type 0 where
  time : IsOneOrTwoLater m.time t.time
  log : GrowsByALineAtMost m.log t.log

-- what follows a state that is the same but for registers and pages
unit_leaves_from : (m n t : State) → SameBeside m n → UnitLeaves n t → UnitLeaves m t
unit_leaves_from m n t l u = record {
  time = subst (λ time. IsOneOrTwoLater time t.time) l.time u.time;
  log = subst (λ log. GrowsByALineAtMost log t.log) l.log u.log;
}

after_call-leaves : (m : State) (p pc : ℕ) → UnitLeaves m (after_call m p pc)
after_call-leaves m p pc =
    let afterwards = at_pc (settle m p) p (word (pc + 4)) in
    let l = served-leaves afterwards p pc (call_of (process_of afterwards p).registers.general) in
    record { time = inl (ap (λ t. t + 1) l.time); log = l.log }

after_slot-leaves : (m : State) (p a pc target : ℕ) (o : Outcome) → Leaves m o → UnitLeaves m (after_slot m p a pc target o)
after_slot-leaves m p a pc target (Went t) l = record { time = inr (ap (λ t. t + 2) l.time); log = inl l.log }
after_slot-leaves m p a pc target (Branched t next) l = record { time = inl refl; log = inr (_, refl) }
after_slot-leaves m p a pc target Called l = record { time = inl refl; log = inr (_, refl) }
after_slot-leaves m p a pc target (Stopped stop) l = record { time = inl refl; log = inr (_, refl) }

after_instruction-leaves : (m : State) (p pc : ℕ) (o : Outcome) → Leaves m o → UnitLeaves m (after_instruction m p pc o)
after_instruction-leaves m p pc (Went t) l = record { time = inl (ap (λ t. t + 1) l.time); log = inl l.log }
after_instruction-leaves m p pc (Branched t target) l =
    let slot = word (pc + 4) in
    unit_leaves_from m t (after_slot t p pc slot target (instruction t p slot)) l.0 (after_slot-leaves t p pc slot target (instruction t p slot) (leaves_instruction t p slot))
after_instruction-leaves m p pc Called l = after_call-leaves m p pc
after_instruction-leaves m p pc (Stopped stop) l = record { time = inl refl; log = inr (_, refl) }

unit_of_first-leaves : (m : State) (ready : List ℕ) → UnitLeaves m (unit_of_first m ready)
unit_of_first-leaves m [] = record { time = inl refl; log = inl refl }
unit_of_first-leaves m (p ∷ rest) = after_instruction-leaves m p (process_of m p).pc (instruction m p (process_of m p).pc) (leaves_instruction m p (process_of m p).pc)

-- a unit takes a tick or two
pub unit_time : (m : State) → IsOneOrTwoLater m.time (unit m).time
unfolding unit
unit_time m = (unit_of_first-leaves m m.ready).time

-- a unit adds a line to the log at most
pub unit_log : (m : State) → GrowsByALineAtMost m.log (unit m).log
unfolding unit
unit_log m = (unit_of_first-leaves m m.ready).log

-- Memory.

after_slot-table : (m : State) (p a pc target : ℕ) (o : Outcome) → Leaves m o → (after_slot m p a pc target o).memory.table ≡ m.memory.table
after_slot-table m p a pc target (Went t) l = l.table
after_slot-table m p a pc target (Branched t next) l = refl
after_slot-table m p a pc target Called l = refl
after_slot-table m p a pc target (Stopped stop) l = refl

-- a unit that is no call leaves the table
pub after_instruction-table : (m : State) (p pc : ℕ) (o : Outcome) → Leaves m o → o ≢ Called → (after_instruction m p pc o).memory.table ≡ m.memory.table
after_instruction-table m p pc (Went t) l apart = l.table
after_instruction-table m p pc (Branched t target) l apart = let slot = word (pc + 4) in after_slot-table t p pc slot target (instruction t p slot) (leaves_instruction t p slot) ∙ l.0.table
after_instruction-table m p pc Called l apart = absurd (apart refl)
after_instruction-table m p pc (Stopped stop) l apart = refl

pub unit_no_call : (m : State) (p : ℕ) (rest : List ℕ) → m.ready ≡ p ∷ rest → instruction m p (process_of m p).pc ≢ Called → (unit m).memory.table ≡ m.memory.table
unfolding unit
unit_no_call m p rest is apart =
    ap (λ ready. (unit_of_first m ready).memory.table) is ∙ after_instruction-table m p (process_of m p).pc (instruction m p (process_of m p).pc) (leaves_instruction m p (process_of m p).pc) apart

-- a unit that is stopped leaves pages and table
pub unit_stopped : (m : State) (p : ℕ) (rest : List ℕ) (stop : Stop) → m.ready ≡ p ∷ rest → instruction m p (process_of m p).pc ≡ Stopped stop → (unit m).memory ≡ m.memory
unfolding unit
unit_stopped m p rest stop is stopped = ap (λ ready. (unit_of_first m ready).memory) is ∙ ap (λ o. (after_instruction m p (process_of m p).pc o).memory) stopped

branch_leaves : (m t : State) (target : ℕ) (o : Outcome) → Leaves m o → o ≡ Branched t target → t.memory ≡ m.memory
branch_leaves m t target o l is = (subst (Leaves m) is l).1

-- so does one that is stopped in its slot
pub unit_stopped_in_slot : (m t : State) (p target : ℕ) (rest : List ℕ) (stop : Stop) → m.ready ≡ p ∷ rest → instruction m p (process_of m p).pc ≡ Branched t target
    → instruction t p (word ((process_of m p).pc + 4)) ≡ Stopped stop → (unit m).memory ≡ m.memory
unfolding unit
unit_stopped_in_slot m t p target rest stop is branched stopped =
    let pc = (process_of m p).pc in
    ap (λ ready. (unit_of_first m ready).memory) is ∙ (ap (λ o. (after_instruction m p pc o).memory) branched
    ∙ (ap (λ o. (after_slot t p pc (word (pc + 4)) target o).memory) stopped ∙ branch_leaves m t target (instruction m p pc) (leaves_instruction m p pc) branched))
