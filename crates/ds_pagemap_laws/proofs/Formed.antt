-- Well-formed states stay so where one process changes, or what is beside the processes.
use Rattle.std.proofs.Common.{◌≡◌, ℕ, ◌-◌, ◌<◌, ◌≤◌, true, List, [], ◌∷◌, ◌++◌, length, length-set, refl, sym, ap, ◌∙◌, subst, arith, Option, get_or}
use Rattle.std.specs.Prelude.{◌==◌, not, slice_set}
use Rattle.std.specs.List.{All}
use Rattle.std.proofs.lemmas.List.{get_or-set_other}
use Rattle.std.proofs.lemmas.List.Elements.{All-filter, All-push, All-weaker, filter_passes}
use Rattle.std.proofs.lemmas.Bool.Decides.{nat_tests}
use Rattle.ds_log.specs.declared.line.Line.{Line}
use Rattle.ds_policy.specs.declared.command.TimedCommand.{TimedCommand}
use Rattle.ds_policy.specs.declared.command.Character.{Character}
use Rattle.ds_policy.specs.Grants.{PageState}
use Rattle.ds_procs.specs.declared.process.Standing.{Standing}
use Rattle.ds_procs.specs.declared.process.Standing.TheVariants.{Ready}
use Rattle.ds_isa.specs.Registers.{Registers}
use Rattle.ds_pagemap.specs.declared.turn.Turn.{Turn}
use Rattle.ds_pagemap.specs.Machine.{State, Process, no_process, process_of, with_process, without, made_ready, made_unready}
use Rattle.ds_pagemap.specs.Calls.{answered}
use Rattle.ds_pagemap.proofs.Processes.{process_of-with_process, process_of-with_process_other}
use Rattle.ds_pagemap_laws.specs.Lawful.{AreRegisters, IsProcess, IsReady, IsWellFormed}
use Rattle.ds_pagemap_laws.proofs.Sets.{either, shared}

-- as many processes
pub as_many : (m : State) (p : ℕ) (q : Process) → length (with_process m p q).processes ≡ length m.processes
as_many m p q = length-set m.processes (p - 1) q

pub still_within : (m : State) (p r : ℕ) (q : Process) → r ≤ length m.processes → r ≤ length (with_process m p q).processes
still_within m p r q h = subst (λ (n : ℕ). r ≤ n) (sym (as_many m p q)) h

-- one process put, and another ready list
pub formed_by : (m : State) (p : ℕ) (q : Process) (ready : List ℕ) → IsProcess q → All (IsReady (with_process m p q)) ready → IsWellFormed m → IsWellFormed (record (with_process m p q) { ready = ready })
formed_by m p q ready good list w = record {
  ready = list;
  processes = λ r. either IsProcess m.processes (p - 1) (r - 1) q no_process good (w.processes r);
  sizes = record {
    processes = subst (λ (n : ℕ). n ≤ 100) (sym (as_many m p q)) w.sizes.processes;
    queues = w.sizes.queues;
    consoles = w.sizes.consoles;
    table = w.sizes.table ∙ sym (as_many m p q);
  };
}

-- one process put that stands as before
pub put_formed : (m : State) (p : ℕ) (q : Process) → IsProcess q → q.standing ≡ (process_of m p).standing → IsWellFormed m → IsWellFormed (with_process m p q)
put_formed m p q good same w = formed_by m p q m.ready good
    (All-weaker (IsReady m) (IsReady (with_process m p q)) (λ r h. (h.0, still_within m p r q h.1, shared (λ (x : Process). x.standing) m.processes (p - 1) (r - 1) q no_process same ∙ h.2)) m.ready w.ready)
    w

-- other pages, lines, log, time, events and another turn
pub formed_with : (m : State) (memory : PageState) (queues consoles : List (List ℕ)) (log : List Line) (time : ℕ) (commands : List TimedCommand) (characters : List Character) (owed : Option Turn)
    → length memory.table ≡ length m.memory.table → length queues ≡ length m.queues → length consoles ≡ length m.consoles → IsWellFormed m
    → IsWellFormed (record m { memory = memory; queues = queues; consoles = consoles; log = log; time = time; commands = commands; characters = characters; owed = owed })
formed_with m memory queues consoles log time commands characters owed e f g w = record {
  ready = w.ready;
  processes = w.processes;
  sizes = record { processes = w.sizes.processes; queues = f ∙ w.sizes.queues; consoles = g ∙ w.sizes.consoles; table = e ∙ w.sizes.table };
}

-- a process that stands otherwise
stands : (q : Process) (s : Standing) → IsProcess q → IsProcess (record q { standing = s })
stands q s k = record { registers = k.registers; line = k.line }

pub ready_formed : (m : State) (p : ℕ) → 0 < p → p ≤ length m.processes → IsWellFormed m → IsWellFormed (made_ready m p)
ready_formed m p above within w =
    let q : Process = record (process_of m p) { standing = Ready } in
    let others = All-weaker (IsReady m) (IsReady (with_process m p q)) (λ r h. (h.0, still_within m p r q h.1, either (λ (x : Process). x.standing ≡ Ready) m.processes (p - 1) (r - 1) q no_process refl h.2)) m.ready w.ready in
    formed_by m p q (without m.ready p ++ p ∷ []) (stands (process_of m p) Ready (w.processes p))
    (All-push (IsReady (with_process m p q)) (without m.ready p) p (All-filter (λ r. not (r == p)) (IsReady (with_process m p q)) m.ready others)
    (above, still_within m p p q within, ap (λ (x : Process). x.standing) (process_of-with_process m p q above within)))
    w

pub differs : (r p : ℕ) → not (r == p) ≡ true → ¬ (r ≡ p)
differs r p apart same = grind (arith, nat_tests)

pub unready_formed : (m : State) (p : ℕ) (s : Standing) → 0 < p → IsWellFormed m → IsWellFormed (made_unready m p s)
unready_formed m p s above w =
    let q : Process = record (process_of m p) { standing = s } in
    formed_by m p q (without m.ready p) (stands (process_of m p) s (w.processes p))
    (λ k d within. one q (get_or (without m.ready p) k d) (All-filter (λ r. not (r == p)) (IsReady m) m.ready w.ready k d within) (filter_passes (λ r. not (r == p)) m.ready k d within))
    w
  where
    one : (q : Process) (r : ℕ) → IsReady m r → not (r == p) ≡ true → IsReady (with_process m p q) r
    one q r h apart = (h.0, still_within m p r q h.1, ap (λ (x : Process). x.standing) (process_of-with_process_other m p r q above h.0 (differs r p apart)) ∙ h.2)

-- Register 2 written.
pub answer_registers : (r : Registers) (v : ℕ) → AreRegisters r → AreRegisters (record r { general = slice_set r.general 2 v })
answer_registers r v k = record {
  size = length-set r.general 2 v ∙ k.size;
  nought = get_or-set_other r.general 2 0 v 0 (λ e. omega (arith, e)) ∙ k.nought;
  late = k.late;
}

pub answered_formed : (m : State) (p v : ℕ) → IsWellFormed m → IsWellFormed (answered m p v)
answered_formed m p v w =
    let q = process_of m p in
    put_formed m p (record q { registers = record q.registers { general = slice_set q.registers.general 2 v } })
    (record { registers = answer_registers q.registers v (w.processes p).registers; line = (w.processes p).line }) refl w
