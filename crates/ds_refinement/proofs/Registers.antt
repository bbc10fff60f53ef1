-- The registers of one process of a state, changed and read.
use Rattle.std.proofs.Common.{◌≡◌, ℕ, ◌<◌, ◌≤◌, length, sym, ap, subst, ◌∙◌, length-set}
use Rattle.std.specs.Prelude.{◌-◌}
use Rattle.ds_isa.specs.Registers.{Registers}
use Rattle.ds_pagemap.specs.Machine.{State, Process, process_of, with_process}
use Rattle.ds_pagemap.specs.Unit.{with_registers}
use Rattle.ds_pagemap.proofs.Processes.{process_of-with_process, with_process_again, with_process-process_of}

-- there is a process of that number
abbrev pub HasSeat : State → ℕ → Type 0
HasSeat m p = (0 < p) × (p ≤ length m.processes)

-- a process that is put has its seat
pub seat_kept : (m : State) (p : ℕ) (q : Process) → HasSeat m p → HasSeat (with_process m p q) p
seat_kept m p q seat = (seat.0, subst (λ (n : ℕ). p ≤ n) (sym (length-set m.processes (p - 1) q)) seat.1)

-- what was put is read
pub process_put : (m : State) (p : ℕ) (q : Process) → HasSeat m p → process_of (with_process m p q) p ≡ q
process_put m p q seat = process_of-with_process m p q seat.0 seat.1

-- the registers that were put are read
pub registers_put : (m : State) (p : ℕ) (r : Registers) → HasSeat m p → (process_of (with_registers m p r) p).registers ≡ r
registers_put m p r seat = ap (λ (q : Process). q.registers) (process_put m p (record (process_of m p) { registers = r }) seat)

-- the address stays
pub pc_put : (m : State) (p : ℕ) (r : Registers) → HasSeat m p → (process_of (with_registers m p r) p).pc ≡ (process_of m p).pc
pc_put m p r seat = ap (λ (q : Process). q.pc) (process_put m p (record (process_of m p) { registers = r }) seat)

-- the last registers that were put stay
pub registers_again : (m : State) (p : ℕ) (r x : Registers) → HasSeat m p → with_registers (with_registers m p r) p x ≡ with_registers m p x
registers_again m p r x seat =
    let q : Process = record (process_of m p) { registers = r } in
    ap (λ (y : Process). with_process (with_process m p q) p (record y { registers = x })) (process_put m p q seat)
    ∙ with_process_again m p q (record (process_of m p) { registers = x })

-- the registers that are there may be put
pub registers_same : (m : State) (p : ℕ) (r : Registers) → r ≡ (process_of m p).registers → with_registers m p r ≡ m
registers_same m p r same = ap (with_registers m p) same ∙ with_process-process_of m p
