-- One process of a state, changed and read.
use Rattle.std.proofs.Common.{◌≡◌, ℕ, ◌-◌, ◌<◌, ◌≤◌, List, length, ap, arith}
use Rattle.std.proofs.lemmas.List.{set-set, set-get_or, get_or-set_same, get_or-set_other}
use Rattle.ds_pagemap.specs.Machine.{State, Process, no_process, process_of, with_process}

-- what was put is read
pub process_of-with_process : (m : State) (p : ℕ) (q : Process) → 0 < p → p ≤ length m.processes → process_of (with_process m p q) p ≡ q
process_of-with_process m p q above within = get_or-set_same m.processes (p - 1) q no_process (omega arith)

-- and the others stay
pub process_of-with_process_other : (m : State) (p r : ℕ) (q : Process) → 0 < p → 0 < r → (r ≡ p → ⊥) → process_of (with_process m p q) r ≡ process_of m r
process_of-with_process_other m p r q p_above r_above apart = get_or-set_other m.processes (p - 1) (r - 1) q no_process (omega arith)

-- what is there may be put
pub with_process-process_of : (m : State) (p : ℕ) → with_process m p (process_of m p) ≡ m
with_process-process_of m p = ap (λ (ps : List Process). record m { processes = ps }) (set-get_or m.processes (p - 1) no_process)

-- the last that was put stays
pub with_process_again : (m : State) (p : ℕ) (q r : Process) → with_process (with_process m p q) p r ≡ with_process m p r
with_process_again m p q r = ap (λ (ps : List Process). record m { processes = ps }) (set-set m.processes (p - 1) q r)
