-- One process of a state in which all late loads are finished.
use Rattle.std.proofs.Common.{◌≡◌, ℕ, zero, suc, ◌-◌, Bool, true, false, cond, List, [], ◌∷◌, map, length, refl, sym, ap, ◌∙◌}
use Rattle.std.specs.Prelude.{slice_index_or, nat_lt, ◌&&◌}
use Rattle.std.proofs.lemmas.List.{map-set}
use Rattle.ds_procs.specs.declared.process.Standing.TheVariants.{Ready}
use Rattle.ds_pagemap.specs.Machine.{State, Process, no_process, process_of, with_process, is_waiting, made_ready}
use Rattle.ds_pagemap.specs.Boundary.{wakes}
use Rattle.ds_pagemap_laws.specs.Settled.{settled_process, all_settled}

index_settled : (qs : List Process) (i : ℕ) → slice_index_or (map settled_process qs) i no_process ≡ settled_process (slice_index_or qs i no_process)
index_settled [] i = refl
index_settled (q ∷ qs) zero = refl
index_settled (q ∷ qs) (suc i) = index_settled qs i

pub of_settled : (m : State) (p : ℕ) → process_of (all_settled m) p ≡ settled_process (process_of m p)
of_settled m p = index_settled m.processes (p - 1)

pub with_settled : (m : State) (p : ℕ) (q : Process) → all_settled (with_process m p q) ≡ with_process (all_settled m) p (settled_process q)
with_settled m p q = ap (λ (qs : List Process). record m { processes = qs }) (map-set settled_process m.processes (p - 1) q)

pub ready_settles : (m : State) (p : ℕ) → all_settled (made_ready m p) ≡ made_ready (all_settled m) p
ready_settles m p =
    ap (λ (s : State). record s { ready = made m p }) (with_settled m p (record (process_of m p) { standing = Ready }))
    ∙ ap (λ (q : Process). record (with_process (all_settled m) p (record q { standing = Ready })) { ready = made m p }) (sym (of_settled m p))
  where
    made : State → ℕ → List ℕ
    made m p = (made_ready m p).ready

pub wakes_settles : (m : State) (p : ℕ) → wakes (all_settled m) p ≡ wakes m p
wakes_settles m p = ap (λ (q : Process). is_waiting q.standing && nat_lt 0 (length (slice_index_or m.queues q.line []))) (of_settled m p)

pub if_ready_settles : (b : Bool) (m : State) (p : ℕ) → all_settled (cond b (made_ready m p) m) ≡ cond b (made_ready (all_settled m) p) (all_settled m)
if_ready_settles true m p = ready_settles m p
if_ready_settles false m p = refl
