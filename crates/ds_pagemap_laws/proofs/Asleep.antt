-- Nobody wakes who didn't.
use Rattle.std.proofs.Common.{◌≡◌, ℕ, zero, suc, ◌-◌, ◌<◌, Bool, true, false, List, [], ◌∷◌, length, refl, sym, ap, ◌∙◌, set, get_or, arith}
use Rattle.std.proofs.lemmas.Bool.Decides.{nat_tests}
use Rattle.std.specs.Prelude.{◌&&◌, nat_lt, slice_index_or, slice_set}
use Rattle.ds_procs.specs.declared.process.Standing.{Standing}
use Rattle.ds_procs.specs.declared.process.Standing.TheVariants.{Ready}
use Rattle.ds_pagemap.specs.Machine.{State, Process, no_process, process_of, with_process, is_waiting, made_ready, made_unready}
use Rattle.ds_pagemap.specs.Calls.{answered}
use Rattle.ds_pagemap.specs.Boundary.{wakes}
use Rattle.ds_pagemap_laws.specs.Due.{NobodyWakes}
use Rattle.ds_pagemap_laws.proofs.Sets.{either, shared}

-- whether a process with these queues wakes
abbrev pub has_woken : List (List ℕ) → Process → Bool
has_woken queues q = is_waiting q.standing && nat_lt 0 (length (slice_index_or queues q.line []))

-- one process put that stands as before on its line
pub put_asleep : (m : State) (p : ℕ) (q : Process) → has_woken m.queues q ≡ has_woken m.queues (process_of m p) → NobodyWakes m → NobodyWakes (with_process m p q)
put_asleep m p q same asleep r = shared (has_woken m.queues) m.processes (p - 1) (r - 1) q no_process same ∙ asleep r

-- one process put that doesn't wake
pub still_asleep : (m : State) (p r : ℕ) (q : Process) → has_woken m.queues q ≡ false → wakes m r ≡ false → wakes (with_process m p q) r ≡ false
still_asleep m p r q e asleep = either (λ (x : Process). has_woken m.queues x ≡ false) m.processes (p - 1) (r - 1) q no_process e asleep

pub ready_asleep : (m : State) (p : ℕ) → NobodyWakes m → NobodyWakes (made_ready m p)
ready_asleep m p asleep r = still_asleep m p r (record (process_of m p) { standing = Ready }) refl (asleep r)

pub unready_asleep : (m : State) (p : ℕ) (s : Standing) → has_woken m.queues (record (process_of m p) { standing = s }) ≡ false → NobodyWakes m → NobodyWakes (made_unready m p s)
unready_asleep m p s e asleep r = still_asleep m p r (record (process_of m p) { standing = s }) e (asleep r)

pub answered_asleep : (m : State) (p v : ℕ) → NobodyWakes m → NobodyWakes (answered m p v)
answered_asleep m p v = put_asleep m p _ refl

-- a queue gets shorter that had something
shrinks : (qs : List (List ℕ)) (i l : ℕ) (rest : List ℕ) → nat_lt 0 (length (get_or qs i [])) ≡ true → nat_lt 0 (length (get_or (set qs i rest) l [])) ≡ true → nat_lt 0 (length (get_or qs l [])) ≡ true
shrinks [] i l rest had has = has
shrinks (q ∷ qs) zero zero rest had has = had
shrinks (q ∷ qs) zero (suc l) rest had has = has
shrinks (q ∷ qs) (suc i) zero rest had has = has
shrinks (q ∷ qs) (suc i) (suc l) rest had has = shrinks qs i l rest had has

fewer : (waits before afterwards : Bool) → (afterwards ≡ true → before ≡ true) → (waits && before) ≡ false → (waits && afterwards) ≡ false
fewer true before true f e = sym (f refl) ∙ e
fewer true before false f e = refl
fewer false before afterwards f e = refl

positive : (n : ℕ) → 0 < n → nat_lt 0 n ≡ true
positive n above = grind (arith, nat_tests)

pub taken_asleep : (m : State) (i byte : ℕ) (rest : List ℕ) → slice_index_or m.queues i [] ≡ byte ∷ rest → NobodyWakes m → NobodyWakes (record m { queues = slice_set m.queues i rest })
taken_asleep m i byte rest is asleep r =
    let q = process_of m r in
    fewer (is_waiting q.standing) (nat_lt 0 (length (slice_index_or m.queues q.line []))) (nat_lt 0 (length (slice_index_or (slice_set m.queues i rest) q.line [])))
    (shrinks m.queues i q.line rest (ap (λ (l : List ℕ). nat_lt 0 (length l)) is ∙ positive (length (byte ∷ rest)) (omega arith))) (asleep r)
