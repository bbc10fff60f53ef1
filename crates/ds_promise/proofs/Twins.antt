-- Twins stay twins through what each part of a step does.
use Rattle.std.proofs.Common.{◌≡◌, ℕ, ◌-◌, ◌<◌, ◌≤◌, ◌⊎◌, List, refl, sym, ap, ◌∙◌, subst, arith, inl, inr, set, length, length-set}
use Rattle.std.specs.Prelude.{slice_index_or}
use Rattle.std.proofs.lemmas.List.{get_or-set_same, get_or-set_other, set_past}
use Rattle.std.proofs.lemmas.Bool.{cases_lt}
use Rattle.ds_isa.specs.Registers.{Registers}
use Rattle.ds_procs.specs.declared.process.Standing.{Standing}
use Rattle.ds_procs.specs.declared.process.Standing.TheVariants.{Ready}
use Rattle.ds_log.specs.declared.line.Line.{Line}
use Rattle.ds_pagemap.specs.Machine.{State, Process, no_process, process_of, with_process, logged, made_ready, made_unready}
use Rattle.ds_pagemap.specs.Unit.{with_registers, at_pc, ticked, settle}
use Rattle.ds_promise.specs.Alike.{AreAlike}
use Rattle.ds_promise.specs.Inner.Twins.{IsTwinProcess, AreTwins, IsTwin}
use Rattle.ds_promise.proofs.Quietness.{nat_cases, settled_alike}

-- a state with other processes
abbrev pub twin : State → List Process → State
twin m qs = record m { processes = qs }

pub same : (m : State) (qs : List Process) → AreTwins m.processes qs → IsTwin m (twin m qs)
same m qs k = record { processes = qs; is = refl; twins = k }

-- what a change makes of twins, if it does so of a state with other processes
pub via : (g : State → State) (a b : State) → ((qs : List Process) → AreTwins a.processes qs → IsTwin (g a) (g (twin a qs))) → IsTwin a b → IsTwin (g a) (g b)
via g a b f k = let l = f k.processes k.twins in record { processes = l.processes; is = ap g k.is ∙ l.is; twins = l.twins }

long_or_not : (i n : ℕ) → (i < n) ⊎ (n ≤ i)
long_or_not i n = cases_lt i n

set_beyond : (ps : List Process) (i : ℕ) (q : Process) → length ps ≤ i → set ps i q ≡ ps
set_beyond ps i q h = set_past ps i q h

set_each : (ps qs : List Process) (i j : ℕ) (q r : Process) → AreTwins ps qs → IsTwinProcess q r → IsTwinProcess (slice_index_or (set ps i q) j no_process) (slice_index_or (set qs i r) j no_process)
set_each ps qs i j q r k e = let size = k.size in elim (long_or_not i (length ps)) [
  | inl within ↦ elim (nat_cases j i) [
    | inl here ↦ subst (λ (n : ℕ). IsTwinProcess (slice_index_or (set ps i q) n no_process) (slice_index_or (set qs i r) n no_process)) (sym here)
        (subst (λ (x : Process). IsTwinProcess x (slice_index_or (set qs i r) i no_process)) (sym (get_or-set_same ps i q no_process within))
        (subst (λ (x : Process). IsTwinProcess q x) (sym (get_or-set_same qs i r no_process (omega arith))) e))
    | inr there ↦ subst (λ (x : Process). IsTwinProcess x (slice_index_or (set qs i r) j no_process)) (sym (get_or-set_other ps i j q no_process there))
        (subst (λ (x : Process). IsTwinProcess (slice_index_or ps j no_process) x) (sym (get_or-set_other qs i j r no_process there)) (k.each j))
  ]
  | inr beyond ↦ subst (λ (xs : List Process). IsTwinProcess (slice_index_or xs j no_process) (slice_index_or (set qs i r) j no_process)) (sym (set_beyond ps i q beyond))
      (subst (λ (xs : List Process). IsTwinProcess (slice_index_or ps j no_process) (slice_index_or xs j no_process)) (sym (set_beyond qs i r (omega arith))) (k.each j))
]

pub twins_set : (ps qs : List Process) (i : ℕ) (q r : Process) → AreTwins ps qs → IsTwinProcess q r → AreTwins (set ps i q) (set qs i r)
twins_set ps qs i q r k e = record { size = length-set ps i q ∙ (k.size ∙ sym (length-set qs i r)); each = λ j. set_each ps qs i j q r k e }

pub put_alike : (m : State) (qs : List Process) (p : ℕ) (q r : Process) → AreTwins m.processes qs → IsTwinProcess q r → IsTwin (with_process m p q) (with_process (twin m qs) p r)
put_alike m qs p q r k e = record { processes = set qs (p - 1) r; is = refl; twins = twins_set m.processes qs (p - 1) q r k e }

pub registers_alike : (m : State) (qs : List Process) (p : ℕ) (r s : Registers) → AreTwins m.processes qs → AreAlike r s → IsTwin (with_registers m p r) (with_registers (twin m qs) p s)
registers_alike m qs p r s k e = let t = k.each (p - 1) in
    put_alike m qs p (record (process_of m p) { registers = r }) (record (process_of (twin m qs) p) { registers = s }) k (record { registers = e; pc = t.pc; standing = t.standing; line = t.line })

pub at_pc_alike : (a b : State) (p pc : ℕ) → IsTwin a b → IsTwin (at_pc a p pc) (at_pc b p pc)
at_pc_alike a b p pc = via (λ m. at_pc m p pc) a b (λ qs k. (let t = k.each (p - 1) in
    put_alike a qs p (record (process_of a p) { pc = pc }) (record (process_of (twin a qs) p) { pc = pc }) k (record { registers = t.registers; pc = refl; standing = t.standing; line = t.line })))

pub ticked_alike : (a b : State) (n : ℕ) → IsTwin a b → IsTwin (ticked n a) (ticked n b)
ticked_alike a b n = via (ticked n) a b (λ qs k. record { processes = qs; is = refl; twins = k })

pub logged_alike : (a b : State) (line : Line) → IsTwin a b → IsTwin (logged a line) (logged b line)
logged_alike a b line = via (λ m. logged m line) a b (λ qs k. record { processes = qs; is = refl; twins = k })

pub settle_alike : (a b : State) (p : ℕ) → IsTwin a b → IsTwin (settle a p) (settle b p)
settle_alike a b p = via (λ m. settle m p) a b (λ qs k. registers_alike a qs p _ _ k (settled_alike _ _ ((k.each (p - 1)).registers)))

pub ready_alike : (a b : State) (p : ℕ) → IsTwin a b → IsTwin (made_ready a p) (made_ready b p)
ready_alike a b p = via (λ m. made_ready m p) a b (λ qs k. (let t = k.each (p - 1) in record { processes = set qs (p - 1) (record (process_of (twin a qs) p) { standing = Ready }); is = refl; twins = twins_set a.processes qs (p - 1) _ _ k (record { registers = t.registers; pc = t.pc; standing = refl; line = t.line }) }))

pub unready_alike : (a b : State) (p : ℕ) (standing : Standing) → IsTwin a b → IsTwin (made_unready a p standing) (made_unready b p standing)
unready_alike a b p standing = via (λ m. made_unready m p standing) a b (λ qs k. (let t = k.each (p - 1) in record { processes = set qs (p - 1) (record (process_of (twin a qs) p) { standing = standing }); is = refl; twins = twins_set a.processes qs (p - 1) _ _ k (record { registers = t.registers; pc = t.pc; standing = refl; line = t.line }) }))
