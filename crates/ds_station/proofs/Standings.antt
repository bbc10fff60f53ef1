-- How each process stands, a station shows of each machine state that it stands for: which has not ended.
use Rattle.std.proofs.Common.{◌≡◌, ℕ, zero, suc, ◌+◌, ◌-◌, ◌<◌, ◌≤◌, Bool, true, false, cond, not, List, [], ◌∷◌, length, Option, Some, None, refl, sym, ap, subst, ◌∙◌, arith, set}
use Rattle.std.specs.Prelude.{map}
use Rattle.std.proofs.lemmas.List.{length-map, length-set}
use Rattle.ds_procs.specs.declared.process.Standing.{Standing}
use Rattle.ds_pagemap.specs.Machine.{State, Process, no_process, process_of, has_ended, first}
use Rattle.ds_pagemap.specs.Boundary.{is_first}
use Rattle.ds_pagemap_laws.specs.Settled.{settled_process}
use Rattle.ds_refinement.specs.Held.{Held, bare, vacated}
use Rattle.ds_refinement.specs.Stands.{Stands, RunningIs, RunningBy}
use Rattle.ds_station.specs.declared.outcome.Unended.{Unended}
use Rattle.ds_station.specs.Outcome.{first_unended, unended_from}
use Rattle.ds_station.proofs.Showing.{first_is, seated_by}

-- as many processes are kept
pub as_many : (queue : List ℕ) (m k : State) → bare (vacated queue m) ≡ vacated queue k → length m.processes ≡ length k.processes
as_many [] m k e = sym (length-map m.processes settled_process) ∙ ap (λ (s : State). length s.processes) e
as_many (p ∷ rest) m k e =
    sym (length-set m.processes (p - 1) no_process)
    ∙ (sym (length-map (set m.processes (p - 1) no_process) settled_process)
    ∙ (ap (λ (s : State). length s.processes) e
    ∙ length-set k.processes (p - 1) no_process))

-- a process, and those after it
abbrev unended_by : State → ℕ → ℕ → Standing → Option Unended
unended_by m p n s = cond (has_ended s) (unended_from m (p + 1) n) (Some (record { process = p; standing = s }))

-- of processes that stand alike the same one has not ended
unended_alike : (m k : State) → ((p : ℕ) → 0 < p → (process_of m p).standing ≡ (process_of k p).standing) → (p n : ℕ) → 0 < p → unended_from m p n ≡ unended_from k p n
unended_alike m k same p zero some = refl
unended_alike m k same p (suc n) some =
    ap (unended_by m p n) (same p some)
    ∙ ap (λ (o : Option Unended). cond (has_ended (process_of k p).standing) o (Some (record { process = p; standing = (process_of k p).standing }))) (unended_alike m k same (p + 1) n (omega arith))

module _ (h : Held) (m : State) (k : Stands h m) where
  -- on the processor
  pub running_here : (p : ℕ) → is_first (first h.kept.state.ready) p ≡ true → RunningIs p h.core h.kept m
  running_here p is = let r = first_is h.kept.state.ready p is in subst (λ (queue : List ℕ). RunningBy queue h.core h.kept m) r.1 k.agrees.running

  standing_by : (b : Bool) (p : ℕ) → is_first (first h.kept.state.ready) p ≡ b → 0 < p → (process_of h.kept.state p).standing ≡ (process_of m p).standing
  standing_by true p is some = let r = running_here p is in r.kept ∙ sym r.standing
  standing_by false p is some = ap (λ (q : Process). q.standing) (sym (seated_by h.kept.state.ready h.core h.kept m p k.agrees.running k.agrees.kept.state some is))

  -- each process stands as it is kept
  pub standing_stands : (p : ℕ) → 0 < p → (process_of h.kept.state p).standing ≡ (process_of m p).standing
  standing_stands p some = standing_by (is_first (first h.kept.state.ready) p) p refl some

  -- so the first that has not ended is that of what is kept
  pub unended_stands : first_unended h.kept.state ≡ first_unended m
  unended_stands =
      ap (unended_from h.kept.state 1) (sym (as_many h.kept.state.ready m h.kept.state k.agrees.kept.state))
      ∙ unended_alike h.kept.state m (λ p some. standing_stands p some) 1 (length m.processes) (omega arith)

-- One after another.

-- the number of those that are left, with one of them
left_more : (n p : ℕ) → p < n + 1 → n + 1 - p ≡ suc (n + 1 - (p + 1))
left_more n p within = omega (arith, within)

-- the first is that of those after one that has ended
pub unended_past : (m : State) (p : ℕ) → p < length m.processes + 1 → (s : Standing) → s ≡ (process_of m p).standing → has_ended s ≡ true
    → unended_from m p (length m.processes + 1 - p) ≡ unended_from m (p + 1) (length m.processes + 1 - (p + 1))
unended_past m p within s is ended =
    let rest : ℕ = length m.processes + 1 - (p + 1) in
    ap (unended_from m p) (left_more (length m.processes) p within)
    ∙ (ap (unended_by m p rest) (sym is)
    ∙ ap (λ (b : Bool). cond b (unended_from m (p + 1) rest) (Some (record { process = p; standing = s }))) ended)

-- or else it is that one
pub unended_here : (m : State) (p : ℕ) → p < length m.processes + 1 → (s : Standing) → s ≡ (process_of m p).standing → has_ended s ≡ false
    → unended_from m p (length m.processes + 1 - p) ≡ Some (record { process = p; standing = s })
unended_here m p within s is going =
    let rest : ℕ = length m.processes + 1 - (p + 1) in
    ap (unended_from m p) (left_more (length m.processes) p within)
    ∙ (ap (unended_by m p rest) (sym is)
    ∙ ap (λ (b : Bool). cond b (unended_from m (p + 1) rest) (Some (record { process = p; standing = s }))) going)

-- and where none is left there is none
pub unended_end : (m : State) (p : ℕ) → length m.processes + 1 ≤ p → unended_from m p (length m.processes + 1 - p) ≡ None
unended_end m p past = let none : length m.processes + 1 - p ≡ 0 = omega (arith, past) in ap (unended_from m p) none
