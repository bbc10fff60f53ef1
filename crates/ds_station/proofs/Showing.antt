-- At the beginning of a unit a station shows the registers of the processes in each machine state that it stands for.
use Rattle.std.proofs.Common.{◌≡◌, ◌≢◌, ℕ, ◌-◌, ◌<◌, Bool, true, false, cond, List, [], ◌∷◌, refl, sym, ap, ◌∙◌, arith, length}
use Rattle.std.proofs.lemmas.List.{get_or_past}
use Rattle.std.proofs.lemmas.Bool.Decides.{nat_tests}
use Rattle.ds_isa.specs.Registers.{Registers}
use Rattle.ds_core.specs.Core.{CoreState}
use Rattle.ds_policy.specs.Pages.{Table, entries_of}
use Rattle.ds_pagemap.specs.Machine.{State, Process, no_process, process_of, with_process, first}
use Rattle.ds_pagemap.specs.Boundary.{is_first}
use Rattle.ds_pagemap.proofs.Processes.{process_of-with_process_other}
use Rattle.ds_pagemap_laws.specs.Settled.{settled_process}
use Rattle.ds_pagemap_laws.proofs.Processes.{of_settled}
use Rattle.ds_refinement.specs.Held.{Held, Kept, bare, vacated}
use Rattle.ds_refinement.specs.Stands.{RunningBy}
use Rattle.ds_refinement.proofs.Tallied.{unbegun_of}
use Rattle.ds_station.specs.Reads.{general_held}
use Rattle.ds_station.specs.Inner.Reads.{ShowsGeneral}

other_first : (q p : ℕ) (rest : List ℕ) → is_first (first (q ∷ rest)) p ≡ false → p ≢ q
other_first q p rest not e = grind (arith, nat_tests)

-- a process that a table does not have has no entries
pub entries_past : (table : Table) (p : ℕ) → length table < p → [] ≡ entries_of table p
entries_past table p past = sym (get_or_past table (p - 1) [] (omega (arith, past)))

-- a process that does not run is kept, with its late load finished
pub seated_by : (queue : List ℕ) (c : CoreState) (k : Kept) (m : State) (p : ℕ) → RunningBy queue c k m → bare (vacated queue m) ≡ vacated queue k.state → 0 < p → is_first (first queue) p ≡ false
    → settled_process (process_of m p) ≡ process_of k.state p
seated_by [] c k m p running e some other = sym (of_settled m p) ∙ ap (λ (s : State). process_of s p) e
seated_by (q ∷ rest) c k m p running e some other =
    let not : p ≢ q = other_first q p rest other in
    ap settled_process (sym (process_of-with_process_other m q p no_process running.seat.0 some not))
    ∙ (sym (of_settled (with_process m q no_process) p)
    ∙ (ap (λ (s : State). process_of s p) e
    ∙ process_of-with_process_other k.state q p no_process running.seat.0 some not))

-- who is first is at the head of the ready list
pub first_is : (queue : List ℕ) (p : ℕ) → is_first (first queue) p ≡ true → (rest : List ℕ) × (queue ≡ p ∷ rest)
first_is [] p is = absurd (cc)
first_is (q ∷ rest) p is = (rest, let same : q ≡ p = grind (arith, nat_tests) in ap (λ (x : ℕ). x ∷ rest) same)

-- the registers of the first are the processor's
pub runner_shown : (h : Held) (p : ℕ) → is_first (first h.kept.state.ready) p ≡ true → ShowsGeneral h.core.registers.general h p
runner_shown h p is none m k =
    let ready = first_is h.kept.state.ready p is in
    ap (λ (r : Registers). r.general) (unbegun_of h m p ready.0 k ready.1 none).registers

-- and those of each other are kept
pub seated_shown : (h : Held) (p : ℕ) → 0 < p → is_first (first h.kept.state.ready) p ≡ false → ShowsGeneral (process_of h.kept.state p).registers.general h p
seated_shown h p some is none m k =
    ap (λ (q : Process). q.registers.general) (sym (seated_by h.kept.state.ready h.core h.kept m p k.agrees.running k.agrees.kept.state some is))

-- so both are shown
pub general_shown : (h : Held) (p : ℕ) → 0 < p → ShowsGeneral (general_held h p) h p
general_shown h p some none m k = by (is_first (first h.kept.state.ready) p) refl
  where
    by : (b : Bool) → is_first (first h.kept.state.ready) p ≡ b → cond b h.core.registers.general (process_of h.kept.state p).registers.general ≡ (process_of m p).registers.general
    by true is = runner_shown h p is none m k
    by false is = seated_shown h p some is none m k
