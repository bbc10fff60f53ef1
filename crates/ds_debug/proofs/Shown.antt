-- Between two turns a station shows the registers of the processes in each machine state that it stands for.
use Rattle.std.proofs.Common.{◌≡◌, ℕ, ◌+◌, ◌<◌, Bool, true, false, cond, List, refl, sym, ap, subst, ◌∙◌}
use Rattle.ds_word.specs.Word.{word}
use Rattle.ds_isa.specs.Registers as isa
use Rattle.ds_pagemap.specs.Machine.{State, Process, process_of, first}
use Rattle.ds_pagemap.specs.Boundary.{is_first}
use Rattle.ds_refinement.specs.Held.{Held}
use Rattle.ds_refinement.specs.Stands.{Stands, OnProcessor}
use Rattle.ds_refinement.proofs.Tallied.{unbegun_of}
use Rattle.ds_station.specs.Reads.{address_held, general_held, hi_held, lo_held, unit_on}
use Rattle.ds_station.proofs.Showing.{first_is, seated_by}
use Rattle.ds_station.proofs.Standings.{running_here}
use Rattle.ds_debug.specs.Registers.{registers_held}
use Rattle.ds_debug.specs.Inner.Registers.{registers_in}
use Rattle.ds_debug.specs.declared.registers.Registers.{Registers}

-- the registers of a process
abbrev pub fields : List ℕ → ℕ → ℕ → ℕ → Registers
fields general hi lo pc = record { general = general; hi = hi; lo = lo; pc = pc }

-- registers of a process, with where it goes on
abbrev told : isa.Registers → ℕ → Registers
told r pc = record { general = r.general; hi = r.hi; lo = r.lo; pc = pc }

-- those of the one that runs are the processor's
runner_told : (h : Held) (p : ℕ) → is_first (first h.kept.state.ready) p ≡ true → h.own.spent ≡ 0 → (m : State) → Stands h m → told h.core.registers (unit_on h.core) ≡ registers_in m p
runner_told h p is none m k =
    let ready = first_is h.kept.state.ready p is in
    let begun = unbegun_of h m p ready.0 k ready.1 none in
    let on : OnProcessor true false h.core h.kept p m =
    subst (λ (b : Bool). OnProcessor true b h.core h.kept p m) begun.first (subst (λ (b : Bool). OnProcessor b h.core.slot h.core h.kept p m) begun.mode (running_here h m k p is).on) in
    ap (λ (r : isa.Registers). told r (unit_on h.core)) begun.registers
    ∙ (ap (λ (b : Bool). told (process_of m p).registers (cond b (word (h.core.pc + 0xFFFFFFFC)) h.core.pc)) begun.first
    ∙ ap (told (process_of m p).registers) on.pc)

-- and those of each other are kept
seated_told : (h : Held) (p : ℕ) → 0 < p → is_first (first h.kept.state.ready) p ≡ false → (m : State) → Stands h m → told (process_of h.kept.state p).registers (process_of h.kept.state p).pc ≡ registers_in m p
seated_told h p some is m k = ap (λ (q : Process). told q.registers q.pc) (sym (seated_by h.kept.state.ready h.core h.kept m p k.agrees.running k.agrees.kept.state some is))

-- by whether it runs
abbrev told_by : Bool → Held → ℕ → Registers
told_by b h p = record {
  general = cond b h.core.registers.general (process_of h.kept.state p).registers.general;
  hi = cond b h.core.registers.hi (process_of h.kept.state p).registers.hi;
  lo = cond b h.core.registers.lo (process_of h.kept.state p).registers.lo;
  pc = cond b (unit_on h.core) (process_of h.kept.state p).pc;
}

shown_by : (b : Bool) (h : Held) (p : ℕ) → is_first (first h.kept.state.ready) p ≡ b → 0 < p → h.own.spent ≡ 0 → (m : State) → Stands h m → told_by b h p ≡ registers_in m p
shown_by true h p is some none m k = runner_told h p is none m k
shown_by false h p is some none m k = seated_told h p some is m k

-- so all are shown
pub registers_shown : (h : Held) (p : ℕ) → 0 < p → h.own.spent ≡ 0 → (m : State) → Stands h m → registers_held h p ≡ registers_in m p
registers_shown h p some none m k = shown_by (is_first (first h.kept.state.ready) p) h p refl some none m k

-- each by itself
pub shown_from : (h : Held) (p : ℕ) (general : List ℕ) (hi lo pc : ℕ) → general ≡ general_held h p → hi ≡ hi_held h p → lo ≡ lo_held h p → pc ≡ address_held h p → 0 < p → h.own.spent ≡ 0 → (m : State) → Stands h m
    → fields general hi lo pc ≡ registers_in m p
shown_from h p general hi lo pc a b c d some none m k =
    ap (λ (x : List ℕ). fields x hi lo pc) a
    ∙ (ap (λ (x : ℕ). fields (general_held h p) x lo pc) b
    ∙ (ap (λ (x : ℕ). fields (general_held h p) (hi_held h p) x pc) c
    ∙ (ap (fields (general_held h p) (hi_held h p) (lo_held h p)) d ∙ registers_shown h p some none m k)))
