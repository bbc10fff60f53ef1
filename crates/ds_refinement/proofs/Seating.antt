-- The running process leaves for its seat, and the first of the ready processes comes from its.
use Rattle.std.proofs.Common.{◌≡◌, ℕ, ◌+◌, ◌-◌, ◌≤◌, ◌^◌, Bool, true, false, List, [], ◌∷◌, length, refl, sym, ap, ap₂, subst, ◌∙◌, inl, length-set}
use Rattle.std.specs.Prelude.{slice_set, ◌==◌}
use Rattle.std.proofs.lemmas.List.{map-set, set-set, length-map}
use Rattle.ds_word.specs.Word.{word, bits}
use Rattle.ds_isa.specs.Registers.{settled}
use Rattle.ds_procs.specs.declared.process.Standing.{Standing}
use Rattle.ds_cp0.specs.System.{is_user}
use Rattle.ds_policy.specs.Grants.{PageState}
use Rattle.ds_grants.specs.State.{page_state}
use Rattle.ds_grants.specs.Sound.{NamesPages}
use Rattle.ds_grants.specs.Represented.{IsRepresented}
use Rattle.ds_refill.specs.Handler.{HasWords}
use Rattle.ds_core.specs.Core.{CoreState}
use Rattle.ds_pagemap.specs.Machine.{State, Process, no_process, process_of, with_process, touched, touch_first, touched_process}
use Rattle.ds_pagemap.proofs.Processes.{process_of-with_process}
use Rattle.ds_pagemap_laws.specs.Settled.{settled_process, all_settled}
use Rattle.ds_pagemap_laws.proofs.Processes.{of_settled}
use Rattle.ds_refinement.specs.Held.{Held, Kept, bare}
use Rattle.ds_refinement.specs.Inner.Held.{whole}
use Rattle.ds_refinement.specs.Units.{AtStart, user_status}
use Rattle.ds_refinement.specs.Handling.{HasBase}
use Rattle.ds_refinement.specs.Stands.{Agrees, IsUnbegun, Stands, KeptIs, RunningIs, RunningBy, OnProcessor, AreResting}
use Rattle.ds_refinement.specs.Inner.Stands.{IsKept}
use Rattle.ds_refinement.specs.Counts.{counts_of, HasNone, HasRanges}
use Rattle.ds_refinement.proofs.Tallied.{UnbegunBy, none_counted}
use Rattle.ds_refinement.specs.Inner.Services.{Enters, EntersBy, seated, seated_process, with_first_seated, resume_address}

-- The running process leaves.

-- a state without a process, and that process put, is the bare state with the process put
pub seat_back : (m k : State) (p : ℕ) (q : Process) → bare (with_process m p no_process) ≡ with_process k p no_process → bare (with_process m p q) ≡ with_process k p (settled_process q)
seat_back m k p q e =
    ap (λ (qs : List Process). bare (record m { processes = qs })) (sym (set-set m.processes (p - 1) no_process q))
    ∙ (ap (λ (qs : List Process). record (bare m) { processes = qs }) (map-set settled_process (slice_set m.processes (p - 1) no_process) (p - 1) q)
    ∙ (ap (λ (s : State). with_process s p (settled_process q)) e
    ∙ ap (λ (qs : List Process). record k { processes = qs }) (set-set k.processes (p - 1) no_process (settled_process q))))

-- the process as the processor has it
abbrev pub off : CoreState → Process → Process
off c q = record q { registers = c.registers; pc = resume_address c }

-- what is kept beside the process that runs, and the process
pub kept_of : (h : Held) (m : State) (p : ℕ) (rest : List ℕ) → Agrees h m → h.kept.state.ready ≡ p ∷ rest → KeptIs (p ∷ rest) h.kept h.bus.memory m
kept_of h m p rest k ready = subst (λ (rs : List ℕ). KeptIs rs h.kept h.bus.memory m) ready k.kept

pub running_of : (h : Held) (m : State) (p : ℕ) (rest : List ℕ) → Agrees h m → h.kept.state.ready ≡ p ∷ rest → RunningIs p h.core h.kept m
running_of h m p rest k ready = subst (λ (rs : List ℕ). RunningBy rs h.core h.kept m) ready k.running

pub leaves : (h : Held) (m : State) (p : ℕ) (rest : List ℕ) → Agrees h m → h.kept.state.ready ≡ p ∷ rest
    → IsKept (seated h.core h.kept) h.bus.memory (with_process m p (off h.core (process_of m p)))
leaves h m p rest k ready =
    let kept : KeptIs (p ∷ rest) h.kept h.bus.memory m = kept_of h m p rest k ready in
    let running : RunningIs p h.core h.kept m = running_of h m p rest k ready in
    let q : Process = off h.core (process_of m p) in
    let same : settled_process q ≡ seated_process h.core (process_of h.kept.state p) =
    ap₂ (λ (s : Standing) (l : ℕ). record { registers = settled h.core.registers; pc = resume_address h.core; standing = s; line = l }) (running.standing ∙ sym running.kept) running.line in
    record {
      state =
          seat_back m h.kept.state p q kept.state
          ∙ (ap (λ (x : Process). with_process h.kept.state p x) same
          ∙ ap (with_first_seated h.core h.kept.state) (sym ready));
      pages = kept.pages;
      log = kept.log;
      lines = kept.lines;
    }

-- The first comes in.

vacated_touched : (m k : State) (p : ℕ) (q : Process) → bare m ≡ k → bare (with_process (with_process m p q) p no_process) ≡ with_process k p no_process
vacated_touched m k p q e =
    ap (λ (qs : List Process). bare (record m { processes = qs })) (set-set m.processes (p - 1) q no_process)
    ∙ (ap (λ (qs : List Process). record (bare m) { processes = qs }) (map-set settled_process m.processes (p - 1) no_process)
    ∙ ap (λ (s : State). with_process s p no_process) e)

abbrev pub StandsBy : List ℕ → CoreState → Kept → List ℕ → State → Type 0
StandsBy queue c k memory m = KeptIs queue k memory m × RunningBy queue c k m

-- in user mode and in no slot a unit begins
on_start : (c : CoreState) (k : Kept) (p : ℕ) (m : State) → c.system.status ≡ user_status → c.slot ≡ false → AtStart c p m → OnProcessor (is_user c.system) c.slot c k p m
on_start c k p m mode first a =
    subst (λ (b : Bool). OnProcessor (is_user c.system) b c k p m) (sym first)
    (subst (λ (b : Bool). OnProcessor b false c k p m) (sym (ap (λ (n : ℕ). bits n 1 1 == 1) mode)) a)

-- a process that comes in has its registers, touched
touched_on : (p : ℕ) (c : CoreState) (k : Kept) (memory : List ℕ) (m : State) → IsKept k memory m → Enters p (process_of k.state p) c k
    → c.registers ≡ (process_of (with_process m p (touched_process (process_of m p))) p).registers
touched_on p c k memory m a b =
    let q : Process = touched_process (process_of m p) in
    let seat : process_of k.state p ≡ settled_process (process_of m p) = ap (λ (s : State). process_of s p) (sym a.state) ∙ of_settled m p in
    let size : length m.processes ≡ length k.state.processes = sym (length-map m.processes settled_process) ∙ ap (λ (s : State). length s.processes) a.state in
    let is : process_of (with_process m p q) p ≡ q = process_of-with_process m p q b.seat.0 (subst (λ (n : ℕ). p ≤ n) (sym size) b.seat.1) in
    b.registers ∙ (ap (λ (x : Process). (touched_process x).registers) seat ∙ sym (ap (λ (x : Process). x.registers) is))

comes : (p : ℕ) (rest : List ℕ) (c : CoreState) (k : Kept) (memory : List ℕ) (m : State) → k.state.ready ≡ p ∷ rest → IsKept k memory m → Enters p (process_of k.state p) c k
    → StandsBy (p ∷ rest) c k memory (with_process m p (touched_process (process_of m p)))
comes p rest c k memory m ready a b =
    let q : Process = touched_process (process_of m p) in
    let seat : process_of k.state p ≡ settled_process (process_of m p) = ap (λ (s : State). process_of s p) (sym a.state) ∙ of_settled m p in
    let size : length m.processes ≡ length k.state.processes = sym (length-map m.processes settled_process) ∙ ap (λ (s : State). length s.processes) a.state in
    let within : p ≤ length m.processes = subst (λ (n : ℕ). p ≤ n) (sym size) b.seat.1 in
    let is : process_of (with_process m p q) p ≡ q = process_of-with_process m p q b.seat.0 within in
    let ready_there : (process_of m p).standing ≡ (process_of k.state p).standing = sym (ap (λ (x : Process). x.standing) seat) in (
      record {
        ready = ap (λ (s : State). s.ready) a.state ∙ ready;
        state = vacated_touched m k.state p q a.state;
        pages = a.pages;
        log = a.log;
        lines = a.lines;
      },
      record {
        seat = (b.seat.0, subst (λ (n : ℕ). p ≤ n) (sym (length-set m.processes (p - 1) q)) within);
        standing = ap (λ (x : Process). x.standing) is ∙ (ready_there ∙ b.standing);
        kept = b.standing;
        line = ap (λ (x : Process). x.line) is ∙ sym (ap (λ (x : Process). x.line) seat);
        number = b.number;
        set = b.set;
        on = on_start c k p (with_process m p q) b.mode b.first (record {
          mode = b.mode;
          first = b.first;
          pc = b.pc ∙ (ap (λ (x : Process). x.pc) seat ∙ sym (ap (λ (x : Process). x.pc) is));
          next = b.next ∙ ap (λ (n : ℕ). word (n + 4)) (ap (λ (x : Process). x.pc) seat ∙ sym (ap (λ (x : Process). x.pc) is));
          registers = inl (touched_on p c k memory m a b);
        });
      },
    )

by_ready : (queue : List ℕ) (c : CoreState) (k : Kept) (memory : List ℕ) (m : State) → k.state.ready ≡ queue → IsKept k memory m → EntersBy queue c k → StandsBy queue c k memory (touched true m)
by_ready [] c k memory m ready a b =
    let none : m.ready ≡ [] = ap (λ (s : State). s.ready) a.state ∙ ready in
    subst (λ (s : State). StandsBy [] c k memory s) (sym (ap (touch_first m) none)) (record { ready = none; state = a.state; pages = a.pages; log = a.log; lines = a.lines }, b)
by_ready (p ∷ rest) c k memory m ready a b =
    let first : m.ready ≡ p ∷ rest = ap (λ (s : State). s.ready) a.state ∙ ready in
    subst (λ (s : State). StandsBy (p ∷ rest) c k memory s) (sym (ap (touch_first m) first)) (comes p rest c k memory m ready a b)

-- its unit is unbegun
unbegun_by : (queue : List ℕ) (c : CoreState) (k : Kept) (memory : List ℕ) (m : State) → k.state.ready ≡ queue → IsKept k memory m → EntersBy queue c k → UnbegunBy queue c (touched true m)
unbegun_by [] c k memory m ready a b = tt
unbegun_by (p ∷ rest) c k memory m ready a b =
    let first : m.ready ≡ p ∷ rest = ap (λ (s : State). s.ready) a.state ∙ ready in
    subst (λ (s : State). IsUnbegun c p s) (sym (ap (touch_first m) first))
    (record { mode = ap (λ (w : ℕ). bits w 1 1 == 1) b.mode; first = b.first; registers = touched_on p c k memory m a b })

-- all is kept, and who is first comes on the processor touched
pub enters : (h : Held) (m : State) → IsKept h.kept h.bus.memory m → IsRepresented h.core.entries h.bus.memory h.kept.tables h.kept.spaces h.kept.grants → HasWords h.bus.memory → HasBase h.core.system
    → NamesPages h.kept.grants → length h.bus.memory ≡ 2 ^ 23 → AreResting h.bus h.kept → HasNone h.own → HasRanges h.core (counts_of h.own) → EntersBy h.kept.state.ready h.core h.kept → Stands h (touched true m)
enters h m a represented vectors base grants size devices none ranges b =
    let s = by_ready h.kept.state.ready h.core h.kept h.bus.memory m refl a b in record {
      agrees = record { represented = represented; vectors = vectors; base = base; grants = grants; size = size; kept = s.0; running = s.1; devices = devices };
      counted = none_counted h.kept.state.ready h.core h.own h.kept (touched true m) (unbegun_by h.kept.state.ready h.core h.kept h.bus.memory m refl a b) none ranges;
    }

-- All is kept.

pub is_whole : (k : Kept) (memory : List ℕ) (m : State) → IsKept k memory m → all_settled m ≡ whole k memory m.log
is_whole k memory m a =
    ap (λ (s : PageState). record (all_settled m) { memory = s }) a.pages
    ∙ ap (λ (s : State). record s { memory = page_state k.grants memory; log = m.log }) a.state
