-- Boundaries that are served: who runs leaves, the boundary is done to what is kept, and the first comes in.
use Rattle.std.proofs.Common.{◌≡◌, ℕ, ◌+◌, Bool, true, false, cond, List, [], ◌∷◌, refl, sym, ap, ap₂, subst, ◌∙◌, inl, inr, add-zero}
use Rattle.std.specs.Prelude.{Option, Some, None, IsSome, is_some, not}
use Rattle.ds_word.specs.Word.{truth}
use Rattle.ds_isa.specs.Registers.{Registers}
use Rattle.ds_cp0.specs.System.{is_user}
use Rattle.ds_core.specs.Core.{CoreState}
use Rattle.ds_pagemap.specs.declared.turn.Turn.{Turn}
use Rattle.ds_pagemap.specs.Machine.{State, process_of, with_process, touched}
use Rattle.ds_pagemap.specs.Boundary.{boundary}
use Rattle.ds_pagemap.specs.Run.{half_turn, is_over}
use Rattle.ds_pagemap.proofs.Processes.{with_process-process_of}
use Rattle.ds_pagemap.proofs.Boundaries.{boundary_time, boundary_owed}
use Rattle.ds_pagemap_laws.proofs.Boundaries.{boundary_settles}
use Rattle.ds_refinement.specs.declared.step.Step.TheVariants.{Boundary}
use Rattle.ds_refinement.specs.Held.{Held, Kept, Own}
use Rattle.ds_refinement.specs.Inner.Held.{whole}
use Rattle.ds_refinement.specs.Units.{is_general, has_left_user}
use Rattle.ds_refinement.specs.Stands.{Agrees, Stands, KeptIs, OnProcessor}
use Rattle.ds_refinement.specs.Inner.Stands.{IsKept}
use Rattle.ds_refinement.specs.Steps.{Follows, Moves}
use Rattle.ds_refinement.specs.Counts.{counts_of}
use Rattle.ds_refinement.specs.Inner.Services.{EndsUnitBy, seated, with_first_seated, with_idle_turn, with_none_spent}
use Rattle.ds_refinement.proofs.Seating.{off, leaves, enters, running_of}
use Rattle.ds_refinement.proofs.Ending.{half_unit, serves_kept}
use Rattle.ds_refinement.proofs.Boundaries.{some_turn, half_boundary, kernel_owes, owed_is, over_too, unit_rests, waited, stands_waited}
use Rattle.ds_refinement.proofs.Counting.{seated_time}

-- where a boundary is owed, the processor has the process as its seat would
on_seat : (user slot : Bool) (c : CoreState) (k : Kept) (p : ℕ) (m : State) (turn : Turn) → is_user c.system ≡ user → m.owed ≡ Some turn → OnProcessor user slot c k p m → off c (process_of m p) ≡ process_of m p
on_seat false slot c k p m turn user o a = let no : Some turn ≡ None = sym o ∙ kernel_owes (is_general c) (has_left_user c) c k p m a in absurd (cc)
on_seat true true c k p m turn user o a = let no : Some turn ≡ None = sym o ∙ a.owed in absurd (cc)
on_seat true false c k p m turn user o a = elim a.registers [
  | inl same ↦ ap₂ (λ (r : Registers) (n : ℕ). record (process_of m p) { registers = r; pc = n }) same (ap (λ (b : Bool). cond b c.pc c.system.epc) user ∙ a.pc)
  | inr again ↦ (let no : Some turn ≡ None = sym o ∙ again.0 in absurd (cc))
]

-- so with whoever runs in its seat all is kept
kept_by : (queue : List ℕ) (h : Held) (m : State) (turn : Turn) → h.kept.state.ready ≡ queue → Agrees h m → m.owed ≡ Some turn → IsKept (seated h.core h.kept) h.bus.memory m
kept_by [] h m turn ready k o =
    let kept = subst (λ (queue : List ℕ). KeptIs queue h.kept h.bus.memory m) ready k.kept in
    record { state = kept.state ∙ ap (with_first_seated h.core h.kept.state) (sym ready); pages = kept.pages; log = kept.log; lines = kept.lines }
kept_by (p ∷ rest) h m turn ready k o =
    let same : off h.core (process_of m p) ≡ process_of m p = on_seat (is_user h.core.system) h.core.slot h.core h.kept p m turn refl o (running_of h m p rest k ready).on in
    subst (IsKept (seated h.core h.kept) h.bus.memory) (ap (with_process m p) same ∙ with_process-process_of m p) (leaves h m p rest k ready)

-- after a boundary that was served
served_after : (h new : Held) (m : State) (turn : Turn) → Agrees h m → m.owed ≡ Some turn → EndsUnitBy boundary h new → Stands new (touched true (boundary m))
served_after h new m turn k o ends =
    enters new (boundary m) (serves_kept boundary (seated h.core h.kept) new.kept h.bus.memory new.bus.memory m boundary_settles ends.serves (kept_by h.kept.state.ready h m turn refl k o))
    ends.represented ends.vectors ends.base ends.grants (ends.size ∙ k.size) ends.devices ends.none ends.ranges ends.enters

pub boundary_served : (h new : Held) → IsSome h.kept.state.owed → EndsUnitBy boundary h new → Follows Boundary h new
boundary_served h new some ends = let turn = (some_turn h.kept.state.owed some).0 in let owed = (some_turn h.kept.state.owed some).1 in record {
  follows = λ m k.
      let o : m.owed ≡ Some turn = owed_is h m k.agrees ∙ owed in (
        touched true (boundary m),
        inl (λ (e : m.owed ≡ None). (let no : Some turn ≡ None = sym o ∙ e in cc), (false, true, ap (touched true) (sym (half_boundary m turn o)))),
        served_after h new m turn k.agrees o ends,
      );
}

pub idle_served : (h new : Held) → h.kept.state.owed ≡ None → h.kept.state.ready ≡ [] → is_over h.kept.state ≡ false → EndsUnitBy boundary (with_idle_turn h) new → Follows Boundary h new
idle_served h new owed none left ends = record {
  follows = λ m k.
      let o : m.owed ≡ None = owed_is h m k.agrees ∙ owed in
      let nobody : m.ready ≡ [] = k.agrees.kept.ready ∙ none in
      let going : is_over m ≡ false = over_too h.kept.state.ready m h.kept.state none k.agrees.kept.state ∙ left in
      let turn : Turn = record { began = m.time; runner = None } in
      let first_half : half_turn false m ≡ waited m = half_unit m o ∙ unit_rests m nobody in (
        touched true (boundary (waited m)),
        inr (o, nobody, going, (false, true, ap (touched true) (sym (ap (half_turn false) first_half ∙ half_boundary (waited m) turn refl)))),
        served_after (with_idle_turn h) new (waited m) turn (stands_waited h m k.agrees owed none) refl ends,
      );
}

-- The clock.

time_after : (h new : Held) → EndsUnitBy boundary h new → new.kept.state.time ≡ h.kept.state.time
time_after h new ends =
    sym (ap (λ (s : State). s.time) (ends.serves.state []))
    ∙ (boundary_time (whole (seated h.core h.kept) h.bus.memory [])
    ∙ seated_time h.kept.state.ready h.core h.kept.state)

owed_past : (h new : Held) → EndsUnitBy boundary h new → new.kept.state.owed ≡ None
owed_past h new ends = sym (ap (λ (s : State). s.owed) (ends.serves.state [])) ∙ boundary_owed (whole (seated h.core h.kept) h.bus.memory [])

pub served_moves : (h new : Held) → IsSome h.kept.state.owed → new.own ≡ with_none_spent h.own → EndsUnitBy boundary h new → Moves Boundary h new
served_moves h new some own ends = (
  owed_past h new ends,
  ap (λ (o : Own). o.spent) own,
  time_after h new ends ∙ (sym (add-zero h.kept.state.time) ∙ ap (λ (b : Bool). h.kept.state.time + truth (not b)) (sym some)),
  ap (λ (o : Own). o.failed) own,
  ap counts_of own,
)

pub idle_served_moves : (h new : Held) → h.kept.state.owed ≡ None → new.own ≡ with_none_spent h.own → EndsUnitBy boundary (with_idle_turn h) new → Moves Boundary h new
idle_served_moves h new owed own ends = (
  owed_past (with_idle_turn h) new ends,
  ap (λ (o : Own). o.spent) own,
  time_after (with_idle_turn h) new ends ∙ ap (λ (x : Option Turn). h.kept.state.time + truth (not (is_some x))) (sym owed),
  ap (λ (o : Own). o.failed) own,
  ap counts_of own,
)
