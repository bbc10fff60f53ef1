-- A run of the station, step by step.
use Rattle.std.proofs.Common.{◌≡◌, ◌≢◌, ℕ, ◌-◌, ◌<◌, Bool, true, false, cond, List, [], ◌∷◌, refl, sym, ap, subst, ◌∙◌, inl, inr, arith}
use Rattle.std.specs.Prelude.{◌⊎◌, ◌||◌, ◌&&◌, nat_lt, not, Option, None, is_some, IsSome}
use Rattle.std.proofs.lemmas.Bool.Decides.{nat_tests}
use Rattle.ds_procs.specs.declared.process.Standing.TheVariants.{Ready}
use Rattle.ds_core.specs.Core.{CoreState}
use Rattle.ds_pagemap.specs.declared.turn.Turn.{Turn}
use Rattle.ds_pagemap.specs.Machine.{State, has_ended, process_of}
use Rattle.ds_pagemap.specs.Unit.{unit}
use Rattle.ds_pagemap.specs.Boundary.{boundary}
use Rattle.ds_pagemap.specs.Run.{half_turn, goes_on, is_over, Reaches}
use Rattle.ds_pagemap.proofs.Runs.{reaches_start, reaches_half, reaches_touch}
use Rattle.ds_refinement.specs.declared.step.Step.{Step}
use Rattle.ds_refinement.specs.declared.step.Step.TheVariants.{Inside, Unit, Boundary, Over}
use Rattle.ds_refinement.specs.Held.{Held, Kept, bare, vacated}
use Rattle.ds_refinement.specs.Stands.{Stands, RunningBy}
use Rattle.ds_refinement.specs.Inner.Stands.{IsSound}
use Rattle.ds_refinement.specs.Steps.{StepTo, HalfTo, Follows}
use Rattle.ds_refinement.specs.Inner.Steps.{Stays}
use Rattle.ds_refinement.specs.Runs.{RunsTo, held_goes_on}
use Rattle.ds_refinement.specs.Inner.Runs.{RunsWithin}
use Rattle.ds_refinement.proofs.Boundaries.{beside, over_too, ended_there}

-- Whether a run goes on.

-- where somebody is ready, not all have ended
not_over : (m : State) (p : ℕ) → (process_of m p).standing ≡ Ready → is_over m ≡ false
not_over m p ready = by (is_over m) refl
  where
    by : (b : Bool) → is_over m ≡ b → is_over m ≡ false
    by true over = let no : false ≡ true = sym (ap has_ended ready) ∙ ended_there m.processes (p - 1) over in absurd (cc)
    by false going = going

over_alike : (queue : List ℕ) (c : CoreState) (k : Kept) (m : State) → RunningBy queue c k m → bare (vacated queue m) ≡ vacated queue k.state → is_over m ≡ is_over k.state
over_alike [] c k m running e = over_too [] m k.state refl e
over_alike (p ∷ rest) c k m running e = not_over m p running.standing ∙ sym (not_over k.state p running.kept)

-- the run of the machine goes on just where that of the station does
pub goes_alike : (n : ℕ) (h : Held) (m : State) → Stands h m → goes_on n m ≡ held_goes_on n h
goes_alike n h m k =
    let b = beside h.kept.state.ready m h.kept.state k.agrees.kept.state in
    ap (λ (s : State). is_some s.owed || (nat_lt s.time n && not (is_over m))) b
    ∙ ap (λ (over : Bool). is_some h.kept.state.owed || (nat_lt h.kept.state.time n && not over)) (over_alike h.kept.state.ready h.core h.kept m k.agrees.running k.agrees.kept.state)

-- before a step of a run: a boundary is owed, or somebody is ready before the end
abbrev pub BeginsBefore : ℕ → Held → Type 0
BeginsBefore end b = IsSome b.kept.state.owed ⊎ ((b.kept.state.ready ≢ []) × (b.kept.state.time < end))

going : (owed early over : Bool) → early ≡ true → over ≡ false → (owed || (early && not over)) ≡ true
going true early over e f = refl
going false early over e f = rw (e, f) refl

early_is : (t n : ℕ) → t < n → nat_lt t n ≡ true
early_is t n e = grind (arith, nat_tests)

ready_goes : (queue : List ℕ) (n : ℕ) (h : Held) (m : State) → queue ≢ [] → RunningBy queue h.core h.kept m → h.kept.state.time < n → held_goes_on n h ≡ true
ready_goes [] n h m some running early = absurd (some refl)
ready_goes (p ∷ rest) n h m some running early =
    going (is_some h.kept.state.owed) (nat_lt h.kept.state.time n) (is_over h.kept.state) (early_is h.kept.state.time n early) (not_over h.kept.state p running.kept)

pub begins_goes : (n : ℕ) (h : Held) (m : State) → Stands h m → BeginsBefore n h → held_goes_on n h ≡ true
begins_goes n h m k (inl owed) = ap (λ (b : Bool). b || (nat_lt h.kept.state.time n && not (is_over h.kept.state))) owed
begins_goes n h m k (inr ready) = ready_goes h.kept.state.ready n h m ready.0 k.agrees.running ready.1

-- The steps of a run.

pub within_start : (n : ℕ) (h : Held) → RunsWithin n h h
within_start n h = record { runs = λ m k. (m, reaches_start n m, k) }

never : (b : Bool) → (b && false) ≡ true → ⊥
never true e = absurd (cc)
never false e = absurd (cc)

stops : (n : ℕ) (m : State) → m.owed ≡ None → is_over m ≡ true → goes_on n m ≡ true → ⊥
stops n m o e g =
    let f : goes_on n m ≡ (nat_lt m.time n && false) = ap (λ (x : Option Turn). is_some x || (nat_lt m.time n && not (is_over m))) o ∙ ap (λ (b : Bool). nat_lt m.time n && not b) e in
    never (nat_lt m.time n) (sym f ∙ g)

-- an idle turn owes its boundary
idle_owes : (m : State) → m.owed ≡ None → is_some (half_turn false m).owed ≡ true
unfolding half_turn unit
idle_owes m o = ap (λ (x : Option Turn). is_some (cond (is_some x) (boundary m) (unit m)).owed) o

owes_goes_on : (n : ℕ) (m : State) → is_some m.owed ≡ true → goes_on n m ≡ true
owes_goes_on n m o = ap (λ (b : Bool). b || (nat_lt m.time n && not (is_over m))) o

reached_half : (n : ℕ) (s m t : State) → Reaches n s m → goes_on n m ≡ true → HalfTo m t → Reaches n s t
reached_half n s m t r g f = subst (Reaches n s) (sym f.2) (reaches_touch n s (half_turn f.0 m) f.1 (reaches_half n s m f.0 r g))

reached_after : (step : Step) (n : ℕ) (s m t : State) → Reaches n s m → goes_on n m ≡ true → StepTo step m t → Reaches n s t
reached_after Inside n s m t r g f = subst (Reaches n s) (sym f.2) (reaches_touch n s m f.1 r)
reached_after Unit n s m t r g f = reached_half n s m t r g f.2
reached_after Boundary n s m t r g (inl f) = reached_half n s m t r g f.1
reached_after Boundary n s m t r g (inr f) = reached_half n s (half_turn false m) t (reaches_half n s m false r g) (owes_goes_on n (half_turn false m) (idle_owes m f.0)) f.3
reached_after Over n s m t r g f = absurd (stops n m f.0 f.1 g)

-- a step of a run that goes on
pub within_step : (step : Step) (n : ℕ) (old between new : Held) → RunsWithin n old between → held_goes_on n between ≡ true → Follows step between new → RunsWithin n old new
within_step step n old between new w g f = record {
  runs = λ m k.
      let u = w.runs m k in
      let t = f.follows u.0 u.2 in
      (t.0, reached_after step n m u.0 t.0 u.1 (goes_alike n between u.0 u.2 ∙ g) t.1, t.2);
}

-- the same, where it is known when the step begins
pub within_before : (step : Step) (n : ℕ) (old between new : Held) → RunsWithin n old between → BeginsBefore n between → Follows step between new → RunsWithin n old new
within_before step n old between new w begins f = record {
  runs = λ m k.
      let u = w.runs m k in
      let t = f.follows u.0 u.2 in
      (t.0, reached_after step n m u.0 t.0 u.1 (goes_alike n between u.0 u.2 ∙ begins_goes n between u.0 u.2 begins) t.1, t.2);
}

pub within_stays : (n : ℕ) (old between new : Held) → RunsWithin n old between → Stays between new → RunsWithin n old new
within_stays n old between new w s = record { runs = λ m k. let u = w.runs m k in (u.0, u.1, s.stays u.0 u.2) }

-- where a run doesn't go on, it has ended
pub to_end : (n : ℕ) (old new : Held) → RunsWithin n old new → held_goes_on n new ≡ false → RunsTo n old new
to_end n old new w g = record { runs = λ m k. let u = w.runs m k in (u.0, record { reached = u.1; over = goes_alike n new u.0 u.2 ∙ g }, u.2) }

pub within_sound : (n : ℕ) (old new : Held) → RunsWithin n old new → IsSound old → IsSound new
within_sound n old new w s = let t = w.runs s.state s.stands in record { state = t.0; stands = t.2 }
