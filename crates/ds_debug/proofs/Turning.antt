-- A run that stands between two turns came there turn by turn.
use Rattle.std.proofs.Common.{◌≡◌, ◌≢◌, ◌⊎◌, ℕ, ◌+◌, ◌<◌, ◌≤◌, Bool, true, false, List, [], ◌∷◌, Option, None, inl, inr, refl, sym, ap, subst, ◌∙◌, arith}
use Rattle.std.specs.Prelude.{◌||◌, ◌&&◌, ◌==◌, if◌then◌else◌, nat_lt, not, is_some, IsSome}
use Rattle.std.proofs.lemmas.Bool.Decides.{nat_tests}
use Rattle.ds_word.specs.Word.{truth, bits}
use Rattle.ds_cp0.specs.System.{is_user}
use Rattle.ds_core.specs.Core.{CoreState}
use Rattle.ds_pagemap.specs.declared.turn.Turn.{Turn}
use Rattle.ds_pagemap.specs.Machine.{State}
use Rattle.ds_pagemap.specs.Run.{is_over}
use Rattle.ds_refinement.specs.declared.step.Step.{Step}
use Rattle.ds_refinement.specs.declared.step.Step.TheVariants.{Inside, Unit, Boundary, Over}
use Rattle.ds_refinement.specs.Held.{Held, Kept, Own}
use Rattle.ds_refinement.specs.Real.{IsReal, RealPath, Through}
use Rattle.ds_refinement.specs.Runs.{held_goes_on}
use Rattle.ds_refinement.specs.Stands.{CountedBy, RunningBy, Stands}
use Rattle.ds_refinement.specs.Steps.{Follows, Moves, StepTo}
use Rattle.ds_refinement.specs.Units.{is_general, is_served}
use Rattle.ds_refinement.specs.Inner.Runs.{RunsWithin}
use Rattle.ds_refinement.specs.Inner.Stands.{IsSound}
use Rattle.ds_refinement.proofs.Joined.{path_join}
use Rattle.ds_refinement.proofs.RunSteps.{goes_alike, to_end, within_before, within_start, within_step}
use Rattle.ds_station.proofs.Headlines.{owed_stands, time_stands}
use Rattle.ds_station.proofs.InPieces.{no_steps, to_within, within_join}
use Rattle.ds_debug.specs.Forward.{IsTurn}
use Rattle.ds_debug.specs.Inner.Leaps.{AtRest, Each}
use Rattle.ds_debug.specs.Places.{Turns}
use Rattle.ds_debug.proofs.Going.{time_over}

-- turns of a run to a time are turns of a run to a later one
pub turns_later : (k n : ℕ) → k ≤ n → (old : Held) (path : List Held) (new : Held) → Turns k old path new → Turns n old path new
turns_later k n le old [] new t = t
turns_later k n le old (last ∷ before) new t = (record { early = omega (arith, le, t.0.early); runs = t.0.runs; path = t.0.path; later = t.0.later }, turns_later k n le old before last t.1)

-- a run goes as far as its turns
pub turns_within : (n : ℕ) (old : Held) (path : List Held) (new : Held) → Turns n old path new → RunsWithin n old new
turns_within n old [] new t = subst (λ (h : Held). RunsWithin n old h) (sym t) (within_start n old)
turns_within n old (last ∷ before) new t =
    let le : last.kept.state.time + 1 ≤ n = omega (arith, t.0.early) in
    within_join (last.kept.state.time + 1) n le old last new (turns_within n old before last t.1) (to_within (last.kept.state.time + 1) last new t.0.runs)

-- where the turn stands that began here: at its beginning, in its unit, or before its boundary
abbrev InTurn : Held → Held → Type 0
InTurn last h =
    ((h ≡ last) × (h.kept.state.owed ≡ None) × (h.own.spent ≡ 0))
    ⊎ (((h.kept.state.owed ≡ None) × (h.kept.state.time ≡ last.kept.state.time) × (0 < h.own.spent))
    ⊎ (IsSome h.kept.state.owed × (last.kept.state.time < h.kept.state.time)))

-- by turns, each from where R holds, to the beginning of one, in which it stands
pub record IsTurning (R : Held → Type 0) (start last h : Held) : Type 0 where
  path : List Held
  turns : Turns last.kept.state.time start path last
  within : RunsWithin (last.kept.state.time + 1) last h
  steps : RealPath last h
  sound : IsSound h
  stands : InTurn last h
  each : Each R path
  known : ((h ≡ last) × (h.kept.state.owed ≡ None) × (h.own.spent ≡ 0)) ⊎ R last

-- and by some turns
abbrev Turning : (Held → Type 0) → Held → Held → Type 0
Turning R start h = (last : Held) × IsTurning R start last h

-- where nothing of a unit is counted, no service waits
unserved_by : (queue : List ℕ) (c : CoreState) (own : Own) (k : Kept) (m : State) → CountedBy queue c own k m → RunningBy queue c k m → own.spent ≡ 0 → is_user c.system ≡ true
unserved_by [] c own k m counted runs none = ap (λ (w : ℕ). bits w 1 1 == 1) runs
unserved_by (p ∷ rest) c own k m counted runs none = (counted.1 none).mode

unserved : (h : Held) (m : State) → Stands h m → h.own.spent ≡ 0 → is_served h.core ≡ false
unserved h m k none = ap (λ (b : Bool). not b && is_general h.core) (unserved_by h.kept.state.ready h.core h.own h.kept m k.counted k.agrees.running none)

-- so a step in a unit at its beginning is counted
counted : (h new : Held) (m : State) → Stands h m → h.own.spent ≡ 0 → new.own.spent ≡ h.own.spent + truth (not (is_served h.core)) → 0 < new.own.spent
counted h new m k none is =
    let one : truth (not (is_served h.core)) ≡ 1 = ap (λ (b : Bool). truth (not b)) (unserved h m k none) in
    omega (arith, one, is)

-- what stands in a turn and owes no boundary, stands at the time of its beginning
pub early_in : (last h : Held) → InTurn last h → h.kept.state.owed ≡ None → h.kept.state.time ≡ last.kept.state.time
early_in last h (inl begun) none = ap (λ (x : Held). x.kept.state.time) begun.0
early_in last h (inr (inl inside)) none = inside.1
early_in last h (inr (inr owing)) none = let no : true ≡ false = sym owing.0 ∙ ap is_some none in absurd (cc)

-- one step more of a unit leaves it in the turn
inside_on : (last h new : Held) (m : State) → Stands h m → InTurn last h → Moves Inside h new → InTurn last new
inside_on last h new m k (inl begun) moves = inr (inl (moves.1, moves.2 ∙ ap (λ (x : Held). x.kept.state.time) begun.0, counted h new m k begun.2 moves.3))
inside_on last h new m k (inr (inl inside)) moves = inr (inl (moves.1, moves.2 ∙ inside.1, omega (arith, inside.2, moves.3)))
inside_on last h new m k (inr (inr owing)) moves = let no : true ≡ false = sym owing.0 ∙ ap is_some moves.0 in absurd (cc)

-- the path of one step
step_path : (kind : Step) (old new : Held) → Follows kind old new → Moves kind old new → IsReal old new → RealPath old new
step_path kind old new f moves real = record { path = old ∷ []; through = ((kind, f, moves, real), refl) }

ticks_more : (b : Bool) → 1 ≤ (if b then 2 else 1)
ticks_more true = omega arith
ticks_more false = omega arith

going : (owed early over : Bool) → early ≡ true → over ≡ false → (owed || (early && not over)) ≡ true
going true early over e f = refl
going false early over e f = rw (e, f) refl

in_time : (t k n : ℕ) → t ≡ k → k ≡ n → nat_lt t (n + 1) ≡ true
in_time t k n is same = grind (arith, nat_tests)

module _ (R : Held → Type 0) (start last old new : Held) (w : IsTurning R start last old) (rests : AtRest R old) where
  last_known : R last
  last_known = by w.known
    where
      by : ((old ≡ last) × (old.kept.state.owed ≡ None) × (old.own.spent ≡ 0)) ⊎ R last → R last
      by (inl begun) = subst R begun.0 (rests w.sound begun.1 begun.2)
      by (inr known) = known

  abbrev m : State
  m = w.sound.state

  abbrev k : Stands old m
  k = w.sound.stands

  sound : (kind : Step) → Follows kind old new → IsSound new
  sound kind f = let t = f.follows m k in record { state = t.0; stands = t.2 }

  -- the turn goes on
  goes : (kind : Step) → Follows kind old new → Moves kind old new → IsReal old new → RunsWithin (last.kept.state.time + 1) last new → InTurn last new → Turning R start new
  goes kind f moves real within stands = (
    last,
    record { path = w.path; turns = w.turns; within = within; steps = path_join last old new w.steps (step_path kind old new f moves real); sound = sound kind f; stands = stands; each = w.each; known = inr last_known },
  )

  -- its boundary ends it
  ends : Follows Boundary old new → Moves Boundary old new → IsReal old new → RunsWithin (last.kept.state.time + 1) last new → last.kept.state.time < new.kept.state.time → Turning R start new
  ends f moves real within later =
      let turn : IsTurn new.kept.state.time last new = record {
        early = later;
        runs = to_end (last.kept.state.time + 1) last new within (time_over (last.kept.state.time + 1) new moves.0 (omega (arith, later)));
        path = path_join last old new w.steps (step_path Boundary old new f moves real);
        later = later;
      } in (
        new,
        record {
          path = last ∷ w.path;
          turns = (turn, turns_later last.kept.state.time new.kept.state.time (omega (arith, later)) start w.path last w.turns);
          within = within_start (new.kept.state.time + 1) new;
          steps = no_steps new;
          sound = sound Boundary f;
          stands = inl (refl, moves.0, moves.1);
          each = (last_known, w.each);
          known = inl (refl, moves.0, moves.1);
        },
      )

  -- where nobody is ready, a run goes on to the boundary of an idle turn
  idle_goes : (t : State) → old.kept.state.owed ≡ None → old.kept.state.time ≡ last.kept.state.time → StepTo Boundary m t → held_goes_on (last.kept.state.time + 1) old ≡ true
  idle_goes t none same (inl step) = absurd (step.0 (owed_stands old m k ∙ none))
  idle_goes t none same (inr step) =
      sym (goes_alike (last.kept.state.time + 1) old m k)
      ∙ going (is_some m.owed) (nat_lt m.time (last.kept.state.time + 1)) (is_over m) (in_time m.time old.kept.state.time last.kept.state.time (time_stands old m k) same) step.2

  idles : Follows Boundary old new → Moves Boundary old new → IsReal old new → old.kept.state.owed ≡ None → Turning R start new
  idles f moves real none =
      let same : old.kept.state.time ≡ last.kept.state.time = early_in last old w.stands none in
      let one : truth (not (is_some old.kept.state.owed)) ≡ 1 = ap (λ (o : Option Turn). truth (not (is_some o))) none in
      ends f moves real (within_step Boundary (last.kept.state.time + 1) last old new w.within (idle_goes (f.follows m k).0 none same (f.follows m k).1) f) (omega (arith, same, one, moves.2))

  bounds : Follows Boundary old new → Moves Boundary old new → IsReal old new → InTurn last old → Turning R start new
  bounds f moves real (inl begun) = idles f moves real begun.1
  bounds f moves real (inr (inl inside)) = idles f moves real inside.0
  bounds f moves real (inr (inr owing)) = ends f moves real (within_before Boundary (last.kept.state.time + 1) last old new w.within (inl owing.0) f) (omega (arith, owing.1, moves.2))

  some_ready : m.ready ≢ [] → old.kept.state.ready ≢ []
  some_ready some = λ none. some (k.agrees.kept.ready ∙ none)

  -- by one step more
  one_step : (kind : Step) → Follows kind old new → Moves kind old new → IsReal old new → Turning R start new
  one_step Inside f moves real =
      let early : old.kept.state.time < last.kept.state.time + 1 = omega (arith, early_in last old w.stands moves.0) in
      goes Inside f moves real (within_before Inside (last.kept.state.time + 1) last old new w.within (inr (some_ready (f.follows m k).1.0, early)) f) (inside_on last old new m k w.stands moves)
  one_step Unit f moves real =
      let same : old.kept.state.time ≡ last.kept.state.time = early_in last old w.stands moves.0 in
      let early : old.kept.state.time < last.kept.state.time + 1 = omega (arith, same) in
      goes Unit f moves real (within_before Unit (last.kept.state.time + 1) last old new w.within (inr (some_ready (f.follows m k).1.1, early)) f) (inr (inr (moves.1, omega (arith, same, moves.2, ticks_more old.core.slot))))
  one_step Boundary f moves real = bounds f moves real w.stands
  one_step Over f moves real = subst (λ (h : Held). Turning R start h) (sym moves) (last, w)

-- so it stands after any steps
through : (R : Held → Type 0) (start : Held) → IsSound start → start.kept.state.owed ≡ None → start.own.spent ≡ 0 → (path : List Held) (new : Held) → Through start path new → Each (AtRest R) path → Turning R start new
through R start s whole spent [] new t rests =
    let begun : IsTurning R start start start = record {
      path = [];
      turns = refl;
      within = within_start (start.kept.state.time + 1) start;
      steps = no_steps start;
      sound = s;
      stands = inl (refl, whole, spent);
      each = tt;
      known = inl (refl, whole, spent);
    } in
    subst (λ (h : Held). Turning R start h) (sym t) (start, begun)
through R start s whole spent (last ∷ before) new t rests =
    let w : Turning R start last = through R start s whole spent before last t.1 rests.1 in
    one_step R start w.0 last new w.1 rests.0 t.0.0 t.0.1 t.0.2 t.0.3

between : (R : Held → Type 0) (start last new : Held) → IsTurning R start last new → InTurn last new → new.kept.state.owed ≡ None → new.own.spent ≡ 0 → (path : List Held) × Turns new.kept.state.time start path new × Each R path
between R start last new w (inl begun) whole spent = (w.path, subst (λ (h : Held). Turns h.kept.state.time start w.path h) (sym begun.0) w.turns, w.each)
between R start last new w (inr (inl inside)) whole spent = absurd (omega (arith, inside.2, spent))
between R start last new w (inr (inr owing)) whole spent = let no : true ≡ false = sym owing.0 ∙ ap is_some whole in absurd (cc)

-- and between two turns these steps are turns, each from where R holds, if it holds wherever they rest
pub by_turns_each : (R : Held → Type 0) (start new : Held) → IsSound start → start.kept.state.owed ≡ None → start.own.spent ≡ 0 → (r : RealPath start new) → Each (AtRest R) r.path → new.kept.state.owed ≡ None → new.own.spent ≡ 0
    → (path : List Held) × Turns new.kept.state.time start path new × Each R path
by_turns_each R start new s whole spent r rests ends stays =
    let w : Turning R start new = through R start s whole spent r.path new r.through rests in
    between R start w.0 new w.1 w.1.stands ends stays

-- whatever rests is itself
pub each_same : (path : List Held) → Each (AtRest (λ h. h ≡ h)) path
each_same [] = tt
each_same (h ∷ rest) = (λ sound whole spent. refl, each_same rest)
