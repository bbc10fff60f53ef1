-- A run of a station, by blocks of instructions and by steps.
use Rattle.std.proofs.Common.{◌≡◌, ℕ, ◌+◌, ◌-◌, ◌*◌, ◌<◌, ◌≤◌, Bool, true, false, cond, List, [], ◌∷◌, Option, Some, None, refl, sym, ap, subst, ◌∙◌, arith, inr, zero, suc}
use Rattle.std.proofs.lemmas.Bool.{false≢true}
use Rattle.std.proofs.lemmas.Bool.Decides.{nat_tests}
use Rattle.std.specs.Prelude.{IsSome, is_some, not, ◌||◌, ◌&&◌, nat_lt}
use Rattle.ds_word.specs.Word.{truth}
use Rattle.ds_cp0.specs.System.{is_user}
use Rattle.ds_pagemap.specs.declared.turn.Turn.{Turn}
use Rattle.ds_pagemap.specs.Machine.{State, first}
use Rattle.ds_pagemap.specs.Run.{goes_on, is_over}
use Rattle.ds_refinement.specs.declared.step.Step.{Step}
use Rattle.ds_refinement.specs.declared.step.Step.TheVariants.{Inside, Unit, Boundary, Over}
use Rattle.ds_refinement.specs.Held.{Held}
use Rattle.ds_refinement.specs.Units.{is_served}
use Rattle.ds_refinement.specs.Inner.Stands.{IsSound}
use Rattle.ds_refinement.specs.Steps.{Follows, Moves, ticks_of, steps_left}
use Rattle.ds_refinement.specs.Runs.{held_goes_on}
use Rattle.ds_refinement.proofs.Joined.{one_step, path_join}
use Rattle.ds_refinement.proofs.RunSteps.{goes_alike, begins_goes, within_start, within_step}
use Rattle.ds_kernel.specs.declared.halt.Halt.TheVariants.{Failed}
use Rattle.ds_kernel.specs.declared.parts.Parts.{Parts}
use Rattle.ds_kernel.specs.Inner.Parts.{held}
use Rattle.ds_kernel.specs.Inner.Good.{IsOrderly}
use Rattle.ds_kernel.specs.Inner.Ended.{DoesStep}
use Rattle.ds_kernel.specs.Inner.Ran.{HasRun, WasCut}
use Rattle.ds_kernel.specs.Inner.Going.{rank, GoesOn}
use Rattle.ds_grants.proofs.OwnFrames.{truth_small}
use Rattle.ds_kernel.proofs.Blocking.{few_left, rank_of}

unowed_goes : (n : ℕ) (h : Held) → h.kept.state.owed ≡ None → held_goes_on n h ≡ (nat_lt h.kept.state.time n && not (is_over h.kept.state))
unowed_goes n h owed = ap (λ (o : Option Turn). is_some o || (nat_lt h.kept.state.time n && not (is_over h.kept.state))) owed

-- where no boundary is owed, a run that goes on isn't at its end
pub early : (n : ℕ) (h : Held) → held_goes_on n h ≡ true → h.kept.state.owed ≡ None → h.kept.state.time < n
early n h going owed = by h.kept.state.time (not (is_over h.kept.state)) (sym (unowed_goes n h owed) ∙ going)
  where
    by : (t : ℕ) (going : Bool) → (nat_lt t n && going) ≡ true → t < n
    by t going e = grind (arith, nat_tests)

somebody : (queue : List ℕ) → is_some (first queue) ≡ true → queue ≡ [] → ⊥
somebody [] some none = absurd (cc)
somebody (p ∷ rest) some none = cc

-- a run goes on before its end while somebody is ready
pub ready_goes : (n : ℕ) (h : Held) → IsSound h → is_some (first h.kept.state.ready) ≡ true → h.kept.state.time < n → held_goes_on n h ≡ true
ready_goes n h sound some early = begins_goes n h sound.state sound.stands (inr (somebody h.kept.state.ready some, early))

-- where somebody is ready, somebody has not ended
pub ready_not_over : (h : Held) → IsSound h → h.kept.state.owed ≡ None → (h.kept.state.ready ≡ [] → ⊥) → is_over h.kept.state ≡ false
ready_not_over h sound owed ready =
    let on : held_goes_on (h.kept.state.time + 1) h ≡ true = begins_goes (h.kept.state.time + 1) h sound.state sound.stands (inr (ready, omega arith)) in
    by (nat_lt h.kept.state.time (h.kept.state.time + 1)) (is_over h.kept.state) (sym (unowed_goes (h.kept.state.time + 1) h owed) ∙ on)
  where
    by : (early over : Bool) → (early && not over) ≡ true → over ≡ false
    by true true e = absurd (cc)
    by true false e = refl
    by false true e = absurd (cc)
    by false false e = absurd (cc)

-- Steps.

-- a run that goes on has a step to do
goes_somewhere : (n : ℕ) (m : State) → m.owed ≡ None → is_over m ≡ true → goes_on n m ≡ true → ⊥
goes_somewhere n m owed over going = never (nat_lt m.time n) (sym stands ∙ going)
  where
    stands : goes_on n m ≡ (nat_lt m.time n && false)
    stands = ap (λ (o : Option Turn). is_some o || (nat_lt m.time n && not (is_over m))) owed ∙ ap (λ (b : Bool). nat_lt m.time n && not b) over

    never : (b : Bool) → (b && false) ≡ true → ⊥
    never true e = absurd (cc)
    never false e = absurd (cc)

not_done : (n : ℕ) (old new : Held) → IsSound old → held_goes_on n old ≡ true → Follows Over old new → ⊥
not_done n old new sound going f =
    let t = f.follows sound.state sound.stands in
    goes_somewhere n sound.state t.1.0 t.1.1 (goes_alike n old sound.state sound.stands ∙ going)

left_most : (h : Held) → steps_left h ≤ 129
left_most h = few_left h.own.spent (truth (is_served h.core)) (truth_small (is_served h.core))

rank_most : (n : ℕ) (h : Held) → rank n h ≤ 131 * (n - h.kept.state.time) + 130
rank_most n h = by (is_some h.kept.state.owed)
  where
    by : (b : Bool) → 131 * (n - h.kept.state.time) + cond b 130 (steps_left h) ≤ 131 * (n - h.kept.state.time) + 130
    by true = omega arith
    by false = (let most = left_most h in omega (arith, most))

some_ticks : (slot : Bool) → 1 ≤ ticks_of slot
some_ticks true = omega arith
some_ticks false = omega arith

-- after a unit the time has grown
unit_falls : (n t ticks old r s : ℕ) → t < n → 1 ≤ ticks → r ≤ 131 * (n - (t + ticks)) + 130 → s ≡ 131 * (n - t) + old → r < s
unit_falls n t ticks old r s soon some most is = omega (arith, soon, some, most, is)

-- a boundary is no longer owed, or was the one of an idle turn
boundary_falls : (o : Option Turn) (n t old new : ℕ) → (o ≡ None → t < n) → new ≤ 129 → 131 * (n - (t + truth (not (is_some o)))) + new < 131 * (n - t) + cond (is_some o) 130 old
boundary_falls (Some turn) n t old new soon most = omega (arith, most)
boundary_falls None n t old new soon most = (let before : t < n = soon refl in omega (arith, before, most))

step_nearer : (step : Step) (n : ℕ) (old new : Held) → held_goes_on n old ≡ true → IsSound old → Follows step old new → Moves step old new → rank n new < rank n old
step_nearer Inside n old new going sound f m =
    let fewer : steps_left new < steps_left old = m.5 in
    let falls : 131 * (n - old.kept.state.time) + steps_left new < 131 * (n - old.kept.state.time) + steps_left old = omega (arith, fewer) in
    rw (rank_of n old m.0, rank_of n new m.1, m.2) falls
step_nearer Unit n old new going sound f m =
    let most : rank n new ≤ 131 * (n - (old.kept.state.time + ticks_of old.core.slot)) + 130 = subst (λ (t : ℕ). rank n new ≤ 131 * (n - t) + 130) m.2 (rank_most n new) in
    unit_falls n old.kept.state.time (ticks_of old.core.slot) (steps_left old) (rank n new) (rank n old) (early n old going m.0) (some_ticks old.core.slot) most (rank_of n old m.0)
step_nearer Boundary n old new going sound f m =
    rw (rank_of n new m.0, m.2) (boundary_falls old.kept.state.owed n old.kept.state.time (steps_left old) (steps_left new) (early n old going) (left_most new))
step_nearer Over n old new going sound f m = absurd (not_done n old new sound going f)

-- a step that is done leaves the mark of failure as it was
step_works : (step : Step) (old new : Held) → Moves step old new → new.own.failed ≡ old.own.failed
step_works Inside old new m = m.6
step_works Unit old new m = m.4
step_works Boundary old new m = m.3
step_works Over old new m = ap (λ (h : Held). h.own.failed) m

-- it leaves a unit begun only before the end
step_begun : (step : Step) (n : ℕ) (old new : Held) → held_goes_on n old ≡ true → IsSound old → Follows step old new → Moves step old new → 0 < new.own.spent → new.kept.state.time < n
step_begun Inside n old new going sound f m some =
    let before : old.kept.state.time < n = early n old going m.0 in
    let same : new.kept.state.time ≡ old.kept.state.time = m.2 in
    omega (arith, before, same)
step_begun Unit n old new going sound f m some = (let none : new.own.spent ≡ 0 = m.3 in absurd (omega (arith, none, some)))
step_begun Boundary n old new going sound f m some = (let none : new.own.spent ≡ 0 = m.1 in absurd (omega (arith, none, some)))
step_begun Over n old new going sound f m some = absurd (not_done n old new sound going f)

pub step_goes : (step : Step) (n : ℕ) (old new : Held) → held_goes_on n old ≡ true → IsSound old → DoesStep step old new → GoesOn n old new
step_goes step n old new going sound does = record {
  runs = λ start h. record {
    path = path_join start old new h.path (one_step step old new does.follows does.moves does.real);
    within = within_step step n start old new h.within going does.follows;
  };
  nearer = step_nearer step n old new going sound does.follows does.moves;
  working = step_works step old new does.moves;
  begun = step_begun step n old new going sound does.follows does.moves;
}

-- one after the other
pub goes_join : (n : ℕ) (a b c : Held) → GoesOn n a b → GoesOn n b c → GoesOn n a c
goes_join n a b c first second =
    let near : rank n b < rank n a = first.nearer in
    let nearer : rank n c < rank n b = second.nearer in record {
      runs = λ start h. second.runs start (first.runs start h);
      nearer = omega (arith, near, nearer);
      working = second.working ∙ first.working;
      begun = second.begun;
    }

-- a run goes on where an exception waits in a unit that was begun before its end
pub raised_goes_on : (n : ℕ) (h : Held) → IsSound h → IsOrderly h → is_user h.core.system ≡ false → (0 < h.own.spent → h.kept.state.time < n) → held_goes_on n h ≡ true
raised_goes_on n h sound orderly kernel before =
    let some : 0 < h.own.spent = orderly.raised kernel in
    begins_goes n h sound.state sound.stands (inr (orderly.running some, before some))

none_of : (k : ℕ) → (0 < k → ⊥) → k ≡ 0
none_of zero none = refl
none_of (suc k) none = absurd (none (omega arith))

-- where it doesn't go on, no unit is begun that was begun before its end
pub none_begun : (n : ℕ) (h : Held) → IsSound h → IsOrderly h → held_goes_on n h ≡ false → (0 < h.own.spent → h.kept.state.time < n) → h.own.spent ≡ 0
none_begun n h sound orderly over before = none_of h.own.spent (λ some. let no : true ≡ false = sym (begins_goes n h sound.state sound.stands (inr (orderly.running some, before some))) ∙ over in absurd (cc))

-- and where a boundary is owed
pub owed_goes_on : (n : ℕ) (h : Held) → IsSome h.kept.state.owed → held_goes_on n h ≡ true
owed_goes_on n h owed = ap (λ (b : Bool). b || (nat_lt h.kept.state.time n && not (is_over h.kept.state))) owed

-- Runs.

pub no_run : (n : ℕ) (h : Held) → HasRun n h h
no_run n h = record { path = record { path = []; through = refl }; within = within_start n h }

-- where a run was over, it does not go on
pub still_goes : {L : Type 0} (n : ℕ) (old last : Parts L) → last ≡ old → held_goes_on n (held last) ≡ true → held_goes_on n (held old) ≡ false → ⊥
still_goes {L} n old last same going over = false≢true (sym over ∙ (ap (λ (p : Parts L). held_goes_on n (held p)) (sym same) ∙ going))

-- a failure that stands is told again
pub failed_again : (n : ℕ) (h : Held) → h.own.failed ≡ true → WasCut n Failed h h
failed_again n h is = record {
  last = h;
  ran = no_run n h;
  halts = is;
  marked = ap (λ (b : Bool). record h { own = record h.own { failed = b } }) is;
}
