-- A station that is followed to the end of a run.
use Rattle.std.proofs.Common.{◌≡◌, ℕ, ◌<◌, ◌≤◌, Bool, true, false, List, [], ◌∷◌, Option, Some, None, Result, Ok, Err, ◌++◌, ◌+◌, refl, sym, ap, subst, ◌∙◌, inl, inr, arith, zero, suc}
use Rattle.std.proofs.lemmas.List.{append-nil}
use Rattle.std.specs.Prelude.{◌||◌, ◌&&◌, not, nat_lt, is_some, IfErr}
use Rattle.std.proofs.lemmas.Bool.Decides.{nat_tests}
use Rattle.std.specs.String.{string_bytes}
use Rattle.ds_text.specs.Sent.{AppendsPart}
use Rattle.ds_text.proofs.Sends.{appends_both, appends_none, part_before, part_after}
use Rattle.std.specs.Io.KnownBytes.{Appends, Keeps}
use Rattle.ds_pagemap.specs.declared.turn.Turn.{Turn}
use Rattle.ds_pagemap.specs.Machine.{State, touched}
use Rattle.ds_pagemap.specs.Run.{after, goes_on, is_over}
use Rattle.ds_pagemap.specs.Text.{state_text}
use Rattle.ds_refinement.specs.declared.step.Step.{Step}
use Rattle.ds_refinement.specs.declared.step.Step.TheVariants.{Inside, Unit, Boundary, Over}
use Rattle.ds_refinement.specs.Held.{Held}
use Rattle.ds_refinement.specs.Counts.{Counts}
use Rattle.ds_refinement.specs.Inner.Counts.{IsFew}
use Rattle.ds_refinement.specs.Stands.{Stands, CountedBy}
use Rattle.ds_refinement.specs.Inner.Stands.{IsSound}
use Rattle.ds_refinement.specs.Real.{RealPath}
use Rattle.ds_refinement.specs.Steps.{Moves}
use Rattle.ds_refinement.specs.Inner.Services.{with_failure}
use Rattle.ds_refinement.specs.Runs.{RunsTo, held_goes_on}
use Rattle.ds_refinement.specs.Inner.Runs.{RunsWithin}
use Rattle.ds_refinement.proofs.RunSteps.{goes_alike, begins_goes}
use Rattle.ds_kernel.specs.Inner.Ended.{DoesStep}
use Rattle.ds_kernel.specs.Inner.Going.{GoesOn}
use Rattle.ds_kernel.proofs.Running.{step_goes}
use Rattle.ds_station.specs.Headline.{held_text}
use Rattle.ds_station.specs.Faults.{RefusesStep}
use Rattle.ds_station.specs.Inner.Faults.{IsNewFault}
use Rattle.ds_station.specs.Inner.Runs.{IsCut}
use Rattle.ds_station.specs.declared.fault.Fault.{Fault}
use Rattle.ds_station.specs.declared.fault.Fault.TheVariants as fault
use Rattle.ds_words.specs.declared.view.View.{View}
use Rattle.ds_trace.specs.declared.processor.ProcessorCounts.{ProcessorCounts}
use Rattle.ds_trace.specs.declared.window.WindowEnd.{WindowEnd}
use Rattle.ds_trace.specs.Processors.{IsEarly, is_in_window, left_along, left_by, none_processed, told_from, window_end, window_text}
use Rattle.ds_trace.specs.Inner.Counted.{CountsStep, HasCounted, IsCounting, IsWatched, WatchesAfter, WatchesAt}
use Rattle.ds_trace.specs.declared.progress.Progress.{Progress}
use Rattle.ds_trace.specs.Counts.{Counted, none_counted}
use Rattle.ds_trace.specs.Traces.{told_to, trace_along}
use Rattle.ds_trace.specs.Inner.Shows.{looked_held, end_held, processor_held, IsTold, TellsSo, TellsAll, IsStopped, Traces, TracesLines, TracesPart, TracesShort}
use Rattle.ds_trace.specs.Inner.Advanced.{Adds, HasStepped, HasHalted, is_last}
use Rattle.ds_trace.specs.Inner.Handed.{IsFinished, IsHandedOn, IsLate}
use Rattle.ds_trace.proofs.Processing.{counted_step, counting_last, counting_more, failed_within, never_out, nothing_counted, nothing_more, processor_told, watched_more, watched_step, within_before}
use Rattle.ds_trace.proofs.Silence.{untold_until, until_within, until_silent}
use Rattle.ds_trace.proofs.Telling.{told_first, told_inside, told_same, told_unit, told_boundary, told_handed, told_part, lines_part, finished, finished_part, finished_so_far, going_now}

-- The tests of the loop.

-- a run that is before its end, where no boundary is owed
early_by : (o : Option Turn) (t n : ℕ) (owed : Bool) → owed ≡ is_some o → (owed || nat_lt t n) ≡ true → o ≡ None → t < n
early_by (Some turn) t n owed is test none = absurd (cc)
early_by None t n owed is test none = lt_is t n (sym (ap (λ (b : Bool). b || nat_lt t n) is) ∙ test)
  where
    lt_is : (t n : ℕ) → nat_lt t n ≡ true → t < n
    lt_is t n e = grind (arith, nat_tests)

-- a run that is at its end
over_by : (o : Option Turn) (t n : ℕ) (owed going : Bool) → owed ≡ is_some o → (owed || nat_lt t n) ≡ false → (is_some o || (nat_lt t n && going)) ≡ false
over_by (Some turn) t n owed going is test = absurd (let yes : owed ≡ true = is in let no : (true || nat_lt t n) ≡ false = sym (ap (λ (b : Bool). b || nat_lt t n) yes) ∙ test in cc)
over_by None t n owed going is test =
    let none : nat_lt t n ≡ false = sym (ap (λ (b : Bool). b || nat_lt t n) is) ∙ test in
    ap (λ (b : Bool). b && going) none

none_begun : (o : Option Turn) (t n spent : ℕ) (owed : Bool) → owed ≡ is_some o → (owed || nat_lt t n) ≡ false → (0 < spent → t < n) → spent ≡ 0
none_begun o t n zero owed is test begun = refl
none_begun o t n (suc k) true is test begun = absurd (cc)
none_begun o t n (suc k) false is test begun = let early : t < n = begun (omega arith) in absurd (late t n early test)
  where
    late : (t n : ℕ) → t < n → nat_lt t n ≡ false → ⊥
    late t n e f = grind (arith, nat_tests)

-- A step that is told.

module _ (v : View) (n : ℕ) (m : State) (h new : Held) (a d : Option (List ℕ)) (text more : List ℕ) (b c : Progress) where
  told_step : (step : Step) → is_last step ≡ false → DoesStep step h new → Adds step v new text b more c → held_goes_on n h ≡ true → IsTold v n m h a d text b → IsTold v n m new a d more c
  told_step Inside last does adds going told =
      subst (λ (l : List ℕ). IsTold v n m new a d l c) (sym adds.0) (subst (λ (x : Progress). IsTold v n m new a d text x) (sym adds.1) (told_inside v n m h new a d text b does.follows told))
  told_step Unit last does adds going told = told_unit v n m h new a d text more b c told going does.follows does.moves adds.0 adds.1
  told_step Boundary last does adds going told = told_boundary v n m h new a d text more b c told going does.follows does.moves adds.0 adds.1
  told_step Over last does adds going told = absurd (cc)

owed_after : (v : View) (step : Step) (h new : Held) (text more : List ℕ) (b c : Progress) → is_last step ≡ false → Moves step h new → Adds step v new text b more c → b.before.owed ≡ is_some h.kept.state.owed → c.before.owed ≡ is_some new.kept.state.owed
owed_after v Inside h new text more b c last moves adds is =
    ap (λ (x : Progress). x.before.owed) adds.1 ∙ (is ∙ (ap is_some moves.0 ∙ sym (ap is_some moves.1)))
owed_after v Unit h new text more b c last moves adds is = ap (λ (x : Progress). x.before.owed) adds.1 ∙ sym moves.1
owed_after v Boundary h new text more b c last moves adds is = ap (λ (x : Progress). x.before.owed) adds.1 ∙ sym (ap is_some moves.0)
owed_after v Over h new text more b c last moves adds is = absurd (cc)

-- what is told of a run is told of where it came
tells_within : (v : View) (n : ℕ) (from h : Held) (a d : Option (List ℕ)) (text : List ℕ) (b : Progress) → TellsSo v n from h a d text b → RunsWithin n from h
tells_within v n from h a d text b tells = record {
  runs = λ m k.
      let told = tells.tells m k in
      (touched told.early (after n told.choices m), record { choices = told.choices; early = told.early; comes_to = refl }, told.stands);
}

-- a step that was not the last, of a run before its end
module _ (v : View) (n : ℕ) (h new : Held) (text more : List ℕ) (b c : Progress) (s : HasStepped false v h new text b more c) (sound : IsSound h) (owed : b.before.owed ≡ is_some h.kept.state.owed) (test : (b.before.owed || nat_lt h.kept.state.time n) ≡ true) where
  step_going : held_goes_on n h ≡ true
  step_going = going_now s.step n h new sound.state sound.stands s.is s.does.follows (early_by h.kept.state.owed h.kept.state.time n b.before.owed owed test)

  pub step_on : GoesOn n h new
  step_on = step_goes s.step n h new step_going sound s.does

  pub step_owed : c.before.owed ≡ is_some new.kept.state.owed
  step_owed = owed_after v s.step h new text more b c s.is s.does.moves s.adds owed

  pub step_told : (from : Held) (a d : Option (List ℕ)) → TellsSo v n from h a d text b → TellsSo v n from new a d more c
  step_told from a d tells = record { tells = λ m k. told_step v n m h new a d text more b c s.step s.is s.does s.adds step_going (tells.tells m k) }

  -- a step that leaves a window comes between two turns
  step_unbegun : (window : Option ℕ) → is_in_window window h ≡ true → is_in_window window new ≡ false → new.own.spent ≡ 0
  step_unbegun None inside out = absurd (never_out (is_some new.kept.state.owed) out)
  step_unbegun (Some end) inside out =
      let going : held_goes_on end h ≡ true = going_now s.step end h new sound.state sound.stands s.is s.does.follows (early_by h.kept.state.owed h.kept.state.time end (is_some h.kept.state.owed) refl inside) in
      none_begun new.kept.state.owed new.kept.state.time end new.own.spent (is_some new.kept.state.owed) refl out (step_goes s.step end h new going sound s.does).begun

  step_watched : (window : Option ℕ) (from : Held) (a d : Option (List ℕ)) (before : Option Held) (e f : WindowEnd) → TellsSo v n from h a d text b → WatchesAt c.before.owed new e f
      → IsWatched window n from (left_by window before h) e → IsWatched window n from (left_by window (left_by window before h) new) f
  step_watched window from a d before e f tells watches watched =
      watched_more window n from new c.before.owed e f step_owed watches (left_by window before h)
      (λ none out. (step_unbegun window (within_before window before h none) out, tells_within v n from new a d more c (step_told from a d tells))) watched

  pub step_counting : (window : Option ℕ) (k : ℕ) (from : Held) (a d : Option (List ℕ)) (p q : ProcessorCounts) (e f : WindowEnd) (r : Result Bool Fault) → r ≡ Ok false → CountsStep r h new p q → WatchesAfter r c.before.owed new e f
      → TellsSo v n from h a d text b → IsCounting window k n from h p e → IsCounting window k n from new q f
  step_counting window k from a d p q e f r is counts watches tells counting =
      counting_more window k n from h new p q e f (sym (ap (λ (owes : Bool). owes || nat_lt h.kept.state.time n) owed) ∙ test) (counted_step false h new p q r is counts) step_on.nearer counting
      (step_watched window from a d (left_along window counting.steps.path) e f tells (watched_step false c.before.owed new e f r is watches) counting.watched)

-- The last step.

and_false : (b : Bool) → (b && false) ≡ false
and_false true = refl
and_false false = refl

over_ends : (n : ℕ) (m : State) → m.owed ≡ None → is_over m ≡ true → goes_on n m ≡ false
over_ends n m owed over =
    ap (λ (o : Option Turn). is_some o || (nat_lt m.time n && not (is_over m))) owed
    ∙ (ap (λ (b : Bool). nat_lt m.time n && not b) over ∙ and_false (nat_lt m.time n))

-- where all have ended, no unit is begun
last_spent : (h : Held) (m : State) → Stands h m → m.owed ≡ None → is_over m ≡ true → h.own.spent ≡ 0
last_spent h m k owed over = by h.kept.state.ready refl k.counted
  where
    by : (queue : List ℕ) → h.kept.state.ready ≡ queue → CountedBy queue h.core h.own h.kept m → h.own.spent ≡ 0
    by [] is counted = ap (λ (x : Counts). x.spent) counted.0
    by (p ∷ rest) is counted =
        let n : ℕ = h.kept.state.time + 1 in
        let goes : held_goes_on n h ≡ true = begins_goes n h m k (inr (λ none. (let no : p ∷ rest ≡ [] = sym is ∙ none in cc), omega arith)) in
        let no : true ≡ false = sym goes ∙ (sym (goes_alike n h m k) ∙ over_ends n m owed over) in absurd (cc)

-- what is found where all have ended
pub record IsLast (h new : Held) (text : List ℕ) (b : Progress) (more : List ℕ) (c : Progress) (m : State) : Type 0 where
  pub same : new ≡ h
  pub told : more ≡ text
  pub looked : c ≡ b
  pub owed : m.owed ≡ None
  pub over : is_over m ≡ true

last_is : (v : View) (step : Step) (h new : Held) (text more : List ℕ) (b c : Progress) (m : State) → Stands h m → is_last step ≡ true → DoesStep step h new → Adds step v new text b more c → IsLast h new text b more c m
last_is v Inside h new text more b c m k last does adds = absurd (cc)
last_is v Unit h new text more b c m k last does adds = absurd (cc)
last_is v Boundary h new text more b c m k last does adds = absurd (cc)
last_is v Over h new text more b c m k last does adds =
    let t = does.follows.follows m k in
    record { same = does.moves; told = adds.0; looked = adds.1; owed = t.1.0; over = t.1.1 }

module _ (v : View) (n : ℕ) (h new : Held) (text more : List ℕ) (b c : Progress) (s : HasStepped true v h new text b more c) (sound : IsSound h) where
  last : IsLast h new text b more c sound.state
  last = last_is v s.step h new text more b c sound.state sound.stands s.is s.does s.adds

  last_over : held_goes_on n new ≡ false
  last_over = ap (held_goes_on n) last.same ∙ (sym (goes_alike n h sound.state sound.stands) ∙ over_ends n sound.state last.owed last.over)

  last_none : new.own.spent ≡ 0
  last_none = ap (λ (x : Held). x.own.spent) last.same ∙ last_spent h sound.state sound.stands last.owed last.over

  last_owed : b.before.owed ≡ is_some h.kept.state.owed → c.before.owed ≡ is_some new.kept.state.owed
  last_owed owed = ap (λ (x : Progress). x.before.owed) last.looked ∙ (owed ∙ sym (ap (λ (x : Held). is_some x.kept.state.owed) last.same))

  -- it leaves no window
  last_within : (window : Option ℕ) → is_in_window window h ≡ true → is_in_window window new ≡ false → ⊥
  last_within window inside out = let no : true ≡ false = sym inside ∙ (sym (ap (is_in_window window) last.same) ∙ out) in cc

  last_watched : (window : Option ℕ) (from : Held) (before : Option Held) (e f : WindowEnd) → b.before.owed ≡ is_some h.kept.state.owed → WatchesAt c.before.owed new e f
      → IsWatched window n from (left_by window before h) e → IsWatched window n from (left_by window (left_by window before h) new) f
  last_watched window from before e f owed watches watched =
      watched_more window n from new c.before.owed e f (last_owed owed) watches (left_by window before h)
      (λ none out. absurd (last_within window (within_before window before h none) out)) watched

  pub last_counting : (window : Option ℕ) (k : ℕ) (from : Held) (p q : ProcessorCounts) (e f : WindowEnd) (r : Result Bool Fault) → r ≡ Ok true → CountsStep r h new p q → WatchesAfter r c.before.owed new e f
      → IsEarly n h → b.before.owed ≡ is_some h.kept.state.owed → IsCounting window k n from h p e → HasCounted window k n from new q (string_bytes f.lines)
  last_counting window k from p q e f r is counts watches early owed counting =
      counting_last window k n from h new p q e f early (counted_step true h new p q r is counts) counting
      (last_watched window from (left_along window counting.steps.path) e f owed (watched_step true c.before.owed new e f r is watches) counting.watched)

  last_tells : (from : Held) (a d : Option (List ℕ)) → TellsSo v n from h a d text b → TellsSo v n from new a d more c
  last_tells from a d tells =
      subst (λ (x : Held). TellsSo v n from x a d more c) (sym last.same)
      (subst (λ (l : List ℕ). TellsSo v n from h a d l c) (sym last.told) (subst (λ (x : Progress). TellsSo v n from h a d text x) (sym last.looked) tells))

  pub last_told : (from : Held) (a d : Option (List ℕ)) → TellsSo v n from h a d text b → TellsAll None v n from new a d more c.counts
  last_told from a d tells = record { progress = c; tells = last_tells from a d tells; counts = refl; stopped = last_over; spent = last_none }

-- No step.

pub halts : (f : Fault) (h new : Held) → RefusesStep f h → IsFew new.own → new ≡ with_failure h → h.own.failed ≡ false → (f ≡ fault.Memory) × (new.own.spent ≡ 0) × (is_over h.kept.state ≡ false)
halts fault.Memory h new r few still working = (refl, ap (λ (x : Held). x.own.spent) still ∙ r.1, r.2)
halts fault.Failed h new r few still working = absurd (let no : true ≡ false = sym r ∙ working in cc)
halts f h new r few still working = absurd r

-- no boundary is owed there, not all have ended, and the time is not over: a turn is still to come
turn_comes : (o : Option Turn) (t n : ℕ) (over : Bool) → o ≡ None → t < n → over ≡ false → (is_some o || (nat_lt t n && not over)) ≡ true
turn_comes o t n over none early going = rw (none, going) (is_lt t n early)
  where
    is_lt : (t n : ℕ) → t < n → (nat_lt t n && true) ≡ true
    is_lt t n e = grind (arith, nat_tests)

-- what was over by an earlier time
pub goes_later : (k n : ℕ) (h : Held) → k ≤ n → h.kept.state.owed ≡ None → held_goes_on k h ≡ true → held_goes_on n h ≡ true
goes_later k n h few owed going = by h.kept.state.owed h.kept.state.time (is_over h.kept.state) owed going
  where
    later : (t : ℕ) (over : Bool) → (nat_lt t k && not over) ≡ true → (nat_lt t n && not over) ≡ true
    later t false e = grind (arith, nat_tests, few)
    later t true e = grind (arith, nat_tests, few)

    by : (o : Option Turn) (t : ℕ) (over : Bool) → o ≡ None → (is_some o || (nat_lt t k && not over)) ≡ true → (is_some o || (nat_lt t n && not over)) ≡ true
    by None t over none e = later t over e
    by (Some turn) t over none e = absurd (cc)

module _ (v : View) (n : ℕ) (f : Fault) (h new : Held) (text more : List ℕ) (b c : Progress) (s : HasHalted f h new text b more c) (owed : b.before.owed ≡ is_some h.kept.state.owed) (test : (b.before.owed || nat_lt h.kept.state.time n) ≡ true) where
  halted_whole : h.kept.state.owed ≡ None
  halted_whole = sym (ap (λ (x : Held). x.kept.state.owed) s.still) ∙ s.whole

  halted_going : held_goes_on n new ≡ true
  halted_going = ap (held_goes_on n) s.still
      ∙ turn_comes h.kept.state.owed h.kept.state.time n (is_over h.kept.state) halted_whole (early_by h.kept.state.owed h.kept.state.time n b.before.owed owed test halted_whole) s.over

  pub halted_told : (from : Held) (a d : Option (List ℕ)) → TellsSo v n from h a d text b → TellsAll (Some f) v n from new a d more c.counts
  halted_told from a d tells = record {
    progress = c;
    tells = record {
      tells = λ m k.
          subst (λ (l : List ℕ). IsTold v n m new a d l c) (sym s.same)
          (subst (λ (x : Progress). IsTold v n m new a d text x) (sym s.looked) (told_same v n m h new a d text b s.stays (tells.tells m k)));
    };
    counts = refl;
    stopped = (s.memory, s.whole, halted_going);
    spent = s.spent;
  }

-- memory refused it, where no unit is begun
pub halted_cut : (f : Fault) (from h new : Held) (text more : List ℕ) (b c : Progress) → HasHalted f h new text b more c → h.own.failed ≡ false → RealPath from h → IsCut f from new
halted_cut f from h new text more b c s working path = record {
  last = h;
  path = path;
  refused = subst (λ (x : Fault). RefusesStep x h) (sym s.memory) (working, sym (ap (λ (x : Held). x.own.spent) s.still) ∙ s.spent, s.over);
  marked = s.still;
}

-- Before the first step, and after the last.

new_is : (f : Fault) → IsNewFault f → f ≡ fault.Memory
new_is fault.Memory is = refl
new_is f is = absurd is

-- a run that was cut short is where no unit is begun
pub cut_spent : (f : Fault) (from new : Held) → IsCut f from new → IsNewFault f → new.own.spent ≡ 0
cut_spent f from new cut is = ap (λ (x : Held). x.own.spent) cut.marked ∙ refused_spent f cut.last cut.refused is
  where
    refused_spent : (f : Fault) (h : Held) → RefusesStep f h → IsNewFault f → h.own.spent ≡ 0
    refused_spent fault.Memory h refused is = refused.1
    refused_spent f h refused is = absurd is

-- a run that ended is within its time, and owes no boundary
pub ran_within : (k : ℕ) (from new : Held) → RunsTo k from new → RunsWithin k from new
ran_within k from new runs = record { runs = λ m s. let u = runs.runs m s in (u.0, u.1.reached, u.2) }

pub ran_whole : (k : ℕ) (new : Held) → held_goes_on k new ≡ false → new.kept.state.owed ≡ None
ran_whole k new over = by new.kept.state.owed (nat_lt new.kept.state.time k && not (is_over new.kept.state)) over
  where
    by : (o : Option Turn) (b : Bool) → (is_some o || b) ≡ false → o ≡ None
    by None b is = refl
    by (Some turn) b is = absurd (cc)

-- of what comes before the first turn that is told
module _ (v : View) (n : ℕ) (from new : Held) (a : Option (List ℕ)) (unowed : from.kept.state.owed ≡ None) (runs : RunsWithin (untold_until v n) from new) (owes : new.kept.state.owed ≡ None) (none : new.own.spent ≡ 0) where
  pub first_told : (text : List ℕ) (b : Progress) → text ≡ [] → b.before ≡ looked_held v false new → b.counts ≡ none_counted → TellsSo v n from new a a text b
  first_told text b empty looks uncounted = subst (λ (l : List ℕ). TellsSo v n from new a a l b) (sym empty)
      (record { tells = λ m k. told_first v (untold_until v n) n m from new a b (until_within v n) (until_silent v n) k runs unowed owes none looks uncounted })

  -- so a run came there
  pub first_within : RunsWithin n from new
  first_within =
      let b : Progress = record { before = looked_held v false new; counts = none_counted } in
      tells_within v n from new a a [] b (first_told [] b refl refl refl)

  -- where a fault cuts that short
  pub cut_early : (f : Fault) (text : List ℕ) (k : Counted) → text ≡ [] → k ≡ none_counted → IsNewFault f → held_goes_on (untold_until v n) new ≡ true → TellsAll (Some f) v n from new a a text k
  cut_early f text k empty uncounted is going =
      let b : Progress = record { before = looked_held v false new; counts = none_counted } in
      record { progress = b; tells = first_told text b empty refl refl; counts = sym uncounted; stopped = (new_is f is, owes, goes_later (untold_until v n) n new (until_within v n) owes going); spent = none }

-- and nothing is counted
pub cut_counted : (v : View) (n : ℕ) (f : Fault) (from new : Held) (c : ProcessorCounts) (e d : WindowEnd) → from.kept.state.owed ≡ None → IsCut f from new → IsNewFault f → RunsWithin (told_from v n) from new → new.kept.state.owed ≡ None
    → c ≡ none_processed → e.awaited ≡ window_end v → string_bytes e.lines ≡ [] → WatchesAt false new e d → HasCounted (window_end v) (told_from v n) n from new c (string_bytes d.lines)
cut_counted v n f from new c e d unowed cut is runs owes none awaited empty watches =
    let spent : new.own.spent ≡ 0 = cut_spent f from new cut is in
    let last : Held = cut.last in
    let within : RunsWithin (told_from v n) from last = failed_within (told_from v n) n from last new cut.path cut.marked runs in
    nothing_more (told_from v n) n from last new cut.path cut.marked (window_end v) c e d runs
    (first_within v n from last None unowed within (sym (ap (λ (x : Held). x.kept.state.owed) cut.marked) ∙ owes) (sym (ap (λ (x : Held). x.own.spent) cut.marked) ∙ spent))
    owes spent none awaited empty watches

pub end_told : (v : View) (n : ℕ) (from h : Held) (a d : Option (List ℕ)) (text : List ℕ) (b : Progress) → TellsSo v n from h a d text b → b.before.owed ≡ is_some h.kept.state.owed → (b.before.owed || nat_lt h.kept.state.time n) ≡ false → (0 < h.own.spent → h.kept.state.time < n) → TellsAll None v n from h a d text b.counts
end_told v n from h a d text b tells owed test begun = record {
  progress = b;
  tells = tells;
  counts = refl;
  stopped = over_by h.kept.state.owed h.kept.state.time n b.before.owed (not (is_over h.kept.state)) owed test;
  spent = none_begun h.kept.state.owed h.kept.state.time n h.own.spent b.before.owed owed test begun;
}

pub handed_told : (v : View) (n : ℕ) (from h : Held) (a d e : Option (List ℕ)) (text rest : List ℕ) (b : Progress) → IsHandedOn d e text rest → TellsSo v n from h a d text b → TellsSo v n from h a e rest b
handed_told v n from h a d e text rest b handed tells = record { tells = λ m k. told_handed v n m h a d e text rest b handed (tells.tells m k) }

-- with what is counted
module _ (v : View) (n : ℕ) (from h : Held) (a d e : Option (List ℕ)) (text : List ℕ) (c : ProcessorCounts) (lines : List ℕ) (counted : HasCounted (window_end v) (told_from v n) n from h c lines) where
  -- a write that failed, or memory that ran out, leaves a prefix
  pub cut_part : (b : Progress) → TellsSo v n from h a d text b → AppendsPart d e text → TracesPart v n from a e
  cut_part b tells part = record {
    traces = λ m k.
        let told = tells.tells m k in
        told_part v n m h a d e text b told from (processor_held v lines c h) (processor_told v n from h c lines m (touched told.early (after n told.choices m)) counted k told.stands) part;
  }

  -- memory that ran out while it was followed leaves a prefix of the lines
  pub cut_lines : (b : Progress) → TellsSo v n from h a d text b → Keeps d e → TracesLines v n from a e
  cut_lines b tells keeps = record {
    traces = λ m k.
        let told = tells.tells m k in
        lines_part v n m h a d e text b told from (processor_held v lines c h) (processor_told v n from h c lines m (touched told.early (after n told.choices m)) counted k told.stands) keeps;
  }

  -- and where it ran out for the run, the trace so far and the text so far
  pub halted_traces : (f : Fault) (counts : Counted) → TellsAll (Some f) v n from h a d text counts → IsFinished v counts d e (text ++ processor_held v lines c h) h → TracesShort v n from a e
  halted_traces f counts all done = record {
    traces = λ m k.
        let told = all.tells.tells m k in
        inl (finished_so_far v n m h a d e text all.progress told from (processor_held v lines c h) (processor_told v n from h c lines m (touched told.early (after n told.choices m)) counted k told.stands) counts all.counts all.spent all.stopped.1 all.stopped.2 done);
  }

  pub finished_traces : (counts : Counted) → TellsAll None v n from h a d text counts → IsFinished v counts d e (text ++ processor_held v lines c h) h → Traces v n from h a e counts
  finished_traces counts all done = record {
    traces = λ m k.
        let told = all.tells.tells m k in
        finished v n m h a d e text all.progress told from (processor_held v lines c h) (processor_told v n from h c lines m (touched told.early (after n told.choices m)) counted k told.stands) counts all.counts all.spent all.stopped done;
  }

  pub cut_traces : (cut : Option Fault) (counts : Counted) → TellsAll cut v n from h a d text counts → AppendsPart d e (text ++ processor_held v lines c h ++ end_held v counts h ++ held_text h) → TracesPart v n from a e
  cut_traces cut counts all part = record {
    traces = λ m k.
        let told = all.tells.tells m k in
        finished_part v n m h a d e text all.progress told from (processor_held v lines c h) (processor_told v n from h c lines m (touched told.early (after n told.choices m)) counted k told.stands) counts all.counts all.spent part;
  }

-- all of it is a prefix too
pub all_part : (v : View) (k : Counted) (d e : Option (List ℕ)) (text : List ℕ) (h : Held) → IsFinished v k d e text h → AppendsPart d e (text ++ end_held v k h ++ held_text h)
all_part v k d e text h done = record {
  part = text ++ end_held v k h ++ held_text h;
  rest = [];
  whole = append-nil (text ++ end_held v k h ++ held_text h);
  appends = appends_both d done.between e (text ++ end_held v k h) (held_text h) done.trace done.written;
}

-- nothing at all is a prefix
pub part_none : (a : Option (List ℕ)) (text : List ℕ) → AppendsPart a a text
part_none a text = record { part = []; rest = text; whole = refl; appends = appends_none a }

-- so where nothing was done, a prefix is written
pub nothing_part : (v : View) (n : ℕ) (from : Held) (a : Option (List ℕ)) → from.own.spent ≡ 0 → TracesPart v n from a a
unfolding after
nothing_part v n from a none =
    let lines : List ℕ = window_text (left_by (window_end v) None from) in record {
      traces = λ m k. record {
        last = m;
        reached = record { choices = []; early = false; comes_to = refl };
        processor = processor_held v lines none_processed from;
        processed = processor_told v n from from none_processed lines m m (nothing_counted (window_end v) (told_from v n) n from none) k k;
        written = part_none a (told_to v n m m (record { choices = []; early = false; comes_to = refl }) (processor_held v lines none_processed from) ++ state_text m);
      };
    }

pub nothing_lines : (v : View) (n : ℕ) (from : Held) (a : Option (List ℕ)) → from.own.spent ≡ 0 → TracesLines v n from a a
unfolding after
nothing_lines v n from a none =
    let lines : List ℕ = window_text (left_by (window_end v) None from) in record {
      traces = λ m k. record {
        last = m;
        reached = record { choices = []; early = false; comes_to = refl };
        processor = processor_held v lines none_processed from;
        processed = processor_told v n from from none_processed lines m m (nothing_counted (window_end v) (told_from v n) n from none) k k;
        written = part_none a (trace_along v n [] m);
      };
    }

-- a prefix of the lines is what is written where memory runs out
pub lines_short : (v : View) (n : ℕ) (from : Held) (a d : Option (List ℕ)) → TracesLines v n from a d → TracesShort v n from a d
lines_short v n from a d lines = record { traces = λ m k. inr (lines.traces m k) }

-- what holds where memory ran out, whatever was answered
pub short_err : {T : Type 0} (r : Result T Fault) (P : Type 0) → P → IfErr r (λ f. f ≡ fault.Memory → P)
short_err (Ok x) P p = tt
short_err (Err f) P p = λ is. p

-- where this was answered
pub short_is : {T : Type 0} (r : Result T Fault) (e : Fault) (P : Type 0) → r ≡ Err e → (e ≡ fault.Memory → P) → IfErr r (λ f. f ≡ fault.Memory → P)
short_is {T} r e P is p = subst (λ (x : Result T Fault). IfErr x (λ f. f ≡ fault.Memory → P)) (sym is) p

-- a write that failed is not want of memory
pub never_short : (e : Fault) (P : Type 0) → e ≡ fault.WriteFault → e ≡ fault.Memory → P
never_short e P unwritten short = let no : fault.WriteFault ≡ fault.Memory = sym unwritten ∙ short in absurd cc

-- a fault by which a run was cut short
pub late_cut : (f : Fault) (n : ℕ) (h : Held) → IsStopped (Some f) n h → IsLate f
late_cut f n h is = subst IsLate (sym is.0) tt

-- What is written at the end.

-- a prefix of the trace
pub cut_trace : (a d : Option (List ℕ)) (text end more rest : List ℕ) → more ≡ text ++ end → AppendsPart a d more → AppendsPart a d (text ++ end ++ rest)
cut_trace a d text end more rest is part = part_before a d (text ++ end) rest (subst (AppendsPart a d) is part)

-- or the trace, and a prefix of the text
pub cut_text : (a d e : Option (List ℕ)) (text end more rest : List ℕ) → more ≡ text ++ end → Appends a d more → AppendsPart d e rest → AppendsPart a e (text ++ end ++ rest)
cut_text a d e text end more rest is all part = part_after a d e (text ++ end) rest (subst (Appends a d) is all) part
