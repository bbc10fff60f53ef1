-- What the processor did in the steps of a run that is followed.
use Rattle.std.proofs.Common.{◌≡◌, ℕ, ◌<◌, ◌≤◌, ◌+◌, ◌-◌, ◌*◌, ◌^◌, Bool, true, false, cond, List, [], ◌∷◌, ◌++◌, Option, Some, None, Result, Ok, ◌⊎◌, inl, inr, refl, sym, ap, subst, ◌∙◌, arith, append_assoc, drop}
use Rattle.std.specs.Prelude.{slice_get, is_some, ◌||◌}
use Rattle.std.specs.String.{string_bytes}
use Rattle.std.proofs.lemmas.List.{drop_more}
use Rattle.std.proofs.lemmas.List.Elements.{All-nil, All-cons}
use Rattle.std.proofs.lemmas.Option.{slice_get_within, get_or_from_slice_get}
use Rattle.ds_word.specs.Word.{truth}
use Rattle.ds_tlb.specs.declared.entry.Entry.{Entry}
use Rattle.ds_pagemap.specs.Machine.{State}
use Rattle.ds_pagemap.specs.Run.{after, goes_on}
use Rattle.ds_refinement.specs.Held.{Held}
use Rattle.ds_refinement.specs.Units.{is_served}
use Rattle.ds_core.specs.Core.{CoreState}
use Rattle.ds_refinement.specs.Stands.{CountedBy, Stands}
use Rattle.ds_refinement.specs.Steps.{steps_left}
use Rattle.ds_refinement.specs.Real.{RealPath}
use Rattle.ds_refinement.specs.Runs.{held_goes_on}
use Rattle.ds_refinement.specs.Inner.Runs.{RunsWithin}
use Rattle.ds_refinement.specs.Inner.Services.{with_failure}
use Rattle.ds_refinement.proofs.RunSteps.{goes_alike}
use Rattle.ds_refinement.proofs.Joined.{through_both}
use Rattle.ds_refinement.proofs.Standing.{own_unseen}
use Rattle.ds_kernel.specs.Inner.Going.{rank}
use Rattle.ds_kernel.specs.Inner.Ran.{HasRun}
use Rattle.ds_station.specs.declared.fault.Fault.{Fault}
use Rattle.ds_station.specs.declared.stage.Stage.{Stage}
use Rattle.ds_station.specs.declared.stage.Stage.TheVariants.{Rest, Instruction, Refill, Service, DoubleMiss}
use Rattle.ds_station.specs.Reads.{stage_of}
use Rattle.ds_words.specs.declared.view.View.{View}
use Rattle.ds_words.specs.Views.{is_before}
use Rattle.ds_trace.specs.declared.processor.ProcessorCounts.{ProcessorCounts}
use Rattle.ds_trace.specs.declared.window.WindowEnd.{WindowEnd}
use Rattle.ds_trace.specs.Processors.{HasProcessed, HasProcessedFrom, IsEarly, IsPassed, StepsTo, TellsFrom, TellsIf, TellsProcessor, buffer_lines_text, valid_entry_text, is_in_window, left_along, left_by, window_left_text, none_processed, processor_after, processor_text, stage_after, told_from, window_end, window_text}
use Rattle.ds_trace.specs.Inner.Processors.{total}
use Rattle.ds_trace.specs.Inner.Counted.{CountsStep, HasCounted, HasLeft, HasPassed, IsCounting, IsStepped, IsWatched, WatchesAfter, WatchesAt, WatchesBy}
use Rattle.ds_trace.specs.Inner.Shows.{processor_held}

-- Few are counted.

stage_few : (c : ProcessorCounts) (stage : Stage) → total (stage_after c stage) ≤ total c + 2
stage_few c Rest = omega arith
stage_few c Instruction = omega arith
stage_few c Refill = omega arith
stage_few c Service = omega arith
stage_few c DoubleMiss = omega arith

steps_few : (h : Held) → steps_left h ≤ 129
steps_few h = by (is_served h.core)
  where
    by : (b : Bool) → 2 * (64 - h.own.spent) + truth b ≤ 129
    by true = omega arith
    by false = omega arith

rank_few : (n : ℕ) (h : Held) → n ≤ 1000000000 → total none_processed + 2 * rank n h ≤ 2 ^ 40
rank_few n h few = by (is_some h.kept.state.owed)
  where
    by : (b : Bool) → 0 + 2 * (131 * (n - h.kept.state.time) + cond b 130 (steps_left h)) ≤ 2 ^ 40
    by true = omega (arith, few)
    by false = let left = steps_few h in omega (arith, few, left)

-- so another step can be counted
pub counting_few : (window : Option ℕ) (k n : ℕ) (start h : Held) (c : ProcessorCounts) (e : WindowEnd) → IsCounting window k n start h c e → total c < 2 ^ 62
counting_few window k n start h c e counting = let few = counting.few in omega (arith, few)

-- Where a window ends.

-- a window without an end is left at no station
pub never_out : (b : Bool) → (b || true) ≡ false → ⊥
never_out true out = cc
never_out false out = cc

stays_out : (b : Bool) (h : Held) (e d : WindowEnd) → WatchesBy (b || true) h e d → d ≡ e
stays_out true h e d same = same
stays_out false h e d same = same

-- a station at which no window was left, nor before it, is within the window
pub within_before : (window : Option ℕ) (before : Option Held) (h : Held) → left_by window before h ≡ None → is_in_window window h ≡ true
within_before window (Some left) h none = absurd (cc)
within_before window None h none = by (is_in_window window h) none
  where
    by : (b : Bool) → cond b None (Some h) ≡ None → b ≡ true
    by true none = refl
    by false none = absurd (cc)

-- what is kept of the end of a window, one station later
module _ (window : Option ℕ) (n : ℕ) (start new : Held) (owed : Bool) (e d : WindowEnd) (is : owed ≡ is_some new.kept.state.owed) (watches : WatchesAt owed new e d) where
  watched_by : (b : Bool) → (b ≡ false → HasPassed n start (Some new)) → WatchesBy b new e d → IsWatched window n start None e → IsWatched window n start (cond b None (Some new)) d
  watched_by true passed same watched = subst (IsWatched window n start None) (sym same) watched
  watched_by false passed tells watched = record {
    awaited = tells.0;
    left = record {
      passed = passed refl;
      told = tells.1 ∙ ap (λ (l : List ℕ). l ++ window_left_text new) watched.left.told;
    };
  }

  pub watched_more : (left : Option Held) → (left ≡ None → is_in_window window new ≡ false → HasPassed n start (Some new)) → IsWatched window n start left e → IsWatched window n start (left_by window left new) d
  watched_more (Some before) passed watched =
      let none : WatchesBy (owed || true) new e d = subst (λ (w : Option ℕ). WatchesBy (owed || is_before w new.kept.state.time) new e d) watched.awaited watches in
      subst (IsWatched window n start (Some before)) (sym (stays_out owed new e d none)) watched
  watched_more None passed watched =
      let here : WatchesBy (owed || is_before window new.kept.state.time) new e d = subst (λ (w : Option ℕ). WatchesBy (owed || is_before w new.kept.state.time) new e d) watched.awaited watches in
      watched_by (is_in_window window new) (passed refl) (subst (λ (b : Bool). WatchesBy (b || is_before window new.kept.state.time) new e d) is here) watched

-- at the first station
pub watched_first : (window : Option ℕ) (n : ℕ) (start new : Held) (e d : WindowEnd) → e.awaited ≡ window → string_bytes e.lines ≡ [] → WatchesAt false new e d → new.kept.state.owed ≡ None → new.own.spent ≡ 0 → RunsWithin n start new → IsWatched window n start (left_by window None new) d
watched_first window n start new e d awaited empty watches owes unbegun within =
    watched_more window n start new false e d (sym (ap is_some owes)) watches None (λ none out. (unbegun, within))
    (record { awaited = awaited; left = record { passed = tt; told = empty } })

-- From the beginning to the end.

-- before the first step
none_steps : (n : ℕ) (h : Held) (c : ProcessorCounts) → c ≡ none_processed → StepsTo n h h c
none_steps n h c none = record { path = []; through = refl; early = All-nil (IsEarly n); counts = none }

pub counting_first : (window : Option ℕ) (k n : ℕ) (start new : Held) (c : ProcessorCounts) (e : WindowEnd) → HasRun k start new → held_goes_on k new ≡ false → new.own.spent ≡ 0 → c ≡ none_processed → n ≤ 1000000000 → IsWatched window n start (left_by window None new) e → IsCounting window k n start new c e
unfolding none_steps
counting_first window k n start new c e ran over unbegun none few watched = record {
  from = new;
  ran = ran;
  over = over;
  unbegun = unbegun;
  steps = none_steps n new c none;
  few = subst (λ (x : ProcessorCounts). total x + 2 * rank n new ≤ 2 ^ 40) (sym none) (rank_few n new few);
  watched = watched;
}

-- what was counted of a step that was done
pub counted_step : (last : Bool) (h new : Held) (c d : ProcessorCounts) (r : Result Bool Fault) → r ≡ Ok last → CountsStep r h new c d → IsStepped h new × (d ≡ processor_after c h)
counted_step last h new c d r is counts = subst (λ (x : Result Bool Fault). CountsStep x h new c d) is counts

-- and of a look at where the window ends
pub watched_step : (last owed : Bool) (new : Held) (e d : WindowEnd) (r : Result Bool Fault) → r ≡ Ok last → WatchesAfter r owed new e d → WatchesAt owed new e d
watched_step last owed new e d r is watches = subst (λ (x : Result Bool Fault). WatchesAfter x owed new e d) is watches

-- a step more
steps_more : (n : ℕ) (from h new : Held) (c d : ProcessorCounts) → IsEarly n h → IsStepped h new → d ≡ processor_after c h → StepsTo n from h c → StepsTo n from new d
steps_more n from h new c d early stepped counts steps = record {
  path = h ∷ steps.path;
  through = ((stepped.0, stepped.1.follows, stepped.1.moves, stepped.1.real), steps.through);
  early = All-cons (IsEarly n) h steps.path early steps.early;
  counts = counts ∙ ap (λ (x : ProcessorCounts). processor_after x h) steps.counts;
}

pub counting_more : (window : Option ℕ) (k n : ℕ) (start h new : Held) (c d : ProcessorCounts) (e f : WindowEnd) → IsEarly n h → IsStepped h new × (d ≡ processor_after c h) → rank n new < rank n h → (counting : IsCounting window k n start h c e) → IsWatched window n start (left_by window (left_along window (h ∷ counting.steps.path)) new) f → IsCounting window k n start new d f
unfolding steps_more
counting_more window k n start h new c d e f early stepped nearer counting watched = record {
  from = counting.from;
  ran = counting.ran;
  over = counting.over;
  unbegun = counting.unbegun;
  steps = steps_more n counting.from h new c d early stepped.0 stepped.1 counting.steps;
  few = subst (λ (x : ProcessorCounts). total x + 2 * rank n new ≤ 2 ^ 40) (sym stepped.1)
      (let few = counting.few in let more = stage_few c (stage_of h) in fewer (total (processor_after c h)) (total c) (rank n new) (rank n h) more nearer few);
  watched = watched;
}
  where
    fewer : (a b r s : ℕ) → a ≤ b + 2 → r < s → b + 2 * s ≤ 2 ^ 40 → a + 2 * r ≤ 2 ^ 40
    fewer a b r s more nearer few = omega (arith, more, nearer, few)

-- nothing more comes
pub counting_done : (window : Option ℕ) (k n : ℕ) (start h : Held) (c : ProcessorCounts) (e : WindowEnd) → IsCounting window k n start h c e → HasCounted window k n start h c (string_bytes e.lines)
counting_done window k n start h c e counting = record {
  from = counting.from;
  ran = counting.ran;
  unbegun = counting.unbegun;
  to = h;
  steps = counting.steps;
  begins = inl counting.over;
  left = counting.watched.left;
  core = refl;
  stands = λ m k. k;
}

-- or a last step, that finds all processes ended
pub counting_last : (window : Option ℕ) (k n : ℕ) (start h new : Held) (c d : ProcessorCounts) (e f : WindowEnd) → IsEarly n h → IsStepped h new × (d ≡ processor_after c h) → (counting : IsCounting window k n start h c e) → IsWatched window n start (left_by window (left_along window (h ∷ counting.steps.path)) new) f → HasCounted window k n start new d (string_bytes f.lines)
unfolding steps_more
counting_last window k n start h new c d e f early stepped counting watched = record {
  from = counting.from;
  ran = counting.ran;
  unbegun = counting.unbegun;
  to = new;
  steps = steps_more n counting.from h new c d early stepped.0 stepped.1 counting.steps;
  begins = inl counting.over;
  left = watched.left;
  core = refl;
  stands = λ m k. k;
}

-- or a failure, which nothing but its mark tells of
unfailed_by : (queue : List ℕ) (h : Held) (m : State) → CountedBy queue h.core (with_failure h).own h.kept m → CountedBy queue h.core h.own h.kept m
unfailed_by [] h m i = i
unfailed_by (p ∷ rest) h m i = i

unfailed : (h : Held) (m : State) → Stands (with_failure h) m → Stands h m
unfailed h m k = record { agrees = own_unseen (with_failure h) h.own m k.agrees; counted = unfailed_by h.kept.state.ready h m k.counted }

pub counting_cut : (window : Option ℕ) (k n : ℕ) (start h new : Held) (c d : ProcessorCounts) (e f : WindowEnd) → (new ≡ with_failure h) × (d ≡ c) → f ≡ e → IsCounting window k n start h c e → HasCounted window k n start new d (string_bytes f.lines)
counting_cut window k n start h new c d e f cut same counting = record {
  from = counting.from;
  ran = counting.ran;
  unbegun = counting.unbegun;
  to = h;
  steps = record {
    path = counting.steps.path;
    through = counting.steps.through;
    early = counting.steps.early;
    counts = cut.1 ∙ counting.steps.counts;
  };
  begins = inl counting.over;
  left = subst (λ (x : WindowEnd). HasLeft n start (left_along window (h ∷ counting.steps.path)) (string_bytes x.lines)) (sym same) counting.watched.left;
  core = ap (λ (x : Held). x.core) cut.0;
  stands = λ m k. unfailed h m (subst (λ (x : Held). Stands x m) cut.0 k);
}

-- a run that was cut short before the first step
pub none_counted_yet : (window : Option ℕ) (k n : ℕ) (start last new : Held) (c : ProcessorCounts) (lines : List ℕ) → HasRun k start last → last.own.spent ≡ 0 → c ≡ none_processed → HasLeft n start (left_by window None last) lines
    → new.core ≡ last.core → ((m : State) → Stands new m → Stands last m) → HasCounted window k n start new c lines
unfolding none_steps
none_counted_yet window k n start last new c lines ran unbegun none left core stands = record {
  from = last;
  ran = ran;
  unbegun = unbegun;
  to = last;
  steps = none_steps n last c none;
  begins = inr refl;
  left = left;
  core = core;
  stands = stands;
}

-- what is watched of a failure is watched of where it came
watches_failed : (b : Bool) (h : Held) (e d : WindowEnd) → WatchesBy b (with_failure h) e d → WatchesBy b h e d
watches_failed true h e d same = same
watches_failed false h e d tells = tells

-- where a failure cut the run for k short
module _ (k n : ℕ) (start last new : Held) (path : RealPath start last) (marked : new ≡ with_failure last) where
  failed_stands : (m : State) → Stands new m → Stands last m
  failed_stands m s = unfailed last m (subst (λ (x : Held). Stands x m) marked s)

  pub failed_within : RunsWithin k start new → RunsWithin k start last
  failed_within runs = record { runs = λ m s. let u = runs.runs m s in (u.0, u.1, failed_stands u.0 u.2) }

  pub nothing_more : (window : Option ℕ) (c : ProcessorCounts) (e d : WindowEnd) → RunsWithin k start new → RunsWithin n start last → new.kept.state.owed ≡ None → new.own.spent ≡ 0 → c ≡ none_processed → e.awaited ≡ window → string_bytes e.lines ≡ [] → WatchesAt false new e d
      → HasCounted window k n start new c (string_bytes d.lines)
  nothing_more window c e d runs within owes spent none awaited empty watches =
      let unbegun : last.own.spent ≡ 0 = sym (ap (λ (x : Held). x.own.spent) marked) ∙ spent in
      let unowed : last.kept.state.owed ≡ None = sym (ap (λ (x : Held). x.kept.state.owed) marked) ∙ owes in
      let here : WatchesAt false (with_failure last) e d = subst (λ (x : Held). WatchesAt false x e d) marked watches in
      none_counted_yet window k n start last new c (string_bytes d.lines) (record { path = path; within = failed_within runs }) unbegun none
      (watched_first window n start last e d awaited empty (watches_failed (is_before e.awaited last.kept.state.time) last e d here) unowed unbegun within).left
      (ap (λ (x : Held). x.core) marked) failed_stands

-- or has not begun
runs_nowhere : (k : ℕ) (h : Held) → RunsWithin k h h
unfolding after
runs_nowhere k h = record { runs = λ m s. (m, record { choices = []; early = false; comes_to = refl }, s) }

passed_nowhere : (window : Option ℕ) (n : ℕ) (h : Held) → h.own.spent ≡ 0 → HasPassed n h (left_by window None h)
passed_nowhere window n h unbegun = by (is_in_window window h)
  where
    by : (b : Bool) → HasPassed n h (cond b None (Some h))
    by true = tt
    by false = (unbegun, runs_nowhere n h)

pub nothing_counted : (window : Option ℕ) (k n : ℕ) (h : Held) → h.own.spent ≡ 0 → HasCounted window k n h h none_processed (window_text (left_by window None h))
nothing_counted window k n h unbegun =
    none_counted_yet window k n h h h none_processed (window_text (left_by window None h)) (record { path = record { path = []; through = refl }; within = runs_nowhere k h }) unbegun refl
    (record { passed = passed_nowhere window n h unbegun; told = refl }) refl (λ m s. s)

-- What is told.

passed_from : (n : ℕ) (start : Held) (m : State) (left : Option Held) → Stands start m → HasPassed n start left → IsPassed n m left
passed_from n start m None begin passed = tt
passed_from n start m (Some h) begin passed = (passed.0, passed.1.runs m begin)

processed_from : (v : View) (n : ℕ) (start h : Held) (c : ProcessorCounts) (lines : List ℕ) (m last : State) → HasCounted (window_end v) (told_from v n) n start h c lines → Stands start m → Stands h last → HasProcessedFrom v n start m last (lines ++ processor_text c h.core.entries)
processed_from v n start h c lines m last counted begin end =
    let t = counted.ran.within.runs m begin in
    let left : Option Held = left_along (window_end v) (counted.to ∷ counted.steps.path) in record {
      processed = record {
        begin = t.0;
        reached = t.1;
        from = counted.from;
        stands = t.2;
        unbegun = counted.unbegun;
        to = counted.to;
        counts = c;
        steps = counted.steps;
        begins = begun t.0 t.2 counted.begins;
        comes = counted.stands last end;
        left = left;
        leaves = refl;
        passed = passed_from n start m left begin counted.left.passed;
        told = ap (λ (l : List ℕ). l ++ processor_text c h.core.entries) counted.left.told
            ∙ ap (λ (x : CoreState). window_text left ++ processor_text c x.entries) counted.core;
      };
      path = counted.ran.path;
    }
  where
    begun : (x : State) → Stands counted.from x → (held_goes_on (told_from v n) counted.from ≡ false) ⊎ (counted.steps.path ≡ []) → (goes_on (told_from v n) x ≡ false) ⊎ (counted.steps.path ≡ [])
    begun x there (inl over) = inl (goes_alike (told_from v n) counted.from x there ∙ over)
    begun x there (inr none) = inr none

told_if : (b : Bool) (Tells : List ℕ → Type 0) (text : List ℕ) → Tells text → TellsIf b Tells (cond b text [])
told_if true Tells text told = told
told_if false Tells text told = refl

-- by real steps so far
pub counting_path : (window : Option ℕ) (k n : ℕ) (start h : Held) (c : ProcessorCounts) (e : WindowEnd) → IsCounting window k n start h c e → RealPath start h
counting_path window k n start h c e counting =
    record { path = counting.steps.path ++ counting.ran.path.path; through = through_both start counting.from h counting.ran.path.path counting.steps.path counting.ran.path.through counting.steps.through }

-- what a view wants of it
pub processor_told : (v : View) (n : ℕ) (start h : Held) (c : ProcessorCounts) (lines : List ℕ) (m last : State) → HasCounted (window_end v) (told_from v n) n start h c lines → Stands start m → Stands h last → TellsFrom v n start m last (processor_held v lines c h)
processor_told v n start h c lines m last counted begin end = (
  record { to = counted.to; path = record { path = counted.steps.path ++ counted.ran.path.path; through = through_both start counted.from counted.to counted.ran.path.path counted.steps.path counted.ran.path.through counted.steps.through }; comes = counted.stands last end },
  told_if v.processor (HasProcessedFrom v n start m last) (lines ++ processor_text c h.core.entries) (processed_from v n start h c lines m last counted begin end),
)

-- what is told of this station's run is told of a run
pub processor_of_some : (v : View) (n : ℕ) (start : Held) (m last : State) (text : List ℕ) → TellsFrom v n start m last text → TellsProcessor v n m last text
processor_of_some v n start m last text told = by v.processor told.1
  where
    by : (b : Bool) → TellsIf b (HasProcessedFrom v n start m last) text → TellsIf b (HasProcessed (window_end v) (told_from v n) n m last) text
    by true told = told.processed
    by false told = told

-- Entries, one after another.

drop_some : {X : Type 0} → (xs : List X) (i : ℕ) (x : X) → slice_get xs i ≡ Some x → drop i xs ≡ x ∷ drop (i + 1) xs
drop_some {X} xs i x is = drop_more xs i x (slice_get_within xs i x is) ∙ ap (λ (y : X). y ∷ drop (i + 1) xs) (get_or_from_slice_get xs i x x is)

pub entry_more : (entries : List Entry) (slot : ℕ) (e : Entry) (line new whole : List ℕ) → slice_get entries slot ≡ Some e → new ≡ line ++ valid_entry_text slot e
    → line ++ buffer_lines_text slot (drop slot entries) ≡ whole → new ++ buffer_lines_text (slot + 1) (drop (slot + 1) entries) ≡ whole
entry_more entries slot e line new whole is adds before =
    let rest : List ℕ = buffer_lines_text (slot + 1) (drop (slot + 1) entries) in
    ap (λ (l : List ℕ). l ++ rest) adds
    ∙ (append_assoc line (valid_entry_text slot e) rest
    ∙ (sym (ap (λ (l : List Entry). line ++ buffer_lines_text slot l) (drop_some entries slot e is)) ∙ before))
