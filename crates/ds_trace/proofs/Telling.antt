-- What is written of a run, step by step.
use Rattle.std.proofs.Common.{◌≡◌, ℕ, ◌<◌, ◌≤◌, Bool, true, false, cond, List, [], ◌∷◌, ◌++◌, Option, Some, None, refl, sym, ap, subst, ◌∙◌, inl, inr, arith, append_assoc}
use Rattle.std.proofs.lemmas.Bool.Decides.{nat_tests}
use Rattle.std.specs.Prelude.{◌||◌, ◌&&◌, not, nat_lt, is_some}
use Rattle.std.specs.Io.KnownBytes.{Appends, Keeps}
use Rattle.ds_text.specs.Sent.{AppendsPart}
use Rattle.ds_text.proofs.Sends.{appends_kept, appends_none, appends_both, part_after, part_before}
use Rattle.ds_pagemap.specs.declared.turn.Turn.{Turn}
use Rattle.ds_pagemap.specs.Machine.{State, first, touched}
use Rattle.ds_pagemap.specs.Run.{half_turn, goes_on, is_over, after, Reaches}
use Rattle.ds_pagemap.specs.Text.{state_text}
use Rattle.ds_pagemap.proofs.Runs.{half_after_touch, touched_or}
use Rattle.ds_pagemap.proofs.Touches.{goes_on_touched}
use Rattle.ds_promise.proofs.Stores.{touched_owed}
use Rattle.ds_refinement.specs.declared.step.Step.{Step}
use Rattle.ds_refinement.specs.declared.step.Step.TheVariants.{Inside, Unit, Boundary, Over}
use Rattle.ds_refinement.specs.Held.{Held}
use Rattle.ds_refinement.specs.Stands.{Stands}
use Rattle.ds_refinement.specs.Steps.{Follows, Moves, HalfTo}
use Rattle.ds_refinement.specs.Inner.Steps.{Stays}
use Rattle.ds_refinement.specs.Runs.{held_goes_on}
use Rattle.ds_refinement.specs.Inner.Runs.{RunsWithin}
use Rattle.ds_refinement.proofs.RunSteps.{goes_alike, begins_goes}
use Rattle.ds_station.specs.Headline.{held_text}
use Rattle.ds_station.specs.Reads.{general_held}
use Rattle.ds_station.proofs.Headlines.{owed_stands, time_stands, text_alike}
use Rattle.ds_words.specs.declared.view.View.{View}
use Rattle.ds_trace.specs.declared.start.Start.{Start}
use Rattle.ds_trace.specs.Starts.{general_of, start_of, next_start}
use Rattle.ds_trace.specs.Looks.{Looked}
use Rattle.ds_trace.specs.Counts.{Counted, none_counted, counted_after}
use Rattle.ds_trace.specs.Halves.{looked_of, found_of, process_of_start, half_after, half_text, half_counts}
use Rattle.ds_trace.specs.Ends.{end_text}
use Rattle.ds_trace.specs.Processors.{TellsFrom}
use Rattle.ds_trace.specs.declared.progress.Progress.{Progress}
use Rattle.ds_trace.specs.Traces.{counts_along, trace_along, told_to, WritesLines, WritesToldPart, WritesToldSoFar}
use Rattle.ds_trace.specs.Inner.Traces.{WritesToldBy}
use Rattle.ds_trace.specs.Inner.Handed.{IsFinished, IsHandedOn}
use Rattle.ds_trace.specs.Inner.Shows.{looked_held, half_held, counts_held, progress_held, end_held, IsTold}
use Rattle.ds_trace.specs.Inner.Advanced.{is_last}
use Rattle.ds_trace.proofs.Touched.{looked_touched, half_touched, counts_touched, touched_ready}
use Rattle.ds_trace.proofs.Idling.{idle_after, idle_turn, idle_looked, idle_opening, idle_text, idle_boundary, idle_counts}
use Rattle.ds_trace.proofs.Silence.{IsSilent, IsUntold, untold}
use Rattle.ds_trace.proofs.Standing.{looked_stands, half_stands, counts_stand, general_stands, some_first, end_stands}

-- A half turn more.

along_more : (v : View) (n : ℕ) (d : Bool) (cs : List Bool) (m : State) → goes_on n (after n cs m) ≡ true → trace_along v n (d ∷ cs) m ≡ trace_along v n cs m ++ half_text v (counts_along v n cs m) (after n cs m) (half_turn d (after n cs m))
unfolding trace_along
along_more v n d cs m on = ap (λ (b : Bool). trace_along v n cs m ++ cond b (half_text v (counts_along v n cs m) (after n cs m) (half_turn d (after n cs m))) []) on

counts_more : (v : View) (n : ℕ) (d : Bool) (cs : List Bool) (m : State) → goes_on n (after n cs m) ≡ true → counts_along v n (d ∷ cs) m ≡ half_counts v (counts_along v n cs m) (after n cs m) (half_turn d (after n cs m))
unfolding counts_along
counts_more v n d cs m on = ap (λ (b : Bool). cond b (half_counts v (counts_along v n cs m) (after n cs m) (half_turn d (after n cs m))) (counts_along v n cs m)) on

after_more : (n : ℕ) (d : Bool) (cs : List Bool) (m : State) → goes_on n (after n cs m) ≡ true → after n (d ∷ cs) m ≡ half_turn d (after n cs m)
unfolding after
after_more n d cs m on = ap (λ (b : Bool). cond b (half_turn d (after n cs m)) (after n cs m)) on

-- Of the way to the first turn that is told nothing is written, and nothing is to be written.

module _ (v : View) (k n : ℕ) (m : State) (h new : Held) (a : Option (List ℕ)) (b : Progress) (within : k ≤ n) (silent : IsSilent v k) where
  untold_from : (x : State) (early : Bool) → IsUntold v n m x → Stands new (touched early x) → b.before ≡ looked_of v x → b.counts ≡ none_counted → IsTold v n m new a a [] b
  untold_from x early u stands is none = record {
    choices = u.choices;
    early = early;
    stands = subst (λ (y : State). Stands new (touched early y)) (sym u.comes) stands;
    looked = is ∙ sym (ap (looked_of v) u.comes);
    counted = none ∙ sym u.uncounted;
    sent = [];
    appends = appends_none a;
    told = sym u.untold;
  }

  pub told_first : Stands h m → RunsWithin k h new → h.kept.state.owed ≡ None → new.kept.state.owed ≡ None → new.own.spent ≡ 0 → b.before ≡ looked_held v false new → b.counts ≡ none_counted → IsTold v n m new a a [] b
  told_first stands runs unowed owes none is uncounted =
      let t = runs.runs m stands in
      let x : State = after k t.1.choices m in
      let there : Stands new (touched t.1.early x) = subst (Stands new) t.1.comes_to t.2 in
      let owed : (touched t.1.early x).owed ≡ None = owed_stands new (touched t.1.early x) there ∙ owes in
      untold_from x t.1.early (untold v k n within silent t.1.choices m (owed_stands h m stands ∙ unowed)) there
      (is ∙ (looked_stands new (touched t.1.early x) there v false (sym (ap is_some owed)) none ∙ looked_touched v t.1.early x)) uncounted

-- A part of a unit tells nothing.

pub told_inside : (v : View) (n : ℕ) (m : State) (h new : Held) (a d : Option (List ℕ)) (rest : List ℕ) (b : Progress) → Follows Inside h new → IsTold v n m h a d rest b → IsTold v n m new a d rest b
told_inside v n m h new a d rest b f told =
    let t = f.follows (touched told.early (after n told.choices m)) told.stands in
    let both = touched_or t.1.1 told.early (after n told.choices m) in record {
      choices = told.choices;
      early = both.0;
      stands = subst (Stands new) (t.1.2 ∙ both.1) t.2;
      looked = told.looked;
      counted = told.counted;
      sent = told.sent;
      appends = told.appends;
      told = told.told;
    }

pub told_same : (v : View) (n : ℕ) (m : State) (h new : Held) (a d : Option (List ℕ)) (rest : List ℕ) (b : Progress) → Stays h new → IsTold v n m h a d rest b → IsTold v n m new a d rest b
told_same v n m h new a d rest b s told = record {
  choices = told.choices;
  early = told.early;
  stands = s.stays (touched told.early (after n told.choices m)) told.stands;
  looked = told.looked;
  counted = told.counted;
  sent = told.sent;
  appends = told.appends;
  told = told.told;
}

-- A half turn with its lines.

-- a touch before a half turn, and one after it
half_is : (x m t : State) (early : Bool) → m ≡ touched early x → HalfTo m t → (d : Bool) × (late : Bool) × (t ≡ touched late (half_turn d x))
half_is x m t early is half =
    let d = half_after_touch half.0 early x in
    (d.0, half.1, half.2 ∙ ap (touched half.1) (ap (half_turn half.0) is ∙ d.1))

module _ (v : View) (n : ℕ) (m : State) (h new : Held) (a d : Option (List ℕ)) (rest more : List ℕ) (b c : Progress) (told : IsTold v n m h a d rest b) where
  abbrev at : State
  at = after n told.choices m

  -- by the half turn that leads from where the run was
  told_half : (t : State) (touch late owed : Bool) → goes_on n at ≡ true → t ≡ touched late (half_turn touch at) → Stands new t → owed ≡ is_some t.owed → new.own.spent ≡ 0
      → ((s : Start) → b.before.start ≡ Some s → general_held new s.process ≡ general_of t s.process) → more ≡ rest ++ half_held v b.counts b.before new → c ≡ progress_held owed v b new → IsTold v n m new a d more c
  unfolding after
  told_half t touch late owed on is k owes none same adds looks =
      let next = after_more n touch told.choices m on in
      let so_far : Counted = counts_along v n told.choices m in
      let line : half_held v b.counts b.before new ≡ half_text v so_far at (half_turn touch at) =
      half_stands new t k v b.counts b.before same
      ∙ (ap (λ (y : State). half_after v b.counts b.before (found_of (process_of_start b.before.start) y)) is
      ∙ (half_touched v b.counts b.before (process_of_start b.before.start) late (half_turn touch at)
      ∙ (ap (λ (x : Looked). half_after v b.counts x (found_of (process_of_start x.start) (half_turn touch at))) told.looked
      ∙ ap (λ (x : Counted). half_text v x at (half_turn touch at)) told.counted))) in
      let counts : counts_held v b.counts b.before new ≡ half_counts v (counts_along v n told.choices m) at (half_turn touch at) =
      counts_stand new t k v b.counts b.before same
      ∙ (ap (λ (y : State). counted_after v b.counts b.before (found_of (process_of_start b.before.start) y)) is
      ∙ (counts_touched v b.counts b.before (process_of_start b.before.start) late (half_turn touch at)
      ∙ (ap (λ (x : Looked). counted_after v b.counts x (found_of (process_of_start x.start) (half_turn touch at))) told.looked
      ∙ ap (λ (x : Counted). half_counts v x at (half_turn touch at)) told.counted))) in record {
        choices = touch ∷ told.choices;
        early = late;
        stands = subst (Stands new) (is ∙ ap (touched late) (sym next)) k;
        looked = ap (λ (x : Progress). x.before) looks ∙ (looked_stands new t k v owed owes none ∙ (ap (looked_of v) is ∙ (looked_touched v late (half_turn touch at) ∙ ap (looked_of v) (sym next))));
        counted = ap (λ (x : Progress). x.counts) looks ∙ (counts ∙ sym (counts_more v n touch told.choices m on));
        sent = told.sent;
        appends = told.appends;
        told = ap (λ (l : List ℕ). told.sent ++ l) (adds ∙ ap (λ (l : List ℕ). rest ++ l) line)
            ∙ (sym (append_assoc told.sent rest (half_text v so_far at (half_turn touch at)))
            ∙ (ap (λ (l : List ℕ). l ++ half_text v so_far at (half_turn touch at)) told.told
            ∙ sym (along_more v n touch told.choices m on)));
      }

-- Where a run was before a step, and that it goes on there.

start_process : (b : Bool) (m : State) (o : Option ℕ) (s : Start) → cond b None (start_of m o) ≡ Some s → o ≡ Some s.process
start_process true m o s is = absurd (cc)
start_process false m None s is = absurd (cc)
start_process false m (Some p) s is = let same : start_of m (Some p) ≡ Some s = is in ap process_of_start same
  where
    process_of_start : Option Start → Option ℕ
    process_of_start None = None
    process_of_start (Some x) = Some x.process

no_start : (b : Bool) (m : State) (o : Option ℕ) (s : Start) → b ≡ true → cond b None (start_of m o) ≡ Some s → ⊥
no_start true m o s owed is = absurd (cc)
no_start false m o s owed is = absurd (cc)

owes_some : (o : Option Turn) → (o ≡ None → ⊥) → is_some o ≡ true
owes_some None not = absurd (not refl)
owes_some (Some turn) not = refl

owes_none : (o : Option Turn) → o ≡ None → is_some o ≡ false
owes_none o is = ap is_some is

open_goes : (early over : Bool) → early ≡ true → over ≡ false → (early && not over) ≡ true
open_goes early over e f = rw (e, f) refl

early_is : (t n : ℕ) → t < n → nat_lt t n ≡ true
early_is t n e = grind (arith, nat_tests)

begins_here : (n : ℕ) (h : Held) (m : State) → Stands h m → (h.kept.state.ready ≡ [] → ⊥) → (h.kept.state.owed ≡ None → h.kept.state.time < n) → held_goes_on n h ≡ true
begins_here n h m k ready before = by h.kept.state.owed refl
  where
    by : (o : Option Turn) → h.kept.state.owed ≡ o → held_goes_on n h ≡ true
    by None is = begins_goes n h m k (inr (ready, before is))
    by (Some turn) is = begins_goes n h m k (inl (ap is_some is))

-- a run for n goes on where a step of it was not the last
pub going_now : (step : Step) (n : ℕ) (h new : Held) (m : State) → Stands h m → is_last step ≡ false → Follows step h new → (h.kept.state.owed ≡ None → h.kept.state.time < n) → held_goes_on n h ≡ true
going_now Inside n h new m k last f before =
    let t = f.follows m k in
    begins_here n h m k (λ nobody. t.1.0 (k.agrees.kept.ready ∙ nobody)) before
going_now Unit n h new m k last f before =
    let t = f.follows m k in
    begins_here n h m k (λ nobody. t.1.1 (k.agrees.kept.ready ∙ nobody)) before
going_now Boundary n h new m k last f before =
    let t = f.follows m k in
    elim t.1 [
      | inl owed ↦ begins_goes n h m k (inl (sym (ap is_some (owed_stands h m k)) ∙ owes_some m.owed owed.0))
      | inr idle ↦ (
          let none : h.kept.state.owed ≡ None = sym (owed_stands h m k) ∙ idle.0 in
          sym (goes_alike n h m k) ∙ (ap (λ (o : Option Turn). is_some o || (nat_lt m.time n && not (is_over m))) idle.0
          ∙ open_goes (nat_lt m.time n) (is_over m) (ap (λ (t : ℕ). nat_lt t n) (time_stands h m k) ∙ early_is h.kept.state.time n (before none)) idle.2))
    ]
going_now Over n h new m k last f before = absurd (cc)

-- Each kind of step.

module _ (v : View) (n : ℕ) (m : State) (h new : Held) (a d : Option (List ℕ)) (rest more : List ℕ) (b c : Progress) (told : IsTold v n m h a d rest b) (going : held_goes_on n h ≡ true) where
  abbrev here : State
  here = after n told.choices m

  abbrev now : State
  now = touched told.early here

  -- the run of the machine goes on too
  goes_here : goes_on n here ≡ true
  goes_here = sym (goes_on_touched n told.early here) ∙ (goes_alike n h now told.stands ∙ going)

  owed_here : here.owed ≡ h.kept.state.owed
  owed_here = sym (touched_owed told.early here) ∙ owed_stands h now told.stands

  ready_here : here.ready ≡ h.kept.state.ready
  ready_here = sym (touched_ready told.early here) ∙ told.stands.agrees.kept.ready

  start_is : (s : Start) → b.before.start ≡ Some s → next_start here ≡ Some s
  start_is s is = sym (ap (λ (x : Looked). x.start) told.looked) ∙ is

  -- the process of the unit that is next has a number
  some_process : (s : Start) → b.before.start ≡ Some s → 0 < s.process
  some_process s is =
      let runs : first here.ready ≡ Some s.process = start_process (is_some here.owed) here (first here.ready) s (start_is s is) in
      some_first h now told.stands s.process (sym (ap first ready_here) ∙ runs)

  pub told_unit : Follows Unit h new → Moves Unit h new → more ≡ rest ++ half_held v b.counts b.before new → c ≡ progress_held true v b new → IsTold v n m new a d more c
  told_unit f moves adds looks =
      let t = f.follows now told.stands in
      let half = half_is here now t.0 told.early refl t.1.2 in
      let owes : is_some t.0.owed ≡ true = ap is_some (owed_stands new t.0 t.2) ∙ moves.1 in
      told_half v n m h new a d rest more b c told t.0 half.0 half.1 true goes_here half.2 t.2 (sym owes) moves.3
      (λ s is. general_stands new t.0 t.2 s.process (some_process s is) moves.3) adds looks

  owed_boundary_told : (t : State) → Stands new t → (now.owed ≡ None → ⊥) → HalfTo now t → Moves Boundary h new → more ≡ rest ++ half_held v b.counts b.before new → c ≡ progress_held false v b new → IsTold v n m new a d more c
  owed_boundary_told t k owed goes moves adds looks =
      let half = half_is here now t told.early refl goes in
      let owes : is_some here.owed ≡ true = ap is_some (sym (touched_owed told.early here)) ∙ owes_some now.owed owed in
      told_half v n m h new a d rest more b c told t half.0 half.1 false goes_here half.2 k (sym (owes_none t.owed (owed_stands new t k ∙ moves.0))) moves.1
      (λ s is. absurd (no_start (is_some here.owed) here (first here.ready) s owes (start_is s is))) adds looks

-- A turn in which nobody runs, with its boundary.

module _ (v : View) (n : ℕ) (m : State) (h new : Held) (a d : Option (List ℕ)) (rest more : List ℕ) (b c : Progress) (told : IsTold v n m h a d rest b) (on : goes_on n (after n told.choices m) ≡ true) where
  abbrev from : State
  from = after n told.choices m

  no_unit : (s : Start) → b.before.start ≡ Some s → from.owed ≡ None → from.ready ≡ [] → ⊥
  no_unit s starts owed none =
      let no : None ≡ Some s = sym (ap (λ (x : Looked). x.start) (idle_looked v from owed none)) ∙ (sym (ap (λ (x : Looked). x.start) told.looked) ∙ starts) in cc

  -- both half turns, by their touches
  told_idle : (t : State) (first_touch touch late : Bool) → from.owed ≡ None → from.ready ≡ [] → t ≡ touched late (half_turn touch (half_turn first_touch from)) → Stands new t → t.owed ≡ None → new.own.spent ≡ 0
      → more ≡ rest ++ half_held v b.counts b.before new → c ≡ progress_held false v b new → IsTold v n m new a d more c
  told_idle t first_touch touch late owed none is k unowed begun adds looks =
      let between : after n (first_touch ∷ told.choices) m ≡ idle_after from = after_more n first_touch told.choices m on ∙ idle_turn from first_touch owed none in
      let goes : goes_on n (after n (first_touch ∷ told.choices) m) ≡ true = ap (goes_on n) between in
      let last : State = half_turn touch (idle_after from) in
      let next : after n (touch ∷ first_touch ∷ told.choices) m ≡ last = after_more n touch (first_touch ∷ told.choices) m goes ∙ ap (half_turn touch) between in
      let came : t ≡ touched late last = is ∙ ap (λ (x : State). touched late (half_turn touch x)) (idle_turn from first_touch owed none) in
      let before : Counted = counts_along v n told.choices m in
      let ticked : Counted = half_counts v before from (idle_after from) in
      let opening : List ℕ = idle_opening v before from in
      let half : List ℕ = half_text v ticked (idle_after from) last in
      let line : half_held v b.counts b.before new ≡ opening ++ half =
      half_stands new t k v b.counts b.before (λ s starts. absurd (no_unit s starts owed none))
      ∙ (ap (λ (y : State). half_after v b.counts b.before (found_of (process_of_start b.before.start) y)) came
      ∙ (half_touched v b.counts b.before (process_of_start b.before.start) late last
      ∙ (ap (λ (x : Looked). half_after v b.counts x (found_of (process_of_start x.start) last)) told.looked
      ∙ (ap (λ (x : Counted). half_after v x (looked_of v from) (found_of (process_of_start (looked_of v from).start) last)) told.counted
      ∙ idle_boundary v before from last owed none)))) in
      let first_count : counts_along v n (first_touch ∷ told.choices) m ≡ ticked =
      counts_more v n first_touch told.choices m on ∙ ap (half_counts v before from) (idle_turn from first_touch owed none) in
      let second_count : counts_along v n (touch ∷ first_touch ∷ told.choices) m ≡ half_counts v ticked (idle_after from) last =
      counts_more v n touch (first_touch ∷ told.choices) m goes
      ∙ (ap (λ (x : State). half_counts v (counts_along v n (first_touch ∷ told.choices) m) x (half_turn touch x)) between
      ∙ ap (λ (x : Counted). half_counts v x (idle_after from) last) first_count) in
      let first_line : trace_along v n (first_touch ∷ told.choices) m ≡ trace_along v n told.choices m ++ opening =
      along_more v n first_touch told.choices m on
      ∙ (ap (λ (x : State). trace_along v n told.choices m ++ half_text v before from x) (idle_turn from first_touch owed none)
      ∙ ap (λ (l : List ℕ). trace_along v n told.choices m ++ l) (idle_text v before from owed none)) in
      let second_line : trace_along v n (touch ∷ first_touch ∷ told.choices) m ≡ (trace_along v n told.choices m ++ opening) ++ half =
      along_more v n touch (first_touch ∷ told.choices) m goes
      ∙ (ap (λ (x : State). trace_along v n (first_touch ∷ told.choices) m ++ half_text v (counts_along v n (first_touch ∷ told.choices) m) x (half_turn touch x)) between
      ∙ (ap (λ (x : Counted). trace_along v n (first_touch ∷ told.choices) m ++ half_text v x (idle_after from) last) first_count
      ∙ ap (λ (l : List ℕ). l ++ half) first_line)) in
      let counts : counts_held v b.counts b.before new ≡ half_counts v ticked (idle_after from) last =
      counts_stand new t k v b.counts b.before (λ s starts. absurd (no_unit s starts owed none))
      ∙ (ap (λ (y : State). counted_after v b.counts b.before (found_of (process_of_start b.before.start) y)) came
      ∙ (counts_touched v b.counts b.before (process_of_start b.before.start) late last
      ∙ (ap (λ (x : Looked). counted_after v b.counts x (found_of (process_of_start x.start) last)) told.looked
      ∙ (ap (λ (x : Counted). counted_after v x (looked_of v from) (found_of (process_of_start (looked_of v from).start) last)) told.counted
      ∙ idle_counts v before from last owed none)))) in record {
        choices = touch ∷ first_touch ∷ told.choices;
        early = late;
        stands = subst (Stands new) (came ∙ ap (touched late) (sym next)) k;
        looked = ap (λ (x : Progress). x.before) looks ∙ (looked_stands new t k v false (sym (owes_none t.owed unowed)) begun ∙ (ap (looked_of v) came ∙ (looked_touched v late last ∙ ap (looked_of v) (sym next))));
        counted = ap (λ (x : Progress). x.counts) looks ∙ (counts ∙ sym second_count);
        sent = told.sent;
        appends = told.appends;
        told = ap (λ (l : List ℕ). told.sent ++ l) (adds ∙ ap (λ (l : List ℕ). rest ++ l) line)
            ∙ (sym (append_assoc told.sent rest (opening ++ half))
            ∙ (ap (λ (l : List ℕ). l ++ (opening ++ half)) told.told
            ∙ (sym (append_assoc (trace_along v n told.choices m) opening half) ∙ sym second_line)));
      }

module _ (v : View) (n : ℕ) (m : State) (h new : Held) (a d : Option (List ℕ)) (rest more : List ℕ) (b c : Progress) (told : IsTold v n m h a d rest b) (going : held_goes_on n h ≡ true) where
  pub told_boundary : Follows Boundary h new → Moves Boundary h new → more ≡ rest ++ half_held v b.counts b.before new → c ≡ progress_held false v b new → IsTold v n m new a d more c
  told_boundary f moves adds looks =
      let x : State = after n told.choices m in
      let t = f.follows (touched told.early x) told.stands in
      elim t.1 [
        | inl owed ↦ owed_boundary_told v n m h new a d rest more b c told going t.0 t.2 owed.0 owed.1 moves adds looks
        | inr idle ↦ (
            let first_touch = half_after_touch false told.early x in
            told_idle v n m h new a d rest more b c told (goes_here v n m h new a d rest more b c told going) t.0 first_touch.0 idle.3.0 idle.3.1
            (sym (touched_owed told.early x) ∙ idle.0) (sym (touched_ready told.early x) ∙ idle.1)
            (idle.3.2 ∙ ap (λ (y : State). touched idle.3.1 (half_turn idle.3.0 y)) first_touch.1)
            t.2 (owed_stands new t.0 t.2 ∙ moves.0) moves.1 adds looks)
      ]

-- What is handed on of the text.

pub told_handed : (v : View) (n : ℕ) (m : State) (h : Held) (a d e : Option (List ℕ)) (text rest : List ℕ) (b : Progress) → IsHandedOn d e text rest → IsTold v n m h a d text b → IsTold v n m h a e rest b
told_handed v n m h a d e text rest b handed told = record {
  choices = told.choices;
  early = told.early;
  stands = told.stands;
  looked = told.looked;
  counted = told.counted;
  sent = told.sent ++ handed.sent;
  appends = appends_both a d e told.sent handed.sent told.appends handed.appends;
  told = append_assoc told.sent handed.sent rest ∙ (ap (λ (l : List ℕ). told.sent ++ l) handed.whole ∙ told.told);
}

-- what the processor did, and then the end's text, after the lines
after_lines : (sent text lines processor : List ℕ) → sent ++ text ≡ lines → sent ++ (text ++ processor) ≡ lines ++ processor
after_lines sent text lines processor is = sym (append_assoc sent text processor) ∙ ap (λ (l : List ℕ). l ++ processor) is

-- a prefix of what is to be written is written: so is one of the trace and the text
module _ (v : View) (n : ℕ) (m : State) (h : Held) (a d e : Option (List ℕ)) (text : List ℕ) (b : Progress) (told : IsTold v n m h a d text b) (start : Held) (processor : List ℕ) (processed : TellsFrom v n start m (touched told.early (after n told.choices m)) processor) where
  abbrev last_state : State
  last_state = touched told.early (after n told.choices m)

  abbrev last_reached : Reaches n m last_state
  last_reached = record { choices = told.choices; early = told.early; comes_to = refl }

  abbrev last_counts : Counted
  last_counts = counts_along v n told.choices m

  last_end : (k : Counted) → b.counts ≡ k → h.own.spent ≡ 0 → end_held v k h ≡ end_text v last_counts last_state
  last_end k is none = end_stands h last_state told.stands v k none ∙ ap (λ (x : Counted). end_text v x last_state) (sym is ∙ told.counted)

  last_text : held_text h ≡ state_text last_state
  last_text = text_alike h last_state told.stands

  pub told_part : AppendsPart d e text → WritesToldPart v a e n m (TellsFrom v n start m)
  told_part part = record {
    last = last_state;
    reached = last_reached;
    processor = processor;
    processed = processed;
    written = part_before a e (trace_along v n told.choices m ++ processor ++ end_text v last_counts last_state) (state_text last_state)
        (part_before a e (trace_along v n told.choices m ++ processor) (end_text v last_counts last_state)
        (part_before a e (trace_along v n told.choices m) processor
        (subst (AppendsPart a e) told.told (part_after a d e told.sent text told.appends part))));
  }

  -- of the lines, where nothing more is written
  pub lines_part : Keeps d e → WritesLines v a e n m (TellsFrom v n start m)
  lines_part keeps = record {
    last = last_state;
    reached = last_reached;
    processor = processor;
    processed = processed;
    written = record { part = told.sent; rest = text; whole = told.told; appends = appends_kept a d e told.sent told.appends keeps };
  }

  -- with the end's text and the text of the state
  both_are : (k : Counted) → b.counts ≡ k → h.own.spent ≡ 0 → told.sent ++ (text ++ processor ++ end_held v k h ++ held_text h) ≡ told_to v n m last_state last_reached processor ++ state_text last_state
  both_are k is none =
      ap (λ (l : List ℕ). told.sent ++ (text ++ processor ++ l ++ held_text h)) (last_end k is none)
      ∙ (ap (λ (l : List ℕ). told.sent ++ (text ++ processor ++ end_text v last_counts last_state ++ l)) last_text
      ∙ (sym (append_assoc told.sent (text ++ processor ++ end_text v last_counts last_state) (state_text last_state))
      ∙ ap (λ (l : List ℕ). l ++ state_text last_state) (trace_is)))
    where
      trace_is : told.sent ++ (text ++ processor ++ end_text v last_counts last_state) ≡ trace_along v n told.choices m ++ processor ++ end_text v last_counts last_state
      trace_is = after_lines told.sent (text ++ processor) (trace_along v n told.choices m ++ processor) (end_text v last_counts last_state)
          (after_lines told.sent text (trace_along v n told.choices m) processor told.told)

  pub finished_part : (k : Counted) → b.counts ≡ k → h.own.spent ≡ 0 → AppendsPart d e (text ++ processor ++ end_held v k h ++ held_text h) → WritesToldPart v a e n m (TellsFrom v n start m)
  finished_part k is none part = record {
    last = last_state;
    reached = last_reached;
    processor = processor;
    processed = processed;
    written = subst (AppendsPart a e) (both_are k is none) (part_after a d e told.sent (text ++ processor ++ end_held v k h ++ held_text h) told.appends part);
  }

  -- the trace and its end's text are written
  trace_written : (k : Counted) → b.counts ≡ k → h.own.spent ≡ 0 → (between : Option (List ℕ)) → Appends d between (text ++ processor ++ end_held v k h) → Appends a between (told_to v n m last_state last_reached processor)
  trace_written k is none between trace = subst (Appends a between)
      (after_lines told.sent (text ++ processor) (trace_along v n told.choices m ++ processor) (end_held v k h)
      (after_lines told.sent text (trace_along v n told.choices m) processor told.told)
      ∙ ap (λ (l : List ℕ). trace_along v n told.choices m ++ processor ++ l) (last_end k is none))
      (appends_both a d between told.sent (text ++ processor ++ end_held v k h) told.appends trace)

  pub finished : (k : Counted) → b.counts ≡ k → h.own.spent ≡ 0 → held_goes_on n h ≡ false → IsFinished v k d e (text ++ processor) h → WritesToldBy v a e n m (λ last lines. TellsFrom v n start m last lines × Stands h last) k
  finished k is none over done = record {
    told = record {
      last = last_state;
      ends = record { reached = last_reached; over = goes_alike n h last_state told.stands ∙ over };
      processor = processor;
      processed = (processed, told.stands);
      between = done.between;
      trace = trace_written k is none done.between done.trace;
      written = subst (Appends done.between e) last_text done.written;
    };
    counts = sym is ∙ told.counted;
  }

  -- so of a run that was cut short
  pub finished_so_far : (k : Counted) → b.counts ≡ k → h.own.spent ≡ 0 → h.kept.state.owed ≡ None → held_goes_on n h ≡ true → IsFinished v k d e (text ++ processor) h → WritesToldSoFar v a e n m (TellsFrom v n start m)
  finished_so_far k is none owed going done = record {
    last = last_state;
    prefix = record { reached = last_reached; whole = owed_stands h last_state told.stands ∙ owed };
    going = goes_alike n h last_state told.stands ∙ going;
    processor = processor;
    processed = processed;
    between = done.between;
    trace = trace_written k is none done.between done.trace;
    written = subst (Appends done.between e) last_text done.written;
  }
