-- A turn in which nobody runs is told of by its boundary alone.
use Rattle.std.proofs.Common.{◌≡◌, ℕ, suc, ◌+◌, ◌-◌, ◌<◌, Bool, true, false, cond, List, [], ◌∷◌, ◌++◌, Option, Some, None, refl, sym, ap, ◌∙◌, arith, append_assoc}
use Rattle.std.proofs.lemmas.Bool.Decides.{nat_tests}
use Rattle.std.proofs.lemmas.List.{append-nil}
use Rattle.std.specs.Prelude.{◌&&◌, ◌==◌, is_some, length, map, slice_get}
use Rattle.ds_procs.specs.declared.process.Standing.{Standing}
use Rattle.ds_procs.specs.declared.process.Standing.TheVariants.{Ready, Waiting, Parked, Ended}
use Rattle.ds_pagemap.specs.declared.turn.Turn.{Turn}
use Rattle.ds_pagemap.specs.Machine.{State, first, touched, touch_first}
use Rattle.ds_pagemap.specs.Unit.{unit, unit_of_first}
use Rattle.ds_pagemap.specs.Boundary.{boundary}
use Rattle.ds_pagemap.specs.Run.{half_turn}
use Rattle.ds_refinement.specs.Held.{began_or}
use Rattle.ds_words.specs.declared.view.View.{View}
use Rattle.ds_words.specs.Views.{has_lines, shows_entries, shows_switches, shows_turn}
use Rattle.ds_trace.specs.declared.start.Start.{Start}
use Rattle.ds_trace.specs.Looks.{Looked, Found}
use Rattle.ds_trace.specs.Starts.{start_of}
use Rattle.ds_trace.specs.Boundaries.{due_by}
use Rattle.ds_trace.specs.Changes.{same_first, same_standing, standing_line, standings_text, way_text, switch_text, changes_text}
use Rattle.ds_trace.specs.Entries.{tables_text}
use Rattle.ds_trace.specs.declared.counts.Lossy.{Lossy}
use Rattle.ds_trace.specs.Counts.{Counted, plus, loss_of, lost_of, is_counted, is_unbegun, rest_counted, switch_counted, counted_after}
use Rattle.ds_trace.specs.Halves.{log_of, told_table, looked_of, found_of, process_of_start, done_text, opening_text, half_after, half_text, half_counts}

untouched : (x : State) (d : Bool) → x.ready ≡ [] → touched d x ≡ x
untouched x true none = ap (touch_first x) none
untouched x false none = refl

-- the state after such a turn
abbrev pub idle_after : State → State
idle_after x = record x { time = x.time + 1; owed = Some (record { began = x.time; runner = first x.ready }) }

pub idle_turn : (x : State) (d : Bool) → x.owed ≡ None → x.ready ≡ [] → half_turn d x ≡ idle_after x
unfolding half_turn unit
idle_turn x d owed none =
    ap (λ (o : Option Turn). cond (is_some o) (boundary (touched d x)) (unit (touched d x))) owed
    ∙ (ap unit (untouched x d none)
    ∙ ap (λ (queue : List ℕ). record (unit_of_first x queue) { owed = Some (record { began = x.time; runner = first x.ready }) }) none)

-- What is looked at is the same before it and after it.

abbrev looked_by : View → State → Option Turn → Option Start → Looked
looked_by v x owed start = record {
  owed = is_some owed;
  began = began_or owed x.time;
  start = cond (is_some owed) None start;
  logged = length (log_of x);
  runner = first x.ready;
  due = due_by (cond (is_some owed) x.time (x.time + 1)) x.commands;
  characters = length x.characters;
  queued = map length x.queues;
  standings = map (λ q. q.standing) x.processes;
  table = told_table v x.memory.table;
}

pub idle_looked : (v : View) (x : State) → x.owed ≡ None → x.ready ≡ [] → looked_of v x ≡ record (looked_of v (idle_after x)) { owed = false }
idle_looked v x owed none =
    ap (λ (o : Option Turn). looked_by v x o (start_of x (first x.ready))) owed
    ∙ ap (λ (queue : List ℕ). looked_by v x None (start_of x (first queue))) none

-- The turn itself tells nothing.

alike : (s : Standing) → same_standing s s ≡ true
alike Ready = refl
alike Waiting = refl
alike Parked = refl
alike Ended = refl

line_same : (v : View) (time p : ℕ) (s : Standing) → standing_line v time p (Some s) s ≡ []
line_same v time p Ready = refl
line_same v time p Waiting = refl
line_same v time p Parked = refl
line_same v time p Ended = refl

-- who stands as before is not told of
standings_same : (v : View) (time : ℕ) (before : List Standing) (p from : ℕ) (rest : List Standing) → p ≡ from + 1 → ((j i : ℕ) → j ≡ from + i → slice_get before j ≡ slice_get rest i) → standings_text v time before p rest ≡ []
standings_same v time before p from [] at same = refl
standings_same v time before p from (s ∷ rest) at same =
    let here : slice_get before (p - 1) ≡ Some s = same (p - 1) 0 (omega (arith, at)) in
    ap (λ (o : Option Standing). standing_line v time p o s ++ standings_text v time before (p + 1) rest) here
    ∙ (ap (λ (l : List ℕ). l ++ standings_text v time before (p + 1) rest) (line_same v time p s)
    ∙ standings_same v time before (p + 1) (from + 1) rest (omega (arith, at)) (λ j i is. same j (suc i) (omega (arith, is))))

both_none : (b : Bool) → ◌≡◌ {A = List ℕ} (cond b [] []) []
both_none true = refl
both_none false = refl

changes_none : (v : View) (b : Looked) (f : Found) → b.runner ≡ None → f.runner ≡ None → standings_text v f.time b.standings 1 f.standings ≡ [] → changes_text v b f ≡ []
changes_none v b f before after same =
    ap (λ (l : List ℕ). cond (shows_switches v) (l ++ way_text v f b.runner ++ switch_text v f.time b.runner f.runner) []) same
    ∙ (ap (λ (o : Option ℕ). cond (shows_switches v) (way_text v f o ++ switch_text v f.time o f.runner) []) before
    ∙ (ap (λ (o : Option ℕ). cond (shows_switches v) (switch_text v f.time None o) []) after
    ∙ both_none (shows_switches v)))

-- but the entries before it, where it is the first
abbrev pub idle_opening : View → Counted → State → List ℕ
idle_opening v k x = cond (shows_turn v x.time) (opening_text v k (looked_of v (idle_after x))) []

pub idle_text : (v : View) (k : Counted) (x : State) → x.owed ≡ None → x.ready ≡ [] → half_text v k x (idle_after x) ≡ idle_opening v k x
idle_text v k x owed none =
    let b : Looked = record (looked_of v (idle_after x)) { owed = false } in
    let f : Found = found_of 0 (idle_after x) in
    let runs : first x.ready ≡ None = ap first none in
    ap (λ (l : Looked). half_after v k l (found_of (process_of_start l.start) (idle_after x))) (idle_looked v x owed none)
    ∙ (ap (λ (l : List ℕ). cond (shows_turn v x.time) (opening_text v k b ++ [] ++ l) []) (changes_none v b f runs runs
    (standings_same v (x.time + 1) b.standings 1 0 b.standings refl (λ j i is. ap (slice_get b.standings) (omega (arith, is)))))
    ∙ ap (λ (l : List ℕ). cond (shows_turn v x.time) l []) (append-nil (opening_text v k b ++ []) ∙ append-nil (opening_text v k b)))

-- After it a turn is counted.

none_left : (n : ℕ) → 0 < n → (n == 0) ≡ false
none_left n some = grind (arith, nat_tests)

and_false : (b : Bool) → (b && false) ≡ false
and_false true = refl
and_false false = refl

begun_more : (units n : ℕ) → ((units == 0) && (plus n 1 == 0)) ≡ false
begun_more units n =
    let some : 0 < plus n 1 = omega arith in
    ap (λ (b : Bool). (units == 0) && b) (none_left (plus n 1) some) ∙ and_false (units == 0)

begun_by : (lines turn entries : Bool) (k more : Counted) → turn ≡ true → is_unbegun more ≡ false → ((lines && entries) && is_unbegun (cond (lines && turn) more k)) ≡ false
begun_by false turn entries k more told begun = refl
begun_by true turn entries k more told begun =
    ap (λ (b : Bool). entries && is_unbegun (cond b more k)) told
    ∙ (ap (λ (b : Bool). entries && b) begun ∙ and_false entries)

idle_begun : (v : View) (k : Counted) (x : State) → x.owed ≡ None → x.ready ≡ [] → shows_turn v x.time ≡ true → (shows_entries v && is_unbegun (half_counts v k x (idle_after x))) ≡ false
idle_begun v k x owed none told =
    let b : Looked = record (looked_of v (idle_after x)) { owed = false } in
    let f : Found = found_of 0 (idle_after x) in
    ap (λ (l : Looked). shows_entries v && is_unbegun (counted_after v k l (found_of (process_of_start l.start) (idle_after x)))) (idle_looked v x owed none)
    ∙ begun_by (has_lines v) (shows_turn v x.time) v.entries k (switch_counted (rest_counted k b f) b.runner f.runner) told (begun_more k.units k.idle)

-- and its boundary tells what is after both
two_parts : (turn : Bool) (opening second done rest : List ℕ) → (turn ≡ true → second ≡ []) → cond turn (opening ++ done ++ rest) [] ≡ cond turn opening [] ++ cond turn (second ++ done ++ rest) []
two_parts true opening second done rest none = append_assoc opening done rest ∙ ap (λ (l : List ℕ). opening ++ (l ++ done ++ rest)) (sym (none refl))
two_parts false opening second done rest none = refl

pub idle_boundary : (v : View) (k : Counted) (x t : State) → x.owed ≡ None → x.ready ≡ []
    → half_after v k (looked_of v x) (found_of (process_of_start (looked_of v x).start) t) ≡ idle_opening v k x ++ half_text v (half_counts v k x (idle_after x)) (idle_after x) t
idle_boundary v k x t owed none =
    let b : Looked = looked_of v (idle_after x) in
    let f : Found = found_of 0 t in
    ap (λ (l : Looked). half_after v k l (found_of (process_of_start l.start) t)) (idle_looked v x owed none)
    ∙ two_parts (shows_turn v x.time) (opening_text v k b) (opening_text v (half_counts v k x (idle_after x)) b) (done_text v b f None) (changes_text v b f)
    (λ told. ap (λ (c : Bool). cond c (tables_text v b.began [] b.table) []) (idle_begun v k x owed none told))

-- The tick is counted once.

-- the counts after a half turn without a unit, by whether its turn is counted, whether a boundary was owed, who was first and is first, whether one is owed now, how many characters were lost, and where
abbrev counts_by : Bool → Counted → Bool → Option ℕ → Option ℕ → Bool → ℕ → List Lossy → Counted
counts_by counted k was before after is lost lossy =
    cond counted
    (record k {
      idle = cond was k.idle (plus k.idle 1);
      lost = cond is k.lost (plus k.lost lost);
      losses = cond is k.losses (k.losses ++ lossy);
      switches = cond (same_first before after) k.switches (plus k.switches 1);
    }) k

counts_twice : (counted : Bool) (k : Counted) (after : Option ℕ) (is : Bool) (lost none : ℕ) (lossy any : List Lossy) → counts_by counted k false None after is lost lossy ≡ counts_by counted (counts_by counted k false None None true none any) true None after is lost lossy
counts_twice true k after is lost none lossy any = refl
counts_twice false k after is lost none lossy any = refl

-- with its boundary
pub idle_counts : (v : View) (k : Counted) (x t : State) → x.owed ≡ None → x.ready ≡ [] → counted_after v k (looked_of v x) (found_of (process_of_start (looked_of v x).start) t) ≡ half_counts v (half_counts v k x (idle_after x)) (idle_after x) t
idle_counts v k x t owed none =
    let b : Looked = record (looked_of v (idle_after x)) { owed = false } in
    let counted : Bool = is_counted v x.time in
    let lost : ℕ = lost_of b (found_of 0 t) in
    let none_lost : ℕ = lost_of b (found_of 0 (idle_after x)) in
    let lossy : List Lossy = loss_of b (found_of 0 t) in
    let none_lossy : List Lossy = loss_of b (found_of 0 (idle_after x)) in
    let runs : first x.ready ≡ None = ap first none in
    ap (λ (l : Looked). counted_after v k l (found_of (process_of_start l.start) t)) (idle_looked v x owed none)
    ∙ (ap (λ (o : Option ℕ). counts_by counted k false o (first t.ready) (is_some t.owed) lost lossy) runs
    ∙ (counts_twice counted k (first t.ready) (is_some t.owed) lost none_lost lossy none_lossy
    ∙ (sym (ap (λ (o : Option ℕ). counts_by counted (counts_by counted k false o o true none_lost none_lossy) true o (first t.ready) (is_some t.owed) lost lossy) runs)
    ∙ sym (ap (λ (l : Looked). counted_after v (counted_after v k l (found_of (process_of_start l.start) (idle_after x))) (looked_of v (idle_after x)) (found_of 0 t)) (idle_looked v x owed none)))))
