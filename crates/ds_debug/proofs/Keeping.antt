-- A run that is looked through from a station that was kept.
use Rattle.std.proofs.Common.{◌≡◌, ℕ, ◌≤◌, Bool, true, false, List, [], ◌∷◌, ◌++◌, Option, Some, None, refl, sym, ap, subst, ◌∙◌, arith}
use Rattle.std.specs.Prelude.{if◌then◌else◌}
use Rattle.std.specs.List.{All}
use Rattle.std.proofs.lemmas.List.Elements.{All-push}
use Rattle.ds_refinement.specs.Held.{Held, Kept, Own}
use Rattle.ds_refinement.specs.Real.{RealPath}
use Rattle.ds_refinement.specs.Runs.{RunsTo, held_goes_on}
use Rattle.ds_refinement.specs.Inner.Runs.{RunsWithin}
use Rattle.ds_refinement.specs.Inner.Stands.{IsSound}
use Rattle.ds_refinement.proofs.Joined.{path_join}
use Rattle.ds_refinement.proofs.RunSteps.{to_end, within_sound, within_start}
use Rattle.ds_station.specs.Inner.Station.{StationValue}
use Rattle.ds_station.proofs.InPieces.{no_steps, to_within, within_join}
use Rattle.ds_debug.specs.Backward.{FindsIn}
use Rattle.ds_debug.specs.Goals.{Goal}
use Rattle.ds_debug.specs.Inputs.{IsAt, IsBeginning, RunInputs}
use Rattle.ds_debug.specs.Inner.Inputs.{IsReached}
use Rattle.ds_debug.specs.Inner.Past.{FindsFrom, IsKept, PastState}
use Rattle.ds_debug.specs.Places.{Turns, began_at, last_place, or_else, place_after}
use Rattle.ds_debug.specs.Watches.{all_seen}
use Rattle.ds_debug.specs.declared.places.Place.{Place}
use Rattle.ds_debug.specs.declared.places.Sought.{Sought}
use Rattle.ds_debug.proofs.Returning.{reached_on, within_later}
use Rattle.ds_debug.proofs.Turning.{by_turns_each, each_same, turns_later, turns_within}

module _ (i : RunInputs) (n : ℕ) (h : Held) (b : IsBeginning i n h) where
  pub begins_whole : h.kept.state.owed ≡ None
  begins_whole = ap (λ (k : Kept). k.state.owed) b.loads.2.kept

  pub begins_spent : h.own.spent ≡ 0
  begins_spent = ap (λ (o : Own). o.spent) b.loads.2.own

  pub begins_early : h.kept.state.time ≡ 0
  begins_early = ap (λ (k : Kept). k.state.time) b.loads.2.kept

  pub begins_kept : h.own.failed ≡ false → IsKept i n h
  begins_kept working = record {
    reached = record { start = h; begins = b; within = within_start n h; path = no_steps h };
    whole = begins_whole;
    spent = begins_spent;
    working = working;
  }

-- a run that goes on is of the same past
pub reached_past : (p q : PastState) (n : ℕ) (old new : Held) → q ≡ p → n ≤ p.limit → IsReached p.inputs p.limit old → RunsWithin n old new → RealPath old new → IsReached q.inputs q.limit new
reached_past p q n old new same le r within path = subst (λ (x : PastState). IsReached x.inputs x.limit new) (sym same) (reached_on p.inputs p.limit old new r (within_later n p.limit le old new within) path)

-- what is reached stands for a state
pub reached_sound : (i : RunInputs) (n : ℕ) (h : Held) → IsReached i n h → IsSound h
reached_sound i n h r = within_sound n r.start h r.within (record { state = r.begins.stands.0; stands = r.begins.stands.2 })

-- what is kept of a run came there by turns
kept_turns : (i : RunInputs) (n : ℕ) (h : Held) (k : IsKept i n h) → (path : List Held) × Turns h.kept.state.time k.reached.start path h
kept_turns i n h k =
    let r = k.reached in
    let sound : IsSound r.start = record { state = r.begins.stands.0; stands = r.begins.stands.2 } in
    let whole : r.start.kept.state.owed ≡ None = begins_whole i n r.start r.begins in
    let w = by_turns_each (λ h. h ≡ h) r.start h sound whole (begins_spent i n r.start r.begins) r.path (each_same r.path.path) k.whole k.spent in
    (w.0, w.1)

-- turns after turns
turns_join : (n : ℕ) (old : Held) (first : List Held) (between : Held) (second : List Held) (new : Held) → Turns n old first between → Turns n between second new → Turns n old (second ++ first) new
turns_join n old first between [] new a b = subst (λ (h : Held). Turns n old first h) (sym b) a
turns_join n old first between (last ∷ second) new a b = (b.0, turns_join n old first between second last a b.1)

-- the first, or else the second, or else the third
else_join : (a b c : Option Place) → or_else a (or_else b c) ≡ or_else (or_else a b) c
else_join None b c = refl
else_join (Some p) b c = refl

-- the last place of turns after turns is that of the later ones, or else of the earlier ones
last_join : (s : Sought) (g : Goal) (until n : ℕ) (first : List Held) (between : Held) (second : List Held) (new : Held) → Turns n between second new
    → last_place s g until (second ++ first) new ≡ or_else (last_place s g until second new) (last_place s g until first between)
last_join s g until n first between [] new t = ap (last_place s g until first) t
last_join s g until n first between (last ∷ second) new t =
    ap (or_else (place_after s g.aim until (began_at last) (all_seen last g.watchpoints) new)) (last_join s g until n first between second last t.1)
    ∙ else_join (place_after s g.aim until (began_at last) (all_seen last g.watchpoints) new) (last_place s g until second last) (last_place s g until first between)

-- where a later turn has a place, it is the last of all
some_first : (a : Option Place) (p : Place) (b : Option Place) → Some p ≡ a → Some p ≡ or_else a b
some_first None p b is = absurd (cc)
some_first (Some q) p b is = is

-- what is found from what was kept is found in the run from its beginning
pub found_kept : (i : RunInputs) (n : ℕ) (s : Sought) (g : Goal) (until : ℕ) (p : Place) (kept : Held) → IsKept i n kept → kept.kept.state.time ≤ until → FindsFrom s g until (Some p) kept → FindsIn i n s g until (Some p)
found_kept i n s g until p kept k le f =
    let start : Held = k.reached.start in
    let w : (path : List Held) × Turns kept.kept.state.time start path kept = kept_turns i n kept k in
    let found = f.finds.found in
    record {
      start = start;
      last = f.last;
      begins = k.reached.begins;
      finds = record {
        last = f.finds.last;
        found = record {
          path = found.path ++ w.0;
          turns = turns_join until start w.0 kept found.path f.finds.last (turns_later kept.kept.state.time until le start w.0 kept w.1) found.turns;
          last =
              some_first (last_place s g until found.path f.finds.last) p (last_place s g until w.0 kept) found.last
              ∙ sym (last_join s g until until w.0 kept found.path f.finds.last found.turns);
        };
        still = f.finds.still;
        over = f.finds.over;
      };
    }

-- so is what is found from the beginning
pub found_first : (i : RunInputs) (n : ℕ) (s : Sought) (g : Goal) (until : ℕ) (place : Option Place) (start : Held) → IsBeginning i n start → FindsFrom s g until place start → FindsIn i n s g until place
found_first i n s g until place start b f = record { start = start; last = f.last; begins = b; finds = f.finds }

-- a run that goes on to a time from what was kept is one to that time
pub at_kept : (i : RunInputs) (n time : ℕ) (kept new : Held) → IsKept i n kept → kept.kept.state.time ≤ time → RunsTo time kept new → RealPath kept new → held_goes_on time new ≡ false → IsAt i n time new
at_kept i n time kept new k le runs steps over =
    let start : Held = k.reached.start in
    let w : (path : List Held) × Turns kept.kept.state.time start path kept = kept_turns i n kept k in
    let within : RunsWithin time start kept = within_later kept.kept.state.time time le start kept (turns_within kept.kept.state.time start w.0 kept w.1) in
    record {
      start = start;
      begins = k.reached.begins;
      runs = to_end time start new (within_join time time (omega arith) start kept new within (to_within time kept new runs)) over;
      path = path_join start kept new k.reached.path steps;
      over = over;
    }

-- where there is room, one more is kept
pub kept_more : (i : RunInputs) (n : ℕ) (room : Bool) (kept : List StationValue) (s : StationValue) → All (λ (t : StationValue). IsKept i n t.held) kept → IsKept i n s.held → All (λ (t : StationValue). IsKept i n t.held) (if room then kept ++ s ∷ [] else kept)
kept_more i n true kept s all one = All-push (λ (t : StationValue). IsKept i n t.held) kept s all one
kept_more i n false kept s all one = all
