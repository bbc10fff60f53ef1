-- A run that is looked through for the last place of what is sought, and a session that goes back to it.
use Rattle.std.proofs.Common.{◌≡◌, ℕ, ◌<◌, ◌≤◌, List, [], ◌∷◌, ◌++◌, Option, Some, None, refl, sym, ap, subst, ◌∙◌, arith}
use Rattle.std.specs.Prelude.{IfSome}
use Rattle.ds_packets.specs.Framing.{frame}
use Rattle.ds_packets.specs.declared.packet.Action.{Action}
use Rattle.ds_packets.specs.declared.packet.Action.TheVariants.{Continue}
use Rattle.ds_packets.specs.declared.packet.Who.{Who}
use Rattle.ds_packets.specs.declared.packet.Who.TheVariants as who
use Rattle.ds_refinement.specs.Held.{Held}
use Rattle.ds_refinement.specs.Real.{RealPath}
use Rattle.ds_refinement.specs.Inner.Runs.{RunsWithin}
use Rattle.ds_refinement.proofs.Joined.{path_join}
use Rattle.ds_refinement.proofs.RunSteps.{within_start}
use Rattle.ds_station.proofs.InPieces.{to_within, within_join}
use Rattle.ds_debug.specs.Backward.{ComesBack, FindsIn, ReturnsBy, back_process, back_reason, back_time, looked_until}
use Rattle.ds_debug.specs.Forward.{IsTurn}
use Rattle.ds_debug.specs.Goals.{Goal, goal_with}
use Rattle.ds_debug.specs.Inputs.{IsAt, RunInputs}
use Rattle.ds_debug.specs.Inner.Inputs.{IsReached}
use Rattle.ds_debug.specs.Places.{HasFound, began_at, earlier, or_else, place_after}
use Rattle.ds_debug.specs.Resumes.{asked_of, goal_of}
use Rattle.ds_debug.specs.Sessions.{SessionState, named_or}
use Rattle.ds_gdb.specs.Stops.{stop_text}
use Rattle.ds_debug.specs.Times.{still_asked, asked_place}
use Rattle.ds_debug.specs.Watches.{all_seen}
use Rattle.ds_gdb.specs.declared.points.Breakpoint.{Breakpoint}
use Rattle.ds_gdb.specs.declared.points.Watchpoint.{Watchpoint}
use Rattle.ds_debug.specs.declared.places.Place.{Place}
use Rattle.ds_debug.specs.declared.places.Sought.{Sought}
use Rattle.ds_debug.specs.declared.places.Sought.TheVariants.{LastTurn, LastStop}
use Rattle.ds_gdb.specs.declared.stops.Reason.{Reason}

-- on no turn nothing is found
pub none_found : (s : Sought) (g : Goal) (until : ℕ) (h : Held) → HasFound s g until None h h
none_found s g until h = record { path = []; turns = refl; last = refl }

-- on one turn more
pub one_found : (s : Sought) (g : Goal) (until : ℕ) (place found : Option Place) (old last new : Held) → HasFound s g until place old last → IsTurn until last new → found ≡ place_after s g.aim until (began_at last) (all_seen last g.watchpoints) new
    → HasFound s g until (or_else found place) old new
one_found s g until place found old last new before turn is = record {
  path = last ∷ before.path;
  turns = (turn, before.turns);
  last = ap (λ (p : Option Place). or_else p place) is ∙ ap (or_else (place_after s g.aim until (began_at last) (all_seen last g.watchpoints) new)) before.last;
}

-- what is true of both is true of the first, or else the second
pub either : (P : Place → Type 0) (first second : Option Place) → IfSome first P → IfSome second P → IfSome (or_else first second) P
either P None second a b = b
either P (Some place) second a b = a

-- a run that goes on is one of the same inputs
pub reached_on : (i : RunInputs) (n : ℕ) (old new : Held) → IsReached i n old → RunsWithin n old new → RealPath old new → IsReached i n new
reached_on i n old new r within path = record {
  start = r.start;
  begins = r.begins;
  within = within_join n n (omega arith) r.start old new r.within within;
  path = path_join r.start old new r.path path;
}

-- so is one to a time
pub reached_at : (i : RunInputs) (n time : ℕ) (h : Held) → time ≤ n → IsAt i n time h → IsReached i n h
reached_at i n time h early a = record {
  start = a.start;
  begins = a.begins;
  within = within_join time n early a.start a.start h (within_start n a.start) (to_within time a.start h a.runs);
  path = a.path;
}

-- a run to an earlier time is one within a later time
pub within_later : (k n : ℕ) → k ≤ n → (old new : Held) → RunsWithin k old new → RunsWithin n old new
within_later k n le old new r = within_join k n le old old new (within_start n old) r

-- goals with the same actions, breakpoints and watches
pub goals_alike : (a b : List (Option Action)) (x y : List Breakpoint) (v w : List Watchpoint) → a ≡ b → x ≡ y → v ≡ w → goal_with a x v ≡ goal_with b y w
goals_alike a b x y v w same is saw = ap (λ (l : List (Option Action)). goal_with l x v) same ∙ (ap (λ (l : List Breakpoint). goal_with b l v) is ∙ ap (goal_with b y) saw)

-- the earlier of two times, by the time that was looked at
pub until_alike : (until time now limit : ℕ) → until ≡ earlier time limit → time ≡ now → until ≡ earlier now limit
until_alike until time now limit is same = is ∙ ap (λ (t : ℕ). earlier t limit) same

back_early_by : (s : Sought) (place : Option Place) (until limit : ℕ) → until ≤ limit → IfSome place (λ p. p.time ≤ until) → IfSome (back_time s place) (λ t. t ≤ limit)
back_early_by s (Some place) until limit le early = omega (arith, le, early)
back_early_by LastStop None until limit le early = omega arith
back_early_by (LastTurn p) None until limit le early = tt

-- a place up to a time of a run is one to which the run can go back
pub back_early : (s : Sought) (place : Option Place) (until limit : ℕ) (to : Option ℕ) → until ≤ limit → to ≡ back_time s place → IfSome place (λ p. p.time ≤ until) → IfSome to (λ t. t ≤ limit)
back_early s place until limit to le is early = subst (λ (o : Option ℕ). IfSome o (λ t. t ≤ limit)) (sym is) (back_early_by s place until limit le early)

-- the process that goes back has a small number
pub back_small : (w : Who) (p : ℕ) → named_or w 0 < 256 → p < 256 → named_or w p < 256
back_small who.Any p going process = process
back_small who.All p going process = process
back_small (who.Process q) p going process = going

-- a session with another station, then with another process, and then with what is still asked for
pub moved : (old between stood new : SessionState) (p q time : ℕ) → between ≡ record old { held = between.held } → stood ≡ record between { process = p }
    → new ≡ record stood { stop_at = still_asked stood.stop_at time stood.held.kept.state.time } → p ≡ q → time ≡ old.held.kept.state.time
    → new ≡ record old { held = new.held; process = q; stop_at = asked_of old new.held }
moved old between stood new p q time held process asked is at =
    let whole : new ≡ record old { held = between.held; process = p; stop_at = still_asked old.stop_at time between.held.kept.state.time } =
    asked
    ∙ (ap (λ (s : SessionState). record s { stop_at = still_asked s.stop_at time s.held.kept.state.time }) process
    ∙ ap (λ (s : SessionState). record s { process = p; stop_at = still_asked s.stop_at time s.held.kept.state.time }) held) in
    let same : between.held ≡ new.held = sym (ap (λ (s : SessionState). s.held) whole) in
    whole
    ∙ (ap (λ (h : Held). record old { held = h; process = p; stop_at = still_asked old.stop_at time h.kept.state.time }) same
    ∙ (ap (λ (n : ℕ). record old { held = new.held; process = n; stop_at = still_asked old.stop_at time new.held.kept.state.time }) is
    ∙ ap (λ (t : ℕ). record old { held = new.held; process = q; stop_at = still_asked old.stop_at t new.held.kept.state.time }) at))

-- its station is the other one
pub moved_held : (between stood new : SessionState) (p time : ℕ) → stood ≡ record between { process = p } → new ≡ record stood { stop_at = still_asked stood.stop_at time stood.held.kept.state.time } → between.held ≡ new.held
moved_held between stood new p time process asked = sym (ap (λ (s : SessionState). s.held) asked ∙ ap (λ (s : SessionState). s.held) process)

-- one that goes back by steps, each by what was found before
pub returned : (s : Sought) (process : ℕ) (old between stood new : SessionState) (before after : List ℕ) (found place : Option Place) (time until p : ℕ) (to : Option ℕ) (reason : Reason)
    → FindsIn old.inputs old.limit s (goal_of (Some Continue) [] old) (looked_until old) found
    → time ≡ old.held.kept.state.time → until ≡ earlier time old.limit → place ≡ asked_place s old.stop_at until process found
    → to ≡ back_time s place → ComesBack old.inputs old.limit old.held to between.held → between ≡ record old { held = between.held }
    → p ≡ back_process process place → stood ≡ record between { process = p }
    → new ≡ record stood { stop_at = still_asked stood.stop_at time stood.held.kept.state.time }
    → reason ≡ back_reason s time place → after ≡ before ++ frame (stop_text new.process reason)
    → ReturnsBy s process old new before after
returned s process old between stood new before after found place time until p to reason finds time_is until_is asked to_is comes held p_is stands rest reason_is told = record {
  found = found;
  finds = finds;
  place = place;
  asked = asked ∙ ap (λ (n : ℕ). asked_place s old.stop_at n process found) (until_alike until time old.held.kept.state.time old.limit until_is time_is);
  comes =
      subst (ComesBack old.inputs old.limit old.held (back_time s place)) (moved_held between stood new p time stands rest)
      (subst (λ (o : Option ℕ). ComesBack old.inputs old.limit old.held o between.held) to_is comes);
  rest = moved old between stood new p (back_process process place) time held stands rest p_is time_is;
  told = told ∙ ap (λ (r : Reason). before ++ frame (stop_text new.process r)) (reason_is ∙ ap (λ (t : ℕ). back_reason s t place) time_is);
}
