-- A session that goes somewhere, and what it tells of that.
use Rattle.std.proofs.Common.{◌≡◌, ℕ, ◌-◌, List, ◌++◌, length, refl, ap, ◌∙◌}
use Rattle.std.specs.Prelude.{OnOk, Result, Ok, Err}
use Rattle.ds_packets.specs.Framing.{frame}
use Rattle.ds_packets.specs.declared.packet.Action.{Action}
use Rattle.ds_packets.specs.declared.packet.Action.TheVariants.{Continue}
use Rattle.ds_gdb.specs.Outputs.{outputs_text}
use Rattle.ds_gdb.specs.Stops.{stop_text}
use Rattle.ds_gdb.specs.Streams.{Adds}
use Rattle.ds_gdb.specs.declared.stops.Reason.{Reason}
use Rattle.ds_bare_debug.specs.Goals.{BareGoal}
use Rattle.ds_bare_debug.specs.Going.{Came, next_stop, place_before}
use Rattle.ds_bare_debug.specs.Looks.{sent_after}
use Rattle.ds_bare_debug.specs.Positions.{Position, position}
use Rattle.ds_bare_debug.specs.Sessions.{BareSession, after_data, came_back, arrival_text, data_text, forward_of, bare_goal_of, moved, still_to_stop}
use Rattle.ds_bare_debug.specs.Inner.Serving.{BareReplies}
use Rattle.ds_bare_debug.specs.declared.back.Place.{Place}

-- where it has come
abbrev pub HasCome : BareSession → Came → BareSession → Reason → Type 0
HasCome s came new reason = (new ≡ record s { position = came.position }) × (reason ≡ came.reason)

-- forward
pub come_forward : (s : BareSession) (action : Action) (g : BareGoal) (p : Position) (reason : Reason) → g ≡ bare_goal_of action s → record { position = p; reason = reason } ≡ next_stop g (s.run.limit - s.position.done) s.position
    → HasCome s (forward_of action s) (record s { position = p }) reason
come_forward s action g p reason is came =
    let here : record { position = p; reason = reason } ≡ forward_of action s = came ∙ ap (λ (x : BareGoal). next_stop x (s.run.limit - s.position.done) s.position) is in
    (ap (λ (c : Came). record s { position = c.position }) here, ap (λ (c : Came). c.reason) here)

-- back
pub come_back : (s : BareSession) (action : Action) (g : BareGoal) (place : Place) (p : Position) → g ≡ bare_goal_of Continue s → place ≡ place_before s.run g action s.position.done → p ≡ position s.run place.done
    → HasCome s (came_back action s) (record s { position = p }) place.reason
come_back s action g place p is found there =
    let here : place ≡ place_before s.run (bare_goal_of Continue s) action s.position.done = found ∙ ap (λ (x : BareGoal). place_before s.run x action s.position.done) is in (
      ap (λ (q : Position). record s { position = q }) (there ∙ ap (λ (x : Place). position s.run x.done) here),
      ap (λ (x : Place). x.reason) here,
    )

module _ (s s1 s2 : BareSession) (came : Came) (reason : Reason) (has : HasCome s came s1 reason) (dropped : s2 ≡ record s1 { stop_at = still_to_stop s1.stop_at s1.position.done }) where
  -- the session stands there
  pub stands_there : s2 ≡ moved s came.position
  stands_there = dropped ∙ ap (λ (x : BareSession). record x { stop_at = still_to_stop x.stop_at x.position.done }) has.0

  -- and that was told
  pub told_there : (sent : ℕ) (before after : List ℕ) → sent ≡ length s.position.machine.sent → after ≡ before ++ (outputs_text (sent_after sent s2.position.machine) ++ frame (stop_text 1 reason))
      → after ≡ before ++ arrival_text s.position came
  told_there sent before after were told =
      told
      ∙ (ap (λ (x : BareSession). before ++ (outputs_text (sent_after sent x.position.machine) ++ frame (stop_text 1 reason))) stands_there
      ∙ (ap (λ (n : ℕ). before ++ (outputs_text (sent_after n came.position.machine) ++ frame (stop_text 1 reason))) were
      ∙ ap (λ (r : Reason). before ++ (outputs_text (sent_after (length s.position.machine.sent) came.position.machine) ++ frame (stop_text 1 r))) has.1))

-- what was answered
pub replied : {E : Type 0} {T : Type 0} (words : List ℕ) (old new : BareSession) (before after : List ℕ) (r : Result T E) → OnOk r (new ≡ after_data words old) → OnOk r (after ≡ before ++ data_text words old)
    → OnOk r (Adds (BareReplies words old new) before after)
replied words old new before after (Ok x) now told = record { text = data_text words old; so = record { now = now; told = refl }; told = told }
replied words old new before after (Err e) now told = tt
