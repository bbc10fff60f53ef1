use Rattle.std.proofs.Common.{◌≡◌, ◌≤◌, ℕ, List, [], Option, Some, ap, ◌∙◌, subst}
use Rattle.std.specs.Prelude.{IfOk, IfSome}
use Rattle.ds_packets.specs.declared.packet.Action.{Action}
use Rattle.ds_packets.specs.declared.packet.Action.TheVariants.{Continue}
use Rattle.ds_debug.specs.Backward.{FindsIn, looked_until}
use Rattle.ds_debug.specs.Goals.{Goal, goal_with}
use Rattle.ds_debug.specs.Places.{earlier}
use Rattle.ds_debug.specs.Resumes.{actions_by, goal_of}
use Rattle.ds_debug.specs.Sessions.{SessionState}
use Rattle.ds_debug.proofs.Returning.{goals_alike, until_alike}
use Rattle.ds_debug.proofs.session.Session.seek.Goals as goal

pub returns-clause-finds : goal.returns-clause-finds
returns-clause-finds c =
    let inside = c.self.inside in
    let past = inside.past in
    let now : ℕ = inside.station.held.kept.state.time in
    let actions : List (Option Action) = actions_by (Some Continue) inside.going [] in
    let listed : c.as_slice.result.now ≡ actions = c.as_slice.ensures.value ∙ c.in_ok-actions.ensures in
    let until : c.earlier-until.result ≡ earlier now past.limit = until_alike c.earlier-until.result c.time.result now c.limit.result c.earlier-until.ensures.value c.time.ensures.held ∙ ap (λ (n : ℕ). earlier now n) c.limit.ensures.value in
    let goals : goal_with c.as_slice.result.now c.as_slice-2.result.now c.as_slice-3.result.now ≡ goal_with actions inside.breakpoints inside.watchpoints =
    goals_alike c.as_slice.result.now actions c.as_slice-2.result.now inside.breakpoints c.as_slice-3.result.now inside.watchpoints listed c.as_slice-2.ensures c.as_slice-3.ensures in
    subst (λ (s : SessionState). IfOk c.seek.result (λ place. FindsIn s.inputs s.limit c.args.sought (goal_of (Some Continue) [] s) (looked_until s) place)) c.self.view_is
    (subst (λ (t : ℕ). IfOk c.seek.result (λ place. FindsIn past.inputs past.limit c.args.sought (goal_with actions inside.breakpoints inside.watchpoints) t place)) until
    (subst (λ (g : Goal). IfOk c.seek.result (λ place. FindsIn past.inputs past.limit c.args.sought g c.earlier-until.result place)) goals c.seek.ensures.finds))

pub returns-clause-early : goal.returns-clause-early
returns-clause-early c =
    let inside = c.self.inside in
    let now : ℕ = inside.station.held.kept.state.time in
    let until : c.earlier-until.result ≡ earlier now inside.past.limit = until_alike c.earlier-until.result c.time.result now c.limit.result c.earlier-until.ensures.value c.time.ensures.held ∙ ap (λ (n : ℕ). earlier now n) c.limit.ensures.value in
    subst (λ (s : SessionState). IfOk c.seek.result (λ place. IfSome place (λ p. p.time ≤ looked_until s))) c.self.view_is
    (subst (λ (t : ℕ). IfOk c.seek.result (λ place. IfSome place (λ p. p.time ≤ t))) until c.seek.ensures.early)
