use Rattle.std.proofs.Common.{◌≡◌, ◌≤◌, ℕ, sym, ap, subst, ◌∙◌, arith}
use Rattle.std.specs.Prelude.{IfSome}
use Rattle.ds_debug.specs.Backward.{looked_until}
use Rattle.ds_debug.specs.Places.{earlier}
use Rattle.ds_debug.specs.Sessions.{SessionState}
use Rattle.ds_debug.specs.Times.{asked_place}
use Rattle.ds_debug.proofs.Returning.{back_early, returned, until_alike}
use Rattle.ds_debug.proofs.session.Session.return_by.Goals as goal

pub asked_place-place-requires-clause-early : goal.asked_place-place-requires-clause-early
asked_place-place-requires-clause-early c =
    let inside = c.self.inside in
    let until : c.earlier-until.result ≡ looked_until c.args.self.now =
    until_alike c.earlier-until.result c.time-time.result inside.station.held.kept.state.time c.limit.result c.earlier-until.ensures.value c.time-time.ensures.held
    ∙ (ap (λ (n : ℕ). earlier inside.station.held.kept.state.time n) c.limit.ensures.value ∙ ap looked_until c.self.view_is) in
    subst (λ (t : ℕ). IfSome c.in-Ok.found (λ p. p.time ≤ t)) (sym until) c.in-Ok.ensures.early

pub go_back_to-requires-clause-early : goal.go_back_to-requires-clause-early
go_back_to-requires-clause-early c =
    subst (λ (s : SessionState). IfSome c.back_time.result (λ t. t ≤ s.limit)) c.self.view_is
    (back_early c.args.sought c.asked_place-place.result c.earlier-until.result c.self.inside.past.limit c.back_time.result (omega (arith, c.earlier-until.ensures.within, c.limit.ensures.value)) c.back_time.ensures c.asked_place-place.ensures.early)

pub returns-clause-returns : goal.returns-clause-returns
returns-clause-returns c =
    returned c.args.sought c.args.process c.args.self.now c.go_back_to.new.self c.stand_at.new.self c.drop_time.new.self c.args.out.now.items c.push_stands.new.out.items c.in-Ok.found c.asked_place-place.result c.time-time.result
    c.earlier-until.result c.back_process.result c.back_time.result c.back_reason.result c.in-Ok.ensures.finds
    (c.time-time.ensures.held ∙ ap (λ (s : SessionState). s.held.kept.state.time) c.self.view_is)
    (c.earlier-until.ensures.value ∙ (ap (λ (n : ℕ). earlier c.time-time.result n) c.limit.ensures.value ∙ ap (λ (s : SessionState). earlier c.time-time.result s.limit) c.self.view_is))
    (c.asked_place-place.ensures.value ∙ ap (λ (s : SessionState). asked_place c.args.sought s.stop_at c.earlier-until.result c.args.process c.in-Ok.found) c.self.view_is)
    c.back_time.ensures c.in-Ok-go_back_to.ensures.comes c.in-Ok-go_back_to.ensures.rest c.back_process.ensures.value c.stand_at.ensures c.drop_time.ensures c.back_reason.ensures c.in_ok-push_stands.ensures
