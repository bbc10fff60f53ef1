use Rattle.std.proofs.Common.{ℕ, subst}
use Rattle.std.specs.Prelude.{OnOk}
use Rattle.ds_debug.specs.Backward.{ReturnsBy, process_going_back}
use Rattle.ds_debug.specs.Places.{sought_by}
use Rattle.ds_debug.specs.Sessions.{SessionState}
use Rattle.ds_debug.specs.declared.places.Sought.{Sought}
use Rattle.ds_debug.proofs.session.Session.go_back.Goals as goal

pub returns-clause-returns : goal.returns-clause-returns
returns-clause-returns c =
    let old : SessionState = c.approach.new.self in
    let process : ℕ = process_going_back old in
    subst (λ (s : SessionState). OnOk c.return_by.result (ReturnsBy (sought_by c.args.action (process_going_back s)) (process_going_back s) s c.return_by.new.self c.args.out.now.items c.return_by.new.out.items)) c.approach.ensures
    (subst (λ (p : ℕ). OnOk c.return_by.result (ReturnsBy (sought_by c.args.action p) p old c.return_by.new.self c.args.out.now.items c.return_by.new.out.items)) c.process_going_back-process.ensures.value
    (subst (λ (s : Sought). OnOk c.return_by.result (ReturnsBy s c.process_going_back-process.result old c.return_by.new.self c.args.out.now.items c.return_by.new.out.items)) c.sought_by.ensures
    c.return_by.ensures.returns))
