use Rattle.std.proofs.Common.{◌≡◌, Bool, Ok, Err, subst, sym, ◌∙◌}
use Rattle.ds_text.specs.Sent.{IsAskedOnce}
use Rattle.ds_station.specs.Headline.{Refuses}
use Rattle.ds_station.specs.declared.pieces.Bounded.{Bounded}
use Rattle.ds_station.proofs.Headlines.{keeps_same, part_prefix, ran_asked, ran_short, refused_only, refused_unasked}
use Rattle.ds_station.proofs.InPieces.{comes_really, writes_up_to}
use Rattle.ds_station.proofs.Outcomes.{on_err, unwritten_alike}
use Rattle.ds_station.proofs.pieces.run_station_at_most.Goals as goal

-- The run went to its end, or was left, and its text is written.

pub returns-clause-ok : goal.returns-clause-ok
returns-clause-ok g c =
    writes_up_to c.in-Ok-ran.extent c.args.n c.args.most _ c.in-Ok.station.held c.run_at_most-ran.new.self.held _ _ c.in-Ok.ensures.ok c.run_at_most-ran.ensures.within c.in-Ok-ran.ensures.ok c.in-Ok-deliver.ensures.ok

pub returns-clause-real : goal.returns-clause-real
returns-clause-real g c =
    comes_really c.in-Ok-ran.extent c.args.n c.args.most c.args.random _ c.in-Ok.station.held c.run_at_most-ran.new.self.held c.in-Ok.ensures.real c.in-Ok-ran.ensures.real c.in-Ok-ran.ensures.ok

pub returns-clause-refused : goal.returns-clause-refused
returns-clause-refused g c = λ r e. (let b = returns-clause-ok g c in absurd (let no : Ok b.0 ≡ Err r = sym b.1 ∙ e in cc))

-- It was cut short, and its text so far is written.

pub returns-in-Err-ran-clause-err : goal.returns-in-Err-ran-clause-err
returns-in-Err-ran-clause-err g c =
    ran_short {T = Unit {0}} (Err c.in-Err-ran.fault) c.in-Ok.station.held.own.failed c.args.n c.in-Ok.station.held c.run_at_most-ran.new.self.held _ _ _ c.in-Ok.ensures.working c.in-Err-ran.ensures.faults c.run_at_most-ran.ensures.within c.run_at_most-ran.ensures.whole
    (on_err c.run_at_most-ran.result c.in-Err-ran.fault c.in-Err-ran.is (c.run_at_most-ran.ensures.going c.in-Ok.ensures.working)) c.in-Ok.ensures.ok c.in-Ok-deliver.ensures.ok

pub returns-in-Err-ran-clause-refused : goal.returns-in-Err-ran-clause-refused
returns-in-Err-ran-clause-refused g c = refused_only {T = Unit {0}} (Err c.in-Err-ran.fault) _ _ _ c.args.n tt (returns-in-Err-ran-clause-err g c)

pub returns-in-Err-ran-clause-once : goal.returns-in-Err-ran-clause-once
returns-in-Err-ran-clause-once g c =
    subst (λ (b : Bool). IsAskedOnce (g.O.Output.answers c.args.out.now) (g.O.Output.answers c.deliver.new.out) b) (unwritten_alike (Unit {0}) Bounded c.in-Err-ran.fault)
    (ran_asked (Err c.in-Err-ran.fault) c.in-Ok.station.held.own.failed _ _ c.in-Ok.ensures.working c.in-Err-ran.ensures.faults c.in-Ok-deliver.ensures.once)

-- A part of its text is written.

pub returns-in-Err-deliver-clause-err : goal.returns-in-Err-deliver-clause-err
returns-in-Err-deliver-clause-err g c =
    let b = c.in-Ok.ensures.ok in
    (b.0, b.1, part_prefix _ _ c.args.n b.0 c.in-Ok.station.held c.run_at_most-ran.new.self.held b.2 c.run_at_most-ran.ensures.within c.run_at_most-ran.ensures.whole c.in-Err-deliver.ensures.err)

pub returns-in-Err-deliver-clause-refused : goal.returns-in-Err-deliver-clause-refused
returns-in-Err-deliver-clause-refused g c = λ r e. (let b = returns-in-Err-deliver-clause-err g c in absurd (let no : Ok b.0 ≡ Err r = sym b.1 ∙ e in cc))

-- The inputs are refused.

pub returns-in-Err-clause-refused : goal.returns-in-Err-clause-refused
returns-in-Err-clause-refused g c = λ r e. (subst (Refuses c.in-Err.refused) e c.in-Err.ensures.err, keeps_same (g.O.Output.contents c.args.out.now))

pub returns-in-Err-clause-once : goal.returns-in-Err-clause-once
returns-in-Err-clause-once g c = refused_unasked c.in-Err.refused _ (g.O.Output.answers c.args.out.now) c.in-Err.ensures.err
