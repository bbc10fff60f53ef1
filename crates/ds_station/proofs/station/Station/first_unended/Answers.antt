use Rattle.std.proofs.Common.{sym, ap, ◌∙◌, arith}
use Rattle.ds_station.specs.Outcome.{unended_from}
use Rattle.ds_station.proofs.Standings.{unended_end, unended_here, unended_past, unended_stands}
use Rattle.ds_station.proofs.station.Station.first_unended.Goals as goal

pub loop-process-init : goal.loop-process-init
loop-process-init g c = ap (unended_from c.args.self.now.held.kept.state 1) (omega arith)

pub loop-process-preserved : goal.loop-process-preserved
loop-process-preserved g c =
    sym (unended_past c.args.self.now.held.kept.state c.loop-process.process (omega (arith, c.loop-process-test.true, c.processes-process-end.ensures.held))
    c.standing-standing.result c.standing-standing.ensures (sym c.has_ended.ensures ∙ c.if-not-has_ended.false))
    ∙ c.loop-process.invariant

pub returns-then-not-has_ended-clause-held : goal.returns-then-not-has_ended-clause-held
returns-then-not-has_ended-clause-held g c =
    sym (unended_here c.args.self.now.held.kept.state c.loop-process.process (omega (arith, c.loop-process-test.true, c.processes-process-end.ensures.held))
    c.standing-standing.result c.standing-standing.ensures (sym c.has_ended.ensures ∙ c.if-not-has_ended.true))
    ∙ c.loop-process.invariant

pub returns-then-not-has_ended-clause-stands : goal.returns-then-not-has_ended-clause-stands
returns-then-not-has_ended-clause-stands g c = λ m k. returns-then-not-has_ended-clause-held g c ∙ unended_stands c.args.self.now.held m k

pub returns-clause-held : goal.returns-clause-held
returns-clause-held g c =
    sym (unended_end c.args.self.now.held.kept.state c.loop-process.process (omega (arith, c.loop-process-test.false, c.processes-process-end.ensures.held)))
    ∙ c.loop-process.invariant

pub returns-clause-stands : goal.returns-clause-stands
returns-clause-stands g c = λ m k. returns-clause-held g c ∙ unended_stands c.args.self.now.held m k
