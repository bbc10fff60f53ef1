use Rattle.std.proofs.Common.{◌≡◌, Ok, Err, subst, sym, ◌∙◌}
use Rattle.ds_station.specs.Headline.{Refuses, sources_seen}
use Rattle.ds_station.proofs.Headlines.{keeps_same, refused_unasked}
use Rattle.ds_station.proofs.Outcomes.{if_err}
use Rattle.ds_station.specs.Inner.Station.{StationValue}
use Rattle.ds_trace.proofs.Asking.{asked_same}
use Rattle.ds_trace.proofs.Inputs.{begins_at, cut_really, refused_really, refused_untold, refused_only, told_ok, told_err, told_really}
use Rattle.ds_trace.proofs.files.trace_station.Goals as goal

pub returns-in-Err-clause-err : goal.returns-in-Err-clause-err
returns-in-Err-clause-err g c = refused_untold c.in-Err.refused c.args.view.now _ _ _ c.args.n c.in-Err.ensures.err (keeps_same (g.O.Output.contents c.args.out.now))

pub returns-in-Err-clause-cut : goal.returns-in-Err-clause-cut
returns-in-Err-clause-cut g c = refused_really c.in-Err.refused c.args.view.now _ _ _ _ c.args.n c.args.random c.in-Err.ensures.err (keeps_same (g.O.Output.contents c.args.out.now))

pub returns-in-Err-clause-refused : goal.returns-in-Err-clause-refused
returns-in-Err-clause-refused g c = λ r e. (subst (Refuses c.in-Err.refused) e c.in-Err.ensures.err, keeps_same (g.O.Output.contents c.args.out.now))

pub returns-clause-ok : goal.returns-clause-ok
returns-clause-ok g c = told_ok c.args.view.now _ c.in-Ok.station.held c.tell.new.station.held _ _ c.args.n c.in-Ok-tell.ensures.ok.counts c.in-Ok.ensures.ok c.in-Ok-tell.ensures.ok.traces

pub returns-clause-real : goal.returns-clause-real
returns-clause-real g c = told_really c.args.view.now _ c.in-Ok.station.held c.tell.new.station.held _ _ c.args.n c.args.random c.in-Ok-tell.ensures.ok.counts
    (begins_at c.in-Ok.station.held c.args.policy.now (sources_seen c.args.sources.now) c.args.input.now c.args.n c.args.random c.args.random c.in-Ok.ensures.ok c.in-Ok.ensures.real) c.in-Ok-tell.ensures.ok.traces

pub returns-in-Err-tell-clause-err : goal.returns-in-Err-tell-clause-err
returns-in-Err-tell-clause-err g c =
    if_err _ c.tell.result c.in-Err-tell.fault c.in-Err-tell.is
    (told_err c.tell.result c.args.view.now _ c.in-Ok.station.held _ _ c.args.n c.in-Ok.ensures.ok c.tell.ensures.err c.tell.ensures.late c.tell.ensures.short)

pub returns-in-Err-tell-clause-cut : goal.returns-in-Err-tell-clause-cut
returns-in-Err-tell-clause-cut g c =
    if_err _ c.tell.result c.in-Err-tell.fault c.in-Err-tell.is
    (cut_really c.tell.result c.args.view.now _ c.in-Ok.station.held _ _ c.args.n c.args.random
    (begins_at c.in-Ok.station.held c.args.policy.now (sources_seen c.args.sources.now) c.args.input.now c.args.n c.args.random c.args.random c.in-Ok.ensures.ok c.in-Ok.ensures.real) c.tell.ensures.err c.tell.ensures.late c.tell.ensures.short)

pub returns-clause-refused : goal.returns-clause-refused
returns-clause-refused g c = λ r e. (let b = returns-clause-ok g c in absurd (let no : Ok b.0 ≡ Err r = sym b.1 ∙ e in cc))

pub returns-in-Err-tell-clause-refused : goal.returns-in-Err-tell-clause-refused
returns-in-Err-tell-clause-refused g c = refused_only {T = Unit {0}} (Err c.in-Err-tell.fault) c.args.view.now _ _ _ c.args.n tt (returns-in-Err-tell-clause-err g c)

pub returns-in-Err-clause-once : goal.returns-in-Err-clause-once
returns-in-Err-clause-once g c = refused_unasked c.in-Err.refused _ (g.O.Output.answers c.args.out.now) c.in-Err.ensures.err

pub returns-in-Err-tell-clause-once : goal.returns-in-Err-tell-clause-once
returns-in-Err-tell-clause-once g c = asked_same StationValue c.tell.result c.in-Err-tell.fault _ _ c.in-Err-tell.is c.tell.ensures.once
