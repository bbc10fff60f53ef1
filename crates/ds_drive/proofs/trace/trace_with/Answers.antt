use Rattle.ds_station.specs.Headline.{sources_seen}
use Rattle.ds_drive.specs.Ran.{IsTraced, first_by}
use Rattle.ds_drive.specs.Inner.Ran.{begun_by}
use Rattle.ds_drive.specs.TraceRuns.{TraceEndsThenBy}
use Rattle.ds_drive.proofs.TraceLemmas.{with_placed}
use Rattle.ds_drive.proofs.trace.trace_with.Goals as goal

pub returns-in-Ok-clause-ok : goal.returns-in-Ok-clause-ok
returns-in-Ok-clause-ok g c =
    let request = c.args.request.now in
    let policy = c.args.policy.now in
    let sources = sources_seen c.args.sources.now in
    with_placed policy sources request (λ told. IsTraced told c.in-Ok.outcome (g.O.Output.contents c.args.out.now) (g.O.Output.contents c.trace_inputs.new.out) (first_by policy sources c.args.input.now request.run) (begun_by policy sources c.args.input.now request.run))
    _ c.with_pages.result c.with_pages.ensures c.requires.placed c.in-Ok.ensures.ok

pub returns-in-Err-clause-err : goal.returns-in-Err-clause-err
returns-in-Err-clause-err g c =
    let request = c.args.request.now in
    let policy = c.args.policy.now in
    let sources = sources_seen c.args.sources.now in
    with_placed policy sources request (λ told. TraceEndsThenBy c.in-Err.fault told (first_by policy sources c.args.input.now request.run) (g.O.Output.contents c.args.out.now) (g.O.Output.contents c.trace_inputs.new.out))
    _ c.with_pages.result c.with_pages.ensures c.requires.placed c.in-Err.ensures.err
