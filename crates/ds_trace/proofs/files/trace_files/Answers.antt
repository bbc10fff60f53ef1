use Rattle.std.proofs.Common.{Err}
use Rattle.ds_pagemap.specs.Inputs.{inputs}
use Rattle.ds_station.specs.Inner.Faults.{of_policy}
use Rattle.ds_station.specs.Headline.{loaded_with, sources_seen}
use Rattle.ds_station.proofs.Headlines.{keeps_same, refused_unasked}
use Rattle.ds_station.proofs.Preparing.{refused_by_policy, under_policy, under_policy_by}
use Rattle.ds_trace.proofs.Inputs.{refused_really, refused_untold, refused_only}
use Rattle.ds_trace.proofs.files.trace_files.Goals as goal

pub returns-in-Err-clause-err : goal.returns-in-Err-clause-err
returns-in-Err-clause-err g c = rw c.from.ensures (refused_untold (of_policy c.in-Err.fault) c.args.view.now
    (inputs c.args.policy.now (sources_seen c.args.sources.now) c.args.input.now c.args.n c.args.random) (g.O.Output.contents c.args.out.now) (g.O.Output.contents c.args.out.now) c.args.n
    (refused_by_policy c.in-Err.fault c.args.policy.now (sources_seen c.args.sources.now) c.args.input.now c.args.n c.args.random c.in-Err.ensures)
    (keeps_same (g.O.Output.contents c.args.out.now)))

pub returns-in-Err-clause-cut : goal.returns-in-Err-clause-cut
returns-in-Err-clause-cut g c = rw c.from.ensures (refused_really (of_policy c.in-Err.fault) c.args.view.now
    (inputs c.args.policy.now (sources_seen c.args.sources.now) c.args.input.now c.args.n c.args.random) _ (g.O.Output.contents c.args.out.now) (g.O.Output.contents c.args.out.now) c.args.n c.args.random
    (refused_by_policy c.in-Err.fault c.args.policy.now (sources_seen c.args.sources.now) c.args.input.now c.args.n c.args.random c.in-Err.ensures)
    (keeps_same (g.O.Output.contents c.args.out.now)))

pub returns-in-Err-clause-refused : goal.returns-in-Err-clause-refused
returns-in-Err-clause-refused g c = refused_only {T = Unit {0}} (Err c.from.result) c.args.view.now _ _ _ c.args.n tt (returns-in-Err-clause-err g c)

pub returns-clause-ok : goal.returns-clause-ok
returns-clause-ok g c =
    rw (under_policy c.in-Ok.policy c.args.policy.now (sources_seen c.args.sources.now) c.args.input.now c.args.n c.args.random c.in-Ok.ensures) c.trace_policy.ensures.ok

pub returns-clause-err : goal.returns-clause-err
returns-clause-err g c =
    rw (under_policy c.in-Ok.policy c.args.policy.now (sources_seen c.args.sources.now) c.args.input.now c.args.n c.args.random c.in-Ok.ensures) c.trace_policy.ensures.err

pub returns-clause-real : goal.returns-clause-real
returns-clause-real g c =
    rw (under_policy_by loaded_with c.in-Ok.policy c.args.policy.now (sources_seen c.args.sources.now) c.args.input.now c.args.n c.args.random c.in-Ok.ensures) c.trace_policy.ensures.real

pub returns-clause-cut : goal.returns-clause-cut
returns-clause-cut g c =
    rw (under_policy_by loaded_with c.in-Ok.policy c.args.policy.now (sources_seen c.args.sources.now) c.args.input.now c.args.n c.args.random c.in-Ok.ensures) c.trace_policy.ensures.cut

pub returns-clause-refused : goal.returns-clause-refused
returns-clause-refused g c = refused_only c.trace_policy.result c.args.view.now _ _ _ c.args.n (returns-clause-ok g c) (returns-clause-err g c)

pub returns-in-Err-clause-once : goal.returns-in-Err-clause-once
returns-in-Err-clause-once g c = rw c.from.ensures (refused_unasked (of_policy c.in-Err.fault) _ (g.O.Output.answers c.args.out.now)
    (refused_by_policy c.in-Err.fault c.args.policy.now (sources_seen c.args.sources.now) c.args.input.now c.args.n c.args.random c.in-Err.ensures))
