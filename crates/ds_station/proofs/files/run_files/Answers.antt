use Rattle.std.proofs.Common.{Err}
use Rattle.ds_pagemap.specs.Inputs.{inputs}
use Rattle.ds_station.specs.Inner.Faults.{of_policy}
use Rattle.ds_station.specs.Headline.{Along, Followed, loaded_with, sources_seen}
use Rattle.ds_station.proofs.Headlines.{refused_unasked, refused_unwritten, refused_really, refused_only, keeps_same}
use Rattle.ds_station.proofs.Preparing.{refused_by_policy, under_policy, under_policy_by}
use Rattle.ds_station.proofs.Guarded.{files_guarded_if, files_cut_if}
use Rattle.ds_station.proofs.Quiet.{files_quiet_if}
use Rattle.ds_station.proofs.Alone.{files_alone_if}
use Rattle.ds_station.proofs.files.run_files.Goals as goal

pub returns-in-Err-clause-err : goal.returns-in-Err-clause-err
returns-in-Err-clause-err g c = rw c.from.ensures (refused_unwritten (of_policy c.in-Err.fault)
    (inputs c.args.policy.now (sources_seen c.args.sources.now) c.args.input.now c.args.n c.args.random) (g.O.Output.contents c.args.out.now) (g.O.Output.contents c.args.out.now) c.args.n
    (refused_by_policy c.in-Err.fault c.args.policy.now (sources_seen c.args.sources.now) c.args.input.now c.args.n c.args.random c.in-Err.ensures)
    (keeps_same (g.O.Output.contents c.args.out.now)))

pub returns-in-Err-clause-cut : goal.returns-in-Err-clause-cut
returns-in-Err-clause-cut g c = rw c.from.ensures (refused_really Along (of_policy c.in-Err.fault)
    (inputs c.args.policy.now (sources_seen c.args.sources.now) c.args.input.now c.args.n c.args.random) _ (g.O.Output.contents c.args.out.now) (g.O.Output.contents c.args.out.now) c.args.n c.args.random
    (refused_by_policy c.in-Err.fault c.args.policy.now (sources_seen c.args.sources.now) c.args.input.now c.args.n c.args.random c.in-Err.ensures)
    (keeps_same (g.O.Output.contents c.args.out.now)))

pub returns-in-Err-clause-followed_so_far : goal.returns-in-Err-clause-followed_so_far
returns-in-Err-clause-followed_so_far g c = rw c.from.ensures (refused_really Followed (of_policy c.in-Err.fault)
    (inputs c.args.policy.now (sources_seen c.args.sources.now) c.args.input.now c.args.n c.args.random) _ (g.O.Output.contents c.args.out.now) (g.O.Output.contents c.args.out.now) c.args.n c.args.random
    (refused_by_policy c.in-Err.fault c.args.policy.now (sources_seen c.args.sources.now) c.args.input.now c.args.n c.args.random c.in-Err.ensures)
    (keeps_same (g.O.Output.contents c.args.out.now)))

pub returns-in-Err-clause-once : goal.returns-in-Err-clause-once
returns-in-Err-clause-once g c = rw c.from.ensures (refused_unasked (of_policy c.in-Err.fault) _ (g.O.Output.answers c.args.out.now)
    (refused_by_policy c.in-Err.fault c.args.policy.now (sources_seen c.args.sources.now) c.args.input.now c.args.n c.args.random c.in-Err.ensures))

pub returns-in-Err-clause-refused : goal.returns-in-Err-clause-refused
returns-in-Err-clause-refused g c = refused_only {T = Unit {0}} (Err c.from.result) _ _ _ c.args.n tt (returns-in-Err-clause-err g c)

pub returns-clause-ok : goal.returns-clause-ok
returns-clause-ok g c =
    rw (under_policy c.in-Ok.policy c.args.policy.now (sources_seen c.args.sources.now) c.args.input.now c.args.n c.args.random c.in-Ok.ensures) c.run_policy.ensures.ok

pub returns-clause-real : goal.returns-clause-real
returns-clause-real g c =
    rw (under_policy_by loaded_with c.in-Ok.policy c.args.policy.now (sources_seen c.args.sources.now) c.args.input.now c.args.n c.args.random c.in-Ok.ensures) c.run_policy.ensures.real

pub returns-clause-err : goal.returns-clause-err
returns-clause-err g c =
    rw (under_policy c.in-Ok.policy c.args.policy.now (sources_seen c.args.sources.now) c.args.input.now c.args.n c.args.random c.in-Ok.ensures) c.run_policy.ensures.err

pub returns-clause-cut : goal.returns-clause-cut
returns-clause-cut g c =
    rw (under_policy_by loaded_with c.in-Ok.policy c.args.policy.now (sources_seen c.args.sources.now) c.args.input.now c.args.n c.args.random c.in-Ok.ensures) c.run_policy.ensures.cut

pub returns-clause-followed : goal.returns-clause-followed
returns-clause-followed g c =
    rw (under_policy_by loaded_with c.in-Ok.policy c.args.policy.now (sources_seen c.args.sources.now) c.args.input.now c.args.n c.args.random c.in-Ok.ensures) c.run_policy.ensures.followed

pub returns-clause-followed_so_far : goal.returns-clause-followed_so_far
returns-clause-followed_so_far g c =
    rw (under_policy_by loaded_with c.in-Ok.policy c.args.policy.now (sources_seen c.args.sources.now) c.args.input.now c.args.n c.args.random c.in-Ok.ensures) c.run_policy.ensures.followed_so_far

pub returns-clause-refused : goal.returns-clause-refused
returns-clause-refused g c = refused_only c.run_policy.result _ _ _ c.args.n (returns-clause-ok g c) (returns-clause-err g c)

pub returns-clause-guarded : goal.returns-clause-guarded
returns-clause-guarded g c = files_guarded_if c.run_policy.result _ _ _ c.args.n c.args.random _ _ (returns-clause-ok g c)

pub returns-clause-guarded_so_far : goal.returns-clause-guarded_so_far
returns-clause-guarded_so_far g c = files_cut_if c.run_policy.result _ _ _ c.args.n c.args.random _ _ (returns-clause-err g c)

pub returns-clause-quiet : goal.returns-clause-quiet
returns-clause-quiet g c = λ start first is q. files_quiet_if c.run_policy.result _ _ _ c.args.n c.args.random start _ _ first (returns-clause-ok g c) is q

pub returns-clause-alone : goal.returns-clause-alone
returns-clause-alone g c = λ listens p start first is here stingy asks quiet. files_alone_if c.run_policy.result listens _ _ _ c.args.n c.args.random start p _ _ first (returns-clause-ok g c) is here stingy asks quiet
