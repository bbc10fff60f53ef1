use Rattle.std.proofs.Common.{◌≡◌, Ok, Err, subst, sym, ◌∙◌}
use Rattle.ds_station.specs.Headline.{Along, Followed, Refuses, sources_seen}
use Rattle.ds_station.proofs.Alone.{policy_alone_if}
use Rattle.ds_station.proofs.Guarded.{policy_cut_if, policy_guarded_if}
use Rattle.ds_station.proofs.Headlines.{keeps_same, refused_only, refused_really, refused_unasked, refused_unwritten}
use Rattle.ds_station.proofs.Quiet.{policy_quiet_if}
use Rattle.ds_station.specs.declared.fault.Fault.{Fault}
use Rattle.ds_trace.specs.declared.summed.Summed.{Summed}
use Rattle.ds_trace.proofs.Asking.{asked_same}
use Rattle.ds_trace.proofs.Inputs.{begins_at}
use Rattle.ds_trace.proofs.Summing.{leads_along, summed_ok, summed_really, summed_writes, sums_up_really, sums_up_short}
use Rattle.ds_trace.proofs.summed.run_summed.Goals as goal

-- The run came to its end, and its text is written.

pub returns-in-Ok-sum_up-clause-ok : goal.returns-in-Ok-sum_up-clause-ok
returns-in-Ok-sum_up-clause-ok g c =
    let came = c.in-Ok-sum_up.ensures.ok in
    summed_ok c.args.policy.now (sources_seen c.args.sources.now) c.args.input.now c.args.n c.args.random c.in-Ok.station.held c.sum_up.new.station.held came.counts c.in-Ok-sum_up.text.items _ _
    c.in-Ok.ensures.ok came.all came.told came.written

pub returns-in-Ok-sum_up-clause-real : goal.returns-in-Ok-sum_up-clause-real
returns-in-Ok-sum_up-clause-real g c =
    let came = c.in-Ok-sum_up.ensures.ok in
    let b = begins_at c.in-Ok.station.held c.args.policy.now (sources_seen c.args.sources.now) c.args.input.now c.args.n c.args.random c.args.random c.in-Ok.ensures.ok c.in-Ok.ensures.real in
    summed_really Along c.args.n c.args.random _ c.in-Ok.station.held c.sum_up.new.station.held came.counts _ _ b (leads_along c.args.random _ c.in-Ok.station.held b) came.all came.written

pub returns-in-Ok-sum_up-clause-followed : goal.returns-in-Ok-sum_up-clause-followed
returns-in-Ok-sum_up-clause-followed g c =
    let came = c.in-Ok-sum_up.ensures.ok in
    let b = begins_at c.in-Ok.station.held c.args.policy.now (sources_seen c.args.sources.now) c.args.input.now c.args.n c.args.random c.args.random c.in-Ok.ensures.ok c.in-Ok.ensures.real in
    summed_really Followed c.args.n c.args.random _ c.in-Ok.station.held c.sum_up.new.station.held came.counts _ _ b (λ x path. path) came.all came.written

pub returns-in-Ok-sum_up-clause-refused : goal.returns-in-Ok-sum_up-clause-refused
returns-in-Ok-sum_up-clause-refused g c = λ r e. (let b = returns-in-Ok-sum_up-clause-ok g c in absurd (let no : Ok b.0 ≡ Err r = sym b.1 ∙ e in cc))

pub returns-in-Ok-sum_up-clause-guarded : goal.returns-in-Ok-sum_up-clause-guarded
returns-in-Ok-sum_up-clause-guarded g c = policy_guarded_if {E = Fault} (Ok c.sum_up.new.station.held) _ _ _ c.args.n c.args.random _ _ (summed_writes c.in-Ok-sum_up.text.items c.sum_up.new.station.held _ _ c.args.n _ (returns-in-Ok-sum_up-clause-ok g c))

pub returns-in-Ok-sum_up-clause-quiet : goal.returns-in-Ok-sum_up-clause-quiet
returns-in-Ok-sum_up-clause-quiet g c = λ start first is q. policy_quiet_if {E = Fault} (Ok c.sum_up.new.station.held) _ _ _ c.args.n c.args.random start _ _ first
    (summed_writes c.in-Ok-sum_up.text.items c.sum_up.new.station.held _ _ c.args.n _ (returns-in-Ok-sum_up-clause-ok g c)) is q

pub returns-in-Ok-sum_up-clause-alone : goal.returns-in-Ok-sum_up-clause-alone
returns-in-Ok-sum_up-clause-alone g c = λ listens p start first good is here stingy asks quiet. policy_alone_if {E = Fault} (Ok c.sum_up.new.station.held) listens _ _ _ c.args.n c.args.random start p _ _ first good
    (summed_writes c.in-Ok-sum_up.text.items c.sum_up.new.station.held _ _ c.args.n _ (returns-in-Ok-sum_up-clause-ok g c)) is here stingy asks quiet

-- Its text is not all written.

pub returns-in-Err-sum_up-clause-err : goal.returns-in-Err-sum_up-clause-err
returns-in-Err-sum_up-clause-err g c = sums_up_short c.in-Err-sum_up.fault c.args.n _ c.in-Ok.station.held c.sum_up.new.station.held _ _ c.in-Ok.ensures.ok c.in-Err-sum_up.ensures.err

pub returns-in-Err-sum_up-clause-cut : goal.returns-in-Err-sum_up-clause-cut
returns-in-Err-sum_up-clause-cut g c =
    let b = begins_at c.in-Ok.station.held c.args.policy.now (sources_seen c.args.sources.now) c.args.input.now c.args.n c.args.random c.args.random c.in-Ok.ensures.ok c.in-Ok.ensures.real in
    sums_up_really Along c.args.n c.args.random _ c.in-Ok.station.held c.sum_up.new.station.held _ _ b (leads_along c.args.random _ c.in-Ok.station.held b) c.in-Err-sum_up.fault c.in-Err-sum_up.ensures.err

pub returns-in-Err-sum_up-clause-followed_so_far : goal.returns-in-Err-sum_up-clause-followed_so_far
returns-in-Err-sum_up-clause-followed_so_far g c =
    let b = begins_at c.in-Ok.station.held c.args.policy.now (sources_seen c.args.sources.now) c.args.input.now c.args.n c.args.random c.args.random c.in-Ok.ensures.ok c.in-Ok.ensures.real in
    sums_up_really Followed c.args.n c.args.random _ c.in-Ok.station.held c.sum_up.new.station.held _ _ b (λ x path. path) c.in-Err-sum_up.fault c.in-Err-sum_up.ensures.err

pub returns-in-Err-sum_up-clause-refused : goal.returns-in-Err-sum_up-clause-refused
returns-in-Err-sum_up-clause-refused g c = refused_only {T = Unit {0}} (Err c.in-Err-sum_up.fault) _ _ _ c.args.n tt (returns-in-Err-sum_up-clause-err g c)

pub returns-in-Err-sum_up-clause-guarded_so_far : goal.returns-in-Err-sum_up-clause-guarded_so_far
returns-in-Err-sum_up-clause-guarded_so_far g c = policy_cut_if {T = Unit {0}} (Err c.in-Err-sum_up.fault) _ _ _ c.args.n c.args.random _ _ (returns-in-Err-sum_up-clause-err g c)

pub returns-in-Err-sum_up-clause-once : goal.returns-in-Err-sum_up-clause-once
returns-in-Err-sum_up-clause-once g c = asked_same Summed c.sum_up.result c.in-Err-sum_up.fault _ _ c.in-Err-sum_up.is c.sum_up.ensures.once

-- Nothing is written.

pub returns-in-Err-clause-err : goal.returns-in-Err-clause-err
returns-in-Err-clause-err g c = refused_unwritten c.in-Err.refused _ _ _ c.args.n c.in-Err.ensures.err (keeps_same (g.O.Output.contents c.args.out.now))

pub returns-in-Err-clause-refused : goal.returns-in-Err-clause-refused
returns-in-Err-clause-refused g c = λ r e. (subst (Refuses c.in-Err.refused) e c.in-Err.ensures.err, keeps_same (g.O.Output.contents c.args.out.now))

pub returns-in-Err-clause-once : goal.returns-in-Err-clause-once
returns-in-Err-clause-once g c = refused_unasked c.in-Err.refused _ (g.O.Output.answers c.args.out.now) c.in-Err.ensures.err

pub returns-in-Err-clause-cut : goal.returns-in-Err-clause-cut
returns-in-Err-clause-cut g c = refused_really Along c.in-Err.refused _ _ _ _ c.args.n c.args.random c.in-Err.ensures.err (keeps_same (g.O.Output.contents c.args.out.now))

pub returns-in-Err-clause-followed_so_far : goal.returns-in-Err-clause-followed_so_far
returns-in-Err-clause-followed_so_far g c = refused_really Followed c.in-Err.refused _ _ _ _ c.args.n c.args.random c.in-Err.ensures.err (keeps_same (g.O.Output.contents c.args.out.now))
