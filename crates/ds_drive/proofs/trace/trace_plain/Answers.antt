use Rattle.std.proofs.Common.{◌≡◌, ◌∙◌, [], rules}
use Rattle.ds_drive.proofs.TraceLemmas.{has_traced, late_traced, no_summary}
use Rattle.ds_drive.proofs.trace.trace_plain.Goals as goal

pub returns-clause-ok : goal.returns-clause-ok
returns-clause-ok g c =
    let b = c.in-Ok.ensures.ok in
    let empty : c.new.result.items ≡ [] = search rules in
    has_traced c.args.request.now c.in-Ok-finish.outcome (g.O.Output.contents c.args.out.now) _ _ c.in-Ok.station.held c.new.result.items _ _
    b (empty ∙ no_summary c.args.request.now b.2.ends.reached.choices c.in-Ok.station.held b.0 c.requires.plain) c.in-Ok.ensures.real c.in-Ok-finish.ensures.ok

pub returns-in-Err-finish-clause-err : goal.returns-in-Err-finish-clause-err
returns-in-Err-finish-clause-err g c =
    late_traced c.args.request.now (g.O.Output.contents c.args.out.now) _ _ c.in-Ok.station.held c.in-Err-finish.ensures.err c.in-Err-finish.fault _ c.in-Err-finish.ensures.late c.in-Err-finish.ensures.more c.in-Ok.ensures.ok
