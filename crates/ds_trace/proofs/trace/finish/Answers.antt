use Rattle.std.proofs.Common.{rules}
use Rattle.ds_text.proofs.Sends.{at_err}
use Rattle.ds_station.proofs.Headlines.{keeps_same}
use Rattle.ds_station.specs.Headline.{held_text}
use Rattle.ds_trace.specs.Inner.Shows.{end_held}
use Rattle.ds_trace.proofs.Following.{cut_text, cut_trace, never_short, part_none, short_err, short_is}
use Rattle.ds_trace.proofs.trace.finish.Goals as goal

pub returns-in_err-push_end-clause-err : goal.returns-in_err-push_end-clause-err
returns-in_err-push_end-clause-err g c = at_err c.from_residual.result (part_none _ _)

pub returns-in_err-hand_all-clause-err : goal.returns-in_err-hand_all-clause-err
returns-in_err-hand_all-clause-err g c = at_err c.from_residual-in_err-hand_all.result
    (cut_trace _ _ c.args.sheet.now.text.items (end_held c.args.view.now c.args.counts.now c.args.station.now.held) _ (held_text c.args.station.now.held) c.in_ok-push_end.ensures c.in_err-hand_all.ensures.err)

pub returns-in-Err-clause-err : goal.returns-in-Err-clause-err
returns-in-Err-clause-err g c =
    cut_text _ _ _ c.args.sheet.now.text.items (end_held c.args.view.now c.args.counts.now c.args.station.now.held) _ (held_text c.args.station.now.held) c.in_ok-push_end.ensures c.in_ok-hand_all.ensures.ok c.in-Err.ensures.err

pub returns-in_err-push_end-clause-short : goal.returns-in_err-push_end-clause-short
returns-in_err-push_end-clause-short g c = short_err c.from_residual.result _ (keeps_same _)

pub returns-in_err-hand_all-clause-short : goal.returns-in_err-hand_all-clause-short
returns-in_err-hand_all-clause-short g c = short_is c.from_residual-in_err-hand_all.result c.in_err-hand_all.field-0.0 _ (search rules) (never_short _ _ c.in_err-hand_all.ensures.unwritten)
