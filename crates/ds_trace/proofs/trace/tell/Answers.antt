use Rattle.std.proofs.Common.{None, Some, false, Option, List, ℕ, subst, rules}
use Rattle.std.specs.Prelude.{◌++◌}
use Rattle.std.specs.String.{string_bytes}
use Rattle.ds_text.specs.Sent.{AppendsPart}
use Rattle.ds_text.proofs.Sends.{asked_both, at_err}
use Rattle.ds_station.specs.Headline.{held_text}
use Rattle.ds_station.proofs.Headlines.{keeps_same}
use Rattle.ds_station.specs.declared.fault.Fault.{Fault}
use Rattle.ds_trace.specs.Inner.Handed.{IsFinished}
use Rattle.ds_trace.specs.Inner.Shows.{TellsAll, end_held}
use Rattle.ds_trace.proofs.Following.{all_part, cut_lines, cut_part, cut_traces, finished_traces, halted_traces, lines_short, part_none, short_err, short_is}
use Rattle.ds_trace.proofs.Asking.{asked_short_of}
use Rattle.ds_trace.proofs.trace.tell.Goals as goal

pub returns-in_err-push_processor-clause-err : goal.returns-in_err-push_processor-clause-err
returns-in_err-push_processor-clause-err g c =
    let came = c.follow.new in
    let all = c.in_ok-cut.ensures.ok in
    at_err c.from_residual-in_err-push_processor.result
    (cut_part c.args.view.now c.args.n c.args.station.now.held came.station.held _ _ _ came.sheet.text.items came.counts (string_bytes came.window.lines) c.in_ok-cut.ensures.counted all.progress all.tells (part_none _ came.sheet.text.items))

pub returns-in_err-text-clause-err : goal.returns-in_err-text-clause-err
returns-in_err-text-clause-err g c =
    let came = c.follow.new in
    let all = c.in_ok-cut.ensures.ok in
    at_err c.from_residual-in_err-text.result
    (cut_part c.args.view.now c.args.n c.args.station.now.held came.station.held _ _ _ came.sheet.text.items came.counts (string_bytes came.window.lines) c.in_ok-cut.ensures.counted all.progress all.tells (part_none _ came.sheet.text.items))

pub returns-in_err-finish-clause-err : goal.returns-in_err-finish-clause-err
returns-in_err-finish-clause-err g c =
    let came = c.follow.new in
    at_err c.from_residual-in_err-finish.result
    (cut_traces c.args.view.now c.args.n c.args.station.now.held came.station.held _ _ _ came.sheet.text.items came.counts (string_bytes came.window.lines) c.in_ok-cut.ensures.counted c.in_ok-cut.cut came.progress.counts c.in_ok-cut.ensures.ok
    (subst (λ (text : List ℕ). AppendsPart (g.O.Output.contents came.out) (g.O.Output.contents c.finish.new.out) (text ++ end_held c.args.view.now came.progress.counts came.station.held ++ held_text came.station.held)) c.in_ok-push_processor.ensures c.in_err-finish.ensures.err))

pub returns-clause-ok : goal.returns-clause-ok
returns-clause-ok g c =
    let v = c.args.view.now in
    let came = c.follow.new in
    let told : TellsAll None v c.args.n c.args.station.now.held came.station.held (g.O.Output.contents c.args.out.now) (g.O.Output.contents came.out) came.sheet.text.items came.progress.counts =
    subst (λ (cut : Option Fault). TellsAll cut v c.args.n c.args.station.now.held came.station.held (g.O.Output.contents c.args.out.now) (g.O.Output.contents came.out) came.sheet.text.items came.progress.counts) c.in-None.is c.in_ok-cut.ensures.ok in record {
      counts = came.progress.counts;
      traces = finished_traces v c.args.n c.args.station.now.held came.station.held _ _ _ came.sheet.text.items came.counts (string_bytes came.window.lines) c.in_ok-cut.ensures.counted came.progress.counts told
          (subst (λ (text : List ℕ). IsFinished v came.progress.counts (g.O.Output.contents came.out) (g.O.Output.contents c.finish.new.out) text came.station.held) c.in_ok-push_processor.ensures c.in_ok-finish.ensures.ok);
      told = c.in_ok-text.ensures;
    }

pub returns-in-Some-clause-err : goal.returns-in-Some-clause-err
returns-in-Some-clause-err g c =
    let came = c.follow.new in
    cut_traces c.args.view.now c.args.n c.args.station.now.held came.station.held _ _ _ came.sheet.text.items came.counts (string_bytes came.window.lines) c.in_ok-cut.ensures.counted c.in_ok-cut.cut came.progress.counts c.in_ok-cut.ensures.ok
    (subst (λ (text : List ℕ). AppendsPart (g.O.Output.contents came.out) (g.O.Output.contents c.finish.new.out) (text ++ end_held c.args.view.now came.progress.counts came.station.held ++ held_text came.station.held)) c.in_ok-push_processor.ensures (all_part c.args.view.now came.progress.counts (g.O.Output.contents came.out) (g.O.Output.contents c.finish.new.out) _ came.station.held c.in_ok-finish.ensures.ok))

-- What is written where memory runs out.

pub returns-in_err-cut-clause-short : goal.returns-in_err-cut-clause-short
returns-in_err-cut-clause-short g c = short_is c.from_residual.result c.in_err-cut.field-0.0 _ (search rules)
    (λ is. lines_short c.args.view.now c.args.n c.args.station.now.held _ _ (c.in_err-cut.ensures.short is))

pub returns-in_err-push_processor-clause-short : goal.returns-in_err-push_processor-clause-short
returns-in_err-push_processor-clause-short g c =
    let came = c.follow.new in
    let all = c.in_ok-cut.ensures.ok in
    short_err c.from_residual-in_err-push_processor.result _
    (lines_short c.args.view.now c.args.n c.args.station.now.held _ _
    (cut_lines c.args.view.now c.args.n c.args.station.now.held came.station.held _ _ _ came.sheet.text.items came.counts (string_bytes came.window.lines) c.in_ok-cut.ensures.counted all.progress all.tells (keeps_same _)))

pub returns-in_err-text-clause-short : goal.returns-in_err-text-clause-short
returns-in_err-text-clause-short g c =
    let came = c.follow.new in
    let all = c.in_ok-cut.ensures.ok in
    short_err c.from_residual-in_err-text.result _
    (lines_short c.args.view.now c.args.n c.args.station.now.held _ _
    (cut_lines c.args.view.now c.args.n c.args.station.now.held came.station.held _ _ _ came.sheet.text.items came.counts (string_bytes came.window.lines) c.in_ok-cut.ensures.counted all.progress all.tells (keeps_same _)))

pub returns-in_err-finish-clause-short : goal.returns-in_err-finish-clause-short
returns-in_err-finish-clause-short g c =
    let came = c.follow.new in
    let all = c.in_ok-cut.ensures.ok in
    short_is c.from_residual-in_err-finish.result c.in_err-finish.field-0.0 _ (search rules)
    (λ is. lines_short c.args.view.now c.args.n c.args.station.now.held _ _
    (cut_lines c.args.view.now c.args.n c.args.station.now.held came.station.held _ _ _ came.sheet.text.items came.counts (string_bytes came.window.lines) c.in_ok-cut.ensures.counted all.progress all.tells (c.in_err-finish.ensures.short is)))

pub returns-in-Some-clause-short : goal.returns-in-Some-clause-short
returns-in-Some-clause-short g c =
    let v = c.args.view.now in
    let came = c.follow.new in
    let told : TellsAll (Some c.in-Some.fault) v c.args.n c.args.station.now.held came.station.held (g.O.Output.contents c.args.out.now) (g.O.Output.contents came.out) came.sheet.text.items came.progress.counts =
    subst (λ (cut : Option Fault). TellsAll cut v c.args.n c.args.station.now.held came.station.held (g.O.Output.contents c.args.out.now) (g.O.Output.contents came.out) came.sheet.text.items came.progress.counts) c.in-Some.is c.in_ok-cut.ensures.ok in
    λ is. halted_traces v c.args.n c.args.station.now.held came.station.held _ _ _ came.sheet.text.items came.counts (string_bytes came.window.lines) c.in_ok-cut.ensures.counted c.in-Some.fault came.progress.counts told
    (subst (λ (text : List ℕ). IsFinished v came.progress.counts (g.O.Output.contents came.out) (g.O.Output.contents c.finish.new.out) text came.station.held) c.in_ok-push_processor.ensures c.in_ok-finish.ensures.ok)

pub returns-in-Some-clause-once : goal.returns-in-Some-clause-once
returns-in-Some-clause-once g c =
    let v = c.args.view.now in
    let came = c.follow.new in
    let told : TellsAll (Some c.in-Some.fault) v c.args.n c.args.station.now.held came.station.held (g.O.Output.contents c.args.out.now) (g.O.Output.contents came.out) came.sheet.text.items came.progress.counts =
    subst (λ (cut : Option Fault). TellsAll cut v c.args.n c.args.station.now.held came.station.held (g.O.Output.contents c.args.out.now) (g.O.Output.contents came.out) came.sheet.text.items came.progress.counts) c.in-Some.is c.in_ok-cut.ensures.ok in
    asked_short_of c.in_ok-text.text c.in-Some.fault _ _ told.stopped.0 (asked_both _ _ _ false c.in_ok-cut.ensures.once c.in_ok-finish.ensures.once)
