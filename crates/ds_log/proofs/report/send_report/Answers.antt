use Rattle.std.proofs.Common.{subst}
use Rattle.std.specs.Io.KnownBytes.{Appends}
use Rattle.ds_text.specs.Sent.{AppendsPart}
use Rattle.ds_log.specs.Report.{log_text}
use Rattle.ds_text.proofs.Sends.{at_err, ok_gives, err_gives, appends_both, part_after, part_before}
use Rattle.ds_log.proofs.Reports.{lent_at, report_from_right}
use Rattle.ds_log.proofs.report.send_report.Goals as goal

pub returns-in_err-send_console-clause-err : goal.returns-in_err-send_console-clause-err
returns-in_err-send_console-clause-err g c = at_err c.from_residual.result
    (subst (AppendsPart _ _) (report_from_right c.args.consoles.now c.args.lines c.args.log.now c.args.time)
    (part_before _ _ _ _ c.in_err-send_console.ensures.err))

pub returns-in_err-send_console-2-clause-err : goal.returns-in_err-send_console-2-clause-err
returns-in_err-send_console-2-clause-err g c = at_err c.from_residual-in_err-send_console-2.result
    (subst (AppendsPart _ _) (report_from_right c.args.consoles.now c.args.lines c.args.log.now c.args.time)
    (part_after _ _ _ (lent_at c.args.consoles.now 0) _ c.in_ok-send_console.ensures.ok
    (part_before _ _ _ _ c.in_err-send_console-2.ensures.err)))

pub returns-in_err-send_console-3-clause-err : goal.returns-in_err-send_console-3-clause-err
returns-in_err-send_console-3-clause-err g c = at_err c.from_residual-in_err-send_console-3.result
    (subst (AppendsPart _ _) (report_from_right c.args.consoles.now c.args.lines c.args.log.now c.args.time)
    (part_after _ _ _ (lent_at c.args.consoles.now 0) _ c.in_ok-send_console.ensures.ok
    (part_after _ _ _ (lent_at c.args.consoles.now 1) _ c.in_ok-send_console-2.ensures.ok
    (part_before _ _ _ _ c.in_err-send_console-3.ensures.err))))

pub returns-in_err-send_console-4-clause-err : goal.returns-in_err-send_console-4-clause-err
returns-in_err-send_console-4-clause-err g c = at_err c.from_residual-in_err-send_console-4.result
    (subst (AppendsPart _ _) (report_from_right c.args.consoles.now c.args.lines c.args.log.now c.args.time)
    (part_after _ _ _ (lent_at c.args.consoles.now 0) _ c.in_ok-send_console.ensures.ok
    (part_after _ _ _ (lent_at c.args.consoles.now 1) _ c.in_ok-send_console-2.ensures.ok
    (part_after _ _ _ (lent_at c.args.consoles.now 2) _ c.in_ok-send_console-3.ensures.ok
    (part_before _ _ _ _ c.in_err-send_console-4.ensures.err)))))

pub returns-clause-ok : goal.returns-clause-ok
returns-clause-ok g c = ok_gives c.send_log.result
    (λ p. subst (Appends _ _) (report_from_right c.args.consoles.now c.args.lines c.args.log.now c.args.time)
    (appends_both _ _ _ (lent_at c.args.consoles.now 0) _ c.in_ok-send_console.ensures.ok
    (appends_both _ _ _ (lent_at c.args.consoles.now 1) _ c.in_ok-send_console-2.ensures.ok
    (appends_both _ _ _ (lent_at c.args.consoles.now 2) _ c.in_ok-send_console-3.ensures.ok
    (appends_both _ _ _ (lent_at c.args.consoles.now 3) (log_text c.args.lines c.args.log.now c.args.time) c.in_ok-send_console-4.ensures.ok p)))))
    c.send_log.ensures.ok

pub returns-clause-err : goal.returns-clause-err
returns-clause-err g c = err_gives c.send_log.result
    (λ p. subst (AppendsPart _ _) (report_from_right c.args.consoles.now c.args.lines c.args.log.now c.args.time)
    (part_after _ _ _ (lent_at c.args.consoles.now 0) _ c.in_ok-send_console.ensures.ok
    (part_after _ _ _ (lent_at c.args.consoles.now 1) _ c.in_ok-send_console-2.ensures.ok
    (part_after _ _ _ (lent_at c.args.consoles.now 2) _ c.in_ok-send_console-3.ensures.ok
    (part_after _ _ _ (lent_at c.args.consoles.now 3) _ c.in_ok-send_console-4.ensures.ok p)))))
    c.send_log.ensures.err
