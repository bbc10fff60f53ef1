use Rattle.std.proofs.Common.{List, ℕ, subst, OnOk, OnErr}
use Rattle.std.specs.Io.KnownBytes.{Appends}
use Rattle.ds_text.specs.Sent.{AppendsPart}
use Rattle.ds_station.proofs.Headlines.{report_of_consoles}
use Rattle.ds_station.proofs.files.deliver.Goals as goal

pub returns-clause-ok : goal.returns-clause-ok
returns-clause-ok g c =
    subst (λ (text : List ℕ). OnOk c.send_report.result (Appends (g.O.Output.contents c.args.out.now) (g.O.Output.contents c.send_report.new.out) text))
    (report_of_consoles c.args.station.now.held.kept.state.consoles c.console.result.now c.console-2.result.now c.console-3.result.now c.console-4.result.now _ _ _ _ _ _ c.console.ensures.held c.console-2.ensures.held c.console-3.ensures.held c.console-4.ensures.held c.log_lines.ensures c.log.ensures.held c.time.ensures.held)
    c.send_report.ensures.ok

pub returns-clause-err : goal.returns-clause-err
returns-clause-err g c =
    subst (λ (text : List ℕ). OnErr c.send_report.result (AppendsPart (g.O.Output.contents c.args.out.now) (g.O.Output.contents c.send_report.new.out) text))
    (report_of_consoles c.args.station.now.held.kept.state.consoles c.console.result.now c.console-2.result.now c.console-3.result.now c.console-4.result.now _ _ _ _ _ _ c.console.ensures.held c.console-2.ensures.held c.console-3.ensures.held c.console-4.ensures.held c.log_lines.ensures c.log.ensures.held c.time.ensures.held)
    c.send_report.ensures.err
