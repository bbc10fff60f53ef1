use Rattle.std.proofs.Common.{◌≡◌, ℕ, List, ◌++◌, append_assoc, ap, subst, ◌∙◌}
use Rattle.std.specs.Prelude.{OnOk, codes}
use Rattle.ds_packets.specs.Framing.{frame}
use Rattle.ds_refinement.specs.Held.{Held}
use Rattle.ds_debug.specs.Answers.{run_report_text}
use Rattle.ds_gdb.specs.Outputs.{outputs_text}
use Rattle.ds_debug.specs.Sessions.{SessionState, sight_of}
use Rattle.ds_debug.specs.Sights.{sight_held}
use Rattle.ds_debug.proofs.Looking.{on_ok}
use Rattle.ds_debug.proofs.session.Session.answer_monitor.Goals as goal

pub returns : goal.returns
returns c =
    let held : Held = c.self.inside.station.held in
    let text : List ℕ = outputs_text (run_report_text c.limit.result (sight_held held) c.args.report) in
    subst (λ (s : SessionState). OnOk c.push_frame.result (c.push_frame.new.out.items ≡ c.args.out.now.items ++ (outputs_text (run_report_text s.limit (sight_of s) c.args.report) ++ frame (codes "OK")))) c.self.view_is
    (subst (λ (n : ℕ). OnOk c.push_frame.result (c.push_frame.new.out.items ≡ c.args.out.now.items ++ (outputs_text (run_report_text n (sight_held held) c.args.report) ++ frame (codes "OK")))) c.limit.ensures.value
    (on_ok c.push_frame.result (c.push_frame.new.out.items ≡ c.push_report.new.out.items ++ frame (codes "OK")) (c.push_frame.new.out.items ≡ c.args.out.now.items ++ (text ++ frame (codes "OK")))
    (λ told. told ∙ (ap (λ (t : List ℕ). t ++ frame (codes "OK")) c.in_ok-push_report.ensures ∙ append_assoc c.args.out.now.items text (frame (codes "OK")))) c.push_frame.ensures))
