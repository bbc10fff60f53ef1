use Rattle.std.proofs.Common.{◌≡◌, ℕ, ap, subst, sym, ◌∙◌}
use Rattle.std.specs.Prelude.{min}
use Rattle.ds_refinement.specs.Runs.{RunsTo}
use Rattle.ds_log_reasons.specs.Inner.Sentences.{known_placed}
use Rattle.ds_explain.specs.Moments.{line_time}
use Rattle.ds_explain.proofs.Telling.{gives}
use Rattle.ds_explain.proofs.Units.{line_told, no_line_told}
use Rattle.ds_explain.proofs.moments.push_line.Goals as goal

pub returns-in_ok-run-in-Some : goal.returns-in_ok-run-in-Some
returns-in_ok-run-in-Some g c =
    let when : c.min.result ≡ min (line_time c.in-Some.said) c.args.n = c.min.ensures ∙ ap (λ (t : ℕ). min t c.args.n) c.line_time.ensures in
    gives c.push_known.result
    (line_told (known_placed c.args.known) c.args.n c.args.line.now c.args.station.now.held c.run.new.self.held c.push_known.new.station.held c.args.sheet.now.items c.push_itself.new.sheet.items c.push_known.new.sheet.items
    c.in_ok-push_itself.ensures c.in-Some.said (sym c.in-Some.ensures)
    (subst (λ (t : ℕ). RunsTo t c.args.station.now.held c.run.new.self.held) when c.in_ok-run-in-Some.ensures.ok) c.in_ok-run-in-Some.ensures.real)
    c.push_known.ensures

pub returns-in-None : goal.returns-in-None
returns-in-None g c =
    no_line_told (known_placed c.args.known) c.args.n c.args.line.now c.args.station.now.held c.args.station.now.held c.args.station.now.held c.args.sheet.now.items c.push_itself.new.sheet.items c.push_itself.new.sheet.items
    c.in_ok-push_itself.ensures (sym c.in-None.ensures)
