use Rattle.std.proofs.Common.{◌∙◌, ℕ, sym, ap, arith}
use Rattle.std.specs.Prelude.{slice_get}
use Rattle.ds_trace.specs.Changes.{is_ready}
use Rattle.ds_trace.proofs.Processes.{standings_of, standing_at, standing_past}
use Rattle.ds_trace.proofs.changes.is_ready.Goals as goal

pub returns-then-index-processes : goal.returns-then-index-processes
returns-then-index-processes g c =
    c.stands_ready.ensures
    ∙ (ap is_ready (sym (standing_at c.args.station.now.held.kept.state c.saturating_sub-index.result c.standing.result (omega (arith, c.if-index-processes.true, c.processes.ensures.held)) c.standing.ensures))
    ∙ ap (λ (i : ℕ). is_ready (slice_get (standings_of c.args.station.now.held.kept.state.processes) i)) c.saturating_sub-index.ensures)

pub returns-else-index-processes : goal.returns-else-index-processes
returns-else-index-processes g c =
    ap is_ready (sym (standing_past c.args.station.now.held.kept.state c.saturating_sub-index.result (omega (arith, c.if-index-processes.false, c.processes.ensures.held))))
    ∙ ap (λ (i : ℕ). is_ready (slice_get (standings_of c.args.station.now.held.kept.state.processes) i)) c.saturating_sub-index.ensures
