use Rattle.std.proofs.Common.{subst}
use Rattle.ds_refinement.specs.Held.{Held}
use Rattle.ds_refinement.specs.Real.{RealPath}
use Rattle.ds_refinement.specs.Runs.{RunsTo}
use Rattle.ds_debug.proofs.Keeping.{at_kept}
use Rattle.ds_debug.proofs.past.Past.at.Goals as goal

pub returns-in-Ok-run-clause-at : goal.returns-in-Ok-run-clause-at
returns-in-Ok-run-clause-at c =
    let new : Held = c.run.new.self.held in
    at_kept c.args.self.now.inputs c.args.self.now.limit c.args.time c.latest.result.now.held new c.latest.ensures.kept c.latest.ensures.early
    (subst (λ (h : Held). RunsTo c.args.time h new) c.in-Ok.ensures.held c.in-Ok-run.ensures.ok) (subst (λ (h : Held). RealPath h new) c.in-Ok.ensures.held c.in-Ok-run.ensures.real) c.in-Ok-run.ensures.over
