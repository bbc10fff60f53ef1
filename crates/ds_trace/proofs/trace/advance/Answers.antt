use Rattle.std.proofs.Common.{sym, ap, ◌∙◌}
use Rattle.ds_station.specs.declared.stage.Stage.{Stage}
use Rattle.ds_trace.specs.Processors.{stage_after}
use Rattle.ds_trace.proofs.trace.advance.Goals as goal

pub returns-clause-tells : goal.returns-clause-tells
returns-clause-tells g c = record {
  step = c.in-Ok.step;
  is = sym c.is_last.ensures;
  does = record { follows = c.in-Ok.ensures.ok; moves = c.in-Ok.ensures.moves; real = c.in-Ok.ensures.real };
  adds = c.in_ok-tell_step.ensures;
  sound = c.step.ensures.sound;
}

pub returns-clause-counted : goal.returns-clause-counted
returns-clause-counted g c = ((c.in-Ok.step, record { follows = c.in-Ok.ensures.ok; moves = c.in-Ok.ensures.moves; real = c.in-Ok.ensures.real }), c.count.ensures ∙ ap (λ (stage : Stage). stage_after c.args.counts.now stage) c.stage-stage.ensures)
