use Rattle.ds_refinement.proofs.Touches.{unseen}
use Rattle.ds_refinement.proofs.handler.a_handler_does_not_see_a_touch.Goals as goal

pub returns : goal.returns
returns c = unseen
