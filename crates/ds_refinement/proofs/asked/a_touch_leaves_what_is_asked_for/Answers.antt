use Rattle.ds_refinement.proofs.Needed.{pages_touched}
use Rattle.ds_refinement.proofs.asked.a_touch_leaves_what_is_asked_for.Goals as goal

pub returns : goal.returns
returns c = pages_touched
