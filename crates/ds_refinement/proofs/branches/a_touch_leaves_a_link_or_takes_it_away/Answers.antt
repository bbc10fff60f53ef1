use Rattle.ds_refinement.proofs.Links.{touched_link}
use Rattle.ds_refinement.proofs.branches.a_touch_leaves_a_link_or_takes_it_away.Goals as goal

pub returns : goal.returns
returns c = touched_link
