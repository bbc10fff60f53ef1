use Rattle.ds_refinement.proofs.Lookups.{user_reaches}
use Rattle.ds_refinement.proofs.pages.what_a_user_reaches_is_granted.Goals as goal

pub returns : goal.returns
returns c = user_reaches
