use Rattle.ds_refinement.proofs.Seating.{enters}
use Rattle.ds_refinement.proofs.seats.the_first_comes_in.Goals as goal

pub returns : goal.returns
returns c = enters
