use Rattle.ds_refinement.proofs.Joined.{path_sound}
use Rattle.ds_refinement.proofs.paths.paths_stay_sound.Goals as goal

pub returns : goal.returns
returns c = path_sound
