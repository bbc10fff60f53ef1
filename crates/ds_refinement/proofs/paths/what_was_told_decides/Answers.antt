use Rattle.ds_refinement.proofs.Joined.{ends_or_goes_back, never_both}
use Rattle.ds_refinement.proofs.paths.what_was_told_decides.Goals as goal

pub returns-clause-either : goal.returns-clause-either
returns-clause-either c = ends_or_goes_back

pub returns-clause-never_both : goal.returns-clause-never_both
returns-clause-never_both c = never_both
