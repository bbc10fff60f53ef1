use Rattle.ds_grants.proofs.FreeFrames.{free}
use Rattle.ds_grants.proofs.late_copies.a_frame_is_free.Goals as goal

pub returns : goal.returns
returns c = free
