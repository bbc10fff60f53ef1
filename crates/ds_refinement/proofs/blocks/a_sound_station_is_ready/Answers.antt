use Rattle.ds_refinement.proofs.Quieter.{user_status_of, ticked_before}
use Rattle.ds_refinement.proofs.blocks.a_sound_station_is_ready.Goals as goal

pub returns-clause-status : goal.returns-clause-status
returns-clause-status c = user_status_of

pub returns-clause-ticked : goal.returns-clause-ticked
returns-clause-ticked c = ticked_before
