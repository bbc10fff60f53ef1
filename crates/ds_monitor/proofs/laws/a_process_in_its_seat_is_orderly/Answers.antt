use Rattle.ds_monitor.proofs.Lawful.{seat_orderly}
use Rattle.ds_monitor.proofs.laws.a_process_in_its_seat_is_orderly.Goals as goal

pub returns : goal.returns
returns c = seat_orderly
