use Rattle.ds_promise.proofs.Denied.{why_stopped, it_stops, unit_parks, unit_parks_in_slot}
use Rattle.ds_promise.proofs.laws.an_instruction_stops_exactly_where_it_is_denied.Goals as goal

pub returns-clause-why : goal.returns-clause-why
returns-clause-why c = why_stopped

pub returns-clause-there : goal.returns-clause-there
returns-clause-there c = it_stops

pub returns-clause-parked : goal.returns-clause-parked
returns-clause-parked c = unit_parks

pub returns-clause-slot : goal.returns-clause-slot
returns-clause-slot c = unit_parks_in_slot
