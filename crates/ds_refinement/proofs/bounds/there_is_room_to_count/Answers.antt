use Rattle.ds_refinement.proofs.UnitCourses.{refill_before, refill_begun, table_begun, table_room, copy_room}
use Rattle.ds_refinement.proofs.bounds.there_is_room_to_count.Goals as goal

pub returns-clause-refill : goal.returns-clause-refill
returns-clause-refill c = refill_before

pub returns-clause-words : goal.returns-clause-words
returns-clause-words c = refill_begun

pub returns-clause-begun : goal.returns-clause-begun
returns-clause-begun c = table_begun

pub returns-clause-table : goal.returns-clause-table
returns-clause-table c = table_room

pub returns-clause-copy : goal.returns-clause-copy
returns-clause-copy c = copy_room
