use Rattle.ds_refinement.proofs.Late.{told_store, grant_of}
use Rattle.ds_refinement.proofs.Copied.{copy_room, copy_follows, copy_goes}
use Rattle.ds_refinement.proofs.backs.a_late_copy_goes_back.Goals as goal

pub returns-clause-told : goal.returns-clause-told
returns-clause-told c = λ s g pages p waits. told_store s g p waits pages

pub returns-clause-granted : goal.returns-clause-granted
returns-clause-granted c = λ s g p waits. let lets = grant_of s g p waits in (lets.grant, lets.is, lets.right)

pub returns-clause-room : goal.returns-clause-room
returns-clause-room c = copy_room

pub returns-clause-follows : goal.returns-clause-follows
returns-clause-follows c = copy_follows

pub returns-clause-back : goal.returns-clause-back
returns-clause-back c = λ h new p left copied. copy_goes h new p copied left
