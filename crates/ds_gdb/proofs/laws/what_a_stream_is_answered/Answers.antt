use Rattle.ds_gdb.proofs.Hearing.{chunks_join, pieces_heard}
use Rattle.ds_gdb.proofs.laws.what_a_stream_is_answered.Goals as goal

pub returns-clause-joined : goal.returns-clause-joined
returns-clause-joined g c = chunks_join g.T.Target.answers

pub returns-clause-said : goal.returns-clause-said
returns-clause-said g c = pieces_heard g.T.Target.answers
