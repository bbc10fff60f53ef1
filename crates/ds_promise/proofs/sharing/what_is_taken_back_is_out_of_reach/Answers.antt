use Rattle.ds_promise.proofs.Shares.{take_leaves_none, take_reaches, take_leaves_others}
use Rattle.ds_promise.proofs.sharing.what_is_taken_back_is_out_of_reach.Goals as goal

pub returns-clause-gone : goal.returns-clause-gone
returns-clause-gone c = λ m p pc holder address q b own done of. take_leaves_none m p pc holder address done q b own of

pub returns-clause-reach : goal.returns-clause-reach
returns-clause-reach c = λ m p pc holder address q b own done of. take_reaches m p pc holder address done q b own of

pub returns-clause-others : goal.returns-clause-others
returns-clause-others c = λ m p pc holder address q b over done none. take_leaves_others m p pc holder address done q b over none
