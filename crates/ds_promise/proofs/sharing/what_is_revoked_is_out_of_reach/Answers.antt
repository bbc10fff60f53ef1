use Rattle.ds_promise.proofs.Shares.{revoke_leaves_rule, revoke_reaches, revoke_leaves_others}
use Rattle.ds_promise.proofs.sharing.what_is_revoked_is_out_of_reach.Goals as goal

pub returns-clause-left : goal.returns-clause-left
returns-clause-left c = λ m k holder address q b done of. revoke_leaves_rule m k holder address done q b of

pub returns-clause-reach : goal.returns-clause-reach
returns-clause-reach c = λ m k holder address q b done of. revoke_reaches m k holder address done q b of

pub returns-clause-others : goal.returns-clause-others
returns-clause-others c = λ m k holder address q b over done none. revoke_leaves_others m k holder address done q b over none
