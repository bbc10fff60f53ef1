use Rattle.ds_grants.proofs.Kept.{put_represented, remove_represented}
use Rattle.ds_grants.proofs.represented.a_change_keeps_what_is_represented.Goals as goal

pub returns-clause-put : goal.returns-clause-put
returns-clause-put c = λ entries memory t s g p a grant long low high page small region k. put_represented entries memory t s g p a k long low high page grant small region

pub returns-clause-removed : goal.returns-clause-removed
returns-clause-removed c = λ entries memory t s g p a long low high page k. remove_represented entries memory t s g p a k long low high page
