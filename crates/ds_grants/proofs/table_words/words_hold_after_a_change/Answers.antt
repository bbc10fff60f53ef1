use Rattle.ds_grants.proofs.Puts.{put_holds, removed_holds}
use Rattle.ds_grants.proofs.table_words.words_hold_after_a_change.Goals as goal

pub returns-clause-put : goal.returns-clause-put
returns-clause-put c = λ memory t g p a grant k are size empty low high page small room. put_holds memory t g p a k are size empty low high page grant small room

pub returns-clause-removed : goal.returns-clause-removed
returns-clause-removed c = λ memory t g p a k are size empty low high page. removed_holds memory t g p a k are size empty low high page
