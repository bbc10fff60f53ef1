use Rattle.ds_refinement.proofs.Words.{word_follows}
use Rattle.ds_refinement.proofs.handler.a_word_follows.Goals as goal

pub returns : goal.returns
returns c = word_follows
