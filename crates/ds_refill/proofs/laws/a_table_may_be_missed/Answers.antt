use Rattle.ds_refill.proofs.Whole.{word_2_misses}
use Rattle.ds_refill.proofs.laws.a_table_may_be_missed.Goals as goal

pub returns : goal.returns
returns c = word_2_misses
