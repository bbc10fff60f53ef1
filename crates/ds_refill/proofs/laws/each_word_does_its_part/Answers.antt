use Rattle.ds_refill.proofs.Whole.{word_0, word_1, word_2, word_3, word_4, word_5, word_6, word_7, word_8}
use Rattle.ds_refill.proofs.laws.each_word_does_its_part.Goals as goal

pub returns-clause-context : goal.returns-clause-context
returns-clause-context c = word_0

pub returns-clause-address : goal.returns-clause-address
returns-clause-address c = word_1

pub returns-clause-load : goal.returns-clause-load
returns-clause-load c = word_2

pub returns-clause-pause : goal.returns-clause-pause
returns-clause-pause c = word_3

pub returns-clause-entry_lo : goal.returns-clause-entry_lo
returns-clause-entry_lo c = word_4

pub returns-clause-clear : goal.returns-clause-clear
returns-clause-clear c = word_5

pub returns-clause-write : goal.returns-clause-write
returns-clause-write c = word_6

pub returns-clause-jump : goal.returns-clause-jump
returns-clause-jump c = word_7

pub returns-clause-mode : goal.returns-clause-mode
returns-clause-mode c = word_8
