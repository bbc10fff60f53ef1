use Rattle.clap.specs.Words.{values_left}
use Rattle.ds_words.proofs.Numbers.{HaveWritten}
use Rattle.ds_words.proofs.words.written_processes.Given as goal

abbrev pub invariant-loop-number : goal.invariant-loop-number
invariant-loop-number l = HaveWritten (values_left l.initial.number-iterator) (values_left l.number-iterator) l.processes
