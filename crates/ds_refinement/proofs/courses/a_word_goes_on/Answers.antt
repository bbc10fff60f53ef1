use Rattle.ds_refinement.proofs.CourseWords.{passes, misses_table, writes, returns}
use Rattle.ds_refinement.proofs.courses.a_word_goes_on.Goals as goal

pub returns-clause-passes : goal.returns-clause-passes
returns-clause-passes c = passes

pub returns-clause-misses_table : goal.returns-clause-misses_table
returns-clause-misses_table c = misses_table

pub returns-clause-writes : goal.returns-clause-writes
returns-clause-writes c = writes

pub returns-clause-returns : goal.returns-clause-returns
returns-clause-returns c = returns
