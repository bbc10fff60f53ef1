use Rattle.ds_trace.proofs.Touched.{lines_touched, half_counts_touched, end_touched}
use Rattle.ds_trace.proofs.laws.a_touch_changes_no_line.Goals as goal

pub returns-clause-lines : goal.returns-clause-lines
returns-clause-lines c = lines_touched

pub returns-clause-counts : goal.returns-clause-counts
returns-clause-counts c = half_counts_touched

pub returns-clause-end : goal.returns-clause-end
returns-clause-end c = end_touched
