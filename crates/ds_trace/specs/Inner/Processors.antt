-- What the processor did in a run, and what is told of it. It depends on Random.
use Rattle.std.specs.Prelude.{ℕ, ◌+◌}
use Rattle.ds_trace.specs.declared.processor.ProcessorCounts.{ProcessorCounts}

-- all that is counted
abbrev pub total : ProcessorCounts → ℕ
total c = c.instructions + c.refills + c.double_misses + c.services
