use Rattle.ds_core.proofs.Fetches.{in_memory, kept_in_memory}
use Rattle.ds_core.proofs.processor.access.fetch.Goals as goal

pub returns-then-place-lt-SIZE-clause-value : goal.returns-then-place-lt-SIZE-clause-value
returns-then-place-lt-SIZE-clause-value c = in_memory c.args.bus.now c.args.place _ c.if-place-lt-SIZE.true c.fetch.ensures.value

pub returns-then-place-lt-SIZE-clause-state : goal.returns-then-place-lt-SIZE-clause-state
returns-then-place-lt-SIZE-clause-state c = kept_in_memory c.args.bus.now _ c.args.place c.if-place-lt-SIZE.true c.fetch.ensures.state
