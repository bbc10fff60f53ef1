use Rattle.ds_grants.specs.Inner.Frames.{AreLying}
use Rattle.ds_grants.proofs.grants.Grants.pages_by_frame.Given as goal

abbrev pub invariant-loop-page : goal.invariant-loop-page
invariant-loop-page l = AreLying l.fn.self l.page l.counts
