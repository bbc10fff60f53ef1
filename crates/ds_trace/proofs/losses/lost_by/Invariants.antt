use Rattle.std.proofs.Common.{◌≡◌, drop}
use Rattle.ds_trace.specs.Losses.{lost_by, none_lost}
use Rattle.ds_trace.proofs.losses.lost_by.Given as goal

-- what is lost so far, with what the boundaries that are left lost, is what all lost
abbrev pub invariant-loop-lossy : goal.invariant-loop-lossy
invariant-loop-lossy l = lost_by l.all l.line l.lost (drop l.lossy-index l.losses) ≡ lost_by l.all l.line none_lost l.losses
