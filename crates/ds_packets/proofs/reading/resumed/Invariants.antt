use Rattle.std.proofs.Common.{◌≡◌}
use Rattle.std.specs.Option.{option_copied}
use Rattle.ds_packets.specs.Words.{parts}
use Rattle.ds_packets.proofs.Parts.{left_parts, left_size}
use Rattle.ds_packets.proofs.Lists.{are_steps}
use Rattle.ds_packets.proofs.reading.resumed.Given as goal

abbrev pub invariant-loop-left : goal.invariant-loop-left
invariant-loop-left l = are_steps (left_parts (option_copied l.left)) ≡ are_steps (parts l.rest)

abbrev pub decreases-loop-left : goal.decreases-loop-left
decreases-loop-left l = left_size (option_copied l.left)
