use Rattle.std.proofs.Common.{◌≡◌}
use Rattle.std.specs.Option.{option_copied}
use Rattle.ds_packets.specs.Words.{parts}
use Rattle.ds_packets.proofs.Parts.{left_parts, left_size}
use Rattle.ds_packets.proofs.Lists.{has_feature}
use Rattle.ds_packets.proofs.reading.is_multiple.Given as goal

abbrev pub invariant-loop-left : goal.invariant-loop-left
invariant-loop-left l = has_feature (left_parts (option_copied l.left)) ≡ has_feature (parts l.features)

abbrev pub decreases-loop-left : goal.decreases-loop-left
decreases-loop-left l = left_size (option_copied l.left)
