use Rattle.std.proofs.Common.{◌≡◌}
use Rattle.std.specs.Option.{option_copied}
use Rattle.ds_packets.specs.Words.{after_mark, parts}
use Rattle.ds_packets.specs.Packets.{first_action}
use Rattle.ds_packets.proofs.Parts.{left_parts, left_size}
use Rattle.ds_packets.proofs.reading.action_for.Given as goal

abbrev pub invariant-loop-left : goal.invariant-loop-left
invariant-loop-left l = first_action (left_parts (option_copied l.left)) l.process ≡ first_action (parts (after_mark 59 l.text)) l.process

abbrev pub decreases-loop-left : goal.decreases-loop-left
decreases-loop-left l = left_size (option_copied l.left)
