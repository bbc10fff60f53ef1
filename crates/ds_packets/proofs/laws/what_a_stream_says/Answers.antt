use Rattle.std.proofs.Common.{◌∙◌, ap}
use Rattle.ds_packets.specs.Scans.{Between}
use Rattle.ds_packets.specs.Streams.{all_came}
use Rattle.ds_packets.proofs.Pieces.{came_pieces, split_from}
use Rattle.ds_packets.proofs.laws.what_a_stream_says.Goals as goal

pub returns-clause-split : goal.returns-clause-split
returns-clause-split c = λ stream. split_from Between stream tt

pub returns-clause-said : goal.returns-clause-said
returns-clause-said c = λ stream pieces rest splits. ap (all_came Between) splits.whole ∙ came_pieces pieces rest splits.each splits.cut
