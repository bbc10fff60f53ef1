use Rattle.ds_packets.proofs.Frames.{came-frame}
use Rattle.ds_packets.proofs.laws.what_is_framed_comes.Goals as goal

pub returns : goal.returns
returns c = λ bytes few. came-frame bytes few
