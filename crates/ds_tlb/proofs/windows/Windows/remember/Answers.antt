use Rattle.std.proofs.Common.{arith}
use Rattle.ds_tlb.proofs.Frames.{right_with}
use Rattle.ds_tlb.proofs.windows.Windows.remember.Goals as goal

pub returns-then-base : goal.returns-then-base
returns-then-base c = λ store entries found right.
    right_with entries store c.args.self.now.tags c.args.self.now.distances c.window_place-place.result c.tag_of.result c.wrapping_difference.result c.args.vpn c.args.asid c.args.base (omega arith) (omega arith)
    c.window_place-place.ensures.value c.tag_of.ensures c.wrapping_difference.ensures (omega arith) (omega arith) (omega arith) found right
