use Rattle.std.proofs.Common.{ap, length}
use Rattle.ds_mem.specs.Memory.{with_frame}
use Rattle.ds_tables.proofs.Map.{filled}
use Rattle.ds_tables.proofs.tables.clear.Goals as goal

pub returns : goal.returns
returns c = ap (with_frame c.args.memory.now c.args.frame) (filled c.fill.new.self (length c.frame_mut.result.now) c.frame_mut.ensures.size (c.fill.ensures.after (λ y e. e)))
