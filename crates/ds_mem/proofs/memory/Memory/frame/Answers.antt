use Rattle.std.proofs.Common.{◌∙◌, ap, rules}
use Rattle.ds_mem.specs.Memory.{frame_of}
use Rattle.ds_mem.proofs.Frames.{part_is_frame}
use Rattle.ds_mem.proofs.memory.Memory.frame.Goals as goal

pub returns-clause-value : goal.returns-clause-value
returns-clause-value c = part_is_frame c.deref.result.now c.args.f ∙ ap (λ m. frame_of m c.args.f) (search rules)
