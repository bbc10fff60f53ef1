use Rattle.std.proofs.Common.{◌≡◌, ◌∙◌, length, ap, arith, rules}
use Rattle.ds_mem.specs.Memory.{frame_of, with_frame}
use Rattle.ds_mem.proofs.Frames.{copy_within-frame}
use Rattle.ds_mem.proofs.memory.Memory.copy_frame.Goals as goal

pub returns-clause-value : goal.returns-clause-value
returns-clause-value c =
    let size : length c.self.inside.bytes.items ≡ 8388608 = search rules in
    c.copy_within.ensures.items
    ∙ copy_within-frame c.self.inside.bytes.items c.args.from c.args.to (omega (arith, size, c.requires.source)) (omega (arith, size, c.requires.destination))
    ∙ ap (λ m. with_frame m c.args.to (frame_of m c.args.from)) c.self.view_is
