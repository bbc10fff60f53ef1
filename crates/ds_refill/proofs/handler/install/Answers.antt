use Rattle.std.proofs.Common.{◌∙◌, ◌≡◌, arith}
use Rattle.ds_refill.proofs.Words.{all_put, installed, other_frames}
use Rattle.ds_refill.proofs.handler.install.Goals as goal

pub returns-clause-words : goal.returns-clause-words
returns-clause-words c =
    let all : c.loop-k.k ≡ 9 = omega arith in
    installed c.args.memory.now c.loop-k.memory (c.loop-k.invariant.put ∙ all_put c.args.memory.now c.loop-k.k all) (c.loop-k.invariant.long (omega arith))

pub returns-clause-frames : goal.returns-clause-frames
returns-clause-frames c = λ f some.
    let all : c.loop-k.k ≡ 9 = omega arith in
    other_frames c.args.memory.now c.loop-k.memory f (c.loop-k.invariant.put ∙ all_put c.args.memory.now c.loop-k.k all) (c.loop-k.invariant.long (omega arith)) some
