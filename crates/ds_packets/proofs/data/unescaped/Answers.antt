use Rattle.std.proofs.Common.{rules, ◌∙◌, arith}
use Rattle.std.proofs.lemmas.Bool.{ne_eqb}
use Rattle.ds_packets.proofs.Escapes.{escape_step, plain_step, tail_room, tails_room}
use Rattle.ds_packets.proofs.data.unescaped.Goals as goal

pub loop-left-preserved-in-len1-up-rest : goal.loop-left-preserved-in-len1-up-rest
loop-left-preserved-in-len1-up-rest c = rw c.push.ensures (record {
  same = escape_step c.loop-left.data c.loop-left.left.now (search rules) c.if-first-eq125.true ∙ c.loop-left.invariant.same;
  room = tails_room c.loop-left.data c.loop-left.left.now _ (search rules) c.loop-left.invariant.room;
})

pub loop-left-preserved : goal.loop-left-preserved
loop-left-preserved c = rw c.push-else-first-eq125.ensures (record {
  same = plain_step c.loop-left.data c.loop-left.left.now (omega arith) (ne_eqb _ _ c.if-first-eq125.false) ∙ c.loop-left.invariant.same;
  room = tail_room c.loop-left.data c.loop-left.left.now _ (omega arith) c.loop-left.invariant.room;
})
