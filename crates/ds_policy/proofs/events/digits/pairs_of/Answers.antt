use Rattle.std.proofs.Common.{◌∙◌, sym, arith, rules}
use Rattle.ds_policy.proofs.InputSteps.{pairs_step, pairs_bad, pairs_room, pairs_all, pairs_odd}
use Rattle.ds_policy.proofs.events.digits.pairs_of.Goals as goal

pub returns-in-None : goal.returns-in-None
returns-in-None c = sym (sym c.loop-left.invariant.same ∙ pairs_bad c.loop-left.keys c.loop-left.left.now (omega arith) (sym c.pair_of.ensures ∙ c.in-None.is))

pub loop-left-preserved : goal.loop-left-preserved
loop-left-preserved c = rw c.push.ensures (record {
  same = sym (pairs_step c.loop-left.keys c.loop-left.left.now c.in-Some.byte (omega arith) (sym c.pair_of.ensures ∙ c.in-Some.is)) ∙ c.loop-left.invariant.same;
  room = pairs_room c.loop-left.keys c.loop-left.left.now c.in-Some.byte _ (omega arith) c.loop-left.invariant.room;
})

pub returns-then-is_empty : goal.returns-then-is_empty
returns-then-is_empty c = sym (pairs_all c.loop-left.keys c.loop-left.left.now (search rules)) ∙ c.loop-left.invariant.same

pub returns-else-is_empty : goal.returns-else-is_empty
returns-else-is_empty c = sym (pairs_odd c.loop-left.keys c.loop-left.left.now (omega arith) (λ none. search rules)) ∙ c.loop-left.invariant.same
