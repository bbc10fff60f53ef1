use Rattle.std.proofs.Common.{refl, arith}
use Rattle.ds_policy.specs.Inner.KeyLines.{characters_from, AreKeyLines}
use Rattle.ds_policy.proofs.events.characters.Characters.new.Goals as goal

pub invariant_of-result : goal.invariant_of-result
unfolding AreKeyLines
invariant_of-result c = rw (c.new.ensures.items, c.new-2.ensures.items) (omega arith, refl)

pub returns : goal.returns
unfolding characters_from
returns c = rw (c.new.ensures.items)
