use Rattle.std.proofs.Common.{◌≡◌, length}
use Rattle.ds_debug.specs.Inner.Inputs.{inputs_seen}
use Rattle.ds_debug.specs.Inner.Past.{IsPast}
use Rattle.ds_debug.proofs.past.Past.drop_needless.Given as goal

-- what is left is the past of the same run
abbrev pub invariant-loop-self : goal.invariant-loop-self
invariant-loop-self l = record {
  past : IsPast (inputs_seen l.self-inside.inputs) l.self-inside.limit l.self-inside.first.held l.self-inside.kept.items;
  inputs : inputs_seen l.self-inside.inputs ≡ l.fn.self.inputs;
  limit : l.self-inside.limit ≡ l.fn.self.limit;
}

abbrev pub decreases-loop-self : goal.decreases-loop-self
decreases-loop-self l = length l.self-inside.kept.items
