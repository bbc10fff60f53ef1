use Rattle.std.proofs.Common.{◌≡◌, true}
use Rattle.ds_bare.specs.Endings.{are_zero}
use Rattle.ds_bare.proofs.ending.are_zero.Given as goal

-- the words so far are 0
abbrev pub invariant-loop-word : goal.invariant-loop-word
invariant-loop-word l = are_zero l.bus.memory l.place l.word ≡ true
