use Rattle.std.proofs.Common.{◌≡◌, ◌≤◌, ◌<◌, take, length}
use Rattle.ds_refill.specs.Handler.{words}
use Rattle.ds_refill.specs.Inner.Handler.{with_words}
use Rattle.ds_refill.proofs.handler.install.Given as goal

abbrev pub invariant-loop-k : goal.invariant-loop-k
invariant-loop-k l = record {
  put : l.memory ≡ with_words l.initial.memory 0 (take l.k words);
  long : 0 < l.k → 8388608 ≤ length l.memory;
}
