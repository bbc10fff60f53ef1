use Rattle.std.proofs.Common.{◌≡◌, ℕ, ◌+◌, ◌*◌, ◌<◌, length, slice_index}
use Rattle.ds_word.specs.Bytes.{word_at}
use Rattle.ds_dev.proofs.known.learn_words.Given as goal

abbrev pub invariant-loop-i : goal.invariant-loop-i
invariant-loop-i l = record {
  holds : (k : ℕ) → k < l.i → slice_index l.page.words k ≡ word_at l.memory (4096 * l.frame + 4 * k);
  size : 0 < l.i → length l.memory ≡ 8388608;
}
