-- The handler's words stay where only page tables or pages change.
use Rattle.std.proofs.Common.{◌≡◌, ℕ, ◌+◌, ◌*◌, ◌<◌, List, sym, ap, ◌∙◌, arith, inl}
use Rattle.ds_word.specs.Bytes.{word_at}
use Rattle.ds_mem.specs.Memory.{frame_of}
use Rattle.ds_mem.proofs.Words.{word_at-same_frame}
use Rattle.ds_refill.specs.Handler.{HasWords}
use Rattle.ds_grants.specs.Inner.Represented.{IsLow, IsHigh}

-- they lie in the first frame
pub vectors_first : (old new : List ℕ) → frame_of new 0 ≡ frame_of old 0 → HasWords old → HasWords new
vectors_first old new same words = record {
  at = λ n few.
      let within : 4 * n < 4096 = omega arith in
      let place : 0 * 4096 + 4 * n ≡ 4 * n = omega arith in
      ap (word_at new) (sym place) ∙ (word_at-same_frame old new 0 (4 * n) within same ∙ (ap (word_at old) place ∙ words.at n few));
}

pub vectors_low : (old new : List ℕ) → IsLow old new → HasWords old → HasWords new
vectors_low old new low words = vectors_first old new (low.1 0 (inl (omega arith))) words

pub vectors_high : (old new : List ℕ) → IsHigh old new → HasWords old → HasWords new
vectors_high old new high words = vectors_first old new (high.1 0 (omega arith)) words
