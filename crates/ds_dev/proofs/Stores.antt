-- A store leaves the words of other frames, and the length of memory.
use Rattle.std.proofs.Common.{◌≡◌, ◌≢◌, ℕ, ◌+◌, ◌-◌, ◌/◌, ◌%◌, ◌<◌, ◌^◌, List, length, slice_set, ◌∙◌, arith, length-set}
use Rattle.std.proofs.lemmas.List.{get_or-set_other}
use Rattle.std.proofs.Math.Dec.{lit<}
use Rattle.ds_isa.specs.declared.instr.Size.{Size}
use Rattle.ds_isa.specs.declared.instr.Size.TheVariants.{Byte, Half, Word, Part}
use Rattle.ds_word.specs.Bytes.{word_at, with_word}
use Rattle.ds_word.proofs.Bytes.{same_bytes, word_at-with_word_apart, length-with_word}
use Rattle.ds_dev.specs.Bus.{memory_store}
use Rattle.ds_dev.specs.Inner.Bus.{alignment}

-- a byte of a word of another frame
apart_by : (a other i : ℕ) → i < 4 → other / 4096 ≢ a / 4096 → other - other % 4 + i ≢ a
apart_by a other i few apart = λ (e : ◌≡◌ {A = ℕ} (other - other % 4 + i) a). apart (omega arith)

-- the first byte of a word of another frame
apart_first : (a other : ℕ) → other / 4096 ≢ a / 4096 → other - other % 4 ≢ a
apart_first a other apart = λ (e : ◌≡◌ {A = ℕ} (other - other % 4) a). apart (omega arith)

-- a byte leaves the words of other frames
byte_apart : (memory : List ℕ) (a other v : ℕ) → other / 4096 ≢ a / 4096 → word_at (slice_set memory a v) other ≡ word_at memory other
byte_apart memory a other v apart =
    let p : ℕ = other - other % 4 in
    same_bytes _ _ _ _ _ _ _ _
    (get_or-set_other memory a p v 0 (apart_first a other apart)) (get_or-set_other memory a (p + 1) v 0 (apart_by a other 1 (lit< tt) apart))
    (get_or-set_other memory a (p + 2) v 0 (apart_by a other 2 (lit< tt) apart)) (get_or-set_other memory a (p + 3) v 0 (apart_by a other 3 (lit< tt) apart))

-- two bytes of a half leave them
half_apart : (memory : List ℕ) (a other v w : ℕ) → a % 2 ≡ 0 → other / 4096 ≢ a / 4096 → word_at (slice_set (slice_set memory a v) (a + 1) w) other ≡ word_at memory other
half_apart memory a other v w even apart =
    byte_apart (slice_set memory a v) (a + 1) other w (λ (e : ◌≡◌ {A = ℕ} (other / 4096) ((a + 1) / 4096)). apart (omega arith))
    ∙ byte_apart memory a other v apart

-- a word leaves them
word_apart : (memory : List ℕ) (a other v : ℕ) → length memory ≡ 8388608 → a < 8388608 → other / 4096 ≢ a / 4096 → word_at (with_word memory a v) other ≡ word_at memory other
word_apart memory a other v size inside apart =
    word_at-with_word_apart memory a other v (omega (arith, size, inside)) (λ (e : ◌≡◌ {A = ℕ} (other / 4) (a / 4)). apart (omega arith))

-- a store leaves the words of other frames
pub word_at-memory_store_apart : (memory : List ℕ) (a other v : ℕ) (size : Size) → length memory ≡ 8388608 → a < 8388608 → a % alignment size ≡ 0 → other / 4096 ≢ a / 4096
    → word_at (memory_store memory a size v) other ≡ word_at memory other
word_at-memory_store_apart memory a other v Byte long inside aligned apart = byte_apart memory a other (v % 2 ^ 8) apart
word_at-memory_store_apart memory a other v Half long inside aligned apart = half_apart memory a other (v % 2 ^ 8) (v / 2 ^ 8 % 2 ^ 8) aligned apart
word_at-memory_store_apart memory a other v Word long inside aligned apart = word_apart memory a other v long inside apart
word_at-memory_store_apart memory a other v Part long inside aligned apart = word_apart memory a other v long inside apart

-- a store leaves the length
pub length-memory_store : (memory : List ℕ) (a v : ℕ) (size : Size) → length memory ≡ 8388608 → a < 8388608 → length (memory_store memory a size v) ≡ 8388608
length-memory_store memory a v Byte long inside = length-set memory a (v % 2 ^ 8) ∙ long
length-memory_store memory a v Half long inside = length-set (slice_set memory a (v % 2 ^ 8)) (a + 1) (v / 2 ^ 8 % 2 ^ 8) ∙ (length-set memory a (v % 2 ^ 8) ∙ long)
length-memory_store memory a v Word long inside = length-with_word memory a v (omega (arith, long, inside)) ∙ long
length-memory_store memory a v Part long inside = length-with_word memory a v (omega (arith, long, inside)) ∙ long
