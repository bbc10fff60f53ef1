-- A word of memory as a part of its frame, and words of a frame that was replaced.
use Rattle.std.proofs.Common.{◌≡◌, ◌⊎◌, inl, inr, ℕ, ◌++◌, length-append, ◌+◌, ◌-◌, ◌*◌, ◌%◌, ◌<◌, ◌≤◌, ◌^◌, length, List, take, drop, sym, ap, ◌∙◌, append_assoc, arith}
use Rattle.std.proofs.lemmas.List.{length-take, length-take-le, length-drop}
use Rattle.std.specs.Prelude.{slice_index}
use Rattle.ds_word.specs.Bytes.{bytes_of_word, word_at, with_word}
use Rattle.ds_word.proofs.Bytes.{same_bytes, word_at-zeros}
use Rattle.ds_mem.specs.Memory.{zeros, frame_of, with_frame}
use Rattle.ds_mem.proofs.Frames.{overwritten-within, part_before, part_after, slice_index-frame_of}

-- a word of memory is that of its frame
pub word_at-frame_of : (memory : List ℕ) (f at : ℕ) → at < 4096 → word_at memory (f * 4096 + at) ≡ word_at (frame_of memory f) at
word_at-frame_of memory f at within =
    let i : ℕ = at - at % 4 in
    let first : f * 4096 + at - (f * 4096 + at) % 4 ≡ f * 4096 + (at - at % 4) = omega arith in
    ap (λ p. slice_index memory p + 2 ^ 8 * slice_index memory (p + 1) + 2 ^ 16 * slice_index memory (p + 2) + 2 ^ 24 * slice_index memory (p + 3)) first
    ∙ sym (same_bytes _ _ _ _ _ _ _ _
    (slice_index-frame_of memory f i (omega arith)) (byte_of memory f i 1 (omega arith)) (byte_of memory f i 2 (omega arith)) (byte_of memory f i 3 (omega arith)))
  where
    byte_of : (memory : List ℕ) (f i k : ℕ) → i + k < 4096 → slice_index (frame_of memory f) (i + k) ≡ slice_index memory (f * 4096 + i + k)
    byte_of memory f i k within = let e : f * 4096 + (i + k) ≡ f * 4096 + i + k = omega arith in slice_index-frame_of memory f (i + k) within ∙ ap (slice_index memory) e

-- each word of a frame of zeros is 0
pub word_at-zero_frame : (memory : List ℕ) (f at : ℕ) → at < 4096 → frame_of memory f ≡ zeros 4096 → word_at memory (f * 4096 + at) ≡ 0
unfolding zeros
word_at-zero_frame memory f at within empty =
    word_at-frame_of memory f at within ∙ (ap (λ l. word_at l at) empty ∙ word_at-zeros 4096 at (omega arith))

-- a word keeps its value where its frame keeps its bytes
pub word_at-same_frame : (memory other : List ℕ) (f at : ℕ) → at < 4096 → frame_of other f ≡ frame_of memory f → word_at other (f * 4096 + at) ≡ word_at memory (f * 4096 + at)
word_at-same_frame memory other f at within same = word_at-frame_of other f at within ∙ (ap (λ l. word_at l at) same ∙ sym (word_at-frame_of memory f at within))

-- a word that was put leaves the other frames
pub frame_of-with_word_apart : (memory : List ℕ) (place w g : ℕ) → place - place % 4 + 4 ≤ length memory → (g * 4096 + 4096 ≤ place) ⊎ (place < g * 4096) → frame_of (with_word memory place w) g ≡ frame_of memory g
frame_of-with_word_apart memory place w g within (inl below) =
    part_before memory (bytes_of_word w ++ drop (place - place % 4 + 4) memory) (g * 4096) (place - place % 4) 4096 (omega arith) (omega arith)
frame_of-with_word_apart memory place w g within (inr above) =
    let front : length (take (place - place % 4) memory ++ bytes_of_word w) ≡ place - place % 4 + 4 =
    omega (arith, length-append (take (place - place % 4) memory) (bytes_of_word w), length-take-le (place - place % 4) memory (omega arith)) in
    ap (λ m. frame_of m g) (sym (append_assoc (take (place - place % 4) memory) (bytes_of_word w) (drop (place - place % 4 + 4) memory)))
    ∙ part_after memory (take (place - place % 4) memory ++ bytes_of_word w) (g * 4096) (place - place % 4 + 4) 4096 front (omega arith)

-- Lengths.

pub length-with_frame : (memory bytes : List ℕ) (f : ℕ) → length bytes ≡ 4096 → f * 4096 + 4096 ≤ length memory → length (with_frame memory f bytes) ≡ length memory
length-with_frame memory bytes f size within =
    ap length (overwritten-within memory bytes (f * 4096) 4096 (sym size) within)
    ∙ omega (arith, length-append (take (f * 4096) memory) (bytes ++ drop (f * 4096 + 4096) memory), length-append bytes (drop (f * 4096 + 4096) memory), length-take-le (f * 4096) memory (omega arith), length-drop (f * 4096 + 4096) memory)

-- memory that is long once a frame is replaced was long before
pub long-with_frame : (memory bytes : List ℕ) (f n : ℕ) → n ≤ length (with_frame memory f bytes) → n ≤ length memory
long-with_frame memory bytes f n long =
    omega (arith, long, length-take (length memory) (take (f * 4096) memory ++ (bytes ++ drop (f * 4096 + length bytes) memory)))
