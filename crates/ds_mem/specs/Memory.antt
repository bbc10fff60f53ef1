-- Memory as one list of bytes, seen by frames of 4,096 bytes; its words are those of `ds_word`.
use Rattle.std.specs.Prelude.{ℕ, ◌+◌, ◌*◌, List, ◌++◌, length, take, drop, replicate}

-- so many zeros
unfoldable pub zeros : ℕ → List ℕ
zeros n = replicate n 0

-- the bytes of a frame
abbrev pub frame_of : List ℕ → ℕ → List ℕ
frame_of memory f = take 4096 (drop (f * 4096) memory)

-- memory with bytes written over it from a place on, up to its end
abbrev pub overwritten : List ℕ → ℕ → List ℕ → List ℕ
overwritten memory place bytes = take (length memory) (take place memory ++ (bytes ++ drop (place + length bytes) memory))

-- memory with the bytes of a frame replaced
abbrev pub with_frame : List ℕ → ℕ → List ℕ → List ℕ
with_frame memory f bytes = overwritten memory (f * 4096) bytes
