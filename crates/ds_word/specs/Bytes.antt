-- Words as bytes, the lowest byte first.
use Rattle.std.specs.Prelude.{ℕ, ◌+◌, ◌-◌, ◌*◌, ◌/◌, ◌%◌, ◌^◌, List, [], ◌∷◌, ◌++◌, take, drop, slice_index}

-- the four bytes of a word
abbrev pub bytes_of_word : ℕ → List ℕ
bytes_of_word w = (w % 2 ^ 8) ∷ (w / 2 ^ 8 % 2 ^ 8) ∷ (w / 2 ^ 16 % 2 ^ 8) ∷ (w / 2 ^ 24) ∷ []

-- the aligned word in which a place lies
abbrev pub word_at : List ℕ → ℕ → ℕ
word_at bytes place =
    let p = place - place % 4 in
    slice_index bytes p + 2 ^ 8 * slice_index bytes (p + 1)
    + 2 ^ 16 * slice_index bytes (p + 2) + 2 ^ 24 * slice_index bytes (p + 3)

-- bytes with the aligned word in which a place lies replaced
abbrev pub with_word : List ℕ → ℕ → ℕ → List ℕ
with_word bytes place w =
    let p = place - place % 4 in
    take p bytes ++ (bytes_of_word w ++ drop (p + 4) bytes)
