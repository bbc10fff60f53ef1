-- Words as bytes, the lowest byte first.
use Rattle.std.specs.Prelude.{ℕ, List, [], ◌∷◌, ◌++◌}
use Rattle.ds_word.specs.Bytes.{bytes_of_word}

-- the bytes of words, one word after the other
abbrev pub bytes_of_words : List ℕ → List ℕ
bytes_of_words [] = []
bytes_of_words (w ∷ ws) = bytes_of_word w ++ bytes_of_words ws
