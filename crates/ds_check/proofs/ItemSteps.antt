-- Lines with a key or a header, a line at a time.
use Rattle.std.proofs.Common.{◌≡◌, refl, ℕ, ◌+◌, ◌-◌, ◌&&◌, true, false, List, ◌∷◌, None, Some, nat_le}
use Rattle.std.specs.Prelude.{codes, if◌then◌else◌}
use Rattle.ds_check.specs.Items.{begins_key, begins_with_word, header_from, key_from}

-- a line that begins with a bracket ends the search for a key
pub key_barred : (key : List ℕ) (n : ℕ) (lines rest : List (List ℕ)) (line : List ℕ) → lines ≡ line ∷ rest → begins_with_word (codes "[") line ≡ true → None ≡ key_from key n lines
key_barred key n lines rest line is barred = rw (is, barred) refl

-- the key stands in this line
pub key_here : (key : List ℕ) (n : ℕ) (lines rest : List (List ℕ)) (line : List ℕ) → lines ≡ line ∷ rest → begins_with_word (codes "[") line ≡ false → begins_key key line ≡ true → Some n ≡ key_from key n lines
key_here key n lines rest line is free here = rw (is, free, here) refl

-- or in one after it
pub key_later : (key : List ℕ) (n : ℕ) (lines rest : List (List ℕ)) (line : List ℕ) → lines ≡ line ∷ rest → begins_with_word (codes "[") line ≡ false → begins_key key line ≡ false → key_from key (n + 1) rest ≡ key_from key n lines
key_later key n lines rest line is free other = rw (is, free, other) refl

-- the header that is wanted stands in this line
pub header_here : (header : List ℕ) (n k : ℕ) (lines rest : List (List ℕ)) (line : List ℕ) → lines ≡ line ∷ rest → (begins_with_word header line && nat_le k 1) ≡ true → Some n ≡ header_from header n k lines
header_here header n k lines rest line is here = rw (is, here) refl

-- or in one after it
pub header_later : (header : List ℕ) (n k : ℕ) (lines rest : List (List ℕ)) (line : List ℕ) → lines ≡ line ∷ rest → (begins_with_word header line && nat_le k 1) ≡ false
    → header_from header (n + 1) (if begins_with_word header line then k - 1 else k) rest ≡ header_from header n k lines
header_later header n k lines rest line is other = rw (is, other) refl
