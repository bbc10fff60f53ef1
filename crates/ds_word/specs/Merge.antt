-- What an access to part of an aligned word makes of the word and a register. The byte b of the
-- word w, from 0 for the lowest to 3, is the one that is addressed.
use Rattle.std.specs.Prelude.{ℕ, ◌+◌, ◌-◌, ◌*◌, ◌/◌, ◌%◌, ◌^◌}
use Rattle.ds_word.specs.Word.{word}

-- the register after LWL: the bytes of w up to b on top, the rest of the register below
abbrev pub merged_left : ℕ → ℕ → ℕ → ℕ
merged_left w b reg = word (w * 2 ^ (24 - 8 * b)) + reg % 2 ^ (24 - 8 * b)

-- the register after LWR: the bytes of w from b on below, the rest of the register on top
abbrev pub merged_right : ℕ → ℕ → ℕ → ℕ
merged_right w b reg = w / 2 ^ (8 * b) + reg / 2 ^ (32 - 8 * b) * 2 ^ (32 - 8 * b)

-- w with the bits lo to lo + width - 1 those of v
abbrev pub with_bits : ℕ → ℕ → ℕ → ℕ → ℕ
with_bits w lo width v = w % 2 ^ lo + v % 2 ^ width * 2 ^ lo + w / 2 ^ (lo + width) * 2 ^ (lo + width)

-- the word after SWL: its bytes up to b are the top bytes of the register
abbrev pub stored_left : ℕ → ℕ → ℕ → ℕ
stored_left w b reg = with_bits w 0 (8 * b + 8) (reg / 2 ^ (24 - 8 * b))

-- the word after SWR: its bytes from b on are the low bytes of the register
abbrev pub stored_right : ℕ → ℕ → ℕ → ℕ
stored_right w b reg = with_bits w (8 * b) (32 - 8 * b) reg
