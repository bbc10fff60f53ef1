-- Numbers in hexadecimal digits, as gdb has them.
use Rattle.std.specs.Prelude.{codes, ℕ, nat_lt, if◌then◌else◌, List, [], ◌∷◌, Option, Some, None}
use Rattle.ds_word.specs.Bytes.{bytes_of_word}
use Rattle.ds_text.specs.Digits.{lower_hex_digit}
use Rattle.ds_packets.specs.Framing.{hex_pair, hex_text}

-- a word, its lowest byte first
abbrev pub low_first_text : ℕ → List ℕ
low_first_text w = hex_text (bytes_of_word w)

-- a number below 256, with no zero before it
abbrev pub number_text : ℕ → List ℕ
number_text n = if nat_lt n 16 then lower_hex_digit n ∷ [] else hex_pair n

-- a word, or a sign for one that is not told
abbrev pub word_or_none : Option ℕ → List ℕ
word_or_none None = codes "xxxxxxxx"
word_or_none (Some w) = low_first_text w
