-- Words of a packet: parts, numbers, and processes.
use Rattle.std.specs.Prelude.{ℕ, ◌-◌, ◌^◌, Bool, ◌==◌, ◌&&◌, ◌||◌, nat_le, bytes_eq, codes, List, [], ◌∷◌, length, Option, Some, None, option_map, if◌then◌else◌}
use Rattle.std.specs.List.{after_first, before_first, slice_split}
use Rattle.ds_word.specs.Digits.{digits_from}
use Rattle.ds_word.specs.OptionBinding.{◌>>=◌}
use Rattle.ds_packets.specs.declared.packet.Who.{Who}
use Rattle.ds_packets.specs.declared.packet.Who.TheVariants as who

-- what stands before a byte of a word
abbrev pub before : ℕ → List ℕ → List ℕ
before mark word = before_first (λ b. b == mark) word

-- what stands after it
abbrev pub after_mark : ℕ → List ℕ → List ℕ
after_mark mark word = after_first (λ b. b == mark) word

-- the words of a list, which semicolons part
abbrev pub parts : List ℕ → List (List ℕ)
parts text = slice_split (λ b. b == 59) text

-- one to eight hexadecimal digits
abbrev pub hex_number : List ℕ → Option ℕ
hex_number word = if nat_le 1 (length word) && nat_le (length word) 8 then digits_from 16 (2 ^ 32 - 1) 0 word else None

-- the two numbers on both sides of a comma
abbrev pub pair_at : List ℕ → Option (ℕ × ℕ)
pair_at word = do
  first ← hex_number (before 44 word)
  second ← hex_number (after_mark 44 word)
  Some (first, second)

-- the process of a number; 0 is any
abbrev pub process_numbered : ℕ → Who
process_numbered n = if n == 0 then who.Any else who.Process n

-- the processes that a word names: -1 is all of them
abbrev pub named : List ℕ → Option Who
named word = if bytes_eq word (codes "-1") then Some who.All else option_map process_numbered (hex_number word)

-- a word that names the one thread of a process, or all
abbrev pub is_thread : List ℕ → Bool
is_thread word = (length word == 0) || bytes_eq word (codes "1") || bytes_eq word (codes "0") || bytes_eq word (codes "-1")

-- the processes that a word names, with a point and one thread of theirs, or all
abbrev pub threaded : List ℕ → Option Who
threaded word = if is_thread (after_mark 46 word) then named (before 46 word) else None

-- the processes of a thread's name, as p2.1, p2.-1, 2, -1 and 0
abbrev pub who_of : List ℕ → Option Who
who_of [] = named []
who_of (c ∷ rest) = if c == 112 then threaded rest else named (c ∷ rest)
