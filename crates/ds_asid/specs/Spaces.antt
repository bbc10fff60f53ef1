-- Address space numbers: which process has which.
use Rattle.std.specs.Prelude.{◌≡◌, ℕ, ◌+◌, ◌<◌, ◌≤◌, List, length, replicate, slice_index, slice_set}

-- which process has which number, and which numbers are left
pub record Spaces : Type 0 where
  -- the number of process p at place p, 0 where it has none
  pub numbers : List ℕ
  -- the lowest number that was not handed out since the last flush
  pub next : ℕ

-- no process has a number
abbrev pub at_start : Spaces
at_start = record { numbers = replicate 101 0; next = 1 }

-- a process's number, or 0
abbrev pub space_number : Spaces → ℕ → ℕ
space_number s p = slice_index s.numbers p

-- the next number is handed out to a process
abbrev pub space_taken : Spaces → ℕ → Spaces
space_taken s p = record { numbers = slice_set s.numbers p s.next; next = s.next + 1 }

-- no two processes hold one number, and none holds one that is still to be handed out
pub record AreApart (s : Spaces) : Type 0 where
  pub places : length s.numbers ≡ 101
  pub low : 1 ≤ s.next
  pub high : s.next ≤ 64
  pub used : (p : ℕ) → space_number s p < s.next
  pub apart : (p q : ℕ) → 0 < space_number s p → space_number s p ≡ space_number s q → p ≡ q
