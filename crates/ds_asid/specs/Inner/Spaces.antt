-- Address space numbers: which process has which.
use Rattle.std.specs.Prelude.{ℕ, ◌==◌, nat_lt, if◌then◌else◌, slice_set, Option, Some, None}
use Rattle.ds_asid.specs.Spaces.{Spaces, at_start, space_number, space_taken}

-- the number of process p, if it has one
abbrev pub number_held : Spaces → ℕ → Option ℕ
number_held s p = if space_number s p == 0 then None else Some (space_number s p)

-- the same; where all numbers are used up every process has lost its own before
abbrev pub after_take : Spaces → ℕ → Spaces
after_take s p = if nat_lt s.next 64 then space_taken s p else space_taken at_start p

-- a process has no number any more
abbrev pub given_up : Spaces → ℕ → Spaces
given_up s p = record s { numbers = slice_set s.numbers p 0 }
