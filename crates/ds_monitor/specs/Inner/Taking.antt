-- What a call for a character takes and answers.
use Rattle.std.specs.Prelude.{ℕ, ◌-◌, ◌^◌, List, [], ◌∷◌, drop, slice_set}
use Rattle.ds_pagemap.specs.Machine.{State, process_of}
use Rattle.ds_pagemap.specs.Calls.{queue_of}

-- the answer: the oldest of the characters that wait, or all ones where there is none
abbrev pub got : List ℕ → ℕ
got [] = 2 ^ 32 - 1
got (byte ∷ rest) = byte

-- the oldest character of the line of a process is taken, if there is one
abbrev pub with_taken : ℕ → State → State
with_taken p m = record m { queues = slice_set m.queues (process_of m p).line (drop 1 (queue_of m p)) }
