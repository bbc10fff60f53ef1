-- What is worth a look in an input: more characters of one time than a boundary takes.
use Rattle.std.specs.Prelude.{ℕ, ◌+◌, Bool, false, ◌==◌, nat_lt, if◌then◌else◌, List, [], ◌∷◌, ◌++◌, slice_get, Option, Some, None}
use Rattle.ds_policy.specs.declared.command.Character.{Character}
use Rattle.ds_check.specs.declared.notes.input.Crowd.{Crowd}

-- a character, if there is one, has this time
abbrev pub comes_then : ℕ → Option Character → Bool
comes_then time None = false
comes_then time (Some c) = c.time == time

-- so many characters come in at a time; a boundary takes 64
abbrev pub crowd : ℕ → ℕ → List Crowd
crowd time count = if nat_lt 64 count then record { time = time; count = count } ∷ [] else []

-- the crowds among characters in order, behind so many with the time of the first
abbrev pub crowds_after : ℕ → List Character → List Crowd
crowds_after count [] = []
crowds_after count (c ∷ cs) = if comes_then c.time (slice_get cs 0) then crowds_after (count + 1) cs else crowd c.time (count + 1) ++ crowds_after 0 cs

-- the crowds among the characters of an input
abbrev pub crowds : List Character → List Crowd
crowds cs = crowds_after 0 cs
