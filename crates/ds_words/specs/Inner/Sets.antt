-- Sets of processes.
use Rattle.std.specs.Prelude.{ℕ, Bool, ◌&&◌, ◌==◌, nat_le, List}
use Rattle.std.specs.List.{list_any}

-- whether a process is among those of these numbers; none has a number above 100
abbrev pub is_among : List ℕ → ℕ → Bool
is_among numbers p = nat_le p 100 && list_any (λ n. n == p) numbers
