-- What is said of so many numbers, one after another.
use Rattle.std.specs.Prelude.{ℕ, zero, suc, ◌+◌, List, [], ◌++◌}

-- what f says of each of so many numbers, the first of which is i
unfoldable pub each : (ℕ → List ℕ) → ℕ → ℕ → List ℕ
each f i zero = []
each f i (suc n) = f i ++ each f (i + 1) n
