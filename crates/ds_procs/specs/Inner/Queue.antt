-- Processes that wait for their turn.
use Rattle.std.specs.Prelude.{ℕ, ◌<◌, ◌≤◌, ◌≢◌, ◌==◌, not, List, All, AllPairs, filter}

-- process numbers, none of them twice
pub record IsQueue (numbers : List ℕ) : Type 0 where
  pub numbered : All (λ p. (0 < p) × (p ≤ 100)) numbers
  pub distinct : AllPairs (λ p q. p ≢ q) numbers

-- the others, in their order
abbrev pub without : List ℕ → ℕ → List ℕ
without numbers p = filter (λ q. not (q == p)) numbers
