-- Blanks that stand together.
use Rattle.std.proofs.Common.{◌≡◌, ℕ, ◌≤◌, take, replicate}
use Rattle.std.proofs.lemmas.List.{take-replicate}

-- the first few of ten blanks
pub some_blanks : (n : ℕ) → n ≤ 10 → take n (replicate {A = ℕ} 10 32) ≡ replicate {A = ℕ} n 32
some_blanks n h = take-replicate {X = ℕ} n 10 32 h
