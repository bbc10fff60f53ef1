-- Address space numbers of processes.
use Rattle.std.proofs.Common.{ℕ, ◌<◌, arith}
use Rattle.ds_asid.specs.Spaces.{Spaces, AreApart, space_number}

-- each is one of 64
pub small_number : (s : Spaces) (p : ℕ) → AreApart s → space_number s p < 64
small_number s p apart = let below = apart.used p in let most = apart.high in omega (arith, below, most)
