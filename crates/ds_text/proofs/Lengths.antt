-- How long digits are.
use Rattle.std.proofs.Common.{◌≡◌, refl, ℕ, length}
use Rattle.ds_text.specs.Digits.{hex4, hex8}

pub length-hex8 : (n : ℕ) → length (hex8 n) ≡ 8
unfolding hex4 hex8
length-hex8 n = refl
