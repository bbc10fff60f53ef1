-- A new memory: its length and its frames, for those who take the first state of a machine.
use Rattle.std.proofs.Common.{◌≡◌, ℕ, ◌+◌, ◌-◌, ◌*◌, ◌≤◌, length, take, ap, ◌∙◌, arith}
use Rattle.std.proofs.lemmas.List.{length-replicate, drop-replicate, take-replicate}
use Rattle.ds_mem.specs.Memory.{zeros, frame_of}

-- so many zeros
pub length-zeros : (n : ℕ) → length (zeros n) ≡ n
unfolding zeros
length-zeros n = length-replicate n 0

-- each frame of them is zeros
pub frame_of-zeros : (n f : ℕ) → f * 4096 + 4096 ≤ n → frame_of (zeros n) f ≡ zeros 4096
unfolding zeros
frame_of-zeros n f within =
    let enough : 4096 ≤ n - f * 4096 = omega arith in
    ap (take 4096) (drop-replicate (f * 4096) n 0) ∙ take-replicate 4096 (n - f * 4096) 0 enough
