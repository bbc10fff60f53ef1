-- The refill handler in memory (Kane and Heinrich, chapters 4 and 6).
use Rattle.std.specs.Prelude.{◌≡◌, ℕ, ◌+◌, ◌*◌, ◌<◌, List, [], ◌∷◌, slice_index}
use Rattle.ds_word.specs.Bytes.{word_at}

-- mfc0 $26,$4; mfc0 $27,$14; lw $26,0($26); nop; mtc0 $26,$2; addu $26,$0,$0; tlbwr; jr $27; rfe
abbrev pub words : List ℕ
words = 0x401A2000 ∷ 0x401B7000 ∷ 0x8F5A0000 ∷ 0 ∷ 0x409A1000 ∷ 0x0000D021 ∷ 0x42000006 ∷ 0x03600008 ∷ 0x42000010 ∷ []

-- the handler's words stand at the beginning of memory
pub record HasWords (memory : List ℕ) : Type 0 where
  pub at : (k : ℕ) → k < 9 → word_at memory (4 * k) ≡ slice_index words k

-- the address at which word k is fetched, in the kernel's segment that is not mapped
abbrev pub handler_address : ℕ → ℕ
handler_address k = 0x80000000 + 4 * k
