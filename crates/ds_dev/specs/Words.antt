-- Bits of a register's word.
use Rattle.std.specs.Prelude.{ℕ, Bool, ◌==◌}
use Rattle.ds_word.specs.Word.{bits}

-- whether a bit of a word is set
abbrev pub is_set : ℕ → ℕ → Bool
is_set w at = bits w at 1 == 1
