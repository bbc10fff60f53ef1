-- Registers in a source.
use Rattle.std.specs.Prelude.{ℕ, ◌+◌, ◌-◌, ◌*◌, not, ◌&&◌, ◌==◌, nat_lt, if◌then◌else◌, List, [], ◌∷◌, Option, Some, None}
use Rattle.std.specs.Option.{option_or}
use Rattle.ds_text.specs.Names.{register_named}
use Rattle.ds_asm.specs.Characters.{is_digit}

-- 0 to 31 without leading zeros
abbrev pub register_numbered : List ℕ → Option ℕ
register_numbered (c ∷ []) = if is_digit c then Some (c - 48) else None
register_numbered (c ∷ d ∷ []) = if is_digit c && is_digit d && not (c == 48) && nat_lt ((c - 48) * 10 + (d - 48)) 32 then Some ((c - 48) * 10 + (d - 48)) else None
register_numbered _ = None

-- a register of the system coprocessor, which has a number only
abbrev pub system_register_of : List ℕ → Option ℕ
system_register_of [] = None
system_register_of (c ∷ rest) = if c == 36 then register_numbered rest else None

-- a general register, by its number or its name
abbrev pub register_of : List ℕ → Option ℕ
register_of [] = None
register_of (c ∷ rest) = if c == 36 then option_or (register_numbered rest) (register_named rest) else None
