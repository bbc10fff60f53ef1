-- Worked rows, by computation.
use Rattle.std.specs.Prelude.{◌≡◌, ℕ, [], ◌∷◌, false, true, refl}
use Rattle.ds_pages.specs.declared.operation.OperationKind.{OperationKind}
use Rattle.ds_pages.specs.declared.operation.OperationKind.TheVariants as kind
use Rattle.ds_pages.specs.declared.does.Does.TheVariants as does
use Rattle.ds_pages.specs.Inner.Does.{steps}
use Rattle.ds_pages.specs.Inner.Places.{Fields, offset_of, stays, done_by}

-- lw $8, 4($9)
abbrev load : Fields
load = record { kind = kind.Lw; to = 8; first = 9; second = 0; immediate = 4 }

-- addu $10, of two registers
abbrev sum : ℕ → ℕ → Fields
sum s t = record { kind = kind.Addu; to = 10; first = s; second = t; immediate = 0 }

-- a branch on $8, or a jump, at a distance from its own address
abbrev leading : OperationKind → ℕ → Fields
leading k distance = record { kind = k; to = 1; first = 8; second = 0; immediate = distance }

-- a load is done, unless the next operation reads its register as the first, or as the second
pub loads : done_by 5 load (sum 9 11) ∷ done_by 5 load (sum 8 11) ∷ done_by 5 load (sum 11 8) ∷ [] ≡ does.Lw ∷ does.Left ∷ does.Left ∷ []
loads = refl

-- a load into the register that the next one writes is done; so is a sum, whatever comes next
pub writers : done_by 5 load load ∷ done_by 5 (sum 8 9) (sum 10 10) ∷ [] ≡ does.Lw ∷ does.Addu ∷ []
writers = refl

-- places 12 and 7 with a distance of eight words back
pub offsets : offset_of 12 0xFFFFFFE0 ∷ offset_of 7 0xFFFFFFE0 ∷ [] ≡ 16 ∷ 0xFFFFFFFC ∷ []
offsets = refl

-- the first place, the last, the one after it, and one before the first; between two words
pub inside : stays 8 0xFFFFFFE0 ∷ stays 1000 92 ∷ stays 1000 96 ∷ stays 7 0xFFFFFFE0 ∷ stays 8 2 ∷ [] ≡ true ∷ true ∷ false ∷ false ∷ false ∷ []
inside = refl

-- a branch is done inside the page, and left out of it or without its slot; a jump has its slot alone to be asked
pub branches : done_by 12 (leading kind.Bne 0xFFFFFFE0) load ∷ done_by 7 (leading kind.Bne 0xFFFFFFE0) load ∷ done_by 1023 (leading kind.Bne 0xFFFFFFE0) load
    ∷ done_by 7 (leading kind.J 0x400000) load ∷ done_by 1023 (leading kind.Jr 0) load ∷ [] ≡ does.Bne ∷ does.Left ∷ does.Left ∷ does.J ∷ does.Left ∷ []
branches = refl

-- a call, and an instruction that is no operation
pub others : done_by 0 (leading kind.Syscall 0) load ∷ done_by 0 (leading kind.Other 0) load ∷ [] ≡ does.Call ∷ does.Left ∷ []
others = refl

-- a sum, a load, and a branch with its slot: four steps from the first; two before a call; none at what is left or not known
pub lengths : steps does.Addu (steps does.Lw (steps does.Bne 1)) ∷ steps does.Addu (steps does.Sw (steps does.Call 7)) ∷ steps does.Left 7 ∷ steps does.Unknown 7 ∷ [] ≡ 4 ∷ 2 ∷ 0 ∷ 0 ∷ []
lengths = refl
