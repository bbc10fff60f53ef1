-- Places of accesses that suit their sizes, as their addresses do.
use Rattle.std.proofs.Common.{◌≡◌, ℕ, ◌%◌, ◌==◌, ◌^◌, true, arith}
use Rattle.std.proofs.lemmas.Bool.Decides.{nat_tests}
use Rattle.ds_isa.specs.declared.instr.Size.{Size}
use Rattle.ds_isa.specs.declared.instr.Size.TheVariants.{Byte, Half, Word, Part}
use Rattle.ds_isa.specs.Access.{is_aligned}
use Rattle.ds_dev.specs.Inner.Bus.{alignment}

is_even : (n address : ℕ) → (address % n == 0) ≡ true → address % n ≡ 0
is_even n address is = grind (arith, nat_tests)

-- a place suits the size that its address suits
pub suits_place : (size : Size) (address place : ℕ) → is_aligned size address ≡ true → place % 2 ^ 12 ≡ address % 2 ^ 12 → place % alignment size ≡ 0
suits_place Byte address place is offset = omega arith
suits_place Half address place is offset = let even : address % 2 ≡ 0 = is_even 2 address is in omega (arith, even, offset)
suits_place Word address place is offset = let even : address % 4 ≡ 0 = is_even 4 address is in omega (arith, even, offset)
suits_place Part address place is offset = omega arith
