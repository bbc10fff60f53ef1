-- Characters that are still to come.
use Rattle.std.proofs.Common.{ℕ, suc, ◌≤◌, Bool, true, false, List, [], ◌∷◌, length, arith}
use Rattle.std.specs.Prelude.{nat_le, if◌then◌else◌}
use Rattle.ds_policy.specs.declared.command.Character.{Character}
use Rattle.ds_bare.specs.Machine.{still_coming}

fewer_by : (due : Bool) (time : ℕ) (c : Character) (cs : List Character) → length (still_coming time cs) ≤ length cs → length (if due then still_coming time cs else c ∷ cs) ≤ suc (length cs)
fewer_by true time c cs fewer = omega (arith, fewer)
fewer_by false time c cs fewer = omega arith

-- they are no more than before
pub fewer_come : (time : ℕ) (cs : List Character) → length (still_coming time cs) ≤ length cs
fewer_come time [] = omega arith
fewer_come time (c ∷ cs) = fewer_by (nat_le c.time time) time c cs (fewer_come time cs)
