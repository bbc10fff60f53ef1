-- The statuses with which the program ends.
use Rattle.std.specs.Prelude.{◌==◌, ◌&&◌, ◌||◌, ℕ, Bool, if◌then◌else◌, nat_le}

-- the fault refuses what was read: Random's start, an assembler's fault, the policy, a process that it lacks, the input, a
-- source that is missing or can't be read
abbrev pub refuses_input : ℕ → Bool
refuses_input number = number == 1 || ((nat_le 3 number && nat_le number 10)
    || (number == 12 || (number == 20 || (number == 24 || number == 26))))

-- the status that tells of a fault
abbrev pub fault_status : ℕ → ℕ
fault_status number = if refuses_input number then 2 else 3
