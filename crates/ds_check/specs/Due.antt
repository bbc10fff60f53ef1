-- What comes during a run besides characters, by its time: ends of rights, and commands.
use Rattle.std.specs.Prelude.{ℕ, ◌+◌, Bool, nat_le, nat_lt, List, [], ◌∷◌, insert, map, option_map, Option, None, Some}
use Rattle.std.specs.List.{prefix_len}
use Rattle.ds_policy.specs.declared.command.TimedCommand.{TimedCommand}
use Rattle.ds_policy.specs.declared.policy.PolicyRule.{PolicyRule}
use Rattle.ds_check.specs.declared.due.RuleEnd.{RuleEnd}
use Rattle.ds_check.specs.declared.due.Due.{Due}
use Rattle.ds_check.specs.declared.due.Due.TheVariants.{End, Command}

-- when it comes
abbrev pub time_of : Due → ℕ
time_of (End e) = e.time
time_of (Command k) = k.time

-- the end of the rule of this number, if it has one
abbrev pub end_of : ℕ → PolicyRule → Option RuleEnd
end_of number r = option_map (λ time. record { time = time; rule = number; process = r.process; address = r.address; page = r.page }) r.until

-- an end of this time comes after ends of its time and before commands of its time
abbrev pub comes_before : ℕ → Due → Bool
comes_before time (End e) = nat_le e.time time
comes_before time (Command k) = nat_lt k.time time

-- what is in the order of its times, and an end that may be there
abbrev pub with_end : Option RuleEnd → List Due → List Due
with_end None due = due
with_end (Some e) due = insert due (prefix_len (comes_before e.time) due) (End e)

-- and the ends of these rules, of which the first has this number
abbrev pub with_ends : ℕ → List PolicyRule → List Due → List Due
with_ends number [] due = due
with_ends number (r ∷ rules) due = with_ends (number + 1) rules (with_end (end_of number r) due)

-- the commands of an input, and the ends of these rules
abbrev pub due_of : List PolicyRule → List TimedCommand → List Due
due_of rules commands = with_ends 1 rules (map (λ k. Command k) commands)
