-- How long a line can be.
use Rattle.std.specs.Prelude.{◌<◌, ◌^◌, ⊤}
use Rattle.ds_policy.specs.declared.access.Rule.{Rule}
use Rattle.ds_policy.specs.declared.access.Rule.TheVariants.{Number, K, A, I}
use Rattle.ds_log.specs.declared.line.Line.{Line}
use Rattle.ds_log.specs.declared.line.Line.TheVariants.{Denial, Refused}

-- the number of a rule, where it has one, has at most ten digits
abbrev pub IsShortRule : Rule → Type 0
IsShortRule (Number n) = n < 10 ^ 10
IsShortRule K = ⊤
IsShortRule A = ⊤
IsShortRule I = ⊤

-- the numbers have at most ten digits, a denial's code at most five, and a refused command's time at most twenty
abbrev pub IsShort : Line → Type 0
IsShort (Denial time process pc kind addr rule code) = (time < 10 ^ 10) × (process < 10 ^ 10) × IsShortRule rule × (code < 10 ^ 5)
IsShort (Refused time command number) = (time < 10 ^ 20) × (command < 10 ^ 10) × (number < 10 ^ 10)
