-- The text of a line of the log.
use Rattle.std.specs.Prelude.{ℕ, zero, suc, ◌+◌, ◌/◌, ◌%◌, nat_lt, if◌then◌else◌, List, [], ◌∷◌, ◌++◌, decimal, codes}
use Rattle.ds_text.specs.Digits.{hex8}
use Rattle.ds_policy.specs.declared.access.Rule.{Rule}
use Rattle.ds_policy.specs.declared.access.Rule.TheVariants.{Number, K, A, I}
use Rattle.ds_log.specs.declared.line.Line.{Line}
use Rattle.ds_log.specs.declared.line.Line.TheVariants.{Denial, Refused}
use Rattle.ds_log.specs.declared.line.Denied.{Denied}
use Rattle.ds_log.specs.declared.line.Denied.TheVariants as denied

-- the word for what was denied
abbrev pub kind_text : Denied → List ℕ
kind_text denied.Fetch = codes "fetch"
kind_text denied.Load = codes "load"
kind_text denied.Store = codes "store"
kind_text denied.Exec = codes "exec"
kind_text denied.Give = codes "give"

-- the rule that denied it
abbrev pub rule_text : Rule → List ℕ
rule_text (Number n) = codes "r" ++ decimal n
rule_text K = codes "K"
rule_text A = codes "A"
rule_text I = codes "I"

-- a space
abbrev pub sp : List ℕ
sp = 32 ∷ []

-- a line with its line feed
abbrev pub line_text : Line → List ℕ
line_text (Denial time process pc kind addr rule code) =
    decimal time ++ sp ++ decimal process ++ sp ++ hex8 pc ++ sp ++ kind_text kind ++ sp ++ hex8 addr ++ sp ++ rule_text rule ++ sp ++ decimal code ++ 10 ∷ []
line_text (Refused time command number) = decimal time ++ codes " command " ++ decimal command ++ codes " refused " ++ decimal number ++ 10 ∷ []
