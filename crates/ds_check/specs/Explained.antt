-- All that a reader is told of a policy and an input.
use Rattle.std.specs.Prelude.{codes, ℕ, List, ◌++◌}
use Rattle.ds_policy.specs.Value.{PolicyValue, InputValue}
use Rattle.ds_check.specs.Permissions.{table_text}
use Rattle.ds_check.specs.Limits.{limits_text}
use Rattle.ds_check.specs.Coming.{events_text}

-- the permission table at the start; what is near a limit; what comes
abbrev pub explained : PolicyValue → List ℕ → InputValue → List ℕ
explained p input v =
    codes "table\n" ++ table_text p ++ codes "limits\n" ++ limits_text p input ++ codes "events\n" ++ events_text p v
