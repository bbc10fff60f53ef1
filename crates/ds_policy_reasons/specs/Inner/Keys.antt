-- A key that no policy has, and the one that is meant by it.
use Rattle.ds_policy_reasons.specs.declared.keys.OddKey as code
use Rattle.ds_policy_reasons.specs.Keys.{OddKey}

-- the same of the code
abbrev pub plain_odd : code.OddKey → OddKey
plain_odd k = record { name = k.name.now; line = k.line; column = k.column }
