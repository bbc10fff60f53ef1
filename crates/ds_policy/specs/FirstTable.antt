-- The table that a policy begins with, and what a table's calls need and answer.
use Rattle.std.specs.Prelude.{ℕ, ◌+◌, None, List, [], ◌∷◌, length, replicate}
use Rattle.ds_policy.specs.declared.policy.PolicyRule.{PolicyRule}
use Rattle.ds_policy.specs.declared.grant.Grant.{Grant}
use Rattle.ds_policy.specs.Pages.{Table, with_entry}
use Rattle.ds_policy.specs.Value.{PolicyValue}

-- what rule n grants
abbrev pub granted_by : ℕ → PolicyRule → Grant
granted_by n r = record { right = r.right; page = r.page; rule = n; give = r.give; giver = 0; parent = None; until = r.until }

-- a table and the entry of rule n
abbrev pub with_rule : Table → ℕ → PolicyRule → Table
with_rule t n r = with_entry t r.process r.address (granted_by n r)

-- a table and the entries of rules, of which the first is rule n
abbrev pub with_rules : Table → ℕ → List PolicyRule → Table
with_rules t n [] = t
with_rules t n (r ∷ rest) = with_rules (with_rule t n r) (n + 1) rest

-- the table that a policy begins with
abbrev pub table_of : PolicyValue → Table
table_of p = with_rules (replicate (length p.processes) []) 1 p.rules
