-- The table that a policy begins with, and what a table's calls need and answer.
use Rattle.std.specs.Prelude.{ℕ, ◌+◌, ◌<◌, ◌≤◌, ◌==◌, ◌&&◌, if◌then◌else◌, Option, Some, None, List, [], ◌∷◌, length, count_by}
use Rattle.std.specs.List.{All}
use Rattle.ds_policy.specs.declared.policy.PolicyRule.{PolicyRule}
use Rattle.ds_policy.specs.declared.grant.Grant.{Grant}
use Rattle.ds_policy.specs.declared.access.Verdict.{Verdict}
use Rattle.ds_policy.specs.declared.access.Verdict.TheVariants.{Allowed, Denied}
use Rattle.ds_policy.specs.Pages.{Table, entries_of}
use Rattle.ds_policy.specs.FirstTable.{granted_by}

-- what the rules, of which the first is rule n, grant a process at an address
abbrev pub granted_at : ℕ → List PolicyRule → ℕ → ℕ → Option Grant
granted_at n [] process address = None
granted_at n (r ∷ rest) process address = if r.process == process && r.address == address then Some (granted_by n r) else granted_at (n + 1) rest process address

-- each process has room for the entries that rules give it
abbrev pub HasRoom : Table → List PolicyRule → Type 0
HasRoom t rules = (q : ℕ) → 0 < q → length (entries_of t q) + count_by (λ (r : PolicyRule). r.process == q) rules ≤ 256

-- the rules are about processes from 1 to n
abbrev pub AreWithin : ℕ → List PolicyRule → Type 0
AreWithin n rules = All (λ (r : PolicyRule). (1 ≤ r.process) × (r.process ≤ n)) rules

-- an access that is allowed lies in its page
abbrev pub IsWithinPage : Verdict → Type 0
IsWithinPage (Allowed page offset) = offset < 4096
IsWithinPage (Denied rule code) = Unit {0}
