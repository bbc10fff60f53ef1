-- Rights that end by themselves: when one has ended, and what is left of its entry.
use Rattle.std.specs.Prelude.{ℕ, if◌then◌else◌, List, [], ◌∷◌, Option, Some, None}
use Rattle.ds_policy.specs.declared.grant.Entry.{Entry}
use Rattle.ds_policy.specs.Ends.{has_expired}

-- the first of a process's entries whose right has ended by a time
abbrev pub first_expired : ℕ → List Entry → Option Entry
first_expired time [] = None
first_expired time (e ∷ rest) = if has_expired time e then Some e else first_expired time rest
