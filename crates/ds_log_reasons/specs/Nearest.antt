-- Which entry is nearest to an address.
use Rattle.std.specs.Prelude.{ℕ, ◌-◌, nat_lt, if◌then◌else◌, List, [], ◌∷◌, Option, Some, None}
use Rattle.ds_policy.specs.declared.grant.Entry.{Entry}

-- how far two addresses are from each other
abbrev pub distance : ℕ → ℕ → ℕ
distance first second = if nat_lt first second then second - first else first - second

-- the nearer of two entries to an address; where both are as near, the first
abbrev pub nearer : ℕ → Option Entry → Entry → Option Entry
nearer address None e = Some e
nearer address (Some before) e = if nat_lt (distance address e.address) (distance address before.address) then Some e else Some before

-- the nearest of these and of one that was found before
abbrev pub nearest_from : ℕ → Option Entry → List Entry → Option Entry
nearest_from address best [] = best
nearest_from address best (e ∷ rest) = nearest_from address (nearer address best e) rest

-- the nearest entry to an address; of those that are as near, the first
abbrev pub nearest : ℕ → List Entry → Option Entry
nearest address entries = nearest_from address None entries
