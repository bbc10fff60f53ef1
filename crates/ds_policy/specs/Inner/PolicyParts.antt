-- What the parts of a policy's document mean.
use Rattle.std.specs.Prelude.{ℕ, List, [], ◌∷◌, ◌++◌, Option, Some, None, if◌then◌else◌}
use Rattle.ds_policy.specs.Document.{is_among}
use Rattle.ds_policy.specs.declared.policy.Source.{Source}

-- the name of the source too, where it is new
abbrev pub with_source : List (List ℕ) → Option Source → List (List ℕ)
with_source names None = names
with_source names (Some s) = if is_among names s.name then names else names ++ s.name ∷ []
