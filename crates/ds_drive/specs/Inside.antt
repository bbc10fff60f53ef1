-- Which names of sources lead out of the folder in which they are looked up.
use Rattle.std.specs.Prelude.{◌==◌, ◌&&◌, ◌||◌, ℕ, Bool, false, List, [], ◌∷◌, Option, None, Some, if◌then◌else◌}

-- the first part of a name is `..`
abbrev pub begins_up : List ℕ → Bool
begins_up [] = false
begins_up (a ∷ []) = false
begins_up (a ∷ b ∷ []) = a == 46 && b == 46
begins_up (a ∷ b ∷ c ∷ rest) = (a == 46 && b == 46) && c == 47

-- a part of a name after its first is `..`
abbrev pub goes_up : List ℕ → Bool
goes_up [] = false
goes_up (byte ∷ rest) = (byte == 47 && begins_up rest) || goes_up rest

-- a name begins with `/`
abbrev pub is_rooted : List ℕ → Bool
is_rooted [] = false
is_rooted (first ∷ rest) = first == 47

-- a name begins with `/`, or has a part that is `..`
abbrev pub leads_out : List ℕ → Bool
leads_out name = (is_rooted name || begins_up name) || goes_up name

-- the name leads out of the folder in which sources have to be
abbrev pub is_outside : Bool → List ℕ → Bool
is_outside inside name = inside && leads_out name

-- of these sources the first whose name does
abbrev pub outside_of : Bool → List (List ℕ) → Option (List ℕ)
outside_of inside [] = None
outside_of inside (name ∷ names) = if is_outside inside name then Some name else outside_of inside names
