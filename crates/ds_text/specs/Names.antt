-- Names of registers.
use Rattle.std.specs.Prelude.{codes, ℕ, bytes_eq, position, List, [], ◌∷◌, Option, slice_get, unwrap_or}

-- the names of the registers 0 to 31
abbrev pub register_names : List (List ℕ)
register_names =
    codes "zero" ∷ codes "at" ∷ codes "v0" ∷ codes "v1" ∷ codes "a0" ∷ codes "a1" ∷ codes "a2" ∷ codes "a3" ∷
    codes "t0" ∷ codes "t1" ∷ codes "t2" ∷ codes "t3" ∷ codes "t4" ∷ codes "t5" ∷ codes "t6" ∷ codes "t7" ∷
    codes "s0" ∷ codes "s1" ∷ codes "s2" ∷ codes "s3" ∷ codes "s4" ∷ codes "s5" ∷ codes "s6" ∷ codes "s7" ∷
    codes "t8" ∷ codes "t9" ∷ codes "k0" ∷ codes "k1" ∷ codes "gp" ∷ codes "sp" ∷ codes "fp" ∷ codes "ra" ∷ []

-- the name of a register; an empty one past 31
abbrev pub register_name : ℕ → List ℕ
register_name n = unwrap_or (slice_get register_names n) []

-- the number of the register of a name
abbrev pub register_named : List ℕ → Option ℕ
register_named name = position (λ r. bytes_eq r name) register_names
