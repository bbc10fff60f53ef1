-- A store on the bytes of a page.
use Rattle.std.specs.Prelude.{ℕ, Bool, true, false, List}
use Rattle.ds_policy.specs.declared.access.Verdict.{Verdict}
use Rattle.ds_policy.specs.declared.access.Verdict.TheVariants.{Allowed, Denied}
use Rattle.ds_word.specs.Bytes.{with_word}

-- the bytes of a page after the store of a word, which is done where it is allowed
abbrev pub stored_where_allowed : List ℕ → Verdict → ℕ → List ℕ
stored_where_allowed bytes (Allowed page offset) w = with_word bytes offset w
stored_where_allowed bytes (Denied rule code) w = bytes

-- the table allows it
abbrev pub is_allowed : Verdict → Bool
is_allowed (Allowed page offset) = true
is_allowed (Denied rule code) = false
