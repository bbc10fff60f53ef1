-- A source in the place of a policy, and a policy in the place of a source.
use Rattle.std.specs.Prelude.{ℕ, Bool, false, not, ◌&&◌, ◌==◌, if◌then◌else◌, List, [], ◌∷◌, length, Option, None, Some, is_ok}
use Rattle.ds_asm.specs.Assembly.{lines_of}
use Rattle.ds_asm.specs.Characters.{trimmed, until}
use Rattle.ds_asm.specs.Lines.{line_of}
use Rattle.ds_policy_reasons.specs.Keys.{is_key, key_in, key_text}

-- whether a line says nothing before its comment
abbrev pub is_silent : List ℕ → Bool
is_silent line = length (trimmed (until 35 line)) == 0

-- the first line that says something, or an empty one
abbrev pub first_said : List (List ℕ) → List ℕ
first_said [] = []
first_said (line ∷ lines) = if is_silent line then first_said lines else line

-- whether the first line that says something is one that the assembler reads
unfoldable pub reads_as_source : List ℕ → Bool
reads_as_source text = not (is_silent (first_said (lines_of text))) && is_ok (line_of (first_said (lines_of text)))

-- whether a key may be there that a policy has
abbrev pub is_key_there : Option (List ℕ) → Bool
is_key_there None = false
is_key_there (Some name) = is_key name

-- whether the first line that says something begins with a key of a policy
unfoldable pub reads_as_policy : List ℕ → Bool
reads_as_policy text = is_key_there (key_in (key_text (first_said (lines_of text))))
