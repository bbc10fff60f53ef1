-- The characters of an input as they are kept: a byte for each, and for each `key` line where its bytes end.
use Rattle.std.specs.Prelude.{◌≡◌, ◌<◌, ◌-◌, ℕ, List, [], ◌∷◌, ◌++◌, length, take, drop}
use Rattle.ds_policy.specs.declared.command.Character.{Character}
use Rattle.ds_policy.specs.declared.events.characters.KeyLine.{KeyLine}
use Rattle.ds_policy.specs.InputText.{characters_of}

-- the characters of these lines, of which the first has its bytes from a place on
unfoldable pub characters_from : ℕ → List KeyLine → List ℕ → List Character
characters_from start [] bytes = []
characters_from start (l ∷ lines) bytes = characters_of l.time l.line (take (l.end - start) (drop start bytes)) ++ characters_from l.end lines bytes

-- each of these lines has some of the bytes from a place on, and together they have all of them
unfoldable pub AreKeyLines : ℕ → List KeyLine → List ℕ → Type 0
AreKeyLines start [] bytes = start ≡ length bytes
AreKeyLines start (l ∷ lines) bytes = (start < l.end) × AreKeyLines l.end lines bytes
