-- What is told to a place that takes bytes.
use Rattle.std.specs.Prelude.{◌≡◌, ℕ, Bool, false, List, ◌++◌, Option}
use Rattle.std.specs.Io.KnownBytes.{Appends}
use Rattle.ds_text.specs.Sent.{WriterAnswers, AppendsPart, IsAskedOnce}

-- what a place held and had answered before, and what now, where that is known
pub record Listener : Type 0 where
  pub old : Option (List ℕ)
  pub new : Option (List ℕ)
  pub before : Option WriterAnswers
  pub after : Option WriterAnswers

-- these four
abbrev pub listener : Option (List ℕ) → Option (List ℕ) → Option WriterAnswers → Option WriterAnswers → Listener
listener old new before after = record { old = old; new = new; before = before; after = after }

-- a text was told: the whole of it, or a front of it to a place that then took nothing more
pub record IsToldText (l : Listener) (text : List ℕ) : Type 0 where
  pub failed : Bool
  pub once : IsAskedOnce l.before l.after failed
  pub front : AppendsPart l.old l.new text
  pub whole : failed ≡ false → Appends l.old l.new text

-- a text was told, and behind it another, as far as there was memory for that
pub record TellsSome (l : Listener) (text afterwards : List ℕ) : Type 0 where
  pub told : List ℕ
  pub untold : List ℕ
  pub all : told ++ untold ≡ afterwards
  pub tells : IsToldText l (text ++ told)
