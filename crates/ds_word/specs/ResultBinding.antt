-- `do` over results with one type of errors.
use Rattle.std.specs.Prelude.{Result, Ok, Err}

-- the first error, or what comes of the value
infixl 10 ◌>>=◌
abbrev pub ◌>>=◌ : {E A B : Type 0} → Result A E → (A → Result B E) → Result B E
(Ok x) >>= f = f x
(Err e) >>= f = Err e
