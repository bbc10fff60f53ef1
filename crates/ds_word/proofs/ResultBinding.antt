-- What `do` over results answers.
use Rattle.std.proofs.Common.{◌≡◌, Result, Ok, Err, refl}
use Rattle.ds_word.specs.ResultBinding.{◌>>=◌}

-- what is good at the end was good at each step
pub bind_ok : {E A B : Type 0} (r : Result A E) (f : A → Result B E) (y : B) → (r >>= f) ≡ Ok y → (x : A) × (r ≡ Ok x) × (f x ≡ Ok y)
bind_ok (Err e) f y h = cc
bind_ok (Ok x) f y h = (x, refl, h)
