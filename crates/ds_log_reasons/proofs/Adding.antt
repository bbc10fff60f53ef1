-- What is added to a text, one after another.
use Rattle.std.proofs.Common.{◌≡◌, ◌∙◌, ℕ, List, ◌++◌, append_assoc, ap, Result, Ok, Err}
use Rattle.std.specs.Prelude.{OnOk}

-- what is added after what was added
pub after_all : (old x s e : List ℕ) → s ≡ old ++ x → s ++ e ≡ old ++ (x ++ e)
after_all old x s e is = ap (λ (l : List ℕ). l ++ e) is ∙ append_assoc old x e

pub joined : (old x y s t : List ℕ) → s ≡ old ++ x → t ≡ s ++ y → t ≡ old ++ (x ++ y)
joined old x y s t is adds = adds ∙ after_all old x s y is

-- where an answer comes, what follows of what is known then
pub gives : {T E P Q : Type 0} (r : Result T E) → (P → Q) → OnOk r P → OnOk r Q
gives (Ok x) f p = f p
gives (Err e) f p = tt
