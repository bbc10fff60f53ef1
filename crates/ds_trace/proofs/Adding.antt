-- What is added to a text, one after another.
use Rattle.std.proofs.Common.{◌≡◌, ◌∙◌, ℕ, List, [], ◌++◌, append_assoc, ap, Result, Ok, Err}
use Rattle.std.specs.Prelude.{OnOk, if◌then◌else◌, is_ok}

-- what is added after what was added
pub after_all : (old x s e : List ℕ) → s ≡ old ++ x → s ++ e ≡ old ++ (x ++ e)
after_all old x s e is = ap (λ (l : List ℕ). l ++ e) is ∙ append_assoc old x e

pub joined : (old x y s t : List ℕ) → s ≡ old ++ x → t ≡ s ++ y → t ≡ old ++ (x ++ y)
joined old x y s t is adds = adds ∙ after_all old x s y is

-- a line that was made apart, after what was added before it
pub line_joined : (old x s empty y line new : List ℕ) → s ≡ old ++ x → empty ≡ [] → line ≡ empty ++ y → new ≡ s ++ line → new ≡ old ++ (x ++ y)
line_joined old x s empty y line new is none says adds = joined old x y s new is (adds ∙ ap (λ (l : List ℕ). s ++ l) (says ∙ ap (λ (l : List ℕ). l ++ y) none))

-- where an answer comes, what follows of what is known then
pub gives : {T E P Q : Type 0} (r : Result T E) → (P → Q) → OnOk r P → OnOk r Q
gives (Ok x) f p = f p
gives (Err e) f p = tt

-- what is added to a text that may run out of memory
pub pushed : {T E : Type 0} (r : Result T E) (new x y : List ℕ) → new ≡ (if is_ok r then x else y) → OnOk r (new ≡ x)
pushed (Ok v) new x y is = is
pushed (Err e) new x y is = tt
