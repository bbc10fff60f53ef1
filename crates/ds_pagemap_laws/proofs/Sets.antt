-- Lists in which one element is replaced.
use Rattle.std.proofs.Common.{◌≡◌, ℕ, zero, suc, List, [], ◌∷◌, refl, set, get_or}

module _ {X : Type 0} where
  -- what is read is the new element, or what stood there
  pub either : (P : X → Type 0) (xs : List X) (i j : ℕ) (x d : X) → P x → P (get_or xs j d) → P (get_or (set xs i x) j d)
  either P [] i j x d new old = old
  either P (y ∷ ys) zero zero x d new old = new
  either P (y ∷ ys) zero (suc j) x d new old = old
  either P (y ∷ ys) (suc i) zero x d new old = old
  either P (y ∷ ys) (suc i) (suc j) x d new old = either P ys i j x d new old

  -- at its place it is the new element, or the list is too short
  pub here : (P : X → Type 0) (xs : List X) (i : ℕ) (x d : X) → P x → P d → P (get_or (set xs i x) i d)
  here P [] i x d new past = past
  here P (y ∷ ys) zero x d new past = new
  here P (y ∷ ys) (suc i) x d new past = here P ys i x d new past

  -- what the new element shares with the old one stays everywhere
  pub shared : {B : Type 0} (f : X → B) (xs : List X) (i j : ℕ) (x d : X) → f x ≡ f (get_or xs i d) → f (get_or (set xs i x) j d) ≡ f (get_or xs j d)
  shared f [] i j x d e = refl
  shared f (y ∷ ys) zero zero x d e = e
  shared f (y ∷ ys) zero (suc j) x d e = refl
  shared f (y ∷ ys) (suc i) zero x d e = refl
  shared f (y ∷ ys) (suc i) (suc j) x d e = shared f ys i j x d e
