-- Lists in which one element is changed by a function of itself, and lists that grow.
use Rattle.std.proofs.Common.{◌≡◌, ℕ, zero, suc, Bool, List, [], ◌∷◌, refl, ap, ◌&&◌, set, get_or, ◌++◌, sym, ◌∙◌, append-nil, append_assoc, inl, inr}
use Rattle.std.specs.List.{list_all}
use Rattle.ds_log.specs.declared.line.Line.{Line}
use Rattle.ds_pagemap.specs.Laws.{Extends, GrowsByALineAtMost}

-- changed twice by a function that changes nothing the second time
pub set_again : {X : Type 0} (f : X → X) → ((x : X) → f (f x) ≡ f x) → (xs : List X) (i : ℕ) (d : X) → set (set xs i (f (get_or xs i d))) i (f (get_or (set xs i (f (get_or xs i d))) i d)) ≡ set xs i (f (get_or xs i d))
set_again f again [] i d = refl
set_again f again (x ∷ xs) zero d = ap (λ y. y ∷ xs) (again x)
set_again f again (x ∷ xs) (suc i) d = ap (λ ys. x ∷ ys) (set_again f again xs i d)

-- what holds of each element holds after a change that keeps it
pub list_all-set : {X : Type 0} (P : X → Bool) (f : X → X) → ((x : X) → P (f x) ≡ P x) → (xs : List X) (i : ℕ) (d : X) → list_all P (set xs i (f (get_or xs i d))) ≡ list_all P xs
list_all-set P f keeps [] i d = refl
list_all-set P f keeps (x ∷ xs) zero d = ap (λ b. b && list_all P xs) (keeps x)
list_all-set P f keeps (x ∷ xs) (suc i) d = ap (λ b. P x && b) (list_all-set P f keeps xs i d)

pub extends_itself : (xs : List Line) → Extends xs xs
extends_itself xs = record { more = []; is = sym (append-nil xs) }

pub extends_again : (xs ys zs : List Line) → Extends xs ys → Extends ys zs → Extends xs zs
extends_again xs ys zs a b = record { more = a.more ++ b.more; is = b.is ∙ (ap (λ l. l ++ b.more) a.is ∙ append_assoc xs a.more b.more) }

pub extends_by_a_line : (xs ys : List Line) → GrowsByALineAtMost xs ys → Extends xs ys
extends_by_a_line xs ys (inl same) = record { more = []; is = same ∙ sym (append-nil xs) }
extends_by_a_line xs ys (inr line) = record { more = line.0 ∷ []; is = line.1 }
