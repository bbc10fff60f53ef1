-- Places of which nothing is known.
use Rattle.std.proofs.Common.{◌≡◌, ℕ, zero, suc, ◌≤◌, ◌+◌, true, replicate, refl, arith, ap, ◌∙◌, sym}
use Rattle.std.specs.Prelude.{slice_get, slice_index}
use Rattle.ds_pages.specs.declared.operation.OperationKind.TheVariants as kind
use Rattle.ds_pages.specs.declared.does.Does.{Does}
use Rattle.ds_pages.specs.declared.does.Does.TheVariants as does
use Rattle.ds_pages.specs.declared.turn.Stride.{Stride}
use Rattle.ds_pages.specs.declared.turn.Stride.TheVariants as turn
use Rattle.ds_pages.specs.declared.place.Place.{Place}
use Rattle.ds_pages.specs.declared.places.Places.{Places}
use Rattle.ds_pages.specs.Inner.Does.{is_known, is_branch}
use Rattle.ds_pages.specs.Inner.Turn.{first_of, second_of}
use Rattle.ds_pages.specs.Inner.Places.{does_in, turn_in, kind_in, does_at, turn_at, length_at, FitsAt}

-- nothing is known of any place
pub does_of_all : (n k : ℕ) (x : Place) → x.does ≡ does.Unknown → does_in (slice_get (replicate n x) k) ≡ does.Unknown
does_of_all zero k x e = refl
does_of_all (suc n) zero x e = e
does_of_all (suc n) (suc k) x e = does_of_all n k x e

-- nor is anything done in a turn
pub turn_of_all : (n k : ℕ) → turn_in (slice_get (replicate n turn.Unknown) k) ≡ turn.Unknown
turn_of_all zero k = refl
turn_of_all (suc n) zero = refl
turn_of_all (suc n) (suc k) = turn_of_all n k

-- none has an operation
pub kind_of_all : (n k : ℕ) → kind_in (slice_get (replicate n kind.Other) k) ≡ kind.Other
kind_of_all zero k = refl
kind_of_all (suc n) zero = refl
kind_of_all (suc n) (suc k) = kind_of_all n k

-- every length is 0
pub length_of_all : (n k : ℕ) → slice_index (replicate n 0) k ≡ 0
length_of_all zero k = refl
length_of_all (suc n) zero = refl
length_of_all (suc n) (suc k) = length_of_all n k

unknown_is_not_known : {d : Does} → d ≡ does.Unknown → is_known d ≡ true → ⊥
unknown_is_not_known e h = absurd (cc (ap is_known e, h))

unknown_is_no_branch : {d : Does} → d ≡ does.Unknown → is_branch d ≡ true → ⊥
unknown_is_no_branch e h = absurd (cc (ap is_branch e, h))

-- so each place fits
pub all_blank : (p : Places) → ((k : ℕ) → does_at p k ≡ does.Unknown) → ((k : ℕ) → turn_at p k ≡ turn.Unknown) → ((k : ℕ) → length_at p k ≡ 0) → (k : ℕ) → k ≤ 1024 → FitsAt p k
all_blank p unknown still nothing k inside = record {
  done = λ known. absurd (unknown_is_not_known (unknown k) known);
  length = rw (unknown k, nothing k) refl;
  short = rw (nothing k) (omega arith);
  target = λ b. absurd (unknown_is_no_branch (unknown k) b);
  first = ap first_of (still k) ∙ sym (unknown k);
  second = ap (λ (t : Stride). second_of t (does_at p (k + 1))) (still k);
}
