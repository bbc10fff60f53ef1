-- The listing of a source: each line with its place in the image and its bytes there, and the labels.
use Rattle.std.specs.Prelude.{◌≡◌, ◌⊎◌, codes, ℕ, List, [], ◌∷◌, ◌++◌, length, replicate, reverse, ⊤}
use Rattle.std.specs.List.{flat_map}
use Rattle.ds_asm.specs.Assembly.{Labels}
use Rattle.ds_text.specs.Digits.{hex8}
use Rattle.ds_listing.specs.Listing.{ListedLine}

-- bytes that their text tells: one, four, or zeros
abbrev pub IsTold : List ℕ → Type 0
IsTold bytes = (length bytes ≡ 1) ⊎ ((length bytes ≡ 4) ⊎ (bytes ≡ replicate (length bytes) 0))

-- and so those of each line
abbrev pub EachIsTold : List ListedLine → Type 0
EachIsTold [] = ⊤
EachIsTold (r ∷ rows) = IsTold r.bytes × EachIsTold rows

-- the lines of a listing have the bytes of the image, one line's after the other's, and their texts
-- tell them
pub record Shows (rows : List ListedLine) (image : List ℕ) : Type 0 where
  pub bytes : flat_map (λ r. r.bytes) rows ≡ image
  pub told : EachIsTold rows

-- a label with its value
abbrev pub value_text : List ℕ × ℕ → List ℕ
value_text l = hex8 l.1 ++ (codes "  " ++ (l.0 ++ 10 ∷ []))

-- a listing ends with these labels, the oldest first
abbrev pub EndsWithLabels : Labels → List ℕ → Type 0
EndsWithLabels labels listing = (front : List ℕ) × (listing ≡ front ++ (codes "labels\n" ++ flat_map value_text (reverse labels)))
