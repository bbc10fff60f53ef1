-- Sources that are lent, and pages with their lines.
use Rattle.std.proofs.Common.{◌≡◌, ◌∙◌, refl, sym, ap, ℕ, ◌+◌, List, [], ◌∷◌, Option, Some, None, Bor, map, length, nat_lt}
use Rattle.std.specs.Prelude.{cond, not, bytes_eq, position, slice_get, option_and_then, option_map}
use Rattle.std.specs.List.{position_or_len}
use Rattle.std.proofs.lemmas.Option.{slice_get-map}
use Rattle.std.proofs.lemmas.List.{length-map}
use Rattle.ds_check.specs.Inner.Starts.{assembled}
use Rattle.ds_log_reasons.specs.Places.{lines_between, lines_in}
use Rattle.ds_check.specs.declared.starts.AssembledSources.{AssembledSources}

abbrev Lent : Type 0
Lent = Bor (List ℕ) × Bor (List ℕ)

abbrev seen_of : Lent → List ℕ × List ℕ
seen_of s = (s.0.now, s.1.now)

place_seen : (name : List ℕ) (xs : List Lent) → position_or_len (λ (s : List ℕ × List ℕ). bytes_eq s.0 name) (map seen_of xs) ≡ position_or_len (λ (s : Lent). bytes_eq s.0.now name) xs
place_seen name [] = refl
place_seen name (x ∷ xs) = ap (λ (n : ℕ). cond (not (bytes_eq x.0.now name)) (1 + n) 0) (place_seen name xs)

-- the place of a name among them
position_seen : (name : List ℕ) (xs : List Lent) → position (λ (s : List ℕ × List ℕ). bytes_eq s.0 name) (map seen_of xs) ≡ position (λ (s : Lent). bytes_eq s.0.now name) xs
position_seen name xs =
    ap (λ (n : ℕ). cond (nat_lt n (length (map seen_of xs))) (Some n) None) (place_seen name xs)
    ∙ ap (λ (l : ℕ). cond (nat_lt (position_or_len (λ (s : Lent). bytes_eq s.0.now name) xs) l) (Some (position_or_len (λ (s : Lent). bytes_eq s.0.now name) xs)) None) (length-map xs seen_of)

texts_seen : (o : Option Lent) → option_map (λ (s : List ℕ × List ℕ). s.1) (option_map seen_of o) ≡ option_map (λ s. s.1.now) o
texts_seen None = refl
texts_seen (Some s) = refl

module _ (a : AssembledSources) (name : List ℕ) (r : Option ℕ) (is : r ≡ position (λ (s : Lent). bytes_eq s.0.now name) a.sources.now) where
  at_place : (o : Option ℕ) → r ≡ o
      → lines_in (assembled a) name ≡ option_and_then (λ i. lines_between (option_map (λ s. s.1) (slice_get (map seen_of a.sources.now) i)) (slice_get a.images.now i)) o
  at_place o at = ap (option_and_then (λ (i : ℕ). lines_between (option_map (λ s. s.1) (slice_get (map seen_of a.sources.now) i)) (slice_get a.images.now i))) (position_seen name a.sources.now ∙ (sym is ∙ at))

  -- there is no source of this name
  pub no_name : r ≡ None → lines_in (assembled a) name ≡ None
  no_name none = at_place None none

  -- it is that of the text and the image there, where there are both
  pub at_index : (i : ℕ) (text image : Option (List ℕ)) → r ≡ Some i
      → option_map (λ s. s.1.now) (slice_get a.sources.now i) ≡ text → slice_get a.images.now i ≡ image
      → lines_in (assembled a) name ≡ lines_between text image
  at_index i text image at text_is image_is =
      at_place (Some i) at
      ∙ (ap (λ (x : Option (List ℕ)). lines_between x (slice_get a.images.now i)) (ap (option_map (λ s. s.1)) (slice_get-map seen_of a.sources.now i) ∙ (texts_seen (slice_get a.sources.now i) ∙ text_is))
      ∙ ap (lines_between text) image_is)
