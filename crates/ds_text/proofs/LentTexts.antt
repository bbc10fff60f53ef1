-- A text among texts that are lent.
use Rattle.std.proofs.Common.{◌≡◌, ◌∙◌, ap, ℕ, List, map, Bor, Option, Some, None}
use Rattle.std.specs.Prelude.{slice_get, unwrap_or, option_map}
use Rattle.std.proofs.lemmas.Option.{slice_get-map}

module _ (texts : List (Bor (List ℕ))) (n : ℕ) (other : List ℕ) where
  pub text_some : (text : Bor (List ℕ)) → slice_get texts n ≡ Some text → unwrap_or (slice_get (map (λ t. t.now) texts) n) other ≡ text.now
  text_some text is = ap (λ (o : Option (List ℕ)). unwrap_or o other) (slice_get-map (λ t. t.now) texts n ∙ ap (option_map (λ t. t.now)) is)

  pub text_none : slice_get texts n ≡ None → unwrap_or (slice_get (map (λ t. t.now) texts) n) other ≡ other
  text_none is = ap (λ (o : Option (List ℕ)). unwrap_or o other) (slice_get-map (λ t. t.now) texts n ∙ ap (option_map (λ t. t.now)) is)
