-- How far two texts are the same, byte by byte.
use Rattle.std.proofs.Common.{◌≡◌, ◌∙◌, ap, refl, ℕ, ◌+◌, ◌≤◌, List, [], ◌∷◌, length, drop, arith}
use Rattle.std.proofs.lemmas.List.{drop_all}
use Rattle.ds_source_reasons.specs.Likeness.{common_front}

-- a text has nothing in common with an empty one
none_common : (text : List ℕ) → common_front text [] ≡ 0
none_common [] = refl
none_common (c ∷ cs) = refl

-- the second text has ended
pub second_ended : (n whole : ℕ) (a b : List ℕ) → length b ≤ n → n + common_front (drop n a) (drop n b) ≡ whole → n ≡ whole
second_ended n whole a b ended before =
    let none : common_front (drop n a) (drop n b) ≡ 0 = ap (common_front (drop n a)) (drop_all n b ended) ∙ none_common (drop n a) in
    omega (arith, none, before)
