-- A text that is looked for, place by place.
use Rattle.std.proofs.Common.{◌≡◌, ◌∙◌, sym, ap, subst, refl, ℕ, suc, ◌+◌, ◌-◌, ◌≤◌, ◌==◌, true, false, List, [], ◌∷◌, length, take, drop, Option, None, Some, option_map, arith}
use Rattle.std.specs.List.{starts_with}
use Rattle.std.proofs.lemmas.List.{take_all}
use Rattle.ds_source_reasons.specs.Carets.{first_place}

-- it stands here
found_first : (place : ℕ) (text : List ℕ) (c : ℕ) (cs : List ℕ) → starts_with (λ a b. a == b) (c ∷ cs) text ≡ true → option_map (λ n. place + n) (first_place text (c ∷ cs)) ≡ Some (place + 0)
unfolding first_place
found_first place text c cs is = rw is refl

pub found_here : (place : ℕ) (text rest : List ℕ) (whole : Option ℕ) → 1 ≤ length rest → starts_with (λ a b. a == b) rest text ≡ true → option_map (λ n. place + n) (first_place text rest) ≡ whole → Some place ≡ whole
found_here place text [] whole some is before = absurd (omega (arith, some))
found_here place text (c ∷ cs) whole some is before = ap (λ (k : ℕ). Some k) (omega arith) ∙ (sym (found_first place text c cs is) ∙ before)

-- it stands behind this place, if it does
passed_first : (place : ℕ) (text : List ℕ) (c : ℕ) (cs : List ℕ) → starts_with (λ a b. a == b) (c ∷ cs) text ≡ false
    → option_map (λ n. place + n) (first_place text (c ∷ cs)) ≡ option_map (λ n. place + n) (option_map (λ n. suc n) (first_place text cs))
unfolding first_place
passed_first place text c cs is = rw is refl

one_later : (place : ℕ) (o : Option ℕ) → option_map (λ n. place + 1 + n) o ≡ option_map (λ n. place + n) (option_map (λ n. suc n) o)
one_later place None = refl
one_later place (Some n) = ap (λ (k : ℕ). Some k) (omega arith)

-- all but the first
past_first : (c : ℕ) (cs : List ℕ) → take (length (c ∷ cs) - 1) (drop 1 (c ∷ cs)) ≡ cs
past_first c cs = take_all (length (c ∷ cs) - 1) cs (omega arith)

pub found_later : (place : ℕ) (text rest : List ℕ) (whole : Option ℕ) → 1 ≤ length rest → starts_with (λ a b. a == b) rest text ≡ false → option_map (λ n. place + n) (first_place text rest) ≡ whole
    → option_map (λ n. place + 1 + n) (first_place text (take (length rest - 1) (drop 1 rest))) ≡ whole
found_later place text [] whole some is before = absurd (omega (arith, some))
found_later place text (c ∷ cs) whole some is before =
    ap (λ (r : List ℕ). option_map (λ n. place + 1 + n) (first_place text r)) (past_first c cs)
    ∙ (one_later place (first_place text cs) ∙ (sym (passed_first place text c cs is) ∙ before))

pub fewer_left : (place whole : ℕ) (rest : List ℕ) → 1 ≤ length rest → place + length rest ≤ whole → place + 1 + length (take (length rest - 1) (drop 1 rest)) ≤ whole
fewer_left place whole [] some h = absurd (omega (arith, some))
fewer_left place whole (c ∷ cs) some h = subst (λ (r : List ℕ). place + 1 + length r ≤ whole) (sym (past_first c cs)) (omega (arith, h))

-- it stands nowhere
pub found_nowhere : (place : ℕ) (text rest : List ℕ) (whole : Option ℕ) → length rest ≡ 0 → option_map (λ n. place + n) (first_place text rest) ≡ whole → None ≡ whole
unfolding first_place
found_nowhere place text [] whole none before = before
found_nowhere place text (c ∷ cs) whole none before = absurd (omega (arith, none))
