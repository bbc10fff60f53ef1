-- That no word fits two rows: any two of them fix something in one place to different values.
use Rattle.std.proofs.Common.{◌≡◌, ℕ, ◌+◌, ◌-◌, ◌/◌, ◌%◌, ◌^◌, ◌≤◌, nat_le, Bool, true, false, not, ◌&&◌, List, [], ◌∷◌, length, refl, sym, ap, ◌∙◌, arith}
use Rattle.std.specs.Prelude.{◌==◌, filter}
use Rattle.std.specs.List.{list_all, list_any}
use Rattle.std.proofs.Math.Pow.{mod-mod-pow}
use Rattle.std.proofs.lemmas.Bool.{and_parts, false_from_ne_true, true≢false}
use Rattle.std.proofs.lemmas.Bool.Decides.{nat_tests}
use Rattle.ds_isa.specs.Fields.{Fixed, in_word}
use Rattle.ds_isa.specs.Instruction.{Row, fits, rows}

-- a word has what a row fixes
abbrev holds : ℕ → Fixed → Bool
holds w f = in_word w f.field == f.value

-- two fields that begin at one bit, and the second, no wider one is fixed to other bits
abbrev clash : Fixed → Fixed → Bool
clash f g = (f.field.lo == g.field.lo) && (nat_le g.field.width f.field.width && not (f.value % 2 ^ g.field.width == g.value))

-- the low bits of a field
low_bits : (n k j v u : ℕ) → j ≤ k → n % 2 ^ k ≡ v → n % 2 ^ j ≡ u → v % 2 ^ j ≡ u
low_bits n k j v u le hv hu =
    let whole : (k - j) + j ≡ k = omega arith in
    let step : n % 2 ^ k % 2 ^ j ≡ n % 2 ^ j = rw whole at (mod-mod-pow n (k - j) j) in
    ap (λ x. x % 2 ^ j) (sym hv) ∙ step ∙ hu

no_clash : (w : ℕ) (f g : Fixed) → holds w f ≡ true → holds w g ≡ true → clash f g ≡ false
no_clash w f g hf hg = grind (arith, nat_tests, low_bits (w / 2 ^ f.field.lo) f.field.width g.field.width f.value g.value)

-- what fixes a field as a word has it clashes with nothing else that the word has
none_in : (w : ℕ) (f : Fixed) → holds w f ≡ true → (gs : List Fixed) → list_all (holds w) gs ≡ true → list_any (clash f) gs ≡ false
none_in w f hf [] h = refl
none_in w f hf (g ∷ gs) h =
    let parts = and_parts (holds w g) (list_all (holds w) gs) h in
    rw (no_clash w f g hf parts.0) (none_in w f hf gs parts.1)

none_of : (w : ℕ) (fs gs : List Fixed) → list_all (holds w) fs ≡ true → list_all (holds w) gs ≡ true → list_any (λ f. list_any (clash f) gs) fs ≡ false
none_of w [] gs hf hg = refl
none_of w (f ∷ fs) gs hf hg =
    let parts = and_parts (holds w f) (list_all (holds w) fs) hf in
    rw (none_in w f parts.0 gs hg) (none_of w fs gs parts.1 hg)

-- two rows have fixed values that clash
abbrev apart : Row → Row → Bool
apart r s = list_any (λ f. list_any (clash f) s.fixed) r.fixed

-- a word has all that a row fixes
abbrev fixed_fit : Row → ℕ → Bool
fixed_fit r w = list_all (holds w) r.fixed

-- of two such rows a word fits one at most
barred : (w : ℕ) (r s : Row) → apart r s ≡ true → fits r w ≡ true → fits s w ≡ false
barred w r s h fr =
    false_from_ne_true (fits s w)
    (λ fs. true≢false (sym h ∙ none_of w r.fixed s.fixed (and_parts (fixed_fit r w) _ fr).0 (and_parts (fixed_fit s w) _ fs).0))

barred_all : (w : ℕ) (r : Row) → fits r w ≡ true → (rs : List Row) → list_all (apart r) rs ≡ true → filter (λ s. fits s w) rs ≡ []
barred_all w r fr [] h = refl
barred_all w r fr (s ∷ rs) h =
    let parts = and_parts (apart r s) (list_all (apart r) rs) h in
    rw (barred w r s parts.0 fr) (barred_all w r fr rs parts.1)

-- each row is apart from those after it
abbrev all_apart : List Row → Bool
all_apart [] = true
all_apart (r ∷ rs) = list_all (apart r) rs && all_apart rs

first_or_not : (w : ℕ) (r : Row) (rs : List Row) (b : Bool) → fits r w ≡ b → list_all (apart r) rs ≡ true → length (filter (λ r. fits r w) rs) ≤ 1 → length (filter (λ r. fits r w) (r ∷ rs)) ≤ 1
first_or_not w r rs true fr here rest = rw (fr, barred_all w r fr rs here) (omega arith)
first_or_not w r rs false fr here rest = rw fr rest

at_most_one : (w : ℕ) (rs : List Row) → all_apart rs ≡ true → length (filter (λ r. fits r w) rs) ≤ 1
at_most_one w [] h = omega arith
at_most_one w (r ∷ rs) h =
    let parts = and_parts (list_all (apart r) rs) (all_apart rs) h in
    first_or_not w r rs (fits r w) refl parts.0 (at_most_one w rs parts.1)

-- the table's rows
pub one_row_at_most : (w : ℕ) → length (filter (λ r. fits r w) rows) ≤ 1
one_row_at_most w = at_most_one w rows refl
