-- The first line of a text, and the lines after it.
use Rattle.std.proofs.Common.{◌≡◌, sym, refl, ℕ, ◌+◌, ◌≤◌, ◌==◌, Bool, false, List, [], ◌∷◌, length, arith, inl, inr}
use Rattle.std.specs.List.{position_or_len, before_first, after_first}
use Rattle.std.proofs.lemmas.Bool.{cases_lt}
use Rattle.std.proofs.lemmas.List.{drop_all, take_all}
use Rattle.std.proofs.lemmas.List.Elements.{All-from_get_or}
use Rattle.std.proofs.lemmas.List.Splits.{slice_split_first, slice_split_none}
use Rattle.std.proofs.lemmas.List.Sums.{prefix_len-le-length, fails_before_first}
use Rattle.ds_policy.specs.InputText.{lines_of}

abbrev pub is_line_feed : ℕ → Bool
is_line_feed b = b == 10

-- what is made of the lines of a text, where an empty last line makes no difference
pub lines_first : {X : Type 0} (F : List (List ℕ) → X) → ((line : List ℕ) → F (line ∷ [] ∷ []) ≡ F (line ∷ []))
    → (text : List ℕ) → F (lines_of text) ≡ F (before_first is_line_feed text ∷ lines_of (after_first is_line_feed text))
lines_first F same_after text =
    let at = position_or_len is_line_feed text in
    let within : at ≤ length text = prefix_len-le-length _ text in
    elim (cases_lt at (length text)) [
      | inl ended ↦ rw (slice_split_first is_line_feed text 0 ended) refl
      | inr last ↦
          let same : at ≡ length text = omega arith in
          let none = All-from_get_or (λ b. is_line_feed b ≡ false) text 0 (λ k h. fails_before_first is_line_feed text k 0 (omega (arith, h))) in
          rw (slice_split_none is_line_feed text none, take_all at text last, drop_all (at + 1) text (omega arith)) (sym (same_after text))
    ]
