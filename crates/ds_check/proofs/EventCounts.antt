-- The events of an input, a line at a time.
use Rattle.std.proofs.Common.{◌≡◌, ◌∙◌, refl, ℕ, ◌+◌, not, List, [], ◌∷◌, length, arith, inl, inr}
use Rattle.std.specs.Prelude.{if◌then◌else◌, count_by}
use Rattle.std.specs.List.{before_first, after_first}
use Rattle.std.proofs.lemmas.Bool.{cases_Bool}
use Rattle.std.proofs.lemmas.List.Sums.{sum_by-cons}
use Rattle.ds_policy.specs.InputText.{is_skipped, lines_of}
use Rattle.ds_check.specs.Limits.{events_in}
use Rattle.ds_check.proofs.FirstLines.{is_line_feed, lines_first}

-- how many of these lines are neither empty nor a comment
abbrev events_among : List (List ℕ) → ℕ
events_among lines = count_by (λ line. not (is_skipped line)) lines

-- the first line of a text, and the lines after it
events_first : (text : List ℕ) → events_in text ≡ events_among (before_first is_line_feed text ∷ lines_of (after_first is_line_feed text))
events_first text = lines_first events_among (λ line. omega arith) text

-- how many a line adds
one_more : (line : List ℕ) (lines : List (List ℕ)) → events_among (line ∷ lines) ≡ (if is_skipped line then 0 else 1) + events_among lines
one_more line lines = elim (cases_Bool (is_skipped line)) [
  | inl skipped ↦ rw (sum_by-cons _ line lines, skipped) refl
  | inr event ↦ rw (sum_by-cons _ line lines, event) refl
]

pub event_more : (count n whole : ℕ) (text line rest : List ℕ) → line ≡ before_first is_line_feed text → rest ≡ after_first is_line_feed text
    → n ≡ (if is_skipped line then 0 else 1) → count + events_in text ≡ whole → count + n + events_in rest ≡ whole
event_more count n whole text line rest first afterwards added h =
    let whole_text : events_in text ≡ n + events_in rest = rw (added, first, afterwards) (events_first text ∙ one_more (before_first is_line_feed text) (lines_of (after_first is_line_feed text))) in
    omega (arith, whole_text, h)

pub no_event : (count whole : ℕ) (text : List ℕ) → length text ≡ 0 → count + events_in text ≡ whole → count ≡ whole
no_event count whole [] none h = omega (arith, h)
no_event count whole (b ∷ text) none h = absurd (omega arith)
