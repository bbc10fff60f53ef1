-- One line more in the reading of an input.
use Rattle.std.proofs.Common.{◌≡◌, refl, ℕ, ◌+◌, ◌<◌, ◌≤◌, ◌==◌, Bool, false, List, [], ◌∷◌, length, length-drop, Ok, arith, inl, inr}
use Rattle.std.proofs.lemmas.List.{drop_all, take_all}
use Rattle.std.proofs.lemmas.List.Sums.{prefix_len-le-length, fails_before_first}
use Rattle.std.proofs.lemmas.List.Splits.{slice_split_first, slice_split_none}
use Rattle.std.proofs.lemmas.List.Elements.{All-from_get_or}
use Rattle.std.proofs.lemmas.Bool.{cases_lt}
use Rattle.std.specs.List.{position_or_len, before_first, after_first}
use Rattle.ds_policy.specs.declared.policy.PolicyPage.{PolicyPage}
use Rattle.ds_word.specs.ResultBinding.{◌>>=◌}
use Rattle.ds_policy.specs.declared.events.cause.InputReason.{InputReason}
use Rattle.ds_policy.specs.declared.unread.Unread.{Unread}
use Rattle.ds_policy.specs.Inner.Refusal.{IsUnread}
use Rattle.ds_policy.specs.InputText.{Said, with_line, with_lines, lines_of}
use Rattle.ds_policy.proofs.Binds.{unread_then}

abbrev pub is_line_feed : ℕ → Bool
is_line_feed b = b == 10

-- the first line of a text, and the lines after it
lines_first : (pages : List PolicyPage) (s : Said) (n : ℕ) (text : List ℕ)
    → with_lines pages s n (lines_of text) ≡ (with_line pages s n (before_first is_line_feed text) >>= (λ next. with_lines pages next (n + 1) (lines_of (after_first is_line_feed text))))
unfolding with_lines with_line
lines_first pages s n text =
    let at = position_or_len is_line_feed text in
    let within : at ≤ length text = prefix_len-le-length _ text in
    elim (cases_lt at (length text)) [
      | inl ended ↦ rw (slice_split_first is_line_feed text 0 ended)
      | inr last ↦
          let same : at ≡ length text = omega arith in
          let none = All-from_get_or (λ b. is_line_feed b ≡ false) text 0 (λ k h. fails_before_first is_line_feed text k 0 (omega (arith, h))) in
          rw (slice_split_none is_line_feed text none, take_all at text last, drop_all (at + 1) text (omega arith))
    ]

pub lines_good : (pages : List PolicyPage) (s next : Said) (n : ℕ) (text line rest : List ℕ)
    → line ≡ before_first is_line_feed text → rest ≡ after_first is_line_feed text → with_line pages s n line ≡ Ok next
    → with_lines pages s n (lines_of text) ≡ with_lines pages next (n + 1) (lines_of rest)
lines_good pages s next n text line rest first afterwards good = rw (lines_first pages s n text, ← first, ← afterwards, good)

pub lines_bad : (pages : List PolicyPage) (s : Said) (n : ℕ) (text line : List ℕ) (e : Unread InputReason)
    → line ≡ before_first is_line_feed text → IsUnread e (with_line pages s n line)
    → IsUnread e (with_lines pages s n (lines_of text))
lines_bad pages s n text line e first bad =
    rw (lines_first pages s n text, ← first) (unread_then e (with_line pages s n line) (λ next. with_lines pages next (n + 1) (lines_of (after_first is_line_feed text))) bad)

pub lines_end : (pages : List PolicyPage) (s : Said) (n : ℕ) (text : List ℕ) → length text ≡ 0 → with_lines pages s n (lines_of text) ≡ Ok s
unfolding with_lines with_line
lines_end pages s n [] none = refl
lines_end pages s n (b ∷ text) none = absurd (omega arith)

-- what follows the first line is shorter
pub rest_within : (n m : ℕ) (text rest : List ℕ) → rest ≡ after_first is_line_feed text → 0 < length text → n + length text ≤ m → n + 1 + length rest ≤ m
rest_within n m text rest afterwards some within = rw afterwards (omega (arith, length-drop (position_or_len is_line_feed text + 1) text))
