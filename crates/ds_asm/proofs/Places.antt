-- Where the first of a byte stands, by a search of the library `memchr`.
use Rattle.std.proofs.Common.{◌≡◌, sym, ℕ, ◌==◌, List, length, Option, Some, None, arith}
use Rattle.std.specs.Option.{unwrap_or}
use Rattle.std.specs.List.{position_or_len}
use Rattle.std.proofs.lemmas.Bool.{false_from_ne_true}
use Rattle.std.proofs.lemmas.List.Sums.{position_or_len_is}
use Rattle.memchr.specs.Find.{IsFirstByte, is_byte}

-- what the search finds is the first place of the byte, and the length where it finds none
pub found_place : (c : ℕ) (text : List ℕ) (found : Option ℕ) → IsFirstByte (is_byte c) text found → unwrap_or found (length text) ≡ position_or_len (λ b. b == c) text
found_place c text None none =
    sym (position_or_len_is (λ b. b == c) text (length text) 0 (omega arith) (λ k h. false_from_ne_true _ (none k (omega arith) h)) (λ h. absurd (omega arith)))
found_place c text (Some place) first =
    let low = first.0.high in
    sym (position_or_len_is (λ b. b == c) text place 0 (omega arith) (λ k h. false_from_ne_true _ (first.0.before k (omega arith) h)) (λ h. first.1))
