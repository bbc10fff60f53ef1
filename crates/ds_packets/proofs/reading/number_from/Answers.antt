use Rattle.std.proofs.Common.{◌≡◌, ℕ, ◌-◌, ◌≤◌, length, take, drop, get_or, List, [], ◌∷◌, Some, sym, ap, ◌∙◌, arith}
use Rattle.std.specs.Prelude.{option_and_then}
use Rattle.std.proofs.lemmas.List.{take_all}
use Rattle.ds_packets.specs.Packets.{digit_at, with_digit, number_from}
use Rattle.ds_packets.proofs.reading.number_from.Goals as goal

-- two digits more
two_more : (n m : ℕ) (xs : List ℕ) → 2 ≤ length xs → Some m ≡ with_digit n (digit_at (get_or xs 0 0) (get_or xs 1 0)) → number_from m (take (length xs - 2) (drop 2 xs)) ≡ number_from n xs
unfolding number_from
two_more n m [] long is = absurd (omega arith)
two_more n m (high ∷ []) long is = absurd (omega arith)
two_more n m (high ∷ low ∷ rest) long is =
    ap (number_from m) (take_all (length (high ∷ low ∷ rest) - 2) rest (omega arith)) ∙ ap (option_and_then (λ (t : ℕ). number_from t rest)) is

pub loop-left-preserved : goal.loop-left-preserved
loop-left-preserved c = record {
  goes = two_more c.loop-left.number c.in-Some.more c.loop-left.left.now c.in-len2-up.len_at_least (sym c.in-Some.is ∙ (c.with_digit.ensures.value ∙ ap (with_digit c.loop-left.number) c.digit_at.ensures.value)) ∙ c.loop-left.invariant.goes;
  few = c.in-Some.ensures.few;
}
