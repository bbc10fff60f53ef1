-- The words of a list, one after the other.
use Rattle.std.proofs.Common.{◌≡◌, sym, ◌∙◌, ap, refl, ℕ, ◌+◌, ◌-◌, ◌<◌, ◌≤◌, ◌==◌, Bool, true, false, cond, nat_lt, List, [], ◌∷◌, length, take, drop, Option, Some, None, position, arith}
use Rattle.std.proofs.lemmas.List.{take_all}
use Rattle.std.proofs.lemmas.List.Splits.{slice_split_first, slice_split_none}
use Rattle.std.proofs.lemmas.List.Elements.{All-from_get_or}
use Rattle.std.proofs.lemmas.List.Sums.{fails_before_first}
use Rattle.std.proofs.lemmas.Bool.Decides.{nat_tests}
use Rattle.std.specs.List.{position_or_len}
use Rattle.ds_packets.specs.Words.{after_mark, before, parts}
use Rattle.ds_packets.specs.Inner.Words.{later}
use Rattle.ds_packets.proofs.Cuts.{cut_some, cut_none, none_is}

-- the words of what is left, if there is more
abbrev pub left_parts : Option (List ℕ) → List (List ℕ)
left_parts None = []
left_parts (Some text) = parts text

some_chosen : (b : Bool) (n i : ℕ) → cond b (Some n) None ≡ Some i → b ≡ true
some_chosen true n i is = refl
some_chosen false n i is = cc

-- where a semicolon stands
pub later_some : (xs : List ℕ) (i : ℕ) → position (λ b. b == 59) xs ≡ Some i
    → (take i xs ≡ before 59 xs) × (Some (take (length xs - (i + 1)) (drop (i + 1) xs)) ≡ later xs)
later_some xs i is =
    let cut = cut_some 59 xs i is in
    let n = position_or_len (λ b. b == 59) xs in
    (cut.0, ap (λ t. Some t) cut.1 ∙ sym (ap (λ b. cond b (Some (after_mark 59 xs)) None) (some_chosen (nat_lt n (length xs)) n i is)))

-- where none does
pub later_none : (xs : List ℕ) → position (λ b. b == 59) xs ≡ None → (xs ≡ before 59 xs) × (None ≡ later xs)
later_none xs is =
    let cut = cut_none 59 xs is in
    let n = position_or_len (λ b. b == 59) xs in
    (cut.0, sym (ap (λ b. cond b (Some (after_mark 59 xs)) None) (none_is (nat_lt n (length xs)) n is)))

less_told : (a b : ℕ) → nat_lt a b ≡ true → a < b
less_told a b is = grind (arith, nat_tests)

more_told : (a b : ℕ) → nat_lt a b ≡ false → b ≤ a
more_told a b is = grind (arith, nat_tests)

-- the words are the first one, and those of what is left
pub parts_step : (text : List ℕ) → parts text ≡ before 59 text ∷ left_parts (later text)
parts_step text = by_test (nat_lt (position_or_len (λ b. b == 59) text) (length text)) refl
  where
    by_test : (found : Bool) → nat_lt (position_or_len (λ b. b == 59) text) (length text) ≡ found
        → parts text ≡ before 59 text ∷ left_parts (cond found (Some (after_mark 59 text)) None)
    by_test true is = slice_split_first (λ b. b == 59) text 0 (less_told _ _ is)
    by_test false is =
        let far : length text ≤ position_or_len (λ b. b == 59) text = more_told _ _ is in
        slice_split_none (λ b. b == 59) text (All-from_get_or (λ b. (b == 59) ≡ false) text 0 (λ i h. fails_before_first (λ b. b == 59) text i 0 (omega arith)))
        ∙ ap (λ t. t ∷ []) (sym (take_all (position_or_len (λ b. b == 59) text) text far))

-- how long what is left is
abbrev pub left_size : Option (List ℕ) → ℕ
left_size None = 0
left_size (Some text) = length text + 1
