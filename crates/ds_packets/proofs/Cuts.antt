-- What stands before and after the first byte of some kind.
use Rattle.std.proofs.Common.{◌≡◌, sym, refl, ℕ, ◌+◌, ◌-◌, ◌≤◌, ◌==◌, Bool, true, false, cond, nat_lt, List, [], length, take, drop, Some, None, position, arith}
use Rattle.std.proofs.lemmas.List.{drop_all, take_all, take_rest}
use Rattle.std.proofs.lemmas.Bool.Decides.{nat_tests}
use Rattle.std.specs.List.{position_or_len}
use Rattle.ds_packets.specs.Words.{after_mark, before}

-- a choice that is something is what is chosen
pub some_is : (b : Bool) (n i : ℕ) → cond b (Some n) None ≡ Some i → n ≡ i
some_is true n i is = cc
some_is false n i is = cc

-- a choice that is nothing was not taken
pub none_is : (b : Bool) (n : ℕ) → cond b (Some n) None ≡ None → b ≡ false
none_is true n is = cc
none_is false n is = refl

none_left : (n m : ℕ) → nat_lt n m ≡ false → m ≤ n
none_left n m is = grind (arith, nat_tests)

-- on both sides of the byte
pub cut_some : (mark : ℕ) (xs : List ℕ) (i : ℕ) → position (λ b. b == mark) xs ≡ Some i
    → (take i xs ≡ before mark xs) × (take (length xs - (i + 1)) (drop (i + 1) xs) ≡ after_mark mark xs)
cut_some mark xs i is =
    let p : ℕ → Bool = λ b. b == mark in
    let at : position_or_len p xs ≡ i = some_is (nat_lt (position_or_len p xs) (length xs)) (position_or_len p xs) i is in
    (rw at refl, rw at (take_rest xs (i + 1)))

-- where there is none
pub cut_none : (mark : ℕ) (xs : List ℕ) → position (λ b. b == mark) xs ≡ None → (xs ≡ before mark xs) × ([] ≡ after_mark mark xs)
cut_none mark xs is =
    let p : ℕ → Bool = λ b. b == mark in
    let n = position_or_len p xs in
    let far : length xs ≤ n = none_left n (length xs) (none_is (nat_lt n (length xs)) n is) in
    (sym (take_all n xs far), sym (drop_all (n + 1) xs (omega arith)))
