-- What is said of so many numbers, one after another.
use Rattle.std.proofs.Common.{◌≡◌, ℕ, suc, ◌+◌, ◌-◌, ◌<◌, ◌≤◌, List, [], ◌++◌, length, take, append_assoc, refl, sym, ap, ◌∙◌, arith}
use Rattle.std.proofs.lemmas.List.{append-nil, length-take}
use Rattle.ds_gdb.specs.Each.{each}

one_left : (count i : ℕ) → i < count → count - i ≡ suc (count - (i + 1))
one_left count i within = omega (arith, within)

each_first : (f : ℕ → List ℕ) (i n : ℕ) → f i ++ each f (i + 1) n ≡ each f i (suc n)
unfolding each
each_first f i n = refl

each_none : (f : ℕ → List ℕ) (i : ℕ) → [] ≡ each f i 0
unfolding each
each_none f i = refl

-- at first all of it is left
pub each_start : (f : ℕ → List ℕ) (count : ℕ) (before : List ℕ) → before ++ each f 0 (count - 0) ≡ before ++ each f 0 count
each_start f count before = let all : count - 0 ≡ count = omega arith in ap (λ (n : ℕ). before ++ each f 0 n) all

-- with one more said, so much is left
pub each_more : (f : ℕ → List ℕ) (i count : ℕ) (before between all : List ℕ) → i < count → between ≡ before ++ f i → before ++ each f i (count - i) ≡ all → between ++ each f (i + 1) (count - (i + 1)) ≡ all
each_more f i count before between all within is left =
    let rest : List ℕ = each f (i + 1) (count - (i + 1)) in
    ap (λ (x : List ℕ). x ++ rest) is
    ∙ (append_assoc before (f i) rest
    ∙ (ap (λ (x : List ℕ). before ++ x) (each_first f i (count - (i + 1)))
    ∙ (ap (λ (n : ℕ). before ++ each f i n) (sym (one_left count i within)) ∙ left)))

-- and at the end nothing is
pub each_end : (f : ℕ → List ℕ) (i count : ℕ) (before all : List ℕ) → count ≤ i → before ++ each f i (count - i) ≡ all → before ≡ all
each_end f i count before all past left =
    let none : 0 ≡ count - i = omega (arith, past) in
    sym (append-nil before) ∙ (ap (λ (x : List ℕ). before ++ x) (each_none f i) ∙ (ap (λ (n : ℕ). before ++ each f i n) none ∙ left))

-- as many are taken as there are to take
pub length_taken : (n : ℕ) (xs : List ℕ) → n < length xs → n ≡ length (take n xs)
length_taken n xs more = let taken = length-take n xs in omega (arith, more, taken)
