-- A queue has room for each process that isn't in it, and stays a queue.
use Rattle.std.proofs.Common.{◌≡◌, ℕ, ◌<◌, ◌≤◌, ◌<◌, List, [], ◌∷◌, ◌++◌, length, sym, ◌∙◌, arith, nat_eq, true, get_or}
use Rattle.std.specs.Prelude.{◌≢◌, ◌==◌, not, All, Contains}
use Rattle.std.specs.List.{list_any}
use Rattle.std.proofs.lemmas.List.{get_or_default}
use Rattle.std.proofs.lemmas.List.Elements.{All-cons, All-push, All-filter, filter_passes}
use Rattle.std.proofs.lemmas.List.Kept.{AllPairs-cons, AllPairs-filter}
use Rattle.std.proofs.lemmas.List.Quantifiers.{all_pairs_push}
use Rattle.std.proofs.lemmas.Bool.Decides.{Decides-eqb, nat_tests}
use Rattle.std.proofs.lemmas.Map.Made.{IsDistinct-from_AllPairs}
use Rattle.std.proofs.lemmas.Map.Views.{Contains-from_any}
use Rattle.std.proofs.lemmas.Map.Steps.{length-le_from_distinct_below}
use Rattle.ds_procs.specs.Inner.Queue.{IsQueue, without}

-- each element differs from what isn't in the list
All-apart : (xs : List ℕ) (n : ℕ) → ¬ Contains xs n → All (λ p. n ≢ p) xs
All-apart xs n absent k d within same = absent (k, within, get_or_default xs k n d within ∙ sym same)

-- what a look-up finds is below what all elements are below
below_of_any : (xs : List ℕ) (q n : ℕ) → All (λ p. p < n) xs → list_any (nat_eq q) xs ≡ true → q < n
below_of_any xs q n below found =
    let at = Contains-from_any {eq = nat_eq} (λ x y same. grind (arith, nat_tests)) q xs found in
    omega (arith, below at.0 q at.1, at.2)

-- a queue that lacks a number has room
pub length-lt-from_absent : (xs : List ℕ) (n : ℕ) → IsQueue xs → 0 < n → n ≤ 100 → ¬ Contains xs n → length xs < 100
length-lt-from_absent xs n queue positive small absent =
    let apart = All-apart xs n absent in
    let distinct = AllPairs-cons (λ p q. p ≢ q) 0 (n ∷ xs) (All-cons (λ p. 0 ≢ p) n xs (λ e. omega (arith, e, positive)) (λ k d within e. omega (arith, e, (queue.numbered k d within).0)))
    (AllPairs-cons (λ p q. p ≢ q) n xs apart queue.distinct) in
    let below = All-cons (λ p. p < 101) 0 (n ∷ xs) (omega arith) (All-cons (λ p. p < 101) n xs (omega arith) (λ k d within. omega (arith, (queue.numbered k d within).1))) in
    let fits = length-le_from_distinct_below (0 ∷ n ∷ xs) 101 (IsDistinct-from_AllPairs Decides-eqb (0 ∷ n ∷ xs) distinct) (λ q h. below_of_any (0 ∷ n ∷ xs) q 101 below h) in
    omega (arith, fits)

-- a process that isn't in it may go to its end
pub IsQueue-push : (xs : List ℕ) (n : ℕ) → IsQueue xs → 0 < n → n ≤ 100 → ¬ Contains xs n → IsQueue (xs ++ n ∷ [])
IsQueue-push xs n queue positive small absent = record {
  numbered = All-push (λ p. (0 < p) × (p ≤ 100)) xs n queue.numbered (positive, small);
  distinct = all_pairs_push (λ p q. p ≢ q) xs n queue.distinct (λ k d within same. All-apart xs n absent k d within (sym same));
}

-- each process may be taken out
pub IsQueue-without : (xs : List ℕ) (n : ℕ) → IsQueue xs → IsQueue (without xs n)
IsQueue-without xs n queue = record {
  numbered = All-filter (λ q. not (q == n)) (λ p. (0 < p) × (p ≤ 100)) xs queue.numbered;
  distinct = AllPairs-filter (λ p q. p ≢ q) (λ q. not (q == n)) xs queue.distinct;
}

-- who was taken out isn't in it
pub absent-without : (xs : List ℕ) (n : ℕ) → ¬ Contains (without xs n) n
absent-without xs n found =
    let passes = filter_passes (λ q. not (q == n)) xs found.0 n found.1 in
    differs (get_or (without xs n) found.0 n) n passes found.2
  where
    differs : (q p : ℕ) → not (q == p) ≡ true → ¬ (q ≡ p)
    differs q p apart same = grind (arith, nat_tests)
