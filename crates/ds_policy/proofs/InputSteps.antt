-- One step over the pairs of digits of a word, for the reading of an input.
use Rattle.std.proofs.Common.{◌≡◌, sym, ap, refl, ℕ, ◌+◌, ◌*◌, ◌<◌, ◌≤◌, List, [], ◌∷◌, ◌++◌, length, get_or, drop, Option, Some, None, option_map, arith, append_assoc, append-nil, length-append, take, ◌-◌}
use Rattle.std.proofs.lemmas.List.{take_all}
use Rattle.ds_policy.specs.InputNumbers.{pair_of, pairs_of}

-- bytes before those that were read
abbrev pub afterwards : List ℕ → Option (List ℕ) → Option (List ℕ)
afterwards done read = option_map (λ bytes. done ++ bytes) read

moved : (done : List ℕ) (x : ℕ) (read : Option (List ℕ)) → afterwards done (option_map (λ bytes. x ∷ bytes) read) ≡ afterwards (done ++ x ∷ []) read
moved done x None = refl
moved done x (Some bytes) = ap (λ b. Some b) (sym (append_assoc done (x ∷ []) bytes))

pub pairs_step : (done left : List ℕ) (x : ℕ) → 2 ≤ length left → pair_of (get_or left 0 0) (get_or left 1 0) ≡ Some x
    → afterwards done (pairs_of left) ≡ afterwards (done ++ x ∷ []) (pairs_of (take (length left - 2) (drop 2 left)))
unfolding pairs_of
pairs_step done [] x two is = absurd (omega arith)
pairs_step done (a ∷ []) x two is = absurd (omega arith)
pairs_step done (a ∷ b ∷ rest) x two is = rw (is, take_all (length (a ∷ b ∷ rest) - 2) rest (omega arith)) (moved done x (pairs_of rest))

pub pairs_bad : (done left : List ℕ) → 2 ≤ length left → pair_of (get_or left 0 0) (get_or left 1 0) ≡ None → afterwards done (pairs_of left) ≡ None
unfolding pairs_of
pairs_bad done [] two is = absurd (omega arith)
pairs_bad done (a ∷ []) two is = absurd (omega arith)
pairs_bad done (a ∷ b ∷ rest) two is = rw is

pub pairs_room : (done left : List ℕ) (x n : ℕ) → 2 ≤ length left → 2 * length done + length left ≡ n → 2 * length (done ++ x ∷ []) + length (take (length left - 2) (drop 2 left)) ≡ n
pairs_room done [] x n two room = absurd (omega arith)
pairs_room done (a ∷ []) x n two room = absurd (omega arith)
pairs_room done (a ∷ b ∷ rest) x n two room = rw (take_all (length (a ∷ b ∷ rest) - 2) rest (omega arith)) (omega (arith, length-append done (x ∷ [])))

pub pairs_all : (done left : List ℕ) → length left ≡ 0 → afterwards done (pairs_of left) ≡ Some done
unfolding pairs_of
pairs_all done [] none = ap (λ b. Some b) (append-nil done)
pairs_all done (a ∷ rest) none = absurd (omega arith)

pub pairs_odd : (done left : List ℕ) → length left < 2 → ¬ (length left ≡ 0) → afterwards done (pairs_of left) ≡ None
unfolding pairs_of
pairs_odd done [] few some = absurd (some refl)
pairs_odd done (a ∷ []) few some = refl
pairs_odd done (a ∷ b ∷ rest) few some = absurd (omega arith)
