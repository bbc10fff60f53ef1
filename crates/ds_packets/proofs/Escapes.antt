-- One step over a text with escapes, and that what is escaped is read again.
use Rattle.std.proofs.Common.{◌≡◌, sym, ap, refl, ℕ, ◌+◌, ◌-◌, ◌≤◌, false, nat_eq, List, [], ◌∷◌, ◌++◌, length, get_or, drop, take, Option, Some, None, option_map, arith, append_assoc, append-nil, length-append, bit_xor}
use Rattle.std.proofs.lemmas.List.{take_all}
use Rattle.ds_packets.specs.Framing.{unescaped}

-- bytes before those that were read
abbrev pub afterwards : List ℕ → Option (List ℕ) → Option (List ℕ)
afterwards done read = option_map (λ bytes. done ++ bytes) read

moved : (done : List ℕ) (x : ℕ) (read : Option (List ℕ)) → afterwards done (option_map (λ bytes. x ∷ bytes) read) ≡ afterwards (done ++ x ∷ []) read
moved done x None = refl
moved done x (Some bytes) = ap (λ b. Some b) (sym (append_assoc done (x ∷ []) bytes))

-- what stands after the first byte
abbrev pub tail : List ℕ → List ℕ
tail left = take (length left - 1) (drop 1 left)

-- after an escape, which has a byte behind it
pub escape_step : (done left : List ℕ) → 1 ≤ length (tail left) → get_or left 0 0 ≡ 125
    → afterwards (done ++ bit_xor (get_or (tail left) 0 0) 32 ∷ []) (unescaped (tail (tail left))) ≡ afterwards done (unescaped left)
escape_step done [] one is = absurd (omega arith)
escape_step done (a ∷ []) one is = absurd (omega arith)
escape_step done (a ∷ b ∷ text) one is = rw (is, take_all (length (a ∷ b ∷ text) - 1) (b ∷ text) (omega arith), take_all (length (b ∷ text) - 1) text (omega arith)) (sym (moved done (bit_xor b 32) (unescaped text)))

-- after any other byte
pub plain_step : (done left : List ℕ) → 1 ≤ length left → nat_eq (get_or left 0 0) 125 ≡ false
    → afterwards (done ++ get_or left 0 0 ∷ []) (unescaped (tail left)) ≡ afterwards done (unescaped left)
plain_step done [] one is = absurd (omega arith)
plain_step done (a ∷ []) one is = rw is (ap (λ b. Some b) (append-nil (done ++ a ∷ [])))
plain_step done (a ∷ b ∷ text) one is = rw (is, take_all (length (a ∷ b ∷ text) - 1) (b ∷ text) (omega arith)) (sym (moved done a (unescaped (b ∷ text))))

pub tail_room : (done left : List ℕ) (x : ℕ) → 1 ≤ length left → length done + length left ≤ 4096 → length (done ++ x ∷ []) + length (tail left) ≤ 4096
tail_room done [] x one room = absurd (omega arith)
tail_room done (a ∷ rest) x one room = rw (take_all (length (a ∷ rest) - 1) rest (omega arith)) (omega (arith, length-append done (x ∷ [])))

pub tails_room : (done left : List ℕ) (x : ℕ) → 1 ≤ length (tail left) → length done + length left ≤ 4096 → length (done ++ x ∷ []) + length (tail (tail left)) ≤ 4096
tails_room done [] x one room = absurd (omega arith)
tails_room done (a ∷ rest) x one room =
    let same : tail (a ∷ rest) ≡ rest = take_all (length (a ∷ rest) - 1) rest (omega arith) in
    rw same (tail_room done rest x (rw same at one) (omega arith))
