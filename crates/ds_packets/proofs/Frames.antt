-- What is written in a frame is read again.
use Rattle.std.proofs.Common.{◌≡◌, ◌≢◌, sym, ◌∙◌, ap, refl, ℕ, ◌/◌, ◌%◌, ◌^◌, ◌<◌, ◌≤◌, true, false, List, [], ◌∷◌, ◌++◌, length, Some, Ok, option_map, arith, inl, inr, subst, sum, eq-eqb}
use Rattle.std.proofs.lemmas.Bool.{ne_eqb}
use Rattle.std.proofs.lemmas.Bool.Decides.{eqb_tells, nat_tests}
use Rattle.std.specs.List.{AllByRecursion}
use Rattle.ds_word.specs.Digits.{digit_of}
use Rattle.ds_packets.specs.Scans.{Between}
use Rattle.ds_packets.specs.Scanning.{data_of, or_cut, writes}
use Rattle.ds_packets.specs.Streams.{all_came}
use Rattle.ds_packets.specs.Inner.Streams.{IsText}
use Rattle.ds_packets.proofs.Pieces.{came_text}
use Rattle.ds_text.specs.Digits.{lower_hex_digit}
use Rattle.ds_packets.specs.Framing.{is_special, escape, escaped, unescaped, hex_pair, pair_of, frame}

-- a byte is one of the four that are escaped, or another
pub by_special : (b : ℕ) (P : ℕ → Type 0) → P 35 → P 36 → P 42 → P 125 → ((c : ℕ) → is_special c ≡ false → c ≢ 35 → c ≢ 125 → P c) → P b
by_special b P p q r s other =
    elim (eqb_tells b 35) [
      | inl a ↦ subst P (sym a.1) p
      | inr a ↦ elim (eqb_tells b 36) [
        | inl e ↦ subst P (sym e.1) q
        | inr e ↦ elim (eqb_tells b 42) [
          | inl f ↦ subst P (sym f.1) r
          | inr f ↦ elim (eqb_tells b 125) [
            | inl h ↦ subst P (sym h.1) s
            | inr h ↦ other b (rw (a.0, e.0, f.0, h.0) refl) a.1 h.1
          ]
        ]
      ]
    ]

-- an escaped byte is read again
pub unescaped-escape : (b : ℕ) (text : List ℕ) → unescaped (escape b ++ text) ≡ option_map (λ bytes. b ∷ bytes) (unescaped text)
unescaped-escape b text = by_special b (λ c. unescaped (escape c ++ text) ≡ option_map (λ bytes. c ∷ bytes) (unescaped text)) refl refl refl refl (λ c plain hash brace. rw plain (plainly c text brace))
  where
    plainly : (c : ℕ) (rest : List ℕ) → c ≢ 125 → unescaped (c ∷ rest) ≡ option_map (λ bytes. c ∷ bytes) (unescaped rest)
    plainly c [] brace = rw (ne_eqb c 125 brace) refl
    plainly c (d ∷ rest) brace = rw (ne_eqb c 125 brace) refl

-- what is escaped is read again
pub unescaped-escaped : (bytes : List ℕ) → unescaped (escaped bytes) ≡ Some bytes
unescaped-escaped [] = refl
unescaped-escaped (b ∷ bytes) = unescaped-escape b (escaped bytes) ∙ ap (option_map (λ more. b ∷ more)) (unescaped-escaped bytes)

-- a digit of a sum is read again
digit_again : (n : ℕ) → n < 16 → digit_of 16 (lower_hex_digit n) ≡ Some n
digit_again n h = grind (arith, nat_tests)

-- the two digits of a byte are read again
pub pair_again : (n : ℕ) → n < 2 ^ 8 → pair_of (lower_hex_digit (n / 16)) (lower_hex_digit (n % 16)) ≡ Some n
pair_again n h = rw (digit_again (n / 16) (omega arith), digit_again (n % 16) (omega arith)) (ap (λ m. Some m) (omega arith))

-- an escaped byte is no `#`
plain-escape : (b : ℕ) → AllByRecursion (λ c. c ≢ 35) (escape b)
plain-escape b = by_special b (λ c. AllByRecursion (λ d. d ≢ 35) (escape c)) (omega arith, (omega arith, tt)) (omega arith, (omega arith, tt)) (omega arith, (omega arith, tt)) (omega arith, (omega arith, tt)) (λ c plain hash brace. rw plain (hash, tt))

-- what is escaped is a text
pub plain-escaped : (bytes : List ℕ) → IsText (escaped bytes)
plain-escaped [] = tt
plain-escaped (b ∷ bytes) = both (escape b) (escaped bytes) (plain-escape b) (plain-escaped bytes)
  where
    both : (xs ys : List ℕ) → IsText xs → IsText ys → IsText (xs ++ ys)
    both [] ys p q = q
    both (x ∷ xs) ys p q = (p.0, both xs ys p.1 q)

-- a sum that is written is that sum
same_sum : (n : ℕ) → n < 2 ^ 8 → writes (pair_of (lower_hex_digit (n / 16)) (lower_hex_digit (n % 16))) n ≡ true
same_sum n h = rw (pair_again n h) (eq-eqb n n refl)

-- what a frame says
pub said-frame : (bytes : List ℕ) → data_of (escaped bytes) (lower_hex_digit (sum (escaped bytes) % 2 ^ 8 / 16)) (lower_hex_digit (sum (escaped bytes) % 2 ^ 8 % 16)) ≡ Ok bytes
said-frame bytes = rw (same_sum (sum (escaped bytes) % 2 ^ 8) (omega arith)) (ap or_cut (unescaped-escaped bytes))

-- what is framed comes
pub came-frame : (bytes : List ℕ) → length (escaped bytes) ≤ 4096 → all_came Between (frame bytes) ≡ Ok bytes ∷ []
came-frame bytes few =
    let n = sum (escaped bytes) % 2 ^ 8 in
    came_text [] (escaped bytes) (35 ∷ hex_pair n) (plain-escaped bytes) (omega (arith, few)) ∙ ap (λ r. r ∷ []) (said-frame bytes)
