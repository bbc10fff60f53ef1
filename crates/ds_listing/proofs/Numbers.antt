-- Numbers as they are written: what digits say.
use Rattle.std.proofs.Common.{◌≡◌, ◌∙◌, ap, sym, refl, ℕ, zero, suc, ◌+◌, ◌*◌, ◌/◌, ◌%◌, ◌^◌, ◌<◌, ◌≤◌, Bool, true, false, ◌&&◌, nat_le, List, [], ◌∷◌, ◌++◌, decimal, Option, Some, None, option_and_then, if◌then◌else◌, arith, ◌==◌, inl, inr, append-nil}
use Rattle.std.specs.List.{list_all}
use Rattle.std.proofs.lemmas.Bool.{le-leb, and_parts, and_from, eqb-true, cases_order}
use Rattle.std.proofs.lemmas.Fmt.{decimal_by_steps}
use Rattle.std.proofs.lemmas.List.Folds.{list_all-append}
use Rattle.ds_word.specs.Digits.{digit_of, digits_from}
use Rattle.ds_text.specs.Digits.{hex4, hex8, hex_digit}

-- a test at each number below one
abbrev pub below : (ℕ → Bool) → ℕ → Bool
below p zero = true
below p (suc n) = p n && below p n

pub below_at : (p : ℕ → Bool) (n k : ℕ) → below p n ≡ true → k < n → p k ≡ true
below_at p zero k h l = absurd (omega arith)
below_at p (suc n) k h l =
    let (here, rest) = and_parts (p n) (below p n) h in
    elim (cases_order k n) [
      | inl e ↦ rw e here
      | inr (inl low) ↦ below_at p n k rest low
      | inr (inr high) ↦ absurd (omega arith)
    ]

-- whether there is this number
abbrev pub says : Option ℕ → ℕ → Bool
says None n = false
says (Some m) n = m == n

pub said : (o : Option ℕ) (n : ℕ) → says o n ≡ true → o ≡ Some n
said None n h = cc
said (Some m) n h = ap (λ (k : ℕ). Some k) (eqb-true m n h)

-- a digit goes on with the number
pub digit_read : (base limit m c d : ℕ) (cs : List ℕ) → digit_of base c ≡ Some d → m * base + d ≤ limit → digits_from base limit m (c ∷ cs) ≡ digits_from base limit (m * base + d) cs
unfolding digits_from
digit_read base limit m c d cs e h = rw (e, le-leb (m * base + d) limit h) refl

-- no digit more
pub digits_end : (base limit n : ℕ) → digits_from base limit n [] ≡ Some n
unfolding digits_from
digits_end base limit n = refl

then_either : (b : Bool) (r : Option ℕ) (f : ℕ → Option ℕ) → (if b then option_and_then f r else None) ≡ option_and_then f (if b then r else None)
then_either true r f = refl
then_either false r f = refl

then_chosen : (o : Option ℕ) (t : ℕ → Bool) (f g h : ℕ → Option ℕ) → ((d : ℕ) → f d ≡ option_and_then h (g d))
    → option_and_then (λ d. if t d then f d else None) o ≡ option_and_then h (option_and_then (λ d. if t d then g d else None) o)
then_chosen None t f g h e = refl
then_chosen (Some d) t f g h e = ap (λ (r : Option ℕ). if t d then r else None) (e d) ∙ then_either (t d) (g d) h

-- a digit after others
digit_after : (base limit n : ℕ) (xs : List ℕ) (c : ℕ) → digits_from base limit n (xs ++ c ∷ []) ≡ option_and_then (λ m. digits_from base limit m (c ∷ [])) (digits_from base limit n xs)
unfolding digits_from
digit_after base limit n [] c = refl
digit_after base limit n (x ∷ xs) c =
    then_chosen (digit_of base x) (λ d. nat_le (n * base + d) limit) (λ d. digits_from base limit (n * base + d) (xs ++ c ∷ []))
    (λ d. digits_from base limit (n * base + d) xs) (λ m. digits_from base limit m (c ∷ [])) (λ d. digit_after base limit (n * base + d) xs c)

-- what the decimal digits say, and the hexadecimal ones
decimal_digit_of : (d : ℕ) → d < 10 → digit_of 10 (48 + d) ≡ Some d
decimal_digit_of d l = said _ d (below_at (λ k. says (digit_of 10 (48 + k)) k) 10 d refl l)

pub hex_digit_of : (d : ℕ) → d < 16 → digit_of 16 (hex_digit d) ≡ Some d
hex_digit_of d l = said _ d (below_at (λ k. says (digit_of 16 (hex_digit k)) k) 16 d refl l)

-- a number in decimal digits is read back
pub decimal_read : (limit n : ℕ) → n < 2 ^ 64 → n ≤ limit → digits_from 10 limit 0 (decimal n) ≡ Some n
decimal_read limit n small within = decimal_by_steps (λ m ds. m ≤ limit → digits_from 10 limit 0 ds ≡ Some m)
    (λ m l h. digit_read 10 limit 0 (48 + m) m [] (decimal_digit_of m l) (omega arith) ∙ digits_end 10 limit (0 * 10 + m) ∙ ap (λ (k : ℕ). Some k) (omega arith))
    (λ m ds l ih h.
    digit_after 10 limit 0 ds (48 + m % 10)
    ∙ ap (option_and_then (λ k. digits_from 10 limit k ((48 + m % 10) ∷ []))) (ih (omega arith))
    ∙ digit_read 10 limit (m / 10) (48 + m % 10) (m % 10) [] (decimal_digit_of (m % 10) (omega arith)) (omega arith)
    ∙ digits_end 10 limit (m / 10 * 10 + m % 10) ∙ ap (λ (k : ℕ). Some k) (omega arith))
    n small within

-- decimal digits pass a test that each of the ten passes
pub decimal_all : (p : ℕ → Bool) → below (λ d. p (48 + d)) 10 ≡ true → (n : ℕ) → n < 2 ^ 64 → list_all p (decimal n) ≡ true
decimal_all p each = decimal_by_steps (λ m ds. list_all p ds ≡ true)
    (λ m l. and_from (p (48 + m)) true (below_at (λ d. p (48 + d)) 10 m each l) refl)
    (λ m ds l h. list_all-append p ds ((48 + m % 10) ∷ []) ∙ and_from (list_all p ds) (p (48 + m % 10) && true) h
    (and_from (p (48 + m % 10)) true (below_at (λ d. p (48 + d)) 10 (m % 10) each (omega arith)) refl))

-- and hexadecimal ones a test that each of the sixteen passes
pub hex4_all : (p : ℕ → Bool) → below (λ d. p (hex_digit d)) 16 ≡ true → (n : ℕ) → list_all p (hex4 n) ≡ true
unfolding hex4
hex4_all p each n =
    and_from (p (hex_digit (n / 4096 % 16))) _ (below_at (λ d. p (hex_digit d)) 16 (n / 4096 % 16) each (omega arith))
    (and_from (p (hex_digit (n / 256 % 16))) _ (below_at (λ d. p (hex_digit d)) 16 (n / 256 % 16) each (omega arith))
    (and_from (p (hex_digit (n / 16 % 16))) _ (below_at (λ d. p (hex_digit d)) 16 (n / 16 % 16) each (omega arith))
    (and_from (p (hex_digit (n % 16))) true (below_at (λ d. p (hex_digit d)) 16 (n % 16) each (omega arith)) refl)))

pub hex8_all : (p : ℕ → Bool) → below (λ d. p (hex_digit d)) 16 ≡ true → (n : ℕ) → list_all p (hex8 n) ≡ true
unfolding hex8
hex8_all p each n = list_all-append p (hex4 (n / 65536)) (hex4 (n % 65536)) ∙ and_from _ _ (hex4_all p each (n / 65536)) (hex4_all p each (n % 65536))

-- four hexadecimal digits go on with a number
pub hex4_read : (m n : ℕ) (cs : List ℕ) → n < 65536 → m * 65536 + n ≤ 4294967295
    → digits_from 16 4294967295 m (hex4 n ++ cs) ≡ digits_from 16 4294967295 (m * 65536 + n) cs
unfolding hex4
hex4_read m n cs l h =
    digit_read 16 4294967295 m _ (n / 4096 % 16) _ (hex_digit_of (n / 4096 % 16) (omega arith)) (omega arith)
    ∙ digit_read 16 4294967295 (m * 16 + n / 4096 % 16) _ (n / 256 % 16) _ (hex_digit_of (n / 256 % 16) (omega arith)) (omega arith)
    ∙ digit_read 16 4294967295 ((m * 16 + n / 4096 % 16) * 16 + n / 256 % 16) _ (n / 16 % 16) _ (hex_digit_of (n / 16 % 16) (omega arith)) (omega arith)
    ∙ digit_read 16 4294967295 (((m * 16 + n / 4096 % 16) * 16 + n / 256 % 16) * 16 + n / 16 % 16) _ (n % 16) _ (hex_digit_of (n % 16) (omega arith)) (omega arith)
    ∙ ap (λ (k : ℕ). digits_from 16 4294967295 k cs) (omega arith)

-- eight hexadecimal digits are read back
pub hex8_read : (n : ℕ) → n < 4294967296 → digits_from 16 4294967295 0 (hex8 n) ≡ Some n
unfolding hex8
hex8_read n l =
    hex4_read 0 (n / 65536) (hex4 (n % 65536)) (omega arith) (omega arith)
    ∙ ap (digits_from 16 4294967295 (0 * 65536 + n / 65536)) (sym (append-nil (hex4 (n % 65536))))
    ∙ hex4_read (0 * 65536 + n / 65536) (n % 65536) [] (omega arith) (omega arith)
    ∙ digits_end 16 4294967295 _ ∙ ap (λ (k : ℕ). Some k) (omega arith)
