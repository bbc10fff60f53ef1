-- The text of a value is read back as the value.
use Rattle.std.proofs.Common.{◌≡◌, ◌∙◌, ap, sym, refl, inl, inr, ℕ, ◌+◌, ◌-◌, ◌*◌, ◌%◌, ◌^◌, ◌<◌, ◌≤◌, Bool, true, false, not, ◌==◌, nat_le, nat_lt, bytes_eq, List, [], ◌∷◌, ◌++◌, length, take, decimal, Some, arith, append-nil}
use Rattle.std.specs.Prelude.{codes}
use Rattle.std.specs.List.{list_all}
use Rattle.std.specs.Fmt.{digits}
use Rattle.std.proofs.lemmas.Bool.{cases_Bool, and_parts, and_from, and_left, and_right, le-leb, leb-true, ltb-true, ltb-false, not-true}
use Rattle.std.proofs.lemmas.Fmt.{length-decimal-le, decimal_nonempty}
use Rattle.ds_word.specs.Digits.{digits_from}
use Rattle.ds_asm.specs.Characters.{is_digit}
use Rattle.ds_asm.specs.Numbers.{decimal_of, written_number, fits_bounds, as_word}
use Rattle.ds_asm.specs.Registers.{register_of, system_register_of}
use Rattle.ds_listing.specs.Texts.{register_read_text, signed_text}
use Rattle.ds_text.specs.Digits.{hex4, hex8}
use Rattle.ds_listing.proofs.Numbers.{below, below_at, says, said, decimal_read, decimal_all, hex4_read, hex8_read, digits_end}

-- a digit is no minus, and no x
digit_is_other : (c d : ℕ) → is_digit c ≡ true → below (λ k. not (48 + k == d)) 10 ≡ true → (c == d) ≡ false
digit_is_other c d h each =
    let (a, b) = and_parts (nat_le 48 c) (nat_le c 57) h in
    let low = leb-true 48 c a in
    let high = leb-true c 57 b in
    let same : 48 + (c - 48) ≡ c = omega arith in
    not-true (c == d) (ap (λ (n : ℕ). not (n == d)) (sym same) ∙ below_at (λ k. not (48 + k == d)) 10 (c - 48) each (omega arith))

not_hexadecimal : (ds : List ℕ) → list_all is_digit ds ≡ true → bytes_eq (take 2 ds) (codes "0x") ≡ false
not_hexadecimal [] h = refl
not_hexadecimal (c ∷ []) h = and_right (c == 48) _ refl
not_hexadecimal (c ∷ d ∷ ds) h =
    let (a, b) = and_parts (is_digit c) (list_all is_digit (d ∷ ds)) h in
    let (p, q) = and_parts (is_digit d) (list_all is_digit ds) b in
    and_right (c == 48) _ (and_left (d == 120) _ (digit_is_other d 120 p refl))

-- decimal digits are a number
decimal_digits : (ds : List ℕ) → 1 ≤ length ds → length ds ≤ 10 → decimal_of ds ≡ digits_from 10 9999999999 0 ds
decimal_digits ds some few = rw (le-leb 1 (length ds) some, le-leb (length ds) 10 few) refl

number_digits : (ds : List ℕ) (n : ℕ) → list_all is_digit ds ≡ true → 1 ≤ length ds → length ds ≤ 10 → digits_from 10 9999999999 0 ds ≡ Some n
    → written_number ds ≡ Some (record { negative = false; magnitude = n })
number_digits [] n h some few e = absurd (omega arith)
number_digits (c ∷ cs) n h some few e =
    let (a, b) = and_parts (is_digit c) (list_all is_digit cs) h in
    rw (digit_is_other c 45 a refl, not_hexadecimal (c ∷ cs) h, decimal_digits (c ∷ cs) some few, e) refl

-- a number in decimal digits
pub number_decimal : (n : ℕ) → n ≤ 9999999999 → written_number (decimal n) ≡ Some (record { negative = false; magnitude = n })
number_decimal n l =
    let some = decimal_nonempty n (omega arith) in
    let few = length-decimal-le 10 n (omega arith) (omega arith) (omega arith) in
    number_digits (decimal n) n (decimal_all is_digit refl n (omega arith)) (omega arith) few (decimal_read 9999999999 n (omega arith) l)

number_minus : (n : ℕ) → n ≤ 9999999999 → written_number (45 ∷ decimal n) ≡ Some (record { negative = true; magnitude = n })
number_minus n l =
    let some = decimal_nonempty n (omega arith) in
    let few = length-decimal-le 10 n (omega arith) (omega arith) (omega arith) in
    rw (decimal_digits (decimal n) (omega arith) few, decimal_read 9999999999 n (omega arith) l) refl

-- hexadecimal digits after 0x
pub number_hexadecimal : (ds : List ℕ) (n : ℕ) → 1 ≤ length ds → length ds ≤ 8 → digits_from 16 4294967295 0 ds ≡ Some n
    → written_number (48 ∷ 120 ∷ ds) ≡ Some (record { negative = false; magnitude = n })
number_hexadecimal ds n some few e = rw (le-leb 1 (length ds) some, le-leb (length ds) 8 few, e) refl

length-hex4 : (n : ℕ) → length (hex4 n) ≡ 4
unfolding hex4
length-hex4 n = refl

length-hex8 : (n : ℕ) → length (hex8 n) ≡ 8
unfolding hex8 hex4
length-hex8 n = refl

pub number_half : (n : ℕ) → n < 65536 → written_number (codes "0x" ++ hex4 n) ≡ Some (record { negative = false; magnitude = n })
number_half n l =
    let size = length-hex4 n in
    let none : hex4 n ≡ hex4 n ++ [] = sym (append-nil (hex4 n)) in
    number_hexadecimal (hex4 n) n (omega arith) (omega arith)
    (ap (digits_from 16 4294967295 0) none ∙ (hex4_read 0 n [] l (omega arith) ∙ (digits_end 16 4294967295 (0 * 65536 + n) ∙ ap (λ (k : ℕ). Some k) (omega arith))))

pub number_word : (n : ℕ) → n < 4294967296 → written_number (codes "0x" ++ hex8 n) ≡ Some (record { negative = false; magnitude = n })
number_word n l =
    let size = length-hex8 n in
    number_hexadecimal (hex8 n) n (omega arith) (omega arith) (hex8_read n l)

-- a number that is read, with the range that it is in and its value in a field
pub record IsRead (text : List ℕ) (least most modulus value : ℕ) : Type 0 where
  pub negative : Bool
  pub magnitude : ℕ
  pub read : written_number text ≡ Some (record { negative = negative; magnitude = magnitude })
  pub within : fits_bounds least most (record { negative = negative; magnitude = magnitude }) ≡ true
  pub kept : as_word (record { negative = negative; magnitude = magnitude }) % modulus ≡ value % modulus

pub read_signed : (v : ℕ) → v < 65536 → IsRead (signed_text v) 32768 32767 65536 v
read_signed v l = elim (cases_Bool (nat_lt v 32768)) [
  | inl low ↦
      let small = ltb-true v 32768 low in
      record { negative = false; magnitude = v; read = rw low (number_decimal v (omega arith)); within = le-leb v 32767 (omega arith); kept = omega arith }
  | inr high ↦
      let large = ltb-false v 32768 high in
      record { negative = true; magnitude = 65536 - v; read = rw high (number_minus (65536 - v) (omega arith)); within = le-leb (65536 - v) 32768 (omega arith); kept = omega arith }
]

pub read_decimal : (v most modulus : ℕ) → v ≤ most → v < 4294967296 → IsRead (decimal v) 0 most modulus v
read_decimal v most modulus l s =
    let same : v % 4294967296 ≡ v = omega arith in
    record { negative = false; magnitude = v; read = number_decimal v (omega arith); within = le-leb v most l; kept = ap (λ (n : ℕ). n % modulus) same }

pub read_half : (v : ℕ) → v < 65536 → IsRead (codes "0x" ++ hex4 v) 0 65535 65536 v
read_half v l = record { negative = false; magnitude = v; read = number_half v l; within = le-leb v 65535 (omega arith); kept = omega arith }

-- a register is read back
pub register_read : (n : ℕ) → n < 32 → register_of (register_read_text n) ≡ Some n
unfolding digits
register_read n l = said _ n (below_at (λ k. says (register_of (register_read_text k)) k) 32 n refl l)

pub system_register_read : (n : ℕ) → n < 32 → system_register_of (register_read_text n) ≡ Some n
unfolding digits
system_register_read n l = said _ n (below_at (λ k. says (system_register_of (register_read_text k)) k) 32 n refl l)

-- the characters of values
pub signed_all : (p : ℕ → Bool) → below (λ d. p (48 + d)) 10 ≡ true → p 45 ≡ true → (n : ℕ) → n < 2 ^ 64 → list_all p (signed_text n) ≡ true
signed_all p each sign n l = elim (cases_Bool (nat_lt n 32768)) [
  | inl low ↦ rw low (decimal_all p each n l)
  | inr high ↦ rw high (and_from (p 45) _ sign (decimal_all p each (65536 - n) (omega arith)))
]

pub register_all : (p : ℕ → Bool) → below (λ d. p (48 + d)) 10 ≡ true → p 36 ≡ true → (n : ℕ) → n < 2 ^ 64 → list_all p (register_read_text n) ≡ true
register_all p each sign n l = and_from (p 36) _ sign (decimal_all p each n l)
