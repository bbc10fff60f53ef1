-- The operands of an instruction are read back into their fields.
use Rattle.std.proofs.Common.{◌≡◌, ◌∙◌, ap, sym, subst, refl, inl, inr, ℕ, ◌+◌, ◌-◌, ◌*◌, ◌%◌, ◌^◌, ◌<◌, Bool, true, false, not, ◌&&◌, ◌||◌, ◌==◌, nat_le, List, [], ◌∷◌, ◌++◌, length, length-append, map, decimal, Option, Some, None, option_map, ok_or, Ok, if◌then◌else◌, arith, append-nil}
use Rattle.std.specs.Prelude.{codes}
use Rattle.std.specs.List.{list_all, flat_map}
use Rattle.std.proofs.lemmas.Bool.{cases_Bool, and_parts, and_left, and_right, eqb-true, or_cases, not-true}
use Rattle.std.proofs.Math.Seq.{take-append_seam, get_or-append_seam}
use Rattle.ds_word.specs.Word.{word}
use Rattle.ds_word.specs.ResultBinding.{◌>>=◌}
use Rattle.ds_isa.specs.Fields.{Field, rd, Operand, Register, LinkRegister, SystemRegister, Number, Code, Signed, Branch, Jump, Indexed, places, filled}
use Rattle.ds_asm.specs.Characters.{is_blank, trimmed, until, text_after}
use Rattle.ds_asm.specs.Numbers.{written_number}
use Rattle.ds_asm.specs.Operands.{without_operands, with_value, with_number, with_register, with_signed, with_unsigned, with_indexed, with_operand, with_operands, with_first, operand_misfit, before_close, is_link, has_comma}
use Rattle.ds_asm.specs.Registers.{register_of}
use Rattle.ds_listing.specs.Texts.{register_read_text, signed_text, unsigned_text, distance_text, operand_by, others_by}
use Rattle.ds_text.specs.Digits.{hex4, hex8}
use Rattle.ds_listing.proofs.Numbers.{decimal_all, hex4_all, hex8_all}
use Rattle.ds_listing.proofs.Parts.{all_weaker, all_both, is_other, until_seam, until_none, after_some, after_none, seam_there, trimmed_dense}
use Rattle.ds_listing.proofs.Values.{IsRead, read_signed, read_decimal, read_half, register_read, system_register_read, signed_all, register_all}

-- a character that ends no statement and no line, and is no blank
abbrev pub is_inside : ℕ → Bool
is_inside c = not (is_blank c) && (is_other 10 c && (is_other 35 c && is_other 58 c))

-- one that ends no operand either
abbrev pub is_clear : ℕ → Bool
is_clear c = is_inside c && is_other 44 c

pub inside_dense : (c : ℕ) → is_inside c ≡ true → not (is_blank c) ≡ true
inside_dense c h = let (a, b) = and_parts (not (is_blank c)) _ h in a

pub clear_inside : (c : ℕ) → is_clear c ≡ true → is_inside c ≡ true
clear_inside c h = let (a, b) = and_parts (is_inside c) (is_other 44 c) h in a

-- a word with values added in fields
abbrev pub added : List Field → (Field → ℕ) → ℕ → ℕ
added [] at w = w
added (f ∷ fs) at w = added fs at (word (w + at f % 2 ^ f.width * 2 ^ f.lo))

-- values that are within their fields
abbrev pub Fit : (Field → ℕ) → Type 0
Fit at = (f : Field) → at f < 2 ^ f.width

-- operands whose fields have the width that their text is for, and which are no labels
abbrev pub is_plain : Operand → Bool
is_plain (Register f) = f.width == 5
is_plain (LinkRegister f) = f.width == 5
is_plain (SystemRegister f) = f.width == 5
is_plain (Number f) = f.width == 5 || f.width == 16
is_plain (Code f) = f.width == 20
is_plain (Signed f) = f.width == 16
is_plain (Branch f) = false
is_plain (Jump f) = false
is_plain (Indexed base offset) = base.width == 5 && offset.width == 16

-- such operands, of which the last is no link register
abbrev pub are_plain : List Operand → Bool
are_plain [] = true
are_plain (o ∷ []) = is_plain o && not (is_link o)
are_plain (o ∷ p ∷ os) = is_plain o && are_plain (p ∷ os)

fits_width : (at : Field → ℕ) (f : Field) (k : ℕ) → Fit at → f.width ≡ k → at f < 2 ^ k
fits_width at f k fit e = subst (λ (n : ℕ). at f < 2 ^ n) e (fit f)

-- a number in its field
number_taken : (f : Field) (least most w v k : ℕ) (text : List ℕ) (r : IsRead text least most (2 ^ k) v) → f.width ≡ k
    → option_map (λ n. with_number f least most n (without_operands w)) (written_number text) ≡ Some (without_operands (word (w + v % 2 ^ f.width * 2 ^ f.lo)))
number_taken f least most w v k text r e = rw (r.read, r.within, e, r.kept) refl

unsigned_taken : (f : Field) (w v k : ℕ) (text : List ℕ) → IsRead text 0 (2 ^ k - 1) (2 ^ k) v → f.width ≡ k
    → with_unsigned f text (without_operands w) ≡ Some (without_operands (word (w + v % 2 ^ f.width * 2 ^ f.lo)))
unsigned_taken f w v k text r e = subst (λ (n : ℕ). option_map (λ m. with_number f 0 (2 ^ n - 1) m (without_operands w)) (written_number text) ≡ Some (without_operands (word (w + v % 2 ^ f.width * 2 ^ f.lo)))) (sym e) (number_taken f 0 (2 ^ k - 1) w v k text r e)

signed_taken : (f : Field) (w v : ℕ) (text : List ℕ) → IsRead text 32768 32767 65536 v → f.width ≡ 16
    → with_signed f text (without_operands w) ≡ Some (without_operands (word (w + v % 2 ^ f.width * 2 ^ f.lo)))
signed_taken f w v text r e = subst (λ (n : ℕ). option_map (λ m. with_number f (2 ^ (n - 1)) (2 ^ (n - 1) - 1) m (without_operands w)) (written_number text) ≡ Some (without_operands (word (w + v % 2 ^ f.width * 2 ^ f.lo)))) (sym e) (number_taken f 32768 32767 w v 16 text r e)

-- a text that passes a test of no blanks is trimmed
trimmed_all : (xs : List ℕ) → list_all (λ b. not (is_blank b)) xs ≡ true → trimmed xs ≡ xs
trimmed_all [] h = refl
trimmed_all (x ∷ xs) h = trimmed_dense x xs h

-- what stands before a parenthesis at the end
closed : (xs : List ℕ) → before_close (xs ++ 41 ∷ []) ≡ Some (trimmed xs)
closed xs =
    let size : length (xs ++ 41 ∷ []) - 1 ≡ length xs = omega (arith, length-append xs (41 ∷ [])) in
    rw (size, get_or-append_seam xs 41 [] 0, take-append_seam xs (41 ∷ [])) refl

-- an offset and a base, where the parts of their text are known
indexed_by : (base offset : Field) (text rest inner front : List ℕ) (w n : ℕ) → text_after 40 text ≡ Some rest → before_close rest ≡ Some inner → register_of inner ≡ Some n → trimmed (until 40 text) ≡ front
    → with_indexed base offset text (without_operands w) ≡ with_signed offset front (with_value base n (without_operands w))
unfolding with_indexed
indexed_by base offset text rest inner front w n a b c d =
    rw (a, b, c, d) refl

indexed_taken : (base offset : Field) (at : Field → ℕ) (w : ℕ) → Fit at → base.width ≡ 5 → offset.width ≡ 16
    → with_indexed base offset (operand_by register_read_text at (Indexed base offset)) (without_operands w) ≡ Some (without_operands (added (base ∷ offset ∷ []) at w))
indexed_taken base offset at w fit b o =
    let small = fits_width at base 5 fit b in
    let half = fits_width at offset 16 fit o in
    let after_offset = register_read_text (at base) ++ 41 ∷ [] in
    let front = signed_all (is_other 40) refl refl (at offset) (omega arith) in
    let dense = signed_all (λ c. not (is_blank c)) refl refl (at offset) (omega arith) in
    let close = register_all (λ c. not (is_blank c)) refl refl (at base) (omega arith) in
    indexed_by base offset (signed_text (at offset) ++ 40 ∷ after_offset) after_offset (trimmed (register_read_text (at base))) (signed_text (at offset)) w (at base)
    (after_some 40 (signed_text (at offset)) after_offset front refl)
    (closed (register_read_text (at base)))
    (ap register_of (trimmed_all (register_read_text (at base)) close) ∙ register_read (at base) (omega arith))
    (ap trimmed (until_seam 40 (signed_text (at offset)) after_offset front refl) ∙ trimmed_all (signed_text (at offset)) dense)
    ∙ signed_taken offset (word (w + at base % 2 ^ base.width * 2 ^ base.lo)) (at offset) (signed_text (at offset)) (read_signed (at offset) half) o

-- the text of an operand puts its value into its field
pub operand_taken : (o : Operand) (at : Field → ℕ) (w : ℕ) → Fit at → is_plain o ≡ true → with_operand o (operand_by register_read_text at o) (without_operands w) ≡ Some (without_operands (added (places o) at w))
unfolding with_operand
operand_taken (Register f) at w fit h = ap (λ r. with_register f r (without_operands w)) (register_read (at f) (fits_width at f 5 fit (eqb-true _ _ h)))
operand_taken (LinkRegister f) at w fit h = ap (λ r. with_register f r (without_operands w)) (register_read (at f) (fits_width at f 5 fit (eqb-true _ _ h)))
operand_taken (SystemRegister f) at w fit h = ap (λ r. with_register f r (without_operands w)) (system_register_read (at f) (fits_width at f 5 fit (eqb-true _ _ h)))
operand_taken (Number f) at w fit h = elim (or_cases (f.width == 5) (f.width == 16) h) [
  | inl a ↦
      let e = eqb-true f.width 5 a in
      let small = fits_width at f 5 fit e in
      let text : unsigned_text f.width (at f) ≡ decimal (at f) = rw e refl in
      ap (λ t. with_unsigned f t (without_operands w)) text ∙ unsigned_taken f w (at f) 5 (decimal (at f)) (read_decimal (at f) 31 32 (omega arith) (omega arith)) e
  | inr a ↦
      let e = eqb-true f.width 16 a in
      let half = fits_width at f 16 fit e in
      let text : unsigned_text f.width (at f) ≡ codes "0x" ++ hex4 (at f) = rw e refl in
      ap (λ t. with_unsigned f t (without_operands w)) text ∙ unsigned_taken f w (at f) 16 (codes "0x" ++ hex4 (at f)) (read_half (at f) half) e
]
operand_taken (Code f) at w fit h =
    let e = eqb-true f.width 20 h in
    let small = fits_width at f 20 fit e in
    unsigned_taken f w (at f) 20 (decimal (at f)) (read_decimal (at f) 1048575 1048576 (omega arith) (omega arith)) e
operand_taken (Signed f) at w fit h =
    let e = eqb-true f.width 16 h in
    signed_taken f w (at f) (signed_text (at f)) (read_signed (at f) (fits_width at f 16 fit e)) e
operand_taken (Branch f) at w fit h = cc
operand_taken (Jump f) at w fit h = cc
operand_taken (Indexed base offset) at w fit h =
    let (a, b) = and_parts (base.width == 5) (offset.width == 16) h in
    indexed_taken base offset at w fit (eqb-true _ _ a) (eqb-true _ _ b)

-- one list of fields after another
added-append : (fs gs : List Field) (at : Field → ℕ) (w : ℕ) → added (fs ++ gs) at w ≡ added gs at (added fs at w)
added-append [] gs at w = refl
added-append (f ∷ fs) gs at w = added-append fs gs at (word (w + at f % 2 ^ f.width * 2 ^ f.lo))

clear_other : (c : ℕ) → is_clear c ≡ true → is_other 44 c ≡ true
clear_other c h = let (a, b) = and_parts (is_inside c) (is_other 44 c) h in b

pub clear_dense : (c : ℕ) → is_clear c ≡ true → not (is_blank c) ≡ true
clear_dense c h = inside_dense c (clear_inside c h)

-- the text of an operand is clear
unsigned_clear : (k n : ℕ) → n < 2 ^ 64 → list_all is_clear (unsigned_text k n) ≡ true
unsigned_clear k n l = elim (cases_Bool (k == 16)) [
  | inl e ↦ rw e (all_both is_clear (codes "0x") (hex4 n) refl (hex4_all is_clear refl n))
  | inr e ↦ rw e (decimal_all is_clear refl n l)
]

distance_clear : (m : ℕ) → m < 65536 → list_all is_clear (distance_text m) ≡ true
distance_clear m l = elim (cases_Bool (nat_le m 32768)) [
  | inl e ↦ rw e (all_both is_clear (codes ".+") (decimal (4 * m)) refl (decimal_all is_clear refl (4 * m) (omega arith)))
  | inr e ↦ rw e (all_both is_clear (codes ".-") (decimal (4 * (65536 - m))) refl (decimal_all is_clear refl (4 * (65536 - m)) (omega arith)))
]

-- values that a word holds
abbrev pub AreWords : (Field → ℕ) → Type 0
AreWords at = (f : Field) → at f < 2 ^ 32

pub operand_clear : (o : Operand) (at : Field → ℕ) → AreWords at → list_all is_clear (operand_by register_read_text at o) ≡ true
operand_clear (Register f) at fit = let l = fit f in register_all is_clear refl refl (at f) (omega arith)
operand_clear (LinkRegister f) at fit = let l = fit f in register_all is_clear refl refl (at f) (omega arith)
operand_clear (SystemRegister f) at fit = let l = fit f in register_all is_clear refl refl (at f) (omega arith)
operand_clear (Number f) at fit = let l = fit f in unsigned_clear f.width (at f) (omega arith)
operand_clear (Code f) at fit = let l = fit f in decimal_all is_clear refl (at f) (omega arith)
operand_clear (Signed f) at fit = let l = fit f in signed_all is_clear refl refl (at f) (omega arith)
operand_clear (Branch f) at fit = distance_clear ((at f + 1) % 65536) (omega arith)
operand_clear (Jump f) at fit = all_both is_clear (codes "0x") (hex8 (4 * at f)) refl (hex8_all is_clear refl (4 * at f))
operand_clear (Indexed base offset) at fit =
    let l = fit base in
    let k = fit offset in
    all_both is_clear (signed_text (at offset)) (40 ∷ register_read_text (at base) ++ 41 ∷ []) (signed_all is_clear refl refl (at offset) (omega arith))
    (all_both is_clear (register_read_text (at base)) (41 ∷ []) (register_all is_clear refl refl (at base) (omega arith)) refl)

-- the first operand of a text, where a comma stands after it and where none does
first_taken : (o : Operand) (at : Field → ℕ) (w : ℕ) (text : List ℕ) (left : Option (List ℕ)) → Fit at → AreWords at → is_plain o ≡ true → until 44 text ≡ operand_by register_read_text at o → text_after 44 text ≡ left
    → with_first o text (without_operands w) ≡ Some (left, without_operands (added (places o) at w))
first_taken o at w text left fit words h u b =
    ap (λ t. option_map (λ next. (text_after 44 text, next)) (with_operand o (trimmed t) (without_operands w))) u
    ∙ (ap (λ t. option_map (λ next. (text_after 44 text, next)) (with_operand o t (without_operands w))) (trimmed_all (operand_by register_read_text at o) (all_weaker is_clear (λ c. not (is_blank c)) clear_dense (operand_by register_read_text at o) (operand_clear o at words)))
    ∙ (ap (option_map (λ next. (text_after 44 text, next))) (operand_taken o at w fit h)
    ∙ ap (λ t. Some (t, without_operands (added (places o) at w))) b))

comma_there : (xs ys : List ℕ) → list_all (is_other 44) xs ≡ true → has_comma (xs ++ 44 ∷ ys) ≡ true
comma_there xs ys h = seam_there 44 xs ys h refl

-- the operands of a text put their values into their fields
pub operands_taken : (k : ℕ) (o : Operand) (os : List Operand) (at : Field → ℕ) (w : ℕ) → Fit at → AreWords at → are_plain (o ∷ os) ≡ true
    → with_operands k (o ∷ os) (Some (operand_by register_read_text at o ++ others_by register_read_text at os)) (without_operands w) ≡ Ok (without_operands (added (flat_map places (o ∷ os)) at w))
unfolding with_operands
operands_taken k o [] at w fit words h =
    let (a, b) = and_parts (is_plain o) (not (is_link o)) h in
    let text = operand_by register_read_text at o ++ [] in
    let clear : list_all (is_other 44) text ≡ true = all_both (is_other 44) (operand_by register_read_text at o) [] (all_weaker is_clear (is_other 44) clear_other (operand_by register_read_text at o) (operand_clear o at words)) refl in
    let link : is_link o && not (has_comma text) ≡ false = and_left (is_link o) _ (not-true (is_link o) b) in
    ap (λ c. if c then with_operands k [] (Some text) (with_value rd 31 (without_operands w)) else ok_or (with_first o text (without_operands w)) (operand_misfit k o (trimmed (until 44 text))) >>= (λ p. with_operands (k + 1) [] p.0 p.1)) link
    ∙ (ap (λ r. ok_or r (operand_misfit k o (trimmed (until 44 text))) >>= (λ p. with_operands (k + 1) [] p.0 p.1)) (first_taken o at w text None fit words a (until_none 44 text clear ∙ append-nil (operand_by register_read_text at o)) (after_none 44 text clear))
    ∙ ap (λ fs. Ok (without_operands (added fs at w))) (sym (append-nil (places o))))
operands_taken k o (p ∷ os) at w fit words h =
    let (a, b) = and_parts (is_plain o) (are_plain (p ∷ os)) h in
    let rest = operand_by register_read_text at p ++ others_by register_read_text at os in
    let text = operand_by register_read_text at o ++ 44 ∷ rest in
    let clear : list_all (is_other 44) (operand_by register_read_text at o) ≡ true = all_weaker is_clear (is_other 44) clear_other (operand_by register_read_text at o) (operand_clear o at words) in
    let link : is_link o && not (has_comma text) ≡ false = and_right (is_link o) _ (ap not (comma_there (operand_by register_read_text at o) rest clear)) in
    ap (λ c. if c then with_operands k (p ∷ os) (Some text) (with_value rd 31 (without_operands w)) else ok_or (with_first o text (without_operands w)) (operand_misfit k o (trimmed (until 44 text))) >>= (λ q. with_operands (k + 1) (p ∷ os) q.0 q.1)) link
    ∙ (ap (λ r. ok_or r (operand_misfit k o (trimmed (until 44 text))) >>= (λ q. with_operands (k + 1) (p ∷ os) q.0 q.1)) (first_taken o at w text (Some rest) fit words a (until_seam 44 (operand_by register_read_text at o) rest clear refl) (after_some 44 (operand_by register_read_text at o) rest clear refl))
    ∙ (operands_taken (k + 1) p os at (added (places o) at w) fit words b
    ∙ ap (λ v. Ok (without_operands v)) (sym (added-append (places o) (flat_map places (p ∷ os)) at w))))

sum_of_words : (b x y : ℕ) → ((b + x) % 2 ^ 32 + y) % 2 ^ 32 ≡ (b + (x + y)) % 2 ^ 32
sum_of_words b x y = omega arith

-- a word with values added is the sum
pub added_sum : (fs : List Field) (at : Field → ℕ) (w : ℕ) → w < 2 ^ 32 → added fs at w ≡ word (w + filled fs (map at fs))
added_sum [] at w l = omega arith
added_sum (f ∷ fs) at w l = added_sum fs at (word (w + at f % 2 ^ f.width * 2 ^ f.lo)) (omega arith) ∙ sum_of_words w (at f % 2 ^ f.width * 2 ^ f.lo) (filled fs (map at fs))
