-- What each row of the table writes says the word that fits the row.
use Rattle.std.proofs.Common.{◌≡◌, ◌∙◌, ap, sym, subst, refl, inl, inr, ℕ, ◌+◌, ◌^◌, ◌<◌, ◌≤◌, true, false, ◌==◌, nat_lt, List, [], ◌∷◌, ◌++◌, length, length-append, map, Some, None, ok_or, Ok, arith, append-nil}
use Rattle.std.specs.List.{list_all, flat_map}
use Rattle.std.proofs.lemmas.Bool.{cases_Bool, and_parts, eqb-true, cond-true, cond-false}
use Rattle.std.proofs.lemmas.Fmt.{decimal_nonempty}
use Rattle.std.proofs.Math.Nat.{zero-mod}
use Rattle.ds_word.specs.Word.{word}
use Rattle.ds_word.specs.ResultBinding.{◌>>=◌}
use Rattle.ds_isa.specs.Fields.{Field, Operand, Register, LinkRegister, SystemRegister, Number, Code, Signed, Branch, Jump, Indexed, places, filled}
use Rattle.ds_asm.specs.Forms.{form_named}
use Rattle.ds_asm.specs.Operands.{without_operands, with_operands}
use Rattle.ds_asm.specs.declared.syntax.SyntaxCause.TheVariants.{NoSuchName}
use Rattle.ds_asm.specs.Lines.{Encoded, unless_empty, statement_named, line_of}
use Rattle.ds_asm.specs.Assembly.{is_reserved_word}
use Rattle.ds_listing.specs.Inner.Laws.{alone, Says}
use Rattle.ds_listing.specs.Texts.{register_read_text, signed_text, operand_by, others_by, operands_by, is_left_out, instruction_by}
use Rattle.ds_listing.proofs.Parts.{all_weaker, all_both, body_line}
use Rattle.ds_listing.proofs.Operands.{is_clear, is_inside, clear_inside, added, Fit, AreWords, is_plain, are_plain, operand_clear, operands_taken, added_sum}
use Rattle.ds_listing.proofs.Statements.{name_body, operands_body, statement_alone, statement_with, is_mnemonic, named_statement, encoded_word}

-- an operand that is no label has a text
signed_some : (n : ℕ) → n < 2 ^ 32 → 1 ≤ length (signed_text n)
signed_some n l = elim (cases_Bool (nat_lt n 32768)) [
  | inl e ↦ let some = decimal_nonempty n (omega arith) in rw e (omega arith)
  | inr e ↦ rw e (omega arith)
]

operand_some : (o : Operand) (at : Field → ℕ) → AreWords at → is_plain o ≡ true → 1 ≤ length (operand_by register_read_text at o)
operand_some (Register f) at fit h = omega arith
operand_some (LinkRegister f) at fit h = omega arith
operand_some (SystemRegister f) at fit h = omega arith
operand_some (Number f) at fit h = elim (cases_Bool (f.width == 16)) [
  | inl e ↦ rw e (omega arith)
  | inr e ↦ let l = fit f in let some = decimal_nonempty (at f) (omega arith) in rw e (omega arith)
]
operand_some (Code f) at fit h = let l = fit f in decimal_nonempty (at f) (omega arith)
operand_some (Signed f) at fit h = signed_some (at f) (fit f)
operand_some (Branch f) at fit h = cc
operand_some (Jump f) at fit h = cc
operand_some (Indexed base offset) at fit h = omega (arith, length-append (signed_text (at offset)) (40 ∷ register_read_text (at base) ++ 41 ∷ []), signed_some (at offset) (fit offset))

-- its characters, with those of others after commas
operand_inside : (o : Operand) (at : Field → ℕ) → AreWords at → list_all is_inside (operand_by register_read_text at o) ≡ true
operand_inside o at fit = all_weaker is_clear is_inside clear_inside (operand_by register_read_text at o) (operand_clear o at fit)

pub others_inside : (os : List Operand) (at : Field → ℕ) → AreWords at → list_all is_inside (others_by register_read_text at os) ≡ true
others_inside [] at fit = refl
others_inside (o ∷ os) at fit = all_both is_inside (44 ∷ operand_by register_read_text at o) (others_by register_read_text at os) (operand_inside o at fit) (others_inside os at fit)

pub operands_inside : (o : Operand) (os : List Operand) (at : Field → ℕ) → AreWords at → list_all is_inside (operand_by register_read_text at o ++ others_by register_read_text at os) ≡ true
operands_inside o os at fit = all_both is_inside (operand_by register_read_text at o) (others_by register_read_text at os) (operand_inside o at fit) (others_inside os at fit)

-- a row's word without values
pub filled_none : (fs : List Field) → filled fs [] ≡ 0
filled_none [] = refl
filled_none (f ∷ fs) = refl

-- what an instruction of a name says, with its text after the name
module _ (c : ℕ) (cs : List ℕ) (base w : ℕ) (os : List Operand) (found : form_named (c ∷ cs) ≡ Some (record { name = c ∷ cs; word = base; operands = os })) (mnemonic : is_mnemonic (c ∷ cs) ≡ true) where
  name_inside : list_all is_inside (c ∷ cs) ≡ true
  name_inside = let (a, b) = and_parts (list_all is_clear (c ∷ cs)) _ mnemonic in all_weaker is_clear is_inside clear_inside (c ∷ cs) a

  -- the statement of the name and what is left
  named : (text : List ℕ) → statement_named (c ∷ cs) text ≡ (with_operands 1 os (unless_empty text) (without_operands base) >>= (λ i. Ok (Encoded i)))
  named text = named_statement c cs text mnemonic ∙ ap (λ f. ok_or f NoSuchName >>= (λ g. with_operands 1 g.operands (unless_empty text) (without_operands g.word)) >>= (λ i. Ok (Encoded i))) found

  alone_says : with_operands 1 os None (without_operands base) ≡ Ok (without_operands w) → is_reserved_word w ≡ false → Says (line_of (c ∷ cs)) w
  alone_says e r = record {
    statement = Encoded (without_operands w);
    is = body_line (c ∷ cs) (name_body c cs name_inside) ∙ ap alone (statement_alone (c ∷ cs) name_inside ∙ (named [] ∙ ap (λ r. r >>= (λ i. Ok (Encoded i))) e));
    word = encoded_word w r;
  }

  with_says : (text : List ℕ) → 1 ≤ length text → list_all is_inside text ≡ true → with_operands 1 os (Some text) (without_operands base) ≡ Ok (without_operands w) → is_reserved_word w ≡ false → Says (line_of (c ∷ cs ++ 32 ∷ text)) w
  with_says [] some inside e r = absurd (omega arith)
  with_says (y ∷ ys) some inside e r = record {
    statement = Encoded (without_operands w);
    is = body_line (c ∷ cs ++ 32 ∷ y ∷ ys) (operands_body c cs y ys name_inside inside)
        ∙ ap alone (statement_with (c ∷ cs) y ys name_inside inside ∙ (named (y ∷ ys) ∙ ap (λ r. r >>= (λ i. Ok (Encoded i))) e));
    word = encoded_word w r;
  }

-- no operands
none_taken : (base : ℕ) → with_operands 1 [] None (without_operands base) ≡ Ok (without_operands base)
unfolding with_operands
none_taken base = refl

first_plain : (o : Operand) (os : List Operand) → are_plain (o ∷ os) ≡ true → is_plain o ≡ true
first_plain o [] h = let (a, b) = and_parts (is_plain o) _ h in a
first_plain o (p ∷ os) h = let (a, b) = and_parts (is_plain o) _ h in a

-- a code of 0 that is left out
left_out_taken : (os : List Operand) (at : Field → ℕ) (base : ℕ) → is_left_out at os ≡ true → with_operands 1 os None (without_operands base) ≡ Ok (without_operands base)
unfolding with_operands
left_out_taken [] at base h = cc
left_out_taken (Code f ∷ []) at base h = refl
left_out_taken (o ∷ os) at base h = cc

left_out_none : (os : List Operand) (at : Field → ℕ) → is_left_out at os ≡ true → filled (flat_map places os) (map at (flat_map places os)) ≡ 0
left_out_none [] at h = cc
left_out_none (Code f ∷ []) at h = rw (eqb-true (at f) 0 h, zero-mod (2 ^ f.width)) (omega arith)
left_out_none (o ∷ os) at h = cc

-- operands fill the fields of the word
filled_word : (os : List Operand) (at : Field → ℕ) (base w : ℕ) → w ≡ base + filled (flat_map places os) (map at (flat_map places os)) → w < 2 ^ 32 → added (flat_map places os) at base ≡ w
filled_word os at base w e l = added_sum (flat_map places os) at base (omega arith) ∙ (ap word (sym e) ∙ omega arith)

-- the operands that are written
written_says : (c : ℕ) (cs : List ℕ) (base w : ℕ) (os : List Operand) → form_named (c ∷ cs) ≡ Some (record { name = c ∷ cs; word = base; operands = os }) → is_mnemonic (c ∷ cs) ≡ true
    → (at : Field → ℕ) → Fit at → AreWords at → are_plain os ≡ true → w ≡ base + filled (flat_map places os) (map at (flat_map places os)) → w < 2 ^ 32 → is_reserved_word w ≡ false
    → Says (line_of (c ∷ cs ++ operands_by register_read_text at os)) w
written_says c cs base w [] found mnemonic at fit words plain e l r =
    subst (λ t. Says (line_of t) w) (sym (append-nil (c ∷ cs)))
    (alone_says c cs base w [] found mnemonic (none_taken base ∙ ap (λ (v : ℕ). Ok (without_operands v)) (omega arith)) r)
written_says c cs base w (o ∷ os) found mnemonic at fit words plain e l r =
    let some = operand_some o at words (first_plain o os plain) in
    with_says c cs base w (o ∷ os) found mnemonic (operand_by register_read_text at o ++ others_by register_read_text at os) (omega (arith, length-append (operand_by register_read_text at o) (others_by register_read_text at os))) (operands_inside o os at words)
    (operands_taken 1 o os at base fit words plain ∙ ap (λ (v : ℕ). Ok (without_operands v)) (filled_word (o ∷ os) at base w e l)) r

pub instruction_says : (c : ℕ) (cs : List ℕ) (base w : ℕ) (os : List Operand) → form_named (c ∷ cs) ≡ Some (record { name = c ∷ cs; word = base; operands = os }) → is_mnemonic (c ∷ cs) ≡ true
    → (at : Field → ℕ) → Fit at → AreWords at → are_plain os ≡ true → w ≡ base + filled (flat_map places os) (map at (flat_map places os)) → w < 2 ^ 32 → is_reserved_word w ≡ false
    → Says (line_of (instruction_by register_read_text at (record { name = c ∷ cs; operands = os }))) w
instruction_says c cs base w os found mnemonic at fit words plain e l r = elim (cases_Bool (is_left_out at os)) [
  | inl left ↦
      let none = left_out_none os at left in
      let same : base ≡ w = omega arith in
      subst (λ t. Says (line_of (c ∷ cs ++ t)) w) (sym (cond-true (is_left_out at os) [] (operands_by register_read_text at os) left))
      (subst (λ t. Says (line_of t) w) (sym (append-nil (c ∷ cs)))
      (alone_says c cs base w os found mnemonic (left_out_taken os at base left ∙ ap (λ (v : ℕ). Ok (without_operands v)) same) r))
  | inr kept ↦
      subst (λ t. Says (line_of (c ∷ cs ++ t)) w) (sym (cond-false (is_left_out at os) [] (operands_by register_read_text at os) kept))
      (written_says c cs base w os found mnemonic at fit words plain e l r)
]
