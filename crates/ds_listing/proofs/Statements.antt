-- The text of a word is a line that says the word.
use Rattle.std.proofs.Common.{◌≡◌, ◌∙◌, ap, sym, refl, ℕ, ◌%◌, ◌^◌, ◌<◌, Bool, true, false, not, ◌&&◌, bytes_eq, List, [], ◌∷◌, ◌++◌, length, take, drop, Some, is_some, ok_or, Ok, arith, append_assoc}
use Rattle.std.specs.Prelude.{codes}
use Rattle.std.specs.List.{list_all, suffix_len}
use Rattle.std.proofs.lemmas.Bool.{and_parts, eq-eqb, le-leb, not-true, cond-false}
use Rattle.std.proofs.Math.Seq.{take-append_seam, drop-append_seam, take-length, drop-length}
use Rattle.ds_word.specs.Bytes.{bytes_of_word}
use Rattle.ds_word.specs.ResultBinding.{◌>>=◌}
use Rattle.ds_asm.specs.Characters.{is_blank, first_word, without_front_blanks}
use Rattle.ds_asm.specs.declared.line.Directive.{Directive}
use Rattle.ds_asm.specs.declared.line.Directive.TheVariants as directive
use Rattle.ds_asm.specs.declared.number.Number.{Number}
use Rattle.ds_asm.specs.Numbers.{written_number}
use Rattle.ds_asm.specs.Operands.{without_operands, misfit}
use Rattle.ds_asm.specs.Lines.{Statement, Encoded, WordNumber, instruction_named, directive_named, wanted_after, number_statement, directed, statement_by, statement_named, statement_of, line_of}
use Rattle.ds_asm.specs.Assembly.{is_reserved_word}
use Rattle.ds_listing.specs.Texts.{word_text}
use Rattle.ds_text.specs.Digits.{hex8}
use Rattle.ds_listing.specs.Inner.Laws.{alone, IsWord, Says}
use Rattle.ds_listing.proofs.Numbers.{hex8_all}
use Rattle.ds_listing.proofs.Parts.{all_weaker, all_both, is_other, stops, passes, no_back_blanks, IsBody, body_line, commented_line}
use Rattle.ds_listing.proofs.Values.{number_word as number_word_read}
use Rattle.ds_listing.proofs.Operands.{is_clear, is_inside, inside_dense}

pub inside_line : (c : ℕ) → is_inside c ≡ true → is_other 10 c ≡ true
inside_line c h =
    let (a, b) = and_parts (not (is_blank c)) _ h in
    let (a2, b2) = and_parts (is_other 10 c) _ b in a2

inside_comment : (c : ℕ) → is_inside c ≡ true → is_other 35 c ≡ true
inside_comment c h =
    let (a, b) = and_parts (not (is_blank c)) _ h in
    let (a2, b2) = and_parts (is_other 10 c) _ b in
    let (a3, b3) = and_parts (is_other 35 c) _ b2 in a3

inside_label : (c : ℕ) → is_inside c ≡ true → is_other 58 c ≡ true
inside_label c h =
    let (a, b) = and_parts (not (is_blank c)) _ h in
    let (a2, b2) = and_parts (is_other 10 c) _ b in
    let (a3, b3) = and_parts (is_other 35 c) _ b2 in b3

-- the first of such characters is no blank
inside_front : (c : ℕ) (cs : List ℕ) → list_all is_inside (c ∷ cs) ≡ true → is_blank c ≡ false
inside_front c cs h =
    let (a, b) = and_parts (is_inside c) (list_all is_inside cs) h in
    not-true (is_blank c) (inside_dense c a)

-- a name and what stands after it are a body
pub name_body : (c : ℕ) (cs : List ℕ) → list_all is_inside (c ∷ cs) ≡ true → IsBody (c ∷ cs)
name_body c cs h =
    let dense = all_weaker is_inside (λ b. not (is_blank b)) inside_dense (c ∷ cs) h in
    record {
      first = c;
      others = cs;
      whole = refl;
      front = inside_front c cs h;
      back = no_back_blanks [] c cs dense;
      no_comment = all_weaker is_inside (is_other 35) inside_comment (c ∷ cs) h;
      no_label = all_weaker is_inside (is_other 58) inside_label (c ∷ cs) h;
    }

pub operands_body : (c : ℕ) (cs : List ℕ) (y : ℕ) (ys : List ℕ) → list_all is_inside (c ∷ cs) ≡ true → list_all is_inside (y ∷ ys) ≡ true → IsBody (c ∷ cs ++ 32 ∷ y ∷ ys)
operands_body c cs y ys h k =
    let name = name_body c cs h in
    let afterwards = name_body y ys k in
    let dense = all_weaker is_inside (λ b. not (is_blank b)) inside_dense (y ∷ ys) k in
    record {
      first = c;
      others = cs ++ 32 ∷ y ∷ ys;
      whole = refl;
      front = inside_front c cs h;
      back = ap (suffix_len is_blank) (sym (append_assoc (c ∷ cs) (32 ∷ []) (y ∷ ys))) ∙ no_back_blanks (c ∷ cs ++ 32 ∷ []) y ys dense;
      no_comment = all_both (is_other 35) (c ∷ cs) (32 ∷ y ∷ ys) name.no_comment afterwards.no_comment;
      no_label = all_both (is_other 58) (c ∷ cs) (32 ∷ y ∷ ys) name.no_label afterwards.no_label;
    }

-- the mnemonic of such bodies, and what stands after it
pub statement_alone : (name : List ℕ) → list_all is_inside name ≡ true → statement_of name ≡ statement_named name []
statement_alone name h =
    let dense = all_weaker is_inside (λ b. not (is_blank b)) inside_dense name h in
    let end = passes (λ b. not (is_blank b)) name dense in
    ap (λ (n : ℕ). statement_named (take n name) (without_front_blanks (drop n name))) end
    ∙ (ap (λ t. statement_named t (without_front_blanks (drop (length name) name))) (take-length name)
    ∙ ap (λ t. statement_named name (without_front_blanks t)) (drop-length name))

pub statement_with : (name : List ℕ) (y : ℕ) (ys : List ℕ) → list_all is_inside name ≡ true → list_all is_inside (y ∷ ys) ≡ true → statement_of (name ++ 32 ∷ y ∷ ys) ≡ statement_named name (y ∷ ys)
statement_with name y ys h k =
    let dense = all_weaker is_inside (λ b. not (is_blank b)) inside_dense name h in
    let text = name ++ 32 ∷ y ∷ ys in
    let end = stops (λ b. not (is_blank b)) name (y ∷ ys) 32 dense refl in
    let front = inside_front y ys k in
    let left : without_front_blanks (32 ∷ y ∷ ys) ≡ y ∷ ys = rw front refl in
    ap (λ (n : ℕ). statement_named (take n text) (without_front_blanks (drop n text))) end
    ∙ (ap (λ t. statement_named t (without_front_blanks (drop (length name) text))) (take-append_seam name (32 ∷ y ∷ ys))
    ∙ (ap (λ t. statement_named name (without_front_blanks t)) (drop-append_seam name (32 ∷ y ∷ ys))
    ∙ ap (statement_named name) left))

-- a name of an instruction, and of no directive
abbrev pub is_mnemonic : List ℕ → Bool
is_mnemonic [] = false
is_mnemonic (c ∷ cs) =
    list_all is_clear (c ∷ cs)
    && (not (bytes_eq (c ∷ cs) (codes ".word")) && (not (bytes_eq (c ∷ cs) (codes ".byte")) && not (bytes_eq (c ∷ cs) (codes ".space"))))

pub named_statement : (c : ℕ) (cs text : List ℕ) → is_mnemonic (c ∷ cs) ≡ true → statement_named (c ∷ cs) text ≡ (instruction_named (c ∷ cs) text >>= (λ i. Ok (Encoded i)))
unfolding statement_named
named_statement c cs text h =
    let (a, b) = and_parts (list_all is_clear (c ∷ cs)) _ h in
    let (w, b2) = and_parts (not (bytes_eq (c ∷ cs) (codes ".word"))) _ b in
    let (y, s) = and_parts (not (bytes_eq (c ∷ cs) (codes ".byte"))) _ b2 in
    ap (λ d. statement_by d (c ∷ cs) text) (cond-false _ _ _ (not-true _ w) ∙ (cond-false _ _ _ (not-true _ y) ∙ cond-false _ _ _ (not-true _ s)))

-- what a directive says whose text is a number
pub directed_number : (d : Directive) (name text : List ℕ) (n : Number) (s : Statement) → directive_named name ≡ Some d → written_number text ≡ Some n → number_statement d (Some n) text ≡ Some s → statement_named name text ≡ Ok s
unfolding statement_named
directed_number d name text n s named read is =
    ap (λ o. statement_by o name text) named
    ∙ ap (λ o. ok_or o (misfit 1 (wanted_after d) (is_some (directed d (first_word text))))) (ap (λ m. number_statement d m text) read ∙ is)

-- a word in a field of its own
pub encoded_word : (w : ℕ) → is_reserved_word w ≡ false → IsWord (Encoded (without_operands w)) w
encoded_word w h = record {
  size = refl;
  stands = λ at e. rw (eq-eqb (at % 4) 0 e, h) refl;
  bytes = λ find at. refl;
}

number_is_word : (w : ℕ) → w < 2 ^ 32 → IsWord (WordNumber (record { negative = false; magnitude = w })) w
number_is_word w l = record {
  size = refl;
  stands = λ at e. rw (le-leb w 4294967295 (omega arith), eq-eqb (at % 4) 0 e) refl;
  bytes = λ find at. ap (λ (v : ℕ). Ok (bytes_of_word v)) (omega arith);
}

-- a word by its number
hex8_inside : (w : ℕ) → list_all is_inside (codes "0x" ++ hex8 w) ≡ true
hex8_inside w = all_both is_inside (codes "0x") (hex8 w) refl (hex8_all is_inside refl w)

pub word_body : (w : ℕ) → IsBody (word_text w)
word_body w = operands_body 46 (codes "word") 48 (120 ∷ hex8 w) refl (hex8_inside w)

word_statement : (w : ℕ) → w < 2 ^ 32 → statement_of (word_text w) ≡ Ok (WordNumber (record { negative = false; magnitude = w }))
word_statement w l =
    statement_with (codes ".word") 48 (120 ∷ hex8 w) refl (hex8_inside w)
    ∙ directed_number directive.Word (codes ".word") (codes "0x" ++ hex8 w) _ _ refl (number_word_read w (omega arith)) refl

pub word_says : (w : ℕ) → w < 2 ^ 32 → Says (line_of (word_text w)) w
word_says w l = record { statement = _; is = body_line (word_text w) (word_body w) ∙ ap alone (word_statement w l); word = number_is_word w l }

pub commented_says : (w : ℕ) (comment : List ℕ) → w < 2 ^ 32 → Says (line_of (word_text w ++ 32 ∷ 35 ∷ comment)) w
commented_says w comment l = record { statement = _; is = commented_line (word_text w) comment (word_body w) ∙ ap alone (word_statement w l); word = number_is_word w l }
