-- Each word's text says the word, by the rows of the table.
use Rattle.std.proofs.Common.{◌≡◌, ◌∙◌, ap, sym, subst, refl, inl, inr, ℕ, ◌+◌, ◌*◌, ◌/◌, ◌%◌, ◌^◌, ◌<◌, ◌≤◌, Bool, true, false, not, ◌||◌, ◌==◌, List, [], ◌∷◌, ◌++◌, map, Option, Some, None, arith}
use Rattle.std.specs.Prelude.{codes}
use Rattle.std.specs.List.{list_all, sum_by}
use Rattle.std.proofs.lemmas.Bool.{cases_Bool, and_parts, cond-true, cond-false, not-true, eqb-true}
use Rattle.std.proofs.lemmas.Nat.{pow_pos}
use Rattle.std.proofs.Math.Nat.{mod-lt, mod-le, div-le_self}
use Rattle.ds_word.specs.Word.{bits}
use Rattle.ds_isa.specs.declared.instr.Instr.{Instr}
use Rattle.ds_isa.specs.Fields.{Field, Operand, in_word, filled}
use Rattle.ds_isa.specs.Instruction.{Row, fits, by_rows, of_no_row, rows, instruction_of, fields_of, word_of}
use Rattle.ds_isa.specs.Inner.Encoding.{InRow, entry, word_in, encoded}
use Rattle.ds_asm.specs.Forms.{of_row, form_named}
use Rattle.ds_asm.specs.Operands.{without_operands}
use Rattle.ds_asm.specs.Lines.{Encoded, line_of}
use Rattle.ds_asm.specs.Assembly.{is_reserved, is_reserved_word}
use Rattle.ds_asm.specs.Inner.OnLiterals.{asm_on_literals}
use Rattle.ds_listing.specs.Inner.Laws.{Says, IsLineOf}
use Rattle.ds_listing.specs.Texts.{Form, register_read_text, has_label, is_label, is_left_out, operand_by, others_by, operands_by, instruction_by, word_text, form_by, form_of, word_by, text_of}
use Rattle.ds_listing.proofs.Numbers.{hex8_all}
use Rattle.ds_listing.proofs.Parts.{all_weaker, all_both, is_other}
use Rattle.ds_listing.proofs.Operands.{is_clear, is_inside, clear_inside, Fit, AreWords, are_plain}
use Rattle.ds_listing.proofs.Statements.{inside_line, is_mnemonic, encoded_word, word_says, commented_says}
use Rattle.ds_listing.proofs.Rows.{filled_none, operands_inside, instruction_says}

-- how a row is written
abbrev pub form : Row → Form
form row = record { name = row.name; operands = row.operands }

-- the parts of equal lists
head_is : {X : Type 0} {x y : X} {xs ys : List X} → x ∷ xs ≡ y ∷ ys → x ≡ y
head_is e = cc

tail_is : {X : Type 0} {x y : X} {xs ys : List X} → x ∷ xs ≡ y ∷ ys → xs ≡ ys
tail_is e = cc

-- what the assembler's table, the texts and the instructions say of rows
record Agree (rs : List Row) : Type 0 where
  found : map (λ row. form_named row.name) rs ≡ map (λ row. Some (of_row row)) rs
  named : list_all (λ row. is_mnemonic row.name) rs ≡ true
  plain : list_all (λ row. has_label row.operands || are_plain row.operands) rs ≡ true
  entries : (at : Field → ℕ) → map (λ row. entry (row.instruction at)) rs ≡ map (λ row. InRow row (map at (fields_of row))) rs
  kept : (at : Field → ℕ) → list_all (λ row. not (is_reserved (row.instruction at))) rs ≡ true

rows_found : map (λ row. form_named row.name) rows ≡ map (λ row. Some (of_row row)) rows
unfolding form_named
rows_found = refl

rows_named : list_all (λ row. is_mnemonic row.name) rows ≡ true
rows_named = refl

rows_plain : list_all (λ row. has_label row.operands || are_plain row.operands) rows ≡ true
unfolding is_label
rows_plain = refl

rows_entries : (at : Field → ℕ) → map (λ row. entry (row.instruction at)) rows ≡ map (λ row. InRow row (map at (fields_of row))) rows
rows_entries at = refl

rows_kept : (at : Field → ℕ) → list_all (λ row. not (is_reserved (row.instruction at))) rows ≡ true
rows_kept at = refl

rows_agree : Agree rows
rows_agree = record { found = rows_found; named = rows_named; plain = rows_plain; entries = rows_entries; kept = rows_kept }

-- the fields of a word are within their widths
word_fits : (w : ℕ) → Fit (in_word w)
word_fits w f = mod-lt (w / 2 ^ f.lo) (pow_pos f.width)

below_two : (w lo width : ℕ) → w < 2 ^ 32 → bits w lo width < 2 ^ 32
below_two w lo width l =
    let small : w / 2 ^ lo ≤ w = div-le_self w (2 ^ lo) in
    let kept : w / 2 ^ lo % 2 ^ width ≤ w / 2 ^ lo = mod-le (w / 2 ^ lo) (2 ^ width) in
    omega arith

word_words : (w : ℕ) → w < 2 ^ 32 → AreWords (in_word w)
word_words w l f = below_two w f.lo f.width l

second_holds : (a b : Bool) → a ≡ false → a || b ≡ true → b ≡ true
second_holds true b h k = cc
second_holds false b h k = k

-- the text of a row says the word that is the row's with the word's own fields
row_says : (name : List ℕ) (row : Row) (w : ℕ) → row.name ≡ name → form_named name ≡ Some (record { name = name; word = word_of row []; operands = row.operands }) → is_mnemonic name ≡ true
    → has_label row.operands || are_plain row.operands ≡ true → word_of row (map (in_word w) (fields_of row)) ≡ w → w < 2 ^ 32 → is_reserved_word w ≡ false
    → Says (line_of (form_by register_read_text w (record { name = name; operands = row.operands }))) w
row_says [] row w same found named plain whole l r = cc
row_says (c ∷ cs) row w same found named plain whole l r = elim (cases_Bool (has_label row.operands)) [
  | inl label ↦
      subst (λ t. Says (line_of t) w) (sym (cond-true (has_label row.operands) _ _ label))
      (commented_says w (32 ∷ instruction_by register_read_text (in_word w) (record { name = c ∷ cs; operands = row.operands })) l)
  | inr none ↦
      let good : are_plain row.operands ≡ true = second_holds (has_label row.operands) (are_plain row.operands) none plain in
      let fixed = sum_by (λ f. f.value * 2 ^ f.field.lo) row.fixed in
      let base : word_of row [] ≡ fixed = ap (λ (n : ℕ). fixed + n) (filled_none (fields_of row)) ∙ omega arith in
      subst (λ t. Says (line_of t) w) (sym (cond-false (has_label row.operands) _ _ none))
      (instruction_says c cs (word_of row []) w row.operands found named (in_word w) (word_fits w) (word_words w l) good
      (sym whole ∙ ap (λ (n : ℕ). n + filled (fields_of row) (map (in_word w) (fields_of row))) (sym base)) l r)
]

-- the form by the first row that a word fits
abbrev form_among : List Row → ℕ → Option Form
form_among rs w = by_rows (λ row at. Some (form row)) (λ v. None) rs w

reserved_none : (i : Instr) (row : Row) (w : ℕ) (at : Field → ℕ) → i ≡ row.instruction at → not (is_reserved (row.instruction at)) ≡ true → is_reserved_word w ≡ is_reserved i → is_reserved_word w ≡ false
reserved_none i row w at e h k = k ∙ (ap is_reserved e ∙ not-true _ h)

by_rows_says : (rs : List Row) → Agree rs → (w : ℕ) (i : Instr) → w < 2 ^ 32 → i ≡ by_rows (λ row. row.instruction) of_no_row rs w → encoded i ≡ w → is_reserved_word w ≡ is_reserved i
    → Says (line_of (word_by register_read_text w (form_among rs w))) w
by_rows_says [] agree w i l e back r = word_says w l
by_rows_says (row ∷ rs) agree w i l e back r =
    let (named, named_more) = and_parts (is_mnemonic row.name) _ agree.named in
    let (plain, plain_more) = and_parts (has_label row.operands || are_plain row.operands) _ agree.plain in
    elim (cases_Bool (fits row w)) [
      | inl met ↦
          let mine : i ≡ row.instruction (in_word w) = e ∙ cond-true (fits row w) _ _ met in
          let entered : entry (row.instruction (in_word w)) ≡ InRow row (map (in_word w) (fields_of row)) = head_is (agree.entries (in_word w)) in
          let whole : word_of row (map (in_word w) (fields_of row)) ≡ w = sym (ap word_in entered) ∙ (sym (ap encoded mine) ∙ back) in
          let (kept, kept_more) = and_parts (not (is_reserved (row.instruction (in_word w)))) _ (agree.kept (in_word w)) in
          subst (λ f. Says (line_of (word_by register_read_text w f)) w) (sym (cond-true (fits row w) _ _ met))
          (row_says row.name row w refl (head_is agree.found) named plain whole l (reserved_none i row w (in_word w) mine kept r))
      | inr missed ↦
          subst (λ f. Says (line_of (word_by register_read_text w f)) w) (sym (cond-false (fits row w) _ _ missed))
          (by_rows_says rs (record {
            found = tail_is agree.found;
            named = named_more;
            plain = plain_more;
            entries = λ at. tail_is (agree.entries at);
            kept = λ at. (let (a, b) = and_parts (not (is_reserved (row.instruction at))) _ (agree.kept at) in b);
          }) w i l (e ∙ cond-false (fits row w) _ _ missed) back r)
    ]

nop_says : Says (line_of (codes "nop")) 0
unfolding asm_on_literals
nop_says = record { statement = Encoded (without_operands 0); is = refl; word = encoded_word 0 refl }

-- the text of a word says the word, where the word's instruction has that word
text_says : (w : ℕ) → w < 2 ^ 32 → encoded (instruction_of w) ≡ w → Says (line_of (text_of w)) w
unfolding text_of form_of is_reserved_word
text_says w l back = elim (cases_Bool (w == 0)) [
  | inl zero ↦ rw zero (subst (λ (n : ℕ). Says (line_of (codes "nop")) n) (sym (eqb-true w 0 zero)) nop_says)
  | inr some ↦ rw some (by_rows_says rows rows_agree w (instruction_of w) l refl back refl)
]

-- no line feed stands in a text
clear_line : (xs : List ℕ) → list_all is_clear xs ≡ true → list_all (is_other 10) xs ≡ true
clear_line xs h = all_weaker is_inside (is_other 10) inside_line xs (all_weaker is_clear is_inside clear_inside xs h)

mnemonic_line : (name : List ℕ) → is_mnemonic name ≡ true → list_all (is_other 10) name ≡ true
mnemonic_line [] h = refl
mnemonic_line (c ∷ cs) h = let (a, b) = and_parts (list_all is_clear (c ∷ cs)) _ h in clear_line (c ∷ cs) a

operands_line : (os : List Operand) (at : Field → ℕ) → AreWords at → list_all (is_other 10) (operands_by register_read_text at os) ≡ true
operands_line [] at fit = refl
operands_line (o ∷ os) at fit = all_weaker is_inside (is_other 10) inside_line (operand_by register_read_text at o ++ others_by register_read_text at os) (operands_inside o os at fit)

instruction_line : (at : Field → ℕ) (f : Form) → AreWords at → is_mnemonic f.name ≡ true → list_all (is_other 10) (instruction_by register_read_text at f) ≡ true
instruction_line at f fit h = all_both (is_other 10) f.name _ (mnemonic_line f.name h) (elim (cases_Bool (is_left_out at f.operands)) [
  | inl left ↦ rw left refl
  | inr kept ↦ rw kept (operands_line f.operands at fit)
])

word_line : (w : ℕ) → list_all (is_other 10) (word_text w) ≡ true
word_line w = hex8_all (is_other 10) refl w

form_line : (w : ℕ) (f : Form) → w < 2 ^ 32 → is_mnemonic f.name ≡ true → list_all (is_other 10) (form_by register_read_text w f) ≡ true
form_line w f l h = elim (cases_Bool (has_label f.operands)) [
  | inl label ↦
      ap (list_all (is_other 10)) (cond-true (has_label f.operands) _ _ label)
      ∙ all_both (is_other 10) (word_text w) (codes " # " ++ instruction_by register_read_text (in_word w) f) (word_line w) (instruction_line (in_word w) f (word_words w l) h)
  | inr none ↦ ap (list_all (is_other 10)) (cond-false (has_label f.operands) _ _ none) ∙ instruction_line (in_word w) f (word_words w l) h
]

by_rows_line : (rs : List Row) → list_all (λ row. is_mnemonic row.name) rs ≡ true → (w : ℕ) → w < 2 ^ 32 → list_all (is_other 10) (word_by register_read_text w (form_among rs w)) ≡ true
by_rows_line [] h w l = word_line w
by_rows_line (row ∷ rs) h w l =
    let (named, more) = and_parts (is_mnemonic row.name) _ h in
    elim (cases_Bool (fits row w)) [
      | inl met ↦ ap (λ f. list_all (is_other 10) (word_by register_read_text w f)) (cond-true (fits row w) _ _ met) ∙ form_line w (form row) l named
      | inr missed ↦ ap (λ f. list_all (is_other 10) (word_by register_read_text w f)) (cond-false (fits row w) _ _ missed) ∙ by_rows_line rs more w l
    ]

text_line : (w : ℕ) → w < 2 ^ 32 → list_all (is_other 10) (text_of w) ≡ true
unfolding text_of form_of
text_line w l = elim (cases_Bool (w == 0)) [
  | inl zero ↦ rw zero refl
  | inr some ↦ rw some (by_rows_line rows rows_named w l)
]

-- the text of a word is a line that says the word, where the word's instruction has that word
pub text_read : (w : ℕ) → w < 2 ^ 32 → encoded (instruction_of w) ≡ w → IsLineOf (text_of w) w
text_read w l back = record { one_line = text_line w l; says = text_says w l back }
