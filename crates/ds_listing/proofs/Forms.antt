-- The form of an instruction's entry is that of the row that its word fits.
use Rattle.std.proofs.Common.{◌≡◌, ◌∙◌, ap, ℕ, Bool, true, false, List, [], ◌∷◌, Option, None, refl}
use Rattle.std.specs.Prelude.{if◌then◌else◌}
use Rattle.ds_word.specs.Word.{bits}
use Rattle.ds_isa.specs.declared.instr.Instr.{Instr}
use Rattle.ds_isa.specs.declared.instr.Instr.TheVariants as instr
use Rattle.ds_isa.specs.Fields.{Field, op, in_word}
use Rattle.ds_isa.specs.Instruction.{Row, fits, by_rows, is_coprocessor, of_no_row, rows, instruction_of}
use Rattle.ds_isa.specs.Inner.Encoding.{entry}
use Rattle.ds_listing.specs.Texts.{Form, form_of}
use Rattle.ds_listing.specs.Inner.Texts.{form_in}

-- the form of one of two instructions
form_of_either : (b : Bool) (i j : Instr) → form_in (entry (if b then i else j)) ≡ (if b then form_in (entry i) else form_in (entry j))
form_of_either true i j = refl
form_of_either false i j = refl

-- a word that fits no row has no form
form_of_none : (b : Bool) (w : ℕ) → form_in (entry (if b then instr.Cop (bits w 26 2) w else instr.Reserved w)) ≡ None
form_of_none true w = refl
form_of_none false w = refl

-- the form of a row's instruction
abbrev of_row : Row → (Field → ℕ) → Option Form
of_row row at = form_in (entry (row.instruction at))

-- the form of the instruction of the first row that a word fits
form_by_rows : (w : ℕ) (rs : List Row) → form_in (entry (by_rows (λ row. row.instruction) of_no_row rs w)) ≡ by_rows of_row (λ v. None) rs w
form_by_rows w [] = form_of_none (is_coprocessor (in_word w op)) w
form_by_rows w (r ∷ rs) =
    form_of_either (fits r w) (r.instruction (in_word w)) (by_rows (λ row. row.instruction) of_no_row rs w)
    ∙ ap (λ (f : Option Form). if fits r w then of_row r (in_word w) else f) (form_by_rows w rs)

-- the form of a word's instruction is the word's: each row says of its instruction how that is written
pub form_of_entry : (w : ℕ) → form_in (entry (instruction_of w)) ≡ form_of w
unfolding form_of
form_of_entry w = form_by_rows w rows
