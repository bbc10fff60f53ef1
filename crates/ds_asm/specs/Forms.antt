-- The forms of instructions in a source, which are columns of the table of instructions.
use Rattle.std.specs.Prelude.{codes, ℕ, Bool, false, ◌==◌, bytes_eq, List, [], ◌∷◌, map, Option}
use Rattle.std.specs.List.{find}
use Rattle.ds_isa.specs.Fields as fields
use Rattle.ds_isa.specs.Instruction.{Row, rows, word_of}

-- how an instruction is written: its name, its word with 0 in all operands, and its operands
pub record Written : Type 0 where
  pub name : List ℕ
  pub word : ℕ
  pub operands : List fields.Operand

-- how the instruction of a row is written
abbrev pub of_row : Row → Written
of_row row = record { name = row.name; word = word_of row []; operands = row.operands }

-- the word 0, which shifts register 0 by nothing
abbrev pub nop : Written
nop = record { name = codes "nop"; word = 0; operands = [] }

-- all that a source may name: nop, and the rows of the table
abbrev pub written_forms : List Written
written_forms = nop ∷ map of_row rows

-- the form of a name
unfoldable pub form_named : List ℕ → Option Written
form_named name = find (λ f. bytes_eq f.name name) written_forms

-- whether a text begins with a character
abbrev pub begins_with : ℕ → List ℕ → Bool
begins_with c [] = false
begins_with c (first ∷ rest) = first == c
