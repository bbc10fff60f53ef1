-- The forms of instructions in a source, which are columns of the table of instructions.
use Rattle.std.specs.Prelude.{ℕ, List, map}
use Rattle.std.specs.List.{filter}
use Rattle.ds_isa.specs.Fields as fields
use Rattle.ds_isa.specs.Fields.{Field}
use Rattle.ds_asm.specs.declared.form.Place.{Place}
use Rattle.ds_asm.specs.declared.form.Place.TheVariants as place
use Rattle.ds_asm.specs.declared.form.Operand.{Operand}
use Rattle.ds_asm.specs.declared.form.Operand.TheVariants as operand
use Rattle.ds_asm.specs.declared.form.Form.{Form}
use Rattle.ds_asm.specs.Forms.{Written, written_forms, begins_with}

-- the forms whose names begin with a character
abbrev pub forms_with : ℕ → List Written
forms_with c = filter (λ f. begins_with c f.name) written_forms

-- The same of the code's types.

-- the field of a place
abbrev pub field_of : Place → Field
field_of place.Rs = fields.rs
field_of place.Rt = fields.rt
field_of place.Rd = fields.rd
field_of place.Shamt = fields.shamt
field_of place.Immediate = fields.imm
field_of place.Code = fields.code
field_of place.Target = fields.target

-- what the code has in the place of an operand
abbrev pub operand_of : Operand → fields.Operand
operand_of (operand.Register p) = fields.Register (field_of p)
operand_of operand.LinkRegister = fields.LinkRegister fields.rd
operand_of operand.SystemRegister = fields.SystemRegister fields.rd
operand_of (operand.Number p) = fields.Number (field_of p)
operand_of operand.Code = fields.Code fields.code
operand_of operand.Signed = fields.Signed fields.imm
operand_of operand.Branch = fields.Branch fields.imm
operand_of operand.Jump = fields.Jump fields.target
operand_of operand.Indexed = fields.Indexed fields.rs fields.imm

-- how a form of the code is written
abbrev pub written_of : Form → Written
written_of f = record { name = f.name.now; word = f.word; operands = map operand_of f.operands.now }
