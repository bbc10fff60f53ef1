-- How the code has forms and operands.
use Rattle.std.specs.Prelude.{map, option_map}
use Rattle.ds_asm.specs.Inner.Forms.{operand_of}
use Rattle.ds_listing.specs.declared.form.Form as code
use Rattle.ds_listing.specs.declared.sheet.Row as sheet
use Rattle.ds_listing.specs.Listing.{ListedLine}
use Rattle.ds_listing.specs.Texts.{Form}

-- a form of the code
abbrev pub plain_form : code.Form → Form
plain_form f = record { name = f.name.now; operands = map operand_of f.operands.now }

-- a line of the code's listing
abbrev pub plain_row : sheet.Row → ListedLine
plain_row r = record { number = r.number; place = r.place; bytes = r.bytes.now; label = option_map (λ t. t.now) r.label; text = r.text.now }
