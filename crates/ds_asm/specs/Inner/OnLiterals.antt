-- What an answer unfolds to compute what a source says on a literal.
use Rattle.std.specs.Prelude.{⊤}
use Rattle.ds_word.specs.Digits.{digits_from}
use Rattle.ds_asm.specs.Forms.{form_named}
use Rattle.ds_asm.specs.Operands.{with_indexed, with_operand, with_operands}
use Rattle.ds_asm.specs.Lines.{statement_named, line_of}
use Rattle.ds_asm.specs.Assembly.{is_reserved_word}

-- the definitions that compute a source
unfoldable pub asm_on_literals : ⊤
unfolding digits_from form_named with_indexed with_operand with_operands statement_named line_of is_reserved_word
asm_on_literals = tt
