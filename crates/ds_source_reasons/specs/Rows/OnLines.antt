-- What an answer unfolds to compute the reason of a line on a literal.
use Rattle.std.specs.Prelude.{⊤}
use Rattle.ds_asm.specs.Inner.OnLiterals.{asm_on_literals}
use Rattle.ds_source_reasons.specs.Reasons.{statement_reason, is_macro, reason_of}
use Rattle.ds_source_reasons.specs.Inner.Reasons.{range_reason_of}

-- the definitions that compute why a line can't be read, or why its statement is out of range
unfoldable pub reasons_on_literals : ⊤
unfolding asm_on_literals statement_reason is_macro reason_of range_reason_of
reasons_on_literals = tt
