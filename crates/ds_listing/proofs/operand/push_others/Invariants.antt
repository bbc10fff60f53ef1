use Rattle.std.proofs.Common.{◌≡◌, ◌++◌, map, take}
use Rattle.std.specs.String.{string_bytes}
use Rattle.ds_isa.specs.Fields.{in_word}
use Rattle.ds_asm.specs.Inner.Forms.{operand_of}
use Rattle.ds_listing.specs.NamedTexts.{register_as}
use Rattle.ds_listing.specs.Texts.{others_by}
use Rattle.ds_listing.proofs.operand.push_others.Given as goal

abbrev pub invariant-loop-operand : goal.invariant-loop-operand
invariant-loop-operand l = string_bytes l.text ≡ string_bytes l.fn.text ++ others_by (register_as l.names) (in_word l.word) (map operand_of (take l.operand-index l.operands))
