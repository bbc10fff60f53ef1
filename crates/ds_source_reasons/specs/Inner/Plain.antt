-- The reasons as the code holds them, with what stands in the line as lists of bytes.
use Rattle.ds_source_reasons.specs.declared.reason.SyntaxReason.{SyntaxReason}
use Rattle.ds_source_reasons.specs.declared.reason.SyntaxReason.TheVariants as code
use Rattle.ds_source_reasons.specs.declared.reason.RangeReason.{RangeReason}
use Rattle.ds_source_reasons.specs.declared.reason.RangeReason.TheVariants as range
use Rattle.ds_source_reasons.specs.Ranges as ranges
use Rattle.ds_source_reasons.specs.Reasons.{Reason, ByteOrderMark, NoSuchDirective, Macro, NoSuchByte, CarriageReturn, SpacedColon, NotALabel, SecondColon, UpperCase, NoSuchMnemonic, Operands, OneNumber, TextAfter, NoSuchRegister, WrongOperand}

-- a reason, with its texts as lists
abbrev pub plain_reason : SyntaxReason → Reason
plain_reason code.ByteOrderMark = ByteOrderMark
plain_reason (code.NoSuchDirective name) = NoSuchDirective name.now
plain_reason (code.Macro name) = Macro name.now
plain_reason (code.NoSuchByte byte) = NoSuchByte byte
plain_reason code.CarriageReturn = CarriageReturn
plain_reason (code.SpacedColon name) = SpacedColon name.now
plain_reason (code.NotALabel name) = NotALabel name.now
plain_reason code.SecondColon = SecondColon
plain_reason (code.UpperCase name) = UpperCase name.now
plain_reason (code.NoSuchMnemonic name) = NoSuchMnemonic name.now
plain_reason (code.Operands least most found) = Operands least most found
plain_reason (code.OneNumber found) = OneNumber found
plain_reason (code.TextAfter text) = TextAfter text.now
plain_reason (code.NoSuchRegister name) = NoSuchRegister name.now
plain_reason (code.Operand number wanted found) = WrongOperand number wanted found.now

-- a reason of a range, with its texts as lists
abbrev pub plain_range : RangeReason → ranges.RangeReason
plain_range (range.OutOfRange found least most) = ranges.OutOfRange found.now least most
plain_range (range.NotAligned place) = ranges.NotAligned place
plain_range (range.Reserved name) = ranges.Reserved name.now
plain_range (range.Target label) = ranges.Target label.now
