-- The words in which a reason is told.
use Rattle.std.specs.Prelude.{codes, decimal, ℕ, ◌-◌, ◌%◌, Bool, ◌&&◌, ◌||◌, ◌==◌, nat_le, nat_lt, bytes_eq, position, if◌then◌else◌, List, [], ◌∷◌, ◌++◌, map, take, Option, Some, None, unwrap_or}
use Rattle.std.specs.List.{ends_with, list_any, slice_get}
use Rattle.ds_asm.specs.declared.syntax.Wanted.{Wanted}
use Rattle.ds_asm.specs.declared.syntax.Wanted.TheVariants as wanted
use Rattle.ds_source_reasons.specs.declared.elsewhere.TheConstants.{MIPS_II, MIPS_III, MIPS_IV, MIPS_32, FLOATING_POINT, COPROCESSORS}
use Rattle.ds_source_reasons.specs.declared.macros.TheConstants.{MACROS, MACROS_INSTEAD, DIRECTIVES, DIRECTIVES_INSTEAD, OTHERS, OTHERS_INSTEAD, OTHER_DIRECTIVE}
use Rattle.ds_source_reasons.specs.declared.texts.TheConstants as texts
use Rattle.ds_source_reasons.specs.Reasons.{Reason, ByteOrderMark, NoSuchDirective, Macro, NoSuchByte, CarriageReturn, SpacedColon, NotALabel, SecondColon, UpperCase, NoSuchMnemonic, Operands, OneNumber, TextAfter, NoSuchRegister, WrongOperand}
use Rattle.ds_source_reasons.specs.Ranges.{RangeReason, OutOfRange, NotAligned, Reserved, Target}

-- a character as it is shown
abbrev pub visible : ℕ → ℕ
visible c = if nat_le 32 c && nat_le c 126 then c else 63

-- as much of a text as is shown
abbrev pub shown_front : List ℕ → List ℕ
shown_front text = map visible (take 40 text)

-- a text between two others, as far as it is shown
abbrev pub quoted : List ℕ → List ℕ → List ℕ → List ℕ
quoted front text back = front ++ shown_front text ++ back

-- the text at a place, or another where there is no place
abbrev pub at_place : Option ℕ → List (List ℕ) → List ℕ → List ℕ
at_place None texts other = other
at_place (Some place) texts other = unwrap_or (slice_get texts place) other

-- what is said after the name of a macro: the text at the place of the name
unfoldable pub macro_instead : List ℕ → List ℕ
macro_instead name = at_place (position (λ m. bytes_eq m.now name) MACROS) (map (λ t. t.now) MACROS_INSTEAD) OTHER_DIRECTIVE.now

-- what is said after the name of a directive that there is not
unfoldable pub directive_instead : List ℕ → List ℕ
directive_instead name = at_place (position (λ m. bytes_eq m.now name) DIRECTIVES) (map (λ t. t.now) DIRECTIVES_INSTEAD) OTHER_DIRECTIVE.now

-- whether a word ends as the instructions do that compute with single, double or fixed numbers of a floating-point unit
abbrev pub has_float_end : List ℕ → Bool
has_float_end name = ends_with (λ a b. a == b) name (codes ".s") || ends_with (λ a b. a == b) name (codes ".d") || ends_with (λ a b. a == b) name (codes ".w")

-- what is said after a word that is no mnemonic: which processors have it, or what is written in its place
unfoldable pub mnemonic_instead : List ℕ → List ℕ
mnemonic_instead name =
    if list_any (λ m. bytes_eq m.now name) MIPS_II then texts.OF_MIPS_II.now
    else if list_any (λ m. bytes_eq m.now name) MIPS_III then texts.OF_MIPS_III.now
    else if list_any (λ m. bytes_eq m.now name) MIPS_IV then texts.OF_MIPS_IV.now
    else if list_any (λ m. bytes_eq m.now name) MIPS_32 then texts.OF_MIPS_32.now
    else if list_any (λ m. bytes_eq m.now name) FLOATING_POINT || has_float_end name then texts.OF_FLOATING_POINT.now
    else if list_any (λ m. bytes_eq m.now name) COPROCESSORS then texts.OF_COPROCESSOR.now
    else at_place (position (λ m. bytes_eq m.now name) OTHERS) (map (λ t. t.now) OTHERS_INSTEAD) texts.AFTER_NO_MNEMONIC.now

-- whether a byte is one of these
abbrev pub is_one_of : List ℕ → ℕ → Bool
is_one_of bytes c = list_any (λ b. b == c) bytes

-- what is said after a byte that no statement holds
abbrev pub after_byte : ℕ → List ℕ
after_byte c =
    if is_one_of (codes ";/!@") c then texts.COMMENT.now
    else if is_one_of (codes "\"'") c then texts.CHARACTER.now
    else if is_one_of (codes "+*%=<>&|~^") c then texts.EXPRESSION.now
    else texts.OTHER_BYTE.now

-- what is said after an operand that is to be something else
abbrev pub after_wanted : Wanted → List ℕ
after_wanted wanted.Register = texts.WANTED_REGISTER.now
after_wanted wanted.SystemRegister = texts.WANTED_SYSTEM_REGISTER.now
after_wanted wanted.Number = texts.WANTED_NUMBER.now
after_wanted wanted.Label = texts.WANTED_LABEL.now
after_wanted wanted.Address = texts.WANTED_ADDRESS.now
after_wanted wanted.NumberOrLabel = texts.WANTED_NUMBER_OR_LABEL.now

-- how many operands there are to be
abbrev pub operand_counts_text : ℕ → ℕ → List ℕ
operand_counts_text least most = if least == most then decimal most else decimal least ++ texts.TO.now ++ decimal most

-- too few or too many operands
abbrev pub operands_text : ℕ → ℕ → ℕ → List ℕ
operands_text least most found = texts.OPERANDS.now ++ operand_counts_text least most ++ texts.OPERANDS_FOUND.now ++ decimal found ++ texts.AFTER_OPERANDS.now

-- a directive with another number of operands than one
abbrev pub one_number_text : ℕ → List ℕ
one_number_text found = texts.ONE_NUMBER.now ++ decimal found ++ texts.AFTER_ONE_NUMBER.now

-- an operand that is to be something else
abbrev pub operand_text : ℕ → Wanted → List ℕ → List ℕ
operand_text number w found = texts.OPERAND.now ++ decimal number ++ quoted texts.OPERAND_FOUND.now found (after_wanted w)

-- the words of a reason for which a line can't be read
unfoldable pub reason_text : Reason → List ℕ
reason_text ByteOrderMark = texts.BYTE_ORDER_MARK.now
reason_text (NoSuchDirective name) = quoted texts.NO_DIRECTIVE.now name (directive_instead name)
reason_text (Macro name) = quoted texts.MACRO.now name (macro_instead name)
reason_text (NoSuchByte byte) = quoted texts.NO_BYTE.now (byte ∷ []) (after_byte byte)
reason_text CarriageReturn = texts.CARRIAGE_RETURN.now
reason_text (SpacedColon name) = quoted texts.SPACED_COLON.now name texts.AFTER_SPACED_COLON.now
reason_text (NotALabel name) = quoted texts.QUOTE.now name texts.AFTER_NOT_A_LABEL.now
reason_text SecondColon = texts.SECOND_COLON.now
reason_text (UpperCase name) = quoted texts.QUOTE.now name texts.AFTER_UPPER_CASE.now
reason_text (NoSuchMnemonic name) = quoted texts.NO_MNEMONIC.now name (mnemonic_instead name)
reason_text (Operands least most found) = operands_text least most found
reason_text (OneNumber found) = one_number_text found
reason_text (TextAfter text) = quoted texts.QUOTE.now text texts.AFTER_TEXT.now
reason_text (NoSuchRegister name) = quoted texts.NO_REGISTER.now name texts.AFTER_NO_REGISTER.now
reason_text (WrongOperand number w found) = operand_text number w found

-- the least number, which is not above 0
abbrev pub least_text : ℕ → List ℕ
least_text least = if nat_lt 0 least then codes "-" ++ decimal least else decimal least

-- whether a number is the greatest of a half, with a sign or without
abbrev pub is_half : ℕ → Bool
is_half most = most == 32767 || most == 65535

-- a number that does not fit
abbrev pub bound_text : List ℕ → ℕ → ℕ → List ℕ
bound_text found least most = quoted texts.QUOTE.now found texts.OUT_OF_RANGE.now ++ least_text least ++ texts.TO.now ++ decimal most ++ (if is_half most then texts.IN_TWO_STEPS.now else texts.STOP.now)

-- a word at a wrong place
abbrev pub misplaced_text : ℕ → List ℕ
misplaced_text place = texts.NOT_ALIGNED.now ++ decimal (4 - place % 4) ++ texts.AFTER_NOT_ALIGNED.now

-- the words of a reason for which a statement is out of range
unfoldable pub range_text : RangeReason → List ℕ
range_text (OutOfRange found least most) = bound_text found least most
range_text (NotAligned place) = misplaced_text place
range_text (Reserved name) = quoted texts.QUOTE.now name texts.AFTER_RESERVED.now
range_text (Target label) = quoted texts.TARGET.now label texts.AFTER_TARGET.now
