-- Worked words of reasons.
use Rattle.std.specs.Prelude.{codes, refl, ◌≡◌}
use Rattle.std.specs.Fmt.{digits}
use Rattle.ds_asm.specs.declared.syntax.Wanted.TheVariants as wanted
use Rattle.ds_source_reasons.specs.Reasons.{NoSuchDirective, Macro, NoSuchByte, NoSuchMnemonic, Operands, OneNumber, WrongOperand}
use Rattle.ds_source_reasons.specs.Ranges.{OutOfRange, NotAligned, Target}
use Rattle.ds_source_reasons.specs.Texts.{macro_instead, directive_instead, mnemonic_instead, reason_text, range_text}

pub a_macro_is_told_with_what_is_written_instead : reason_text (Macro (codes "move")) ≡ codes "This assembler has no macros. Instead of `move` write `addu $t0, $t1, $zero`.\n"
unfolding reason_text macro_instead
a_macro_is_told_with_what_is_written_instead = refl

pub a_directive_that_is_known_elsewhere : reason_text (NoSuchDirective (codes ".half")) ≡ codes "There is no directive `.half`. Instead write its two bytes, the lower first: `.byte 1`, `.byte 0`.\n"
unfolding reason_text directive_instead
a_directive_that_is_known_elsewhere = refl

pub another_directive : reason_text (NoSuchDirective (codes ".wrod")) ≡ codes "There is no directive `.wrod`.\nThere are `.word x`, `.byte n` and `.space n`.\n"
unfolding reason_text directive_instead
another_directive = refl

pub an_instruction_of_mips_iv : reason_text (NoSuchMnemonic (codes "movz")) ≡ codes "There is no mnemonic `movz`.\nIt came with MIPS IV, and the R3000 has the instructions of MIPS I alone. Write\nit with these; a compiler does so with `-march=r3000`.\n"
unfolding reason_text mnemonic_instead
an_instruction_of_mips_iv = refl

pub an_instruction_of_the_floating_point_unit : reason_text (NoSuchMnemonic (codes "add.d")) ≡ codes "There is no mnemonic `add.d`.\nIt is of the floating-point unit, and there is none here. Compute with integers;\na compiler does so with `-msoft-float`.\n"
unfolding reason_text mnemonic_instead
an_instruction_of_the_floating_point_unit = refl

pub an_instruction_of_coprocessor_2 : reason_text (NoSuchMnemonic (codes "lwc2")) ≡ codes "There is no mnemonic `lwc2`.\nIt is of coprocessor 2 or 3, and there is none here but the system coprocessor.\n"
unfolding reason_text mnemonic_instead
an_instruction_of_coprocessor_2 = refl

pub a_word_of_another_processor : reason_text (NoSuchMnemonic (codes "ret")) ≡ codes "There is no mnemonic `ret`.\nA return is `jr $ra`, and `nop` after it.\n"
unfolding reason_text mnemonic_instead
a_word_of_another_processor = refl

pub a_word_of_none : reason_text (NoSuchMnemonic (codes "frob")) ≡ codes "There is no mnemonic `frob`.\nA label has a colon directly after it, and a mnemonic a blank.\n"
unfolding reason_text mnemonic_instead
a_word_of_none = refl

pub a_comment_in_another_assembler : reason_text (NoSuchByte 59) ≡ codes "No label and no statement may hold `;`.\nA comment begins with `#`, and a line has one statement.\n"
unfolding reason_text
a_comment_in_another_assembler = refl

pub a_byte_that_can_not_be_seen : reason_text (NoSuchByte 27) ≡ codes "No label and no statement may hold `?`.\nThey hold letters, digits, `_`, blanks and `$ ( ) , - . :`.\n"
unfolding reason_text
a_byte_that_can_not_be_seen = refl

pub too_few_operands : reason_text (Operands 3 3 2) ≡ codes "The statement wants 3 operands, and has 2.\nEach operand is written, with commas between them: `addiu $v0, $zero, 1`.\n"
unfolding digits reason_text
too_few_operands = refl

pub more_numbers_than_one : reason_text (OneNumber 3) ≡ codes "The statement wants 1 operands, and has 3.\nWrite each number in a line of its own: `.word 1`, and `.word 2` below it.\n"
unfolding digits reason_text
more_numbers_than_one = refl

pub an_operand_that_is_no_register : reason_text (WrongOperand 2 wanted.Register (codes "v0")) ≡ codes "Operand 2, `v0`, is to be a register.\nA register is `$` and a number or a name: `$8` or `$t0`.\n"
unfolding digits reason_text
an_operand_that_is_no_register = refl

pub a_number_that_does_not_fit : range_text (OutOfRange (codes "40000") 32768 32767) ≡ codes "`40000` is not from -32768 to 32767.\nA greater number is built in two steps: `lui $1, 0x0041` and\n`ori $1, $1, 0x0008`.\n"
unfolding digits range_text
a_number_that_does_not_fit = refl

pub a_shift_that_does_not_fit : range_text (OutOfRange (codes "32") 0 31) ≡ codes "`32` is not from 0 to 31.\n"
unfolding digits range_text
a_shift_that_does_not_fit = refl

pub a_word_at_a_wrong_place : range_text (NotAligned 3) ≡ codes "Words begin at multiples of four. Write `.space 1` before it.\n"
unfolding digits range_text
a_word_at_a_wrong_place = refl

pub a_target_at_a_wrong_place : range_text (Target (codes "x")) ≡ codes "Label `x` can't be reached, since it stands at no multiple of four.\nFill up before it by `.space`.\n"
unfolding range_text
a_target_at_a_wrong_place = refl
