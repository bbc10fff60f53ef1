-- Worked places of what reasons quote.
use Rattle.std.specs.Prelude.{codes, refl, ◌≡◌, None, Some}
use Rattle.ds_asm.specs.declared.syntax.Wanted.TheVariants as wanted
use Rattle.ds_source_reasons.specs.Reasons.{NoSuchByte, NoSuchMnemonic, SecondColon, WrongOperand}
use Rattle.ds_source_reasons.specs.Ranges.{OutOfRange}
use Rattle.ds_source_reasons.specs.Told.{Unread, OutOf}
use Rattle.ds_source_reasons.specs.Carets.{first_place, caret_place}

pub a_mnemonic_after_its_label : caret_place (Unread (NoSuchMnemonic (codes "frob"))) (codes "x: frob $1 # frob") ≡ Some 3
unfolding first_place
a_mnemonic_after_its_label = refl

pub a_text_that_stands_twice_has_no_place : caret_place (Unread (NoSuchMnemonic (codes "a"))) (codes "a $1,$a0") ≡ None
unfolding first_place
a_text_that_stands_twice_has_no_place = refl

pub also_where_the_two_overlap : caret_place (OutOf (OutOfRange (codes "11") 0 7)) (codes "x 111") ≡ None
unfolding first_place
also_where_the_two_overlap = refl

pub a_byte_has_the_first_place : caret_place (Unread (NoSuchByte 39)) (codes ".byte 'A'") ≡ Some 6
unfolding first_place
a_byte_has_the_first_place = refl

pub the_last_operand : caret_place (Unread (WrongOperand 3 wanted.Register (codes "1"))) (codes "addu $2,$2,1") ≡ Some 11
unfolding first_place
the_last_operand = refl

pub an_operand_that_is_missing_has_none : caret_place (Unread (WrongOperand 2 wanted.Register (codes ""))) (codes "addu $2,,$3") ≡ None
unfolding first_place
an_operand_that_is_missing_has_none = refl

pub a_reason_that_quotes_nothing_has_none : caret_place (Unread SecondColon) (codes "x: y: nop") ≡ None
unfolding first_place
a_reason_that_quotes_nothing_has_none = refl
