-- Worked keys that no policy has, and texts that are no policies.
use Rattle.std.specs.Prelude.{codes, refl, ◌≡◌, ◌++◌, [], ◌∷◌, true, false, Some, None}
use Rattle.std.specs.Fmt.{digits}
use Rattle.ds_asm.specs.Inner.OnLiterals.{asm_on_literals}
use Rattle.ds_source_reasons.specs.Likeness.{is_like}
use Rattle.ds_policy_reasons.specs.Keys.{meant_key, odd_key, odd_key_text}
use Rattle.ds_policy_reasons.specs.Kinds.{reads_as_policy, reads_as_source}

pub a_table_of_another_name : odd_key (codes "version = 1" ++ 10 ∷ codes "  [[pages]]" ++ 10 ∷ codes "name = \"a\"" ++ 10 ∷ []) ≡ Some (record { name = codes "pages"; line = 2; column = 5 })
unfolding odd_key
a_table_of_another_name = refl

pub all_are_keys : odd_key (codes "[[rule]]" ++ 10 ∷ codes "address=0x400000" ++ 10 ∷ codes "# colour = 1" ++ 10 ∷ []) ≡ None
unfolding odd_key
all_are_keys = refl

pub a_plural : meant_key (codes "pages") ≡ Some (codes "page")
unfolding is_like
a_plural = refl

pub a_plural_with_es : meant_key (codes "processes") ≡ Some (codes "process")
unfolding is_like
a_plural_with_es = refl

pub another_case : meant_key (codes "Frames") ≡ Some (codes "frames")
unfolding is_like
another_case = refl

pub a_letter_less : meant_key (codes "adress") ≡ Some (codes "address")
unfolding is_like
a_letter_less = refl

pub none_is_meant : meant_key (codes "colour") ≡ None
unfolding is_like
none_is_meant = refl

pub told_with_its_line : odd_key_text (record { name = codes "pages"; line = 2; column = 5 }) ≡ codes "`pages` in line 2 is no key of a policy. Write `page` in its place.\n"
unfolding digits is_like odd_key_text
told_with_its_line = refl

pub left_out : odd_key_text (record { name = codes "colour"; line = 12; column = 1 }) ≡ codes "`colour` in line 12 is no key of a policy. Leave it out.\n"
unfolding digits is_like odd_key_text
left_out = refl

pub a_source : reads_as_source (codes "# puts a letter" ++ 10 ∷ 10 ∷ codes "start: addiu $4,$0,65" ++ 10 ∷ []) ≡ true
unfolding asm_on_literals reads_as_source
a_source = refl

pub a_policy_is_no_source : reads_as_source (codes "version = 1" ++ 10 ∷ []) ≡ false
unfolding asm_on_literals reads_as_source
a_policy_is_no_source = refl

pub nothing_is_no_source : reads_as_source (codes "# later") ≡ false
unfolding asm_on_literals reads_as_source
nothing_is_no_source = refl

pub a_policy : reads_as_policy (codes "# two processes" ++ 10 ∷ codes "version = 1" ++ 10 ∷ []) ≡ true
unfolding reads_as_policy
a_policy = refl

pub a_source_is_no_policy : reads_as_policy (codes "start: nop" ++ 10 ∷ []) ≡ false
unfolding reads_as_policy
a_source_is_no_policy = refl
