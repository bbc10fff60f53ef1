-- Worked labels that no line has, and labels that are like them.
use Rattle.std.specs.Prelude.{codes, refl, ◌≡◌, ◌++◌, [], ◌∷◌, true, false, Some, None}
use Rattle.std.specs.Fmt.{digits}
use Rattle.ds_asm.specs.Inner.OnLiterals.{asm_on_literals}
use Rattle.ds_source_reasons.specs.Likeness.{is_like}
use Rattle.ds_source_reasons.specs.Missing.{last_word, last_word_place, like_label, missing_text}

pub another_case : is_like (codes "Loop") (codes "lOOP") ≡ true
unfolding is_like
another_case = refl

pub another_letter : is_like (codes "loop") (codes "lopp") ≡ true
unfolding is_like
another_letter = refl

pub a_letter_less : is_like (codes "lop") (codes "loop") ≡ true
unfolding is_like
a_letter_less = refl

pub a_letter_more : is_like (codes "loops") (codes "loop") ≡ true
unfolding is_like
a_letter_more = refl

pub two_letters_are_too_many : is_like (codes "loops") (codes "lop") ≡ false
unfolding is_like
two_letters_are_too_many = refl

pub two_that_are_swapped_are_too_many : is_like (codes "lopo") (codes "loop") ≡ false
unfolding is_like
two_that_are_swapped_are_too_many = refl

pub a_letter_and_the_case_are_too_many : is_like (codes "LOP") (codes "loop") ≡ false
unfolding is_like
a_letter_and_the_case_are_too_many = refl

pub a_branch_names_its_last_word : last_word (codes "x: beq $t0, $t1, t1 # to x") ≡ codes "t1"
a_branch_names_its_last_word = refl

pub it_stands_at_the_end : last_word_place (codes "x: beq $t0, $t1, t1 # to x") ≡ 17
it_stands_at_the_end = refl

pub a_word_of_a_label : last_word (codes ".word table ") ≡ codes "table"
a_word_of_a_label = refl

pub the_first_that_is_like : like_label (codes "nop" ++ 10 ∷ codes "look: j Loop" ++ 10 ∷ codes "loop:" ++ 10 ∷ []) (codes "Loop") ≡ Some (record { name = codes "loop"; line = 3 })
unfolding asm_on_literals is_like like_label
the_first_that_is_like = refl

pub none_is_like : like_label (codes "start: j there" ++ 10 ∷ []) (codes "there") ≡ None
unfolding asm_on_literals is_like like_label
none_is_like = refl

pub told_with_its_line : missing_text (codes "Loop") (Some (record { name = codes "loop"; line = 3 })) ≡ codes "There is no label `Loop`.\nThere is `loop` in line 3.\n"
unfolding digits missing_text
told_with_its_line = refl

pub told_without_one : missing_text (codes "there") None ≡ codes "There is no label `there`.\n"
unfolding missing_text
told_without_one = refl
