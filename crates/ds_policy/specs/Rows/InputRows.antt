-- Worked rows of the reading of an input.
use Rattle.std.specs.Prelude.{codes, refl, ◌≡◌, true, List, [], ◌∷◌, None, Ok, Err}
use Rattle.ds_policy.specs.declared.command.Command.TheVariants.{Grant, Stop}
use Rattle.ds_policy.specs.declared.grant.Right.TheVariants.{Read}
use Rattle.ds_policy.specs.declared.policy.PolicyPage.{PolicyPage}
use Rattle.ds_word.specs.Digits.{digits_from}
use Rattle.ds_policy.specs.InputNumbers.{pairs_of}
use Rattle.ds_policy.specs.InputLines.{grant_command, grant_with_give, grant_command_of, command_of, keys_of, timed_event_of}
use Rattle.ds_policy.specs.InputText.{with_line, with_lines, input_of}

-- the pages of a policy that names one zero page
abbrev one_page : List PolicyPage
one_page = record { name = codes "data"; source = None } ∷ []

characters_and_a_grant : input_of one_page (codes "5 key 0 4869\n\n# x\n7 grant 1 0041000a data read give\n") ≡ Ok (record {
  commands = record { time = 7; number = 1; command = Grant 1 0x41000a 0 Read true } ∷ [];
  characters = record { time = 5; line = 0; byte = 72 } ∷ record { time = 5; line = 0; byte = 105 } ∷ [];
})
unfolding digits_from pairs_of grant_command grant_with_give grant_command_of command_of keys_of timed_event_of with_line with_lines
characters_and_a_grant = refl

a_time_that_falls : input_of [] (codes "5 key 0 41\n4 key 0 41") ≡ Err 2
unfolding digits_from pairs_of grant_command grant_with_give grant_command_of command_of keys_of timed_event_of with_line with_lines
a_time_that_falls = refl

no_bytes : input_of [] [] ≡ Ok (record { commands = []; characters = [] })
unfolding with_line with_lines
no_bytes = refl

an_empty_line_is_skipped : input_of [] (codes "\n5 key 0 41") ≡ Ok (record { commands = []; characters = record { time = 5; line = 0; byte = 65 } ∷ [] })
unfolding digits_from pairs_of grant_command grant_with_give grant_command_of command_of keys_of timed_event_of with_line with_lines
an_empty_line_is_skipped = refl

a_command_needs_no_page : input_of [] (codes "\n5 stop 1") ≡ Ok (record { commands = record { time = 5; number = 1; command = Stop 1 } ∷ []; characters = [] })
unfolding digits_from pairs_of grant_command grant_with_give grant_command_of command_of keys_of timed_event_of with_line with_lines
a_command_needs_no_page = refl

a_grant_is_over_a_page_of_the_policy : input_of one_page (codes "\n5 grant 1 00400000 code read") ≡ Err 2
unfolding digits_from pairs_of grant_command grant_with_give grant_command_of command_of keys_of timed_event_of with_line with_lines
a_grant_is_over_a_page_of_the_policy = refl
