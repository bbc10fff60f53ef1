-- Worked events.
use Rattle.std.specs.Prelude.{codes, refl, ◌≡◌, ℕ, true, false, List, [], ◌∷◌, ◌++◌, Option, Some, None}
use Rattle.std.specs.Fmt.{digits}
use Rattle.ds_policy.specs.declared.command.Command.{Command}
use Rattle.ds_policy.specs.declared.command.Command.TheVariants.{Grant, Narrow, Revoke, Drop, Resume, Stop}
use Rattle.ds_policy.specs.declared.command.TimedCommand.{TimedCommand}
use Rattle.ds_policy.specs.declared.command.Character.{Character}
use Rattle.ds_policy.specs.declared.grant.Right.TheVariants.{Read, Write}
use Rattle.ds_policy.specs.declared.policy.PolicyPage.{PolicyPage}
use Rattle.ds_policy.specs.Value.{PolicyValue}
use Rattle.ds_text.specs.Digits.{hex4, hex8}
use Rattle.ds_check.specs.Coming.{events_text}

-- the pages `code` and `data`
abbrev two_pages : List PolicyPage
two_pages = record { name = codes "code"; source = None } ∷ record { name = codes "data"; source = None } ∷ []

abbrev order : ℕ → ℕ → Command → TimedCommand
order time number command = record { time = time; number = number; command = command }

abbrev key : ℕ → ℕ → ℕ → Character
key time line byte = record { time = time; line = line; byte = byte }

-- a policy of these pages, with one rule: page 1 to process 2, until a time
abbrev until : Option ℕ → PolicyValue
until time = record {
  frames = 16;
  rate = 0;
  processes = record { start = 0; line = 0 } ∷ record { start = 0; line = 1 } ∷ [];
  pages = two_pages;
  rules = record { process = 2; address = 0x0041A000; right = Write; page = Some 1; give = true; until = time } ∷ [];
}

-- characters stand together where their time and their line are one; at one time commands come first
pub events_in_their_order : events_text (until None) (record {
  commands = order 5 1 (Stop 2) ∷ order 7 2 (Grant 1 0x0041A000 1 Read true) ∷ order 9 3 (Grant 1 0x0041B000 0 Write false) ∷ [];
  characters = key 4 0 0x48 ∷ key 4 0 0x69 ∷ key 4 1 0x0A ∷ key 7 1 0xFF ∷ key 8 1 0 ∷ [];
})
    ≡ codes "4 key 0 4869\n4 key 1 0A\n5 command 1, rule 1001: stop 2\n7 command 2, rule 1002: grant 1 0041A000 data read give\n"
    ++ codes "7 key 1 FF\n8 key 1 00\n9 command 3, rule 1003: grant 1 0041B000 code write\n"
unfolding hex4 hex8 digits
events_in_their_order = refl

pub commands_in_words : events_text (until None) (record {
  commands = order 0 1 (Narrow 1 0x0041A000) ∷ order 0 2 (Revoke 10 0xFFFFFFFF) ∷ order 0 3 (Drop 3 0) ∷ order 0 4 (Resume 4294967295) ∷ [];
  characters = [];
})
    ≡ codes "0 command 1, rule 1001: narrow 1 0041A000\n0 command 2, rule 1002: revoke 10 FFFFFFFF\n"
    ++ codes "0 command 3, rule 1003: drop 3 00000000\n0 command 4, rule 1004: resume 4294967295\n"
unfolding hex4 hex8 digits
commands_in_words = refl

-- at one time a right ends before commands, and characters come after both
pub ends_in_their_order : events_text (until (Some 7)) (record {
  commands = order 5 1 (Stop 2) ∷ order 7 2 (Stop 1) ∷ [];
  characters = key 5 0 0x48 ∷ key 7 0 0x69 ∷ [];
})
    ≡ codes "5 command 1, rule 1001: stop 2\n5 key 0 48\n7 end, rule 1: process 2 loses 0041A000 data\n7 command 2, rule 1002: stop 1\n7 key 0 69\n"
unfolding hex4 hex8 digits
ends_in_their_order = refl

pub an_end_without_an_input : events_text (until (Some 1000000000)) (record { commands = []; characters = [] })
    ≡ codes "1000000000 end, rule 1: process 2 loses 0041A000 data\n"
unfolding hex4 hex8 digits
an_end_without_an_input = refl

pub no_event_is_no_line : events_text (until None) (record { commands = []; characters = [] }) ≡ []
no_event_is_no_line = refl
