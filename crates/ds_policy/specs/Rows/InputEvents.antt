-- Worked rows of what lines of an input say.
use Rattle.std.specs.Prelude.{codes, refl, ◌≡◌, ℕ, zero, suc, Bool, true, false, List, [], ◌∷◌, ◌++◌, ◌+◌, map, flat_map, replicate, None, Result, Ok, is_ok}
use Rattle.ds_policy.specs.declared.command.Command.{Command}
use Rattle.ds_policy.specs.declared.command.Command.TheVariants.{Grant, Narrow, Revoke, Drop, Resume, Stop}
use Rattle.ds_policy.specs.declared.command.TimedCommand.{TimedCommand}
use Rattle.ds_policy.specs.declared.command.Character.{Character}
use Rattle.ds_policy.specs.declared.events.cause.InputCause.{InputCause}
use Rattle.ds_policy.specs.declared.events.event.Event.TheVariants.{Order, Input}
use Rattle.ds_policy.specs.declared.events.event.TimedEvent.{TimedEvent}
use Rattle.ds_policy.specs.declared.grant.Right.TheVariants.{Read, Write}
use Rattle.ds_policy.specs.declared.policy.PolicyPage.{PolicyPage}
use Rattle.ds_word.specs.Digits.{digits_from}
use Rattle.ds_policy.specs.InputNumbers.{pairs_of}
use Rattle.ds_policy.specs.InputLines.{words_of, grant_command, grant_with_give, grant_command_of, command_of, keys_of, timed_event_of}
use Rattle.ds_policy.specs.InputText.{nothing_said, follows, with_line, with_lines, lines_of}

-- the pages `code` and `data`
abbrev two_pages : List PolicyPage
two_pages = record { name = codes "code"; source = None } ∷ record { name = codes "data"; source = None } ∷ []

-- the event of a line
abbrev said_by : List ℕ → Result TimedEvent InputCause
said_by line = timed_event_of two_pages (words_of line)

-- a command at a time
abbrev order : ℕ → Command → Result TimedEvent InputCause
order time command = Ok (record { time = time; event = Order command })

-- characters for a line at a time
abbrev input : ℕ → ℕ → List ℕ → Result TimedEvent InputCause
input time line keys = Ok (record { time = time; event = Input line keys })

pub a_line_says_a_command : map said_by (
    codes "0 resume 1"
    ∷ codes "5 resume 0"
    ∷ codes "0000000007 stop 4294967295"
    ∷ codes "1000000000 stop 0000000001"
    ∷ codes "1 narrow 1 0041000a"
    ∷ codes "1 revoke 1 0041000A"
    ∷ codes "1 drop 1 0041000a"
    ∷ codes "1 drop 2 FFFFFFFF"
    ∷ codes "7 grant 1 0041000a code read"
    ∷ codes "7 grant 1 0041000a data write"
    ∷ codes "7 grant 1 0041000a data read give"
    ∷ [])
    ≡ order 0 (Resume 1)
    ∷ order 5 (Resume 0)
    ∷ order 7 (Stop 0xFFFFFFFF)
    ∷ order 1000000000 (Stop 1)
    ∷ order 1 (Narrow 1 0x0041000A)
    ∷ order 1 (Revoke 1 0x0041000A)
    ∷ order 1 (Drop 1 0x0041000A)
    ∷ order 1 (Drop 2 0xFFFFFFFF)
    ∷ order 7 (Grant 1 0x0041000A 0 Read false)
    ∷ order 7 (Grant 1 0x0041000A 1 Write false)
    ∷ order 7 (Grant 1 0x0041000A 1 Read true)
    ∷ []
unfolding digits_from pairs_of grant_command grant_with_give grant_command_of command_of keys_of timed_event_of
a_line_says_a_command = refl

pub a_line_says_characters : map said_by (
    codes "5 key 0 41"
    ∷ codes "5 key 3 4869"
    ∷ codes "0 key 1 00fFFf0a"
    ∷ [])
    ≡ input 5 0 (codes "A")
    ∷ input 5 3 (codes "Hi")
    ∷ input 0 1 (0 ∷ 255 ∷ 255 ∷ 10 ∷ [])
    ∷ []
unfolding digits_from pairs_of grant_command grant_with_give grant_command_of command_of keys_of timed_event_of
a_line_says_characters = refl

pub a_line_that_is_no_event_says_nothing : map (λ line. is_ok (said_by line)) (
    codes "5"
    ∷ codes "5 "
    ∷ codes "5 key"
    ∷ codes "5 key 0"
    ∷ codes "5 key 0 "
    ∷ codes "5 key 0 4"
    ∷ codes "5 key 0 4g"
    ∷ codes "5 key 0 414"
    ∷ codes "5 key 0 41 "
    ∷ codes "5 key 0 41 42"
    ∷ codes "5 key 4 41"
    ∷ codes "5 key 00 41"
    ∷ codes "5 Key 0 41"
    ∷ codes " 5 key 0 41"
    ∷ codes "5  key 0 41"
    ∷ (codes "5" ++ 9 ∷ codes "key 0 41")
    ∷ (codes "5 key 0 41" ++ 13 ∷ [])
    ∷ (codes "5 key 0 " ++ 0xC1 ∷ [])
    ∷ codes "x5 key 0 41"
    ∷ codes "-5 key 0 41"
    ∷ codes "+5 key 0 41"
    ∷ codes "1000000001 key 0 41"
    ∷ codes "00000000005 key 0 41"
    ∷ codes "1 resume 4294967296"
    ∷ codes "1 resume 00000000001"
    ∷ codes "1 resume"
    ∷ codes "1 resume 1 1"
    ∷ codes "1 stop one"
    ∷ codes "1 pause 1"
    ∷ codes "1 narrow 1 0041000"
    ∷ codes "1 narrow 1 004100000"
    ∷ codes "1 revoke 1 0x410000"
    ∷ codes "1 drop 1"
    ∷ codes "1 grant 1 00410000 data"
    ∷ codes "1 grant 1 00410000 data none"
    ∷ codes "1 grant 1 00410000 dat read"
    ∷ codes "1 grant 1 00410000 data read give give"
    ∷ codes "1 grant 1 00410000 data read no"
    ∷ (codes "1 " ++ 0xFF ∷ codes " 1")
    ∷ [])
    ≡ replicate 39 false
unfolding digits_from pairs_of grant_command grant_with_give grant_command_of command_of keys_of timed_event_of
a_line_that_is_no_event_says_nothing = refl

-- a text, so often
abbrev repeated : ℕ → List ℕ → List ℕ
repeated zero text = []
repeated (suc n) text = text ++ repeated n text

pub up_to_256_characters_come_in_together : map (λ pairs. is_ok (said_by (codes "5 key 0 " ++ repeated pairs (codes "41")))) (1 ∷ 255 ∷ 256 ∷ 257 ∷ [])
    ≡ true ∷ true ∷ true ∷ false ∷ []
unfolding digits_from pairs_of grant_command grant_with_give grant_command_of command_of keys_of timed_event_of
up_to_256_characters_come_in_together = refl

-- whether an event at this time may follow so many, of which the last was due at the first time
abbrev comes : ℕ → ℕ → ℕ → Bool
comes latest events time = follows (record { latest = latest; events = events; commands = []; characters = [] }) time

pub an_event_comes_neither_before_the_last_one_nor_as_the_4097th :
    comes 0 0 0
    ∷ comes 5 1 4
    ∷ comes 5 1 5
    ∷ comes 5 1 6
    ∷ comes 1000000000 1 999999999
    ∷ comes 1000000000 1 1000000000
    ∷ comes 0 4095 0
    ∷ comes 0 4096 0
    ∷ comes 5 4096 4
    ∷ []
    ≡ true ∷ false ∷ true ∷ true ∷ false ∷ true ∷ true ∷ false ∷ false ∷ []
an_event_comes_neither_before_the_last_one_nor_as_the_4097th = refl

-- a command to stop the process whose number is the time
abbrev stop_at : ℕ → TimedCommand
stop_at time = record { time = time; number = time + 1; command = Stop time }

-- the characters A and B for line 3 at a time
abbrev pair_at : ℕ → List Character
pair_at time = record { time = time; line = 3; byte = 65 } ∷ record { time = time; line = 3; byte = 66 } ∷ []

pub commands_are_numbered_and_characters_stand_one_by_one : with_lines [] nothing_said 1 (lines_of (
    codes "0 stop 0\n0 key 3 4142\n1 stop 1\n1 key 3 4142\n2 stop 2\n2 key 3 4142\n"
    ++ codes "3 stop 3\n3 key 3 4142\n4 stop 4\n4 key 3 4142\n5 stop 5\n5 key 3 4142\n"
    ++ codes "6 stop 6\n6 key 3 4142\n7 stop 7\n7 key 3 4142\n8 stop 8\n8 key 3 4142\n"))
    ≡ Ok (record {
      latest = 8;
      events = 18;
      commands = map stop_at (0 ∷ 1 ∷ 2 ∷ 3 ∷ 4 ∷ 5 ∷ 6 ∷ 7 ∷ 8 ∷ []);
      characters = flat_map pair_at (0 ∷ 1 ∷ 2 ∷ 3 ∷ 4 ∷ 5 ∷ 6 ∷ 7 ∷ 8 ∷ []);
    })
unfolding digits_from pairs_of grant_command grant_with_give grant_command_of command_of keys_of timed_event_of with_line with_lines
commands_are_numbered_and_characters_stand_one_by_one = refl
