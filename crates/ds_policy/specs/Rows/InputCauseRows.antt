-- Worked rows of why an input is refused.
use Rattle.std.specs.Prelude.{codes, refl, ◌≡◌, ℕ, List, [], ◌∷◌, ◌++◌, map, option_map, Option, Some, None}
use Rattle.ds_word.specs.Digits.{digits_from}
use Rattle.ds_policy.specs.InputNumbers.{pairs_of}
use Rattle.std.specs.Result.{result_err}
use Rattle.ds_policy.specs.InputLines.{grant_command, grant_with_give, grant_command_of, command_of, keys_of, timed_event_of}
use Rattle.ds_policy.specs.InputText.{nothing_said, with_line, with_lines, read_input}
use Rattle.ds_policy.specs.declared.policy.PolicyPage.{PolicyPage}
use Rattle.ds_policy.specs.declared.events.cause.InputCause.{InputCause}
use Rattle.ds_policy.specs.declared.events.cause.InputCause.TheVariants.{CarriageReturn, Tab, BlankAtStart, BlankAtEnd, TwoBlanks, BadTime, UnknownEvent, WordCount, BadProcess, BadAddress, UnknownPage, BadRight, BadGive, BadLine, BadBytes, EarlierTime, TooManyEvents}
use Rattle.ds_policy.specs.declared.events.cause.InputReason.{InputReason}

-- the pages `code` and `data`
abbrev two_pages : List PolicyPage
two_pages = record { name = codes "code"; source = None } ∷ record { name = codes "data"; source = None } ∷ []

-- what is wrong with an input
abbrev cause : List ℕ → Option InputCause
cause text = option_map (λ (r : InputReason). r.cause) (result_err (read_input two_pages text))

pub blanks : map cause (
    (codes "5 key 0 41" ++ 13 ∷ [])
    ∷ (codes "5" ++ 9 ∷ codes "key 0 41")
    ∷ codes " 5 key 0 41"
    ∷ codes " # later"
    ∷ codes "5 key 0 41 "
    ∷ codes "5  key 0 41"
    ∷ codes " "
    ∷ (codes " 5  key 0 41 " ++ 9 ∷ 13 ∷ [])
    ∷ [])
    ≡ Some CarriageReturn ∷ Some Tab ∷ Some BlankAtStart ∷ Some BlankAtStart ∷ Some BlankAtEnd ∷ Some TwoBlanks ∷ Some BlankAtStart ∷ Some CarriageReturn ∷ []
unfolding digits_from pairs_of grant_command grant_with_give grant_command_of command_of keys_of timed_event_of with_line with_lines
blanks = refl

pub words : map cause (
    codes "later"
    ∷ codes "1000000001 stop 1"
    ∷ codes "5 pause 1"
    ∷ codes "5 Key 0 41"
    ∷ codes "5"
    ∷ codes "5 key 0"
    ∷ codes "5 stop 1 1"
    ∷ codes "5 grant 1 00410000 data"
    ∷ codes "5 grant 1 00410000 data read give give"
    ∷ codes "1 2 3 4 5 6 7 8 9"
    ∷ [])
    ≡ Some BadTime ∷ Some BadTime ∷ Some UnknownEvent ∷ Some UnknownEvent ∷ Some WordCount ∷ Some WordCount ∷ Some WordCount ∷ Some WordCount ∷ Some WordCount ∷ Some UnknownEvent ∷ []
unfolding digits_from pairs_of grant_command grant_with_give grant_command_of command_of keys_of timed_event_of with_line with_lines
words = refl

pub values : map cause (
    codes "5 resume one"
    ∷ codes "5 narrow 4294967296 00410000"
    ∷ codes "5 revoke 1 0041000"
    ∷ codes "5 drop 1 0x410000"
    ∷ codes "5 drop 1 0x00410000"
    ∷ codes "5 grant 1 410000 dat none"
    ∷ codes "5 grant 1 00410000 dat none"
    ∷ codes "5 grant 1 00410000 data none no"
    ∷ codes "5 grant 1 00410000 data read no"
    ∷ codes "5 key 4 4"
    ∷ codes "5 key 00 41"
    ∷ codes "5 key 0 414"
    ∷ codes "5 key 0 4g"
    ∷ [])
    ≡ Some BadProcess ∷ Some BadProcess ∷ Some BadAddress ∷ Some BadAddress ∷ Some BadAddress ∷ Some BadAddress ∷ Some UnknownPage ∷ Some BadRight ∷ Some BadGive ∷ Some BadLine ∷ Some BadLine ∷ Some BadBytes ∷ Some BadBytes ∷ []
unfolding digits_from pairs_of grant_command grant_with_give grant_command_of command_of keys_of timed_event_of with_line with_lines
values = refl

pub the_first_line_that_is_refused : map (λ text. result_err (read_input two_pages text)) (
    codes "5 stop 1\n# later\n\n4 stop 1\n"
    ∷ codes "5 stop 1\n6 key 0 41\n5 key 0 41\n4 stop\n"
    ∷ codes "5 stop 1\n6 key 0 4\n5 key 0 41\n"
    ∷ codes "5 stop 1\n5 stop 1\n"
    ∷ codes "# nothing\n"
    ∷ [])
    ≡ Some (record { line = 4; cause = EarlierTime })
    ∷ Some (record { line = 3; cause = EarlierTime })
    ∷ Some (record { line = 2; cause = BadBytes })
    ∷ None
    ∷ None
    ∷ []
unfolding digits_from pairs_of grant_command grant_with_give grant_command_of command_of keys_of timed_event_of with_line with_lines
the_first_line_that_is_refused = refl

-- why a line is refused after so many events, of which the last was due at this time
abbrev after : ℕ → ℕ → List ℕ → Option InputCause
after events latest line = option_map (λ (r : InputReason). r.cause) (result_err (with_lines two_pages (record nothing_said { events = events; latest = latest }) 1 (line ∷ [])))

pub the_last_time_and_the_last_event : map (λ line. after 4095 9 line) (codes "8 stop 1" ∷ codes "9 stop 1" ∷ []) ++ map (λ line. after 4096 9 line) (codes "8 stop 1" ∷ codes "9 stop 1" ∷ codes "9 stop" ∷ codes "# 9" ∷ [])
    ≡ Some EarlierTime ∷ None ∷ Some EarlierTime ∷ Some TooManyEvents ∷ Some WordCount ∷ None ∷ []
unfolding digits_from pairs_of grant_command grant_with_give grant_command_of command_of keys_of timed_event_of with_line with_lines
the_last_time_and_the_last_event = refl
