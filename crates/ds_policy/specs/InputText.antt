-- What an input says: its commands and characters, or the first line that is wrong.
use Rattle.std.specs.Prelude.{ℕ, ◌+◌, Bool, ◌&&◌, ◌||◌, ◌==◌, nat_le, nat_lt, slice_index, List, [], ◌∷◌, ◌++◌, length, map, unwrap_or, Result, Ok, Err, if◌then◌else◌}
use Rattle.std.specs.List.{slice_split}
use Rattle.ds_word.specs.ResultBinding.{◌>>=◌}
use Rattle.ds_policy.specs.declared.command.Command.{Command}
use Rattle.ds_policy.specs.declared.command.TimedCommand.{TimedCommand}
use Rattle.ds_policy.specs.declared.command.Character.{Character}
use Rattle.ds_policy.specs.declared.events.cause.InputCause.{InputCause}
use Rattle.ds_policy.specs.declared.events.cause.InputCause.TheVariants.{EarlierTime, TooManyEvents}
use Rattle.ds_policy.specs.declared.events.cause.InputReason.{InputReason}
use Rattle.ds_policy.specs.declared.events.event.Event.{Event}
use Rattle.ds_policy.specs.declared.events.event.Event.TheVariants.{Order, Input}
use Rattle.ds_policy.specs.declared.events.event.TimedEvent.{TimedEvent}
use Rattle.ds_policy.specs.declared.policy.PolicyPage.{PolicyPage}
use Rattle.ds_policy.specs.Value.{InputValue}
use Rattle.ds_policy.specs.Refusal.{told_as}
use Rattle.ds_policy.specs.InputLayout.{layout_cause}
use Rattle.ds_policy.specs.InputLines.{words_of, timed_event_of}

-- what lines have said so far: the time of the last event, how many events there were, and what they are
pub record Said : Type 0 where
  pub latest : ℕ
  pub events : ℕ
  pub commands : List TimedCommand
  pub characters : List Character

-- what has been read before the first line
abbrev pub nothing_said : Said
nothing_said = record { latest = 0; events = 0; commands = []; characters = [] }

-- the bytes of a `key` line as characters
abbrev pub characters_of : ℕ → ℕ → List ℕ → List Character
characters_of time line keys = map (λ (b : ℕ). record { time = time; line = line; byte = b }) keys

-- with a command at the end, numbered from 1
abbrev pub with_command : Said → ℕ → Command → Said
with_command s time c = record s { latest = time; events = s.events + 1; commands = s.commands ++ record { time = time; number = length s.commands + 1; command = c } ∷ [] }

-- with characters at the end, which come in on a line together
abbrev pub with_characters : Said → ℕ → ℕ → List ℕ → Said
with_characters s time line keys = record s { latest = time; events = s.events + 1; characters = s.characters ++ characters_of time line keys }

-- with an event at the end, a command or the characters of a line
abbrev pub with_event : Said → ℕ → Event → Said
with_event s time (Order c) = with_command s time c
with_event s time (Input line keys) = with_characters s time line keys

-- an event isn't before the last one, nor the 4,097th
abbrev pub follows : Said → ℕ → Bool
follows s time = nat_le s.latest time && nat_lt s.events 4096

-- why an event at this time may not follow
abbrev pub order_cause : Said → ℕ → InputCause
order_cause s time = if nat_lt time s.latest then EarlierTime else TooManyEvents

-- with an event, where it may follow
abbrev pub with_timed : Said → TimedEvent → Result Said InputCause
with_timed s e = if follows s e.time then Ok (with_event s e.time e.event) else Err (order_cause s e.time)

-- an empty line, or a comment
abbrev pub is_skipped : List ℕ → Bool
is_skipped line = (length line == 0) || (slice_index line 0 == 35)

-- with the event of a line's words
abbrev pub with_words : List PolicyPage → Said → List ℕ → Result Said InputCause
with_words pages s line = timed_event_of pages (words_of line) >>= with_timed s

-- why line n is refused: for what stands between its words, or else for a cause
abbrev pub reason_at : ℕ → List ℕ → InputCause → InputReason
reason_at n line cause = record { line = n; cause = unwrap_or (layout_cause line) cause }

-- with what line n says
unfoldable pub with_line : List PolicyPage → Said → ℕ → List ℕ → Result Said InputReason
with_line pages s n line = if is_skipped line then Ok s else told_as (reason_at n line) (with_words pages s line)

-- with what lines say, of which the first is line n; or why the first that is wrong is refused
unfoldable pub with_lines : List PolicyPage → Said → ℕ → List (List ℕ) → Result Said InputReason
with_lines pages s n [] = Ok s
with_lines pages s n (line ∷ lines) = with_line pages s n line >>= (λ next. with_lines pages next (n + 1) lines)

-- what stands between line feeds; after the last one stands an empty line or one that isn't ended
abbrev pub lines_of : List ℕ → List (List ℕ)
lines_of text = slice_split (λ b. b == 10) text

-- the input that has been read
abbrev pub input_in : Said → InputValue
input_in s = record { commands = s.commands; characters = s.characters }

-- what a text says, by the policy's pages, or why its first wrong line is refused
abbrev pub read_input : List PolicyPage → List ℕ → Result InputValue InputReason
read_input pages text = with_lines pages nothing_said 1 (lines_of text) >>= (λ s. Ok (input_in s))

-- what a text says, or the number of its first wrong line
abbrev pub input_of : List PolicyPage → List ℕ → Result InputValue ℕ
input_of pages text = told_as (λ (r : InputReason). r.line) (read_input pages text)
