-- What a line of an input says.
use Rattle.std.specs.Prelude.{codes, ℕ, ◌-◌, ◌^◌, Bool, true, false, ◌&&◌, nat_le, bytes_eq, ◌==◌, List, [], ◌∷◌, Option, Some, None, Result, Ok, Err, if◌then◌else◌}
use Rattle.std.specs.List.{slice_split}
use Rattle.ds_text.specs.Words.{read_word, write_word, grant_word, narrow_word, revoke_word, drop_word, resume_word, stop_word}
use Rattle.ds_word.specs.ResultBinding.{◌>>=◌}
use Rattle.ds_policy.specs.declared.command.Command.{Command}
use Rattle.ds_policy.specs.declared.command.Command.TheVariants.{Grant, Narrow, Revoke, Drop, Resume, Stop}
use Rattle.ds_policy.specs.declared.events.cause.InputCause.{InputCause}
use Rattle.ds_policy.specs.declared.events.cause.InputCause.TheVariants.{BadTime, UnknownEvent, WordCount, BadProcess, BadAddress, UnknownPage, BadRight, BadGive, BadLine, BadBytes}
use Rattle.ds_policy.specs.declared.events.event.Event.{Event}
use Rattle.ds_policy.specs.declared.events.event.Event.TheVariants.{Order, Input}
use Rattle.ds_policy.specs.declared.events.event.TimedEvent.{TimedEvent}
use Rattle.ds_policy.specs.declared.grant.EntryPlace.{EntryPlace}
use Rattle.ds_policy.specs.declared.grant.Right.{Right}
use Rattle.ds_policy.specs.declared.grant.Right.TheVariants.{Read, Write}
use Rattle.ds_policy.specs.declared.policy.PolicyPage.{PolicyPage}
use Rattle.ds_policy.specs.InputNumbers.{decimal_of, address_of, written_bytes}
use Rattle.ds_policy.specs.PolicyParts.{page_named}
use Rattle.ds_policy.specs.Refusal.{or_else, check}

-- the words of a line, with one space between
abbrev pub words_of : List ℕ → List (List ℕ)
words_of line = slice_split (λ b. b == 32) line

-- the process number that a word writes
abbrev pub process_number_of : List ℕ → Option ℕ
process_number_of word = decimal_of (2 ^ 32 - 1) word

-- one digit from 0 to 3
abbrev pub console_line_of : List ℕ → Option ℕ
console_line_of (c ∷ []) = if nat_le 48 c && nat_le c 51 then Some (c - 48) else None
console_line_of _ = None

-- the right that a command's word names
abbrev pub right_of : List ℕ → Option Right
right_of word = if bytes_eq word read_word then Some Read else if bytes_eq word write_word then Some Write else None

-- a process and an address
abbrev pub entry_place_of : List ℕ → List ℕ → Result EntryPlace InputCause
entry_place_of p a = do
  process ← or_else (process_number_of p) BadProcess
  address ← or_else (address_of a) BadAddress
  Ok (record { process = process; address = address })

-- a grant of a page, which may be given on
unfoldable pub grant_command : List PolicyPage → List ℕ → List ℕ → List ℕ → List ℕ → Bool → Result Command InputCause
grant_command pages p a name r give = do
  place ← entry_place_of p a
  page ← or_else (page_named pages name) UnknownPage
  right ← or_else (right_of r) BadRight
  Ok (Grant place.process place.address page right give)

-- a grant with a word after its right
unfoldable pub grant_with_give : List PolicyPage → List ℕ → List ℕ → List ℕ → List ℕ → List ℕ → Result Command InputCause
grant_with_give pages p a name r word = do
  command ← grant_command pages p a name r true
  known ← check (bytes_eq word (codes "give")) BadGive
  Ok command

-- of the words after `grant`: a process, an address, a page and a right, and perhaps `give`
unfoldable pub grant_command_of : List PolicyPage → List (List ℕ) → Result Command InputCause
grant_command_of pages (p ∷ a ∷ name ∷ r ∷ []) = grant_command pages p a name r false
grant_command_of pages (p ∷ a ∷ name ∷ r ∷ give ∷ []) = grant_with_give pages p a name r give
grant_command_of pages _ = Err WordCount

-- of the words after a verb about an entry
abbrev pub entry_in : List (List ℕ) → Result EntryPlace InputCause
entry_in (p ∷ a ∷ []) = entry_place_of p a
entry_in _ = Err WordCount

-- of the words after a verb about a process
abbrev pub process_in : List (List ℕ) → Result ℕ InputCause
process_in (p ∷ []) = or_else (process_number_of p) BadProcess
process_in _ = Err WordCount

-- the command of a verb and the words after it
unfoldable pub command_of : List PolicyPage → List ℕ → List (List ℕ) → Result Command InputCause
command_of pages verb words =
    if bytes_eq verb grant_word then grant_command_of pages words
    else if bytes_eq verb narrow_word then entry_in words >>= (λ e. Ok (Narrow e.process e.address))
    else if bytes_eq verb revoke_word then entry_in words >>= (λ e. Ok (Revoke e.process e.address))
    else if bytes_eq verb drop_word then entry_in words >>= (λ e. Ok (Drop e.process e.address))
    else if bytes_eq verb resume_word then process_in words >>= (λ p. Ok (Resume p))
    else if bytes_eq verb stop_word then process_in words >>= (λ p. Ok (Stop p))
    else Err UnknownEvent

-- the characters of the words after `key`
unfoldable pub keys_of : List (List ℕ) → Result Event InputCause
keys_of (l ∷ digits ∷ []) = do
  line ← or_else (console_line_of l) BadLine
  keys ← or_else (written_bytes digits) BadBytes
  Ok (Input line keys)
keys_of _ = Err WordCount

-- the event that a verb and the words after it make
abbrev pub event_of : List PolicyPage → List ℕ → List (List ℕ) → Result Event InputCause
event_of pages verb words = if bytes_eq verb (codes "key") then keys_of words else command_of pages verb words >>= (λ c. Ok (Order c))

-- the event of the words after a time
abbrev pub event_in : List PolicyPage → List (List ℕ) → Result Event InputCause
event_in pages [] = Err WordCount
event_in pages (verb ∷ words) = event_of pages verb words

-- the event of a time and the words after it
abbrev pub event_at : List PolicyPage → List ℕ → List (List ℕ) → Result TimedEvent InputCause
event_at pages t words = do
  time ← or_else (decimal_of 1000000000 t) BadTime
  event ← event_in pages words
  Ok (record { time = time; event = event })

-- the event of a line's words
unfoldable pub timed_event_of : List PolicyPage → List (List ℕ) → Result TimedEvent InputCause
timed_event_of pages [] = Err BadTime
timed_event_of pages (t ∷ words) = event_at pages t words
