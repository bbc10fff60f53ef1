-- The lines of a unit.
use Rattle.std.specs.Prelude.{codes, decimal, ℕ, ◌+◌, Bool, ◌==◌, ◌||◌, if◌then◌else◌, List, [], ◌∷◌, ◌++◌, length, slice_index, is_some, Option, Some, None}
use Rattle.ds_word.specs.Word.{word}
use Rattle.ds_isa.specs.Uses.{uses}
use Rattle.ds_isa.specs.Instruction.{instruction_of}
use Rattle.ds_listing.specs.declared.names.RegisterNames.{RegisterNames}
use Rattle.ds_listing.specs.NamedTexts.{register_as, text_as}
use Rattle.ds_listing.specs.Pages.{place_of_address, plain_pages}
use Rattle.ds_text.specs.Digits.{hex8}
use Rattle.ds_words.specs.declared.view.View.{View}
use Rattle.ds_words.specs.Views.{shows_denials, shows_unit}
use Rattle.ds_trace.specs.declared.lines.Told.{Told}
use Rattle.ds_trace.specs.declared.start.Start.{Start}
use Rattle.ds_trace.specs.Starts.{is_call}
use Rattle.ds_trace.specs.Calls.{call_told, call_answer_text}
use Rattle.ds_trace.specs.Stores.{is_lost, reach_of, stored_at, stored_text}
use Rattle.ds_trace.specs.Looks.{Found}

-- whether a register is never shown: 0, and 26 and 27, which a touch may change
abbrev pub is_hidden : ℕ → Bool
is_hidden n = (n == 0) || is_lost n

-- a register that is shown
abbrev pub shown : Option ℕ → Option ℕ
shown None = None
shown (Some n) = if is_hidden n then None else Some n

-- a text before two blanks, where there is one
abbrev pub before_blanks : List ℕ → List ℕ
before_blanks [] = []
before_blanks (first ∷ rest) = (first ∷ rest) ++ codes "  "

-- the register that the line of an instruction shows: of a call register 2
unfoldable pub shown_register : ℕ → Option ℕ
shown_register w = shown (if is_call (instruction_of w) then Some 2 else (uses (instruction_of w)).writes)

-- a register with what it holds
abbrev pub register_text : RegisterNames → List ℕ → Option ℕ → List ℕ
register_text names general None = []
register_text names general (Some n) = codes "  " ++ register_as names n ++ codes "=" ++ hex8 (slice_index general n)

-- the time, the process, the address and the instruction's text
abbrev pub front_text : RegisterNames → Told → List ℕ
front_text names t = decimal t.time ++ codes " " ++ decimal t.process ++ codes " " ++ hex8 t.address ++ codes " " ++ text_as names t.word

-- the word from which it loads, where units are told by their sources
abbrev pub loaded_text : View → Told → Found → List ℕ
loaded_text v t f = if v.source then stored_text f.memory (length f.standings) t.process t.loaded else []

-- what an instruction leaves, where the unit was done: a register, or the word of a store; and the word of a load
abbrev pub result_text : View → Told → Found → List ℕ
result_text v t f =
    if t.done then
    register_text v.names f.general (shown_register t.word)
    ++ (stored_text f.memory (length f.standings) t.process (stored_at f.general (reach_of (instruction_of t.word))) ++ loaded_text v t f)
    else []

-- an instruction, with the words of a call and its refusal
abbrev pub instruction_text : View → Told → Found → List ℕ
instruction_text v t f =
    front_text v.names t ++ call_told v.source t.number t.call ++ result_text v t f ++ call_answer_text t.call (slice_index f.general 2) ++ codes "\n"

-- where it stands in its source, where units are told by their sources
abbrev pub source_place_text : View → Told → List ℕ
source_place_text v t = if v.source then before_blanks (place_of_address (plain_pages v.pages.now) t.page t.address) else []

-- the line of an instruction that was fetched
abbrev pub told_line : View → Told → Found → List ℕ
told_line v t f = source_place_text v t ++ instruction_text v t f

-- what is told of the first instruction of a unit, and of that in its slot
abbrev pub first_told : Start → Bool → ℕ → Told
first_told s done w = record {
  time = s.time;
  process = s.process;
  page = s.page;
  address = s.address;
  word = w;
  call = s.call;
  number = s.number;
  loaded = s.loaded;
  done = done;
}

abbrev pub slot_told : Start → Bool → ℕ → Told
slot_told s done w = record {
  time = s.time;
  process = s.process;
  page = s.slot_page;
  address = word (s.address + 4);
  word = w;
  call = None;
  number = s.number;
  loaded = s.slot_loaded;
  done = done;
}

-- the line of the first instruction, where it was fetched
abbrev pub first_line : View → Start → Bool → Found → Option ℕ → List ℕ
first_line v s done f None = []
first_line v s done f (Some w) = told_line v (first_told s done w) f

-- that of the slot, after two blanks
abbrev pub slot_line : View → Start → Bool → Found → Option ℕ → List ℕ
slot_line v s done f None = []
slot_line v s done f (Some w) = codes "  " ++ told_line v (slot_told s done w) f

-- the line of a unit, and after that of a branch the line of its slot
abbrev pub unit_text : View → Start → Bool → Found → List ℕ
unit_text v s done f = first_line v s done f s.word ++ slot_line v s done f s.slot

-- whether nothing was logged
abbrev pub is_none : List ℕ → Bool
is_none logged = length logged == 0

-- a unit was done where nothing was logged in it; a call is done, though a refused give is logged
abbrev pub was_done : Start → List ℕ → Bool
was_done s logged = is_none logged || is_some s.call

-- what a unit logged
abbrev pub logged_text : List ℕ → List ℕ
logged_text logged = if is_none logged then [] else codes "denied " ++ logged

-- the lines of a unit that logged this, as far as they are wanted
abbrev pub unit_told : View → Start → List ℕ → Found → List ℕ
unit_told v s logged f =
    (if shows_unit v s.process (is_some s.call) then unit_text v s (was_done s logged) f else [])
    ++ (if shows_denials v s.process then logged_text logged else [])
