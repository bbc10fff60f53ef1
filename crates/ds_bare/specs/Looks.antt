-- What the end tells where that is wanted: what is counted, and words of memory.
use Rattle.std.specs.Prelude.{codes, decimal, ℕ, zero, suc, ◌+◌, ◌%◌, ◌==◌, ◌||◌, if◌then◌else◌, List, [], ◌∷◌, ◌++◌, length}
use Rattle.std.specs.List.{flat_map}
use Rattle.ds_word.specs.Bytes.{word_at}
use Rattle.ds_word.specs.Word.{word}
use Rattle.ds_text.specs.Digits.{hex8}
use Rattle.ds_dev.specs.Bus.{BusState, is_memory}
use Rattle.ds_words.specs.declared.spans.Span.{Span}
use Rattle.ds_words.specs.declared.bare_view.BareView.{BareView}
use Rattle.ds_words.specs.Spans.{spans_in}
use Rattle.ds_bare.specs.declared.counts.Counts.{Counts}
use Rattle.ds_bare.specs.Machine.{Machine}
use Rattle.ds_bare.specs.Steps.{code_text}

-- a count with its name
abbrev pub count_text : List ℕ → ℕ → List ℕ
count_text name count = name ++ decimal count ++ codes "\n"

-- how often the exception with a code was entered, if it was
abbrev pub exception_text : ℕ → ℕ → List ℕ
exception_text code count = if count == 0 then [] else codes "exception " ++ code_text code ++ codes ": " ++ decimal count ++ codes "\n"

-- the same of the codes from one on
abbrev pub exceptions_text : ℕ → List ℕ → List ℕ
exceptions_text code [] = []
exceptions_text code (count ∷ counts) = exception_text code count ++ exceptions_text (code + 1) counts

-- how many instructions, refills and writes of the buffer there were
unfoldable pub steps_counted : ℕ → Counts → List ℕ
steps_counted done k = count_text (codes "instructions ") done ++ count_text (codes "refills ") k.refills ++ count_text (codes "writes of the buffer ") k.writes

-- how often the devices interrupted, and how many characters came in
unfoldable pub devices_counted : Counts → List ℕ
devices_counted k = count_text (codes "interrupts of the lines ") k.lines ++ count_text (codes "interrupts of the clock ") k.clock ++ count_text (codes "characters in ") k.came

-- what is counted, after so many instructions, by how many characters were sent
unfoldable pub counts_text : ℕ → ℕ → Counts → List ℕ
counts_text done sent k = steps_counted done k ++ devices_counted k ++ count_text (codes "characters out ") sent ++ exceptions_text 0 k.exceptions

-- before each eighth word, where a line begins: the address of the word
abbrev pub front_of_words : ℕ → ℕ → List ℕ
front_of_words place i = if i % 8 == 0 then codes "memory " ++ hex8 place ++ codes ":" else []

-- a word of memory, or a sign where no memory is
abbrev pub memory_word_text : BusState → ℕ → List ℕ
memory_word_text b place = if is_memory place then codes " " ++ hex8 (word_at b.memory place) else codes " -"

-- after the last word of eight, and after the last of all, where a line ends
abbrev pub back_of_words : ℕ → ℕ → List ℕ
back_of_words count i = if (i % 8 == 7) || (i + 1 == count) then codes "\n" else []

-- a word by its number among so many, in its line
abbrev pub piece_text : BusState → ℕ → ℕ → ℕ → List ℕ
piece_text b place count i = front_of_words place i ++ memory_word_text b place ++ back_of_words count i

-- those from a place on, of which so many are left from this number on
abbrev pub pieces_text : BusState → ℕ → ℕ → ℕ → ℕ → List ℕ
pieces_text b place count i zero = []
pieces_text b place count i (suc left) = piece_text b place count i ++ pieces_text b (word (place + 4)) count (i + 1) left

-- the words of a span, eight in a line
abbrev pub span_text : BusState → Span → List ℕ
span_text b s = pieces_text b s.address s.count 0 s.count

-- what the end tells beside how the machine stands, after so many instructions
unfoldable pub looks_text : BareView → ℕ → Machine → List ℕ
looks_text v done m = (if v.counts then counts_text done (length m.sent) m.counts else []) ++ flat_map (span_text m.bus) (spans_in v.memory)
