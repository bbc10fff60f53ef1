-- The text of the end: why, and how the machine stands.
use Rattle.std.specs.Prelude.{codes, decimal, ℕ, ◌+◌, ◌*◌, ◌/◌, ◌^◌, ◌==◌, if◌then◌else◌, List, [], ◌∷◌, ◌++◌, Option, Some, None, position}
use Rattle.std.specs.List.{flat_map}
use Rattle.ds_word.specs.Word.{bits}
use Rattle.ds_listing.specs.declared.names.RegisterNames.{RegisterNames}
use Rattle.ds_text.specs.Digits.{hex2, hex8}
use Rattle.ds_tlb.specs.declared.entry.Entry.{Entry}
use Rattle.ds_tlb.specs.Singles.{match_each_other}
use Rattle.ds_tlb.specs.Words.{entry_of}
use Rattle.ds_cp0.specs.System.{System}
use Rattle.ds_dev.specs.Bus.{BusState}
use Rattle.ds_core.specs.Core.{CoreState}
use Rattle.ds_bare.specs.declared.ending.Ending.{Ending}
use Rattle.ds_bare.specs.declared.ending.Ending.TheVariants.{Counted, Finished, AtGeneralVector, NoHandler}
use Rattle.ds_words.specs.declared.bare_view.BareView.{BareView}
use Rattle.ds_bare.specs.Machine.{Machine}
use Rattle.ds_bare.specs.Looks.{looks_text}
use Rattle.ds_bare.specs.Steps.{name_of, general_seen, others, flags_text, buffer_entry_text, code_text}

-- the exception that Cause, EPC and BadVAddr tell
unfoldable pub cause_text : System → List ℕ
cause_text s =
    codes "exception " ++ code_text (bits s.cause 2 5) ++ codes ", EPC " ++ hex8 s.epc ++ codes ", BadVAddr " ++ hex8 s.bad_vaddr ++ codes "\n"

-- a reason, and the exception
unfoldable pub with_cause : List ℕ → System → List ℕ
with_cause reason s = reason ++ cause_text s

-- why the run ended
abbrev pub ending_text : Ending → System → List ℕ
ending_text Counted s = codes "all instructions that were asked for\n"
ending_text Finished s = with_cause (codes "done, by break 1: ") s
ending_text AtGeneralVector s = with_cause (codes "at the general vector 80000080: ") s
ending_text NoHandler s = with_cause (codes "at the refill vector 80000000, where 32 words are 0: ") s

-- that, and after how many instructions
unfoldable pub headline : Ending → ℕ → System → List ℕ
headline e k s = codes "end after " ++ decimal k ++ codes ": " ++ ending_text e s

-- a bit of a register with its name
abbrev pub bit_text : List ℕ → ℕ → ℕ → List ℕ
bit_text name w at = name ++ decimal (bits w at 1)

-- the fields of a register of the coprocessor, by its number; the others have none
unfoldable pub fields_text : ℕ → ℕ → List ℕ
fields_text n w =
    if n == 34 then bit_text (codes " P ") w 31 ++ codes " slot " ++ decimal (bits w 8 6) else
    if n == 35 then codes " frame " ++ hex8 (w / 2 ^ 12 * 2 ^ 12) ++ flags_text (entry_of 0 w) else
    if n == 36 then codes " PTEBase " ++ hex8 (w / 2 ^ 21 * 2 ^ 21) ++ codes " BadVPN " ++ hex8 (bits w 2 19) else
    if n == 38 then codes " page " ++ hex8 (w / 2 ^ 12 * 2 ^ 12) ++ codes " asid " ++ decimal (bits w 6 6) else
    if n == 39 then bit_text (codes " KUo ") w 5 ++ bit_text (codes " IEo ") w 4 ++ bit_text (codes " KUp ") w 3 ++ bit_text (codes " IEp ") w 2 ++ bit_text (codes " KUc ") w 1 ++ bit_text (codes " IEc ") w 0 ++ codes " IM " ++ hex2 (bits w 8 8) else
    if n == 40 then bit_text (codes " BD ") w 31 ++ codes " CE " ++ decimal (bits w 28 2) ++ codes " IP " ++ hex2 (bits w 8 8) ++ codes " code " ++ code_text (bits w 2 5) else
    []

-- the line of a register
abbrev pub register_text : RegisterNames → ℕ → ℕ → List ℕ
register_text names n w = name_of names n ++ codes " " ++ hex8 w ++ fields_text n w ++ codes "\n"

-- the lines of registers, the first of which has this number
abbrev pub registers_text : RegisterNames → ℕ → List ℕ → List ℕ
registers_text names n [] = []
registers_text names n (w ∷ ws) = register_text names n w ++ registers_text names (n + 1) ws

-- Random
abbrev pub random_text : ℕ → List ℕ
random_text random = codes "Random " ++ decimal random ++ codes "\n"

-- the line of a slot whose entry is valid
abbrev pub valid_text : ℕ → Entry → List ℕ
valid_text slot e = if e.v then codes "slot " ++ decimal slot ++ codes " " ++ buffer_entry_text e ++ codes "\n" else []

-- the lines of slots, from one on
abbrev pub slots_text : ℕ → List Entry → List ℕ
slots_text slot [] = []
slots_text slot (e ∷ es) = valid_text slot e ++ slots_text (slot + 1) es

-- two slots whose entries match each other: the one, and the first such after it by how far it is from the next slot
abbrev pub match_text : ℕ → Option ℕ → List ℕ
match_text slot None = []
match_text slot (Some further) = codes "slots " ++ decimal slot ++ codes " and " ++ decimal (slot + 1 + further) ++ codes " match each other, which the architecture forbids\n"

-- the slots that match a later one, from one on
abbrev pub matches_text : ℕ → List Entry → List ℕ
matches_text slot [] = []
matches_text slot (e ∷ es) = match_text slot (position (match_each_other e) es) ++ matches_text (slot + 1) es

-- a character of a line
abbrev pub character_text : ℕ → ℕ × ℕ → List ℕ
character_text line c = if c.0 == line then hex2 c.1 else []

-- what a line sent, in pairs of digits as an input has them
abbrev pub sent_text : ℕ → List (ℕ × ℕ) → List ℕ
sent_text line sent = codes "sent " ++ decimal line ++ codes " " ++ flat_map (character_text line) sent ++ codes "\n"

-- the four lines
unfoldable pub lines_text : List (ℕ × ℕ) → List ℕ
lines_text sent = sent_text 0 sent ++ sent_text 1 sent ++ sent_text 2 sent ++ sent_text 3 sent

-- the processor, with registers called by these names
unfoldable pub core_text : RegisterNames → CoreState → BusState → List ℕ
core_text names c b = registers_text names 0 (general_seen c.registers) ++ registers_text names 32 (others c b) ++ random_text c.random ++ slots_text 0 c.entries ++ matches_text 0 c.entries

-- the text of the end, after so many instructions
unfoldable pub end_text : BareView → Ending → ℕ → Machine → List ℕ
end_text v e k m = headline e k m.core.system ++ core_text v.names m.core m.bus ++ lines_text m.sent ++ looks_text v k m
