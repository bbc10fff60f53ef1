-- What is answered to packets that only look.
use Rattle.std.specs.Prelude.{codes, ℕ, zero, suc, ◌+◌, ◌==◌, Bool, true, not, ◌&&◌, nat_lt, bytes_eq, if◌then◌else◌, List, [], ◌∷◌, ◌++◌, slice_index, map, drop, flat_map, Option, Some, None}
use Rattle.ds_word.specs.Word.{word}
use Rattle.ds_cp0.specs.System.{is_user}
use Rattle.ds_packets.specs.Framing.{frame, hex_text}
use Rattle.ds_packets.specs.Words.{after_mark, before}
use Rattle.ds_packets.specs.declared.packet.Report.{Report}
use Rattle.ds_packets.specs.declared.packet.Report.TheVariants as report
use Rattle.ds_packets.specs.declared.packet.Who.{Who}
use Rattle.ds_packets.specs.declared.packet.Who.TheVariants as who
use Rattle.ds_bare.specs.Ends.{slots_text}
use Rattle.ds_bare.specs.Machine.{Machine}
use Rattle.ds_bare.specs.Sights.{byte_seen}
use Rattle.ds_bare.specs.Steps.{general_seen, others}
use Rattle.ds_gdb.specs.Digits.{word_or_none}
use Rattle.ds_gdb.specs.Each.{each}
use Rattle.ds_gdb.specs.Outputs.{outputs_text}
use Rattle.ds_gdb.specs.Replies.{bytes_text, few, time_words}
use Rattle.ds_bare_debug.specs.Positions.{Position}

-- the machine is gdb's only process
abbrev pub is_here : Who → Bool
is_here who.Any = true
is_here who.All = true
is_here (who.Process p) = p == 1

-- that it is meant, or the error
abbrev pub here_text : Who → List ℕ
here_text w = if is_here w then codes "OK" else codes "E03"

-- the machine in words
abbrev pub mode_words : Machine → List ℕ
mode_words m = if is_user m.core.system then codes "user mode" else codes "kernel mode"

-- where it is named alone
abbrev pub machine_info : Who → Machine → List ℕ
machine_info who.Any m = codes "E03"
machine_info who.All m = codes "E03"
machine_info (who.Process p) m = if p == 1 then hex_text (mode_words m) else codes "E03"

-- HI, LO, or a register of the coprocessor, by its place among them
abbrev pub other_seen : Machine → ℕ → ℕ
other_seen m i = slice_index (others m.core m.bus) i

-- a register by gdb's number: 32 Status, 33 LO, 34 HI, 35 BadVAddr, 36 Cause, 37 pc
abbrev pub register_seen : Machine → ℕ → Option ℕ
register_seen m n =
    if nat_lt n 32 then Some (slice_index (general_seen m.core.registers) n)
    else if n == 32 then Some (other_seen m 7)
    else if n == 33 then Some (other_seen m 1)
    else if n == 34 then Some (other_seen m 0)
    else if n == 35 then Some (other_seen m 5)
    else if n == 36 then Some (other_seen m 8)
    else if n == 37 then Some m.core.pc
    else None

-- its text
abbrev pub register_text : Machine → ℕ → List ℕ
register_text m n = word_or_none (register_seen m n)

-- those of the processor and its system coprocessor
abbrev pub registers_text : Machine → List ℕ
registers_text m = each (register_text m) 0 38

-- a byte before others, and nothing where there is none
abbrev pub before_others : Option ℕ → List ℕ → List ℕ
before_others None rest = []
before_others (Some b) rest = b ∷ rest

-- the bytes from an address on, up to the first that is not seen, and so many at most
unfoldable pub bytes_seen : Machine → ℕ → ℕ → List ℕ
bytes_seen m address zero = []
bytes_seen m address (suc n) = before_others (byte_seen m address) (bytes_seen m (word (address + 1)) n)

-- memory from an address on
abbrev pub memory_text : Machine → ℕ → ℕ → List ℕ
memory_text m address size = bytes_text (bytes_seen m address (few size))

-- what was sent after so many characters
abbrev pub sent_after : ℕ → Machine → List ℕ
sent_after n m = map (λ c. c.1) (drop n m.sent)

-- a character of this line
abbrev pub byte_of_line : ℕ → ℕ × ℕ → List ℕ
byte_of_line line c = if c.0 == line then c.1 ∷ [] else []

-- what a line sent
abbrev pub line_sent : ℕ → Machine → List ℕ
line_sent line m = flat_map (byte_of_line line) m.sent

-- a run of at most so many instructions goes on
abbrev pub has_more : ℕ → Position → Bool
has_more limit p = nat_lt p.done limit && not p.over

-- what monitor can be asked for
unfoldable pub monitor_words : List ℕ
monitor_words = codes "monitor takes time, tlb, console L (L from 0 to 3) and stop T\n"

-- what monitor is told
abbrev pub bare_report_text : ℕ → Position → Report → List ℕ
bare_report_text limit p report.Time = time_words p.done limit (has_more limit p)
bare_report_text limit p (report.Console l) = line_sent l p.machine
bare_report_text limit p other = monitor_words

-- what it is told by words that are none of those that each session knows
abbrev pub own_report_text : List ℕ → Machine → List ℕ
own_report_text digits m = if bytes_eq digits (hex_text (codes "tlb")) then slots_text 0 m.core.entries else monitor_words

-- a report is shown before it is said that all is well
abbrev pub report_shown : List ℕ → List ℕ
report_shown text = outputs_text text ++ frame (codes "OK")

-- what is answered to data that are no packet that each session knows
abbrev pub unknown_packet_text : List ℕ → Machine → List ℕ
unknown_packet_text words m = if bytes_eq (before 44 words) (codes "qRcmd") then report_shown (own_report_text (after_mark 44 words) m) else frame []
