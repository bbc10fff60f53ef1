-- What is answered to packets that only look.
use Rattle.std.specs.Prelude.{codes, ℕ, Bool, true, ◌&&◌, nat_lt, nat_le, if◌then◌else◌, List, [], ◌++◌, slice_index_or}
use Rattle.ds_packets.specs.Framing.{hex_text}
use Rattle.ds_packets.specs.declared.packet.Packet.{Packet}
use Rattle.ds_packets.specs.declared.packet.Packet.TheVariants.{Supported, Description, FirstThreads, MoreThreads, ThreadInfo, Attached, Current, Alive, Registers, Register, Memory, Write, Actions, Leave}
use Rattle.ds_packets.specs.declared.packet.Report.{Report}
use Rattle.ds_packets.specs.declared.packet.Report.TheVariants as report
use Rattle.ds_packets.specs.declared.packet.Who.{Who}
use Rattle.ds_packets.specs.declared.packet.Who.TheVariants as who
use Rattle.ds_gdb.specs.Description.{description_text, text_part}
use Rattle.ds_debug.specs.Memory.{memory_text}
use Rattle.ds_debug.specs.Registers.{register_text, registers_text}
use Rattle.ds_debug.specs.Reports.{is_runner, processes_text, thread_words, time_text}
use Rattle.ds_debug.specs.Sights.{Sight}
use Rattle.ds_debug.specs.Tables.{table_text, table_text_of}
use Rattle.ds_gdb.specs.Replies.{features_text}
use Rattle.ds_gdb.specs.Threads.{thread_text, threads_text}

-- there is a process of this number
abbrev pub is_there : Sight → ℕ → Bool
is_there s p = nat_lt 0 p && nat_le p s.count

-- what is told of a process, or the error where there is none
abbrev pub of_process : Sight → ℕ → List ℕ → List ℕ
of_process s p text = if is_there s p then text else codes "E03"

-- whether the processes are there
abbrev pub are_there : Sight → Who → Bool
are_there s who.Any = true
are_there s who.All = true
are_there s (who.Process p) = is_there s p

-- that they are
abbrev pub there_text : Sight → Who → List ℕ
there_text s w = if are_there s w then codes "OK" else codes "E03"

-- a process in words
abbrev pub info_text : Sight → Who → List ℕ
info_text s who.Any = codes "E03"
info_text s who.All = codes "E03"
info_text s (who.Process p) = of_process s p (hex_text (thread_words p (s.standing p) (is_runner s p)))

-- what is asked of a process that is there: its name, its registers, one of them, or its memory
abbrev pub seen_text : Sight → ℕ → Packet → List ℕ
seen_text s p Current = codes "QC" ++ thread_text p
seen_text s p Registers = registers_text (s.registers p)
seen_text s p (Register n) = register_text (s.registers p) n
seen_text s p (Memory address size) = memory_text s.memory p address size
seen_text s p other = []

-- what is answered where this process is looked at; nothing where the packet is not known
abbrev pub answer_text : Sight → ℕ → Packet → List ℕ
answer_text s p (Supported multiple) = features_text multiple
answer_text s p (Description offset size) = text_part description_text offset size
answer_text s p FirstThreads = threads_text s.count
answer_text s p MoreThreads = codes "l"
answer_text s p (ThreadInfo w) = info_text s w
answer_text s p Attached = codes "1"
answer_text s p Current = of_process s p (seen_text s p Current)
answer_text s p (Alive w) = there_text s w
answer_text s p Registers = of_process s p (seen_text s p Registers)
answer_text s p (Register n) = of_process s p (seen_text s p (Register n))
answer_text s p (Memory address size) = of_process s p (seen_text s p (Memory address size))
answer_text s p Write = codes "E01"
answer_text s p Actions = codes "vCont;c;C;s;S;r"
answer_text s p Leave = codes "OK"
answer_text s p other = []

-- the text of a console line, of four
abbrev pub console_text : Sight → ℕ → List ℕ
console_text s l = if nat_lt l 4 then slice_index_or s.consoles l [] else []

-- what is told of a run for n
abbrev pub run_report_text : ℕ → Sight → Report → List ℕ
run_report_text n s report.Time = time_text n s
run_report_text n s report.Processes = processes_text s
run_report_text n s report.Log = s.log
run_report_text n s (report.Console l) = console_text s l
run_report_text n s report.Table = table_text s
run_report_text n s (report.TableOf p) = table_text_of p s
