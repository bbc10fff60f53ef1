-- A session: what a debugger has asked for so far, what each packet changes, and what it is answered.
use Rattle.std.specs.Prelude.{codes, ℕ, ◌-◌, if◌then◌else◌, List, [], ◌++◌, length, Option, Some, None, Result, Ok, Err}
use Rattle.ds_packets.specs.Framing.{frame}
use Rattle.ds_packets.specs.Packets.{action_for, packet_of}
use Rattle.ds_packets.specs.declared.packet.Action.{Action}
use Rattle.ds_packets.specs.declared.packet.Action.TheVariants.{Continue}
use Rattle.ds_packets.specs.declared.packet.Packet.{Packet}
use Rattle.ds_packets.specs.declared.packet.Packet.TheVariants.{Supported, NoAcknowledgements, Description, Why, FirstThreads, MoreThreads, ThreadInfo, Monitor, StopAt, Attached, Current, Alive, Look, Go, Registers, Register, Memory, Write, Break, Unbreak, Watch, Unwatch, Actions, Resume, Forward, Backward, Leave, End}
use Rattle.ds_packets.specs.declared.packet.Refusal.{Refusal}
use Rattle.ds_packets.specs.declared.packet.Refusal.TheVariants.{Unknown, Malformed}
use Rattle.ds_gdb.specs.Description.{description_text, text_part}
use Rattle.ds_gdb.specs.Outputs.{outputs_text}
use Rattle.ds_gdb.specs.Points.{break_text, watch_text, with_break, with_watch, without_break, without_watch}
use Rattle.ds_gdb.specs.Replies.{features_text, packet_error_text}
use Rattle.ds_gdb.specs.Stops.{stop_text}
use Rattle.ds_gdb.specs.Threads.{thread_text, threads_text}
use Rattle.ds_gdb.specs.declared.points.Breakpoint.{Breakpoint}
use Rattle.ds_gdb.specs.declared.points.Watchpoint.{Watchpoint}
use Rattle.ds_gdb.specs.declared.stops.Reason.TheVariants.{Rest}
use Rattle.ds_bare_debug.specs.Goals.{BareGoal, is_asked}
use Rattle.ds_bare_debug.specs.Going.{Came, next_stop, place_before}
use Rattle.ds_bare_debug.specs.Looks.{here_text, machine_info, memory_text, register_text, registers_text, bare_report_text, sent_after, report_shown, unknown_packet_text}
use Rattle.ds_bare_debug.specs.Positions.{BareRun, Position, first_position, position}
use Rattle.ds_bare_debug.specs.declared.back.Place.{Place}
use Rattle.ds_bare_debug.specs.declared.session.Course.{Course}
use Rattle.ds_bare_debug.specs.declared.session.Course.TheVariants as course

-- the run, the position at which it stands, the breakpoints, what is watched, and after how many instructions it is to stop once
pub record BareSession : Type 0 where
  pub run : BareRun
  pub position : Position
  pub breakpoints : List Breakpoint
  pub watchpoints : List Watchpoint
  pub stop_at : Option ℕ

-- at its beginning
abbrev pub session_begun : BareRun → BareSession
session_begun r = record { run = r; position = first_position r; breakpoints = []; watchpoints = []; stop_at = None }

-- what stops it
abbrev pub bare_goal_of : Action → BareSession → BareGoal
bare_goal_of action s = record { action = action; breakpoints = s.breakpoints; watchpoints = s.watchpoints; stop_at = s.stop_at }

-- what is still asked for, where it has come to so many instructions
abbrev pub still_to_stop : Option ℕ → ℕ → Option ℕ
still_to_stop t k = if is_asked t k then None else t

-- the session at a position
abbrev pub moved : BareSession → Position → BareSession
moved s p = record s { position = p; stop_at = still_to_stop s.stop_at p.done }

-- where it comes, forward
abbrev pub forward_of : Action → BareSession → Came
forward_of action s = next_stop (bare_goal_of action s) (s.run.limit - s.position.done) s.position

-- and back
abbrev pub place_back : Action → BareSession → Place
place_back action s = place_before s.run (bare_goal_of Continue s) action s.position.done

abbrev pub came_at : BareRun → Place → Came
came_at r place = record { position = position r place.done; reason = place.reason }

abbrev pub came_back : Action → BareSession → Came
came_back action s = came_at s.run (place_back action s)

-- how far a vCont lets it go, which is as far as something stops where it names another process
abbrev pub action_or : Option Action → Action
action_or None = Continue
action_or (Some action) = action

-- where a packet, whose data has these words, lets it go
abbrev pub course_asked : Packet → List ℕ → Course
course_asked Resume words = course.Forward (action_or (action_for words 1))
course_asked (Forward action) words = course.Forward action
course_asked (Backward action) words = course.Back action
course_asked other words = course.Nowhere

-- where it comes, if it goes
abbrev pub came_along : Course → BareSession → Option Came
came_along course.Nowhere s = None
came_along (course.Forward action) s = Some (forward_of action s)
came_along (course.Back action) s = Some (came_back action s)

-- so many bytes from an address on
abbrev pub watch_at : ℕ → ℕ → Watchpoint
watch_at a l = record { process = 1; address = a; length = l }

-- the session after a packet that lets it go nowhere
abbrev pub with_setting : Packet → BareSession → BareSession
with_setting (Break a) s = record s { breakpoints = with_break s.breakpoints 1 a }
with_setting (Unbreak a) s = record s { breakpoints = without_break s.breakpoints 1 a }
with_setting (Watch a l) s = record s { watchpoints = with_watch s.watchpoints (watch_at a l) }
with_setting (Unwatch a l) s = record s { watchpoints = without_watch s.watchpoints (watch_at a l) }
with_setting (StopAt t) s = record s { stop_at = Some t }
with_setting other s = s

-- and what it is answered
abbrev pub bare_setting_text : Packet → BareSession → List ℕ
bare_setting_text (Break a) s = break_text s.breakpoints 1 a
bare_setting_text (Watch a l) s = watch_text s.watchpoints (watch_at a l)
bare_setting_text other s = codes "OK"

-- what is answered to a packet that only looks
abbrev pub look_text : Packet → BareSession → List ℕ
look_text (Supported multiple) s = features_text multiple
look_text (Description offset size) s = text_part description_text offset size
look_text Why s = stop_text 1 Rest
look_text FirstThreads s = threads_text 1
look_text MoreThreads s = codes "l"
look_text (ThreadInfo w) s = machine_info w s.position.machine
look_text Attached s = codes "1"
look_text Current s = codes "QC" ++ thread_text 1
look_text (Alive w) s = here_text w
look_text (Look w) s = here_text w
look_text (Go w) s = here_text w
look_text Registers s = registers_text s.position.machine
look_text (Register n) s = register_text s.position.machine n
look_text (Memory a l) s = memory_text s.position.machine a l
look_text Write s = codes "E01"
look_text Actions s = codes "vCont;c;C;s;S;r"
look_text other s = []

-- a report is shown, the end of a session is not answered, and all else is framed
abbrev pub bare_answer_text : Packet → BareSession → List ℕ
bare_answer_text (Monitor report) s = report_shown (bare_report_text s.run.limit s.position report)
bare_answer_text End s = []
bare_answer_text NoAcknowledgements s = frame (bare_setting_text NoAcknowledgements s)
bare_answer_text Leave s = frame (bare_setting_text Leave s)
bare_answer_text (StopAt t) s = frame (bare_setting_text (StopAt t) s)
bare_answer_text (Break a) s = frame (bare_setting_text (Break a) s)
bare_answer_text (Unbreak a) s = frame (bare_setting_text (Unbreak a) s)
bare_answer_text (Watch a l) s = frame (bare_setting_text (Watch a l) s)
bare_answer_text (Unwatch a l) s = frame (bare_setting_text (Unwatch a l) s)
bare_answer_text other s = frame (look_text other s)

-- what was sent on the way to a position is shown, and then it is told why the run stands there
abbrev pub arrival_text : Position → Came → List ℕ
arrival_text old came = outputs_text (sent_after (length old.machine.sent) came.position.machine) ++ frame (stop_text 1 came.reason)

-- the session after a packet, by where that lets it go
abbrev pub after_by : Option Came → Packet → BareSession → BareSession
after_by None packet s = with_setting packet s
after_by (Some came) packet s = moved s came.position

-- and what it is answered
abbrev pub text_by : Option Came → Packet → BareSession → List ℕ
text_by None packet s = bare_answer_text packet s
text_by (Some came) packet s = arrival_text s.position came

-- by what the words say
abbrev pub after_packet : Result Packet Refusal → List ℕ → BareSession → BareSession
after_packet (Err refusal) words s = s
after_packet (Ok packet) words s = after_by (came_along (course_asked packet words) s) packet s

abbrev pub refused_packet_text : Refusal → List ℕ → BareSession → List ℕ
refused_packet_text Unknown words s = unknown_packet_text words s.position.machine
refused_packet_text Malformed words s = frame (packet_error_text Malformed)

abbrev pub packet_text : Result Packet Refusal → List ℕ → BareSession → List ℕ
packet_text (Err refusal) words s = refused_packet_text refusal words s
packet_text (Ok packet) words s = text_by (came_along (course_asked packet words) s) packet s

-- the session after the data of a packet
abbrev pub after_data : List ℕ → BareSession → BareSession
after_data words s = after_packet (packet_of words) words s

-- what is answered to them
abbrev pub data_text : List ℕ → BareSession → List ℕ
data_text words s = packet_text (packet_of words) words s
