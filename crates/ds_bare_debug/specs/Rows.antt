-- Worked rows of what a debugger of the bare machine is answered.
use Rattle.std.specs.Prelude.{codes, ◌≡◌, true, false, [], ◌∷◌, ◌++◌, Some, None, refl}
use Rattle.ds_packets.specs.Framing.{frame, hex_text}
use Rattle.ds_packets.specs.declared.packet.Action.TheVariants.{Continue, Step}
use Rattle.ds_packets.specs.declared.packet.Packet.TheVariants.{Alive, Resume, Write, End}
use Rattle.ds_packets.specs.declared.packet.Report.TheVariants.{Log}
use Rattle.ds_packets.specs.declared.packet.Who.TheVariants as who
use Rattle.ds_bare.specs.Machine.{Machine}
use Rattle.ds_gdb.specs.Outputs.{outputs_text}
use Rattle.ds_gdb.specs.Stops.{stop_text}
use Rattle.ds_gdb.specs.declared.stops.Reason.TheVariants as reason
use Rattle.ds_bare_debug.specs.Goals.{BareGoal, stop_here}
use Rattle.ds_bare_debug.specs.Going.{place_before, step_before}
use Rattle.ds_bare_debug.specs.Looks.{monitor_words, register_seen, bare_report_text, unknown_packet_text}
use Rattle.ds_bare_debug.specs.Positions.{BareRun, Position}
use Rattle.ds_bare_debug.specs.Serving.{after_items, items_text, session_ended, session_text}
use Rattle.ds_bare_debug.specs.Sessions.{BareSession, course_asked, look_text, bare_answer_text, still_to_stop}
use Rattle.ds_bare_debug.specs.Watches.{differ}
use Rattle.ds_bare_debug.specs.declared.session.Course.TheVariants as course

-- stops at 80000000 alone
abbrev at_refill : BareGoal
at_refill = record { action = Continue; breakpoints = record { process = 1; address = 0x80000000 } ∷ []; watchpoints = []; stop_at = Some 9 }

pub a_breakpoint_in_a_handler : stop_here at_refill 5 0x80000000 ≡ Some reason.Break
a_breakpoint_in_a_handler = refl

pub an_instruction_without_one : stop_here at_refill 5 0x80000004 ≡ None
an_instruction_without_one = refl

-- after so many instructions as were asked for
pub what_was_asked_for : stop_here at_refill 9 0x80000004 ≡ Some reason.Rest
what_was_asked_for = refl

pub a_step_is_done : stop_here (record at_refill { action = Step }) 5 0x80000004 ≡ Some reason.Rest
a_step_is_done = refl

-- it is asked for once
pub it_is_asked_for_once : still_to_stop (Some 9) 9 ≡ None
it_is_asked_for_once = refl

pub it_is_still_asked_for : still_to_stop (Some 9) 5 ≡ Some 9
it_is_still_asked_for = refl

-- a byte that is not seen has no value: a refill stops no watch
pub a_page_that_comes : differ None (Some 1) ≡ false
a_page_that_comes = refl

pub a_page_that_goes : differ (Some 1) None ≡ false
a_page_that_goes = refl

pub a_byte_that_is_stored : differ (Some 1) (Some 2) ≡ true
a_byte_that_is_stored = refl

-- back by one instruction, and not before the first
pub back_by_one : step_before 5 ≡ record { done = 4; reason = reason.Rest }
back_by_one = refl

pub nothing_is_before_the_first : (r : BareRun) (g : BareGoal) → place_before r g Continue 0 ≡ record { done = 0; reason = reason.Begin }
nothing_is_before_the_first r g = refl

-- pc, and a register that a station does not tell
pub pc_is_register_37 : (m : Machine) → register_seen m 37 ≡ Some m.core.pc
pc_is_register_37 m = refl

pub there_is_no_register_38 : (m : Machine) → register_seen m 38 ≡ None
there_is_no_register_38 m = refl

-- the machine is one process
pub there_is_no_process_2 : (s : BareSession) → look_text (Alive (who.Process 2)) s ≡ codes "E03"
there_is_no_process_2 s = refl

pub nothing_is_written : (s : BareSession) → bare_answer_text Write s ≡ frame (codes "E01")
nothing_is_written s = refl

pub the_end_is_not_answered : (s : BareSession) → bare_answer_text End s ≡ []
the_end_is_not_answered s = refl

-- how far a vCont goes
pub a_step_is_asked_for : course_asked Resume (codes "vCont;s;c") ≡ course.Forward Step
a_step_is_asked_for = refl

-- there is no log, and other words are answered with what there is
pub there_is_no_log : (p : Position) → bare_report_text 9 p Log ≡ monitor_words
there_is_no_log p = refl

pub other_words : (m : Machine) → unknown_packet_text (codes "qRcmd," ++ hex_text (codes "help")) m ≡ outputs_text monitor_words ++ frame (codes "OK")
other_words m = refl

pub another_packet : (m : Machine) → unknown_packet_text (codes "vMustReplyEmpty") m ≡ frame []
another_packet m = refl

-- a whole session: why it stands, and its end
pub a_session : (r : BareRun) → session_text r (codes "$?#3f+$k#6b") ≡ codes "+$T05thread:p1.1;#a6+"
unfolding items_text after_items stop_text
a_session r = refl

pub it_has_ended : (r : BareRun) → session_ended r (codes "$?#3f+$k#6b") ≡ true
unfolding after_items
it_has_ended r = refl
