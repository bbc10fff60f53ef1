-- What a session answers to the data of a packet.
use Rattle.std.specs.Prelude.{◌≡◌, codes, ℕ, List, [], ◌++◌, Some, None, Result, Ok, Err}
use Rattle.ds_packets.specs.Framing.{frame}
use Rattle.ds_packets.specs.Packets.{packet_of}
use Rattle.ds_packets.specs.declared.packet.Packet.{Packet}
use Rattle.ds_packets.specs.declared.packet.Packet.TheVariants.{NoAcknowledgements, Why, Monitor, StopAt, Look, Go, Break, Unbreak, Watch, Unwatch, Resume, Forward, Backward, End}
use Rattle.ds_packets.specs.declared.packet.Refusal.{Refusal}
use Rattle.ds_debug.specs.Answers.{answer_text, run_report_text}
use Rattle.ds_debug.specs.Backward.{Returns}
use Rattle.ds_gdb.specs.Replies.{packet_error_text}
use Rattle.ds_gdb.specs.Outputs.{outputs_text}
use Rattle.ds_debug.specs.Resumes.{Resumes}
use Rattle.ds_debug.specs.Sessions.{SessionState, after_setting, setting_text, sight_of, told_first}
use Rattle.ds_debug.specs.Sights.{Sight}
use Rattle.ds_gdb.specs.Stops.{stop_text}
use Rattle.ds_debug.specs.declared.session.Course.{Course}
use Rattle.ds_debug.specs.declared.session.Course.TheVariants as course
use Rattle.ds_gdb.specs.declared.stops.Reason.TheVariants.{Rest}

-- the session is now that, and this was answered
pub record AnswersText (state : SessionState) (text : List ℕ) (new : SessionState) (before after : List ℕ) : Type 0 where
  pub now : new ≡ state
  pub told : after ≡ before ++ text

-- the session after a packet that lets it go nowhere
abbrev pub after_plain : SessionState → Packet → SessionState
after_plain s Why = record s { process = told_first (sight_of s) s.process }
after_plain s (StopAt t) = after_setting s (StopAt t)
after_plain s (Look w) = after_setting s (Look w)
after_plain s (Go w) = after_setting s (Go w)
after_plain s (Break a) = after_setting s (Break a)
after_plain s (Unbreak a) = after_setting s (Unbreak a)
after_plain s (Watch a l) = after_setting s (Watch a l)
after_plain s (Unwatch a l) = after_setting s (Unwatch a l)
after_plain s other = s

-- and what is answered, where this is seen
abbrev pub plain_text : Sight → SessionState → Packet → List ℕ
plain_text v s Why = frame (stop_text (told_first v s.process) Rest)
plain_text v s (Monitor report) = outputs_text (run_report_text s.limit v report) ++ frame (codes "OK")
plain_text v s NoAcknowledgements = frame (codes "OK")
plain_text v s (StopAt t) = frame (setting_text v s (StopAt t))
plain_text v s (Look w) = frame (setting_text v s (Look w))
plain_text v s (Go w) = frame (setting_text v s (Go w))
plain_text v s (Break a) = frame (setting_text v s (Break a))
plain_text v s (Unbreak a) = frame (setting_text v s (Unbreak a))
plain_text v s (Watch a l) = frame (setting_text v s (Watch a l))
plain_text v s (Unwatch a l) = frame (setting_text v s (Unwatch a l))
plain_text v s End = []
plain_text v s other = frame (answer_text v s.process other)

-- where a packet lets a session go
abbrev pub course_by : Packet → Course
course_by Resume = course.Forward None
course_by (Forward action) = course.Forward (Some action)
course_by (Backward action) = course.Backward action
course_by other = course.Nowhere

-- by where it lets it go
abbrev pub AnswersWhere : Course → List ℕ → Packet → SessionState → SessionState → List ℕ → List ℕ → Type 0
AnswersWhere course.Nowhere words packet s = AnswersText (after_plain s packet) (plain_text (sight_of s) s packet)
AnswersWhere (course.Forward action) words packet s = Resumes action words s
AnswersWhere (course.Backward action) words packet s = Returns action s

-- by the packet, whose data has these words
abbrev pub AnswersPacket : List ℕ → Packet → SessionState → SessionState → List ℕ → List ℕ → Type 0
AnswersPacket words packet = AnswersWhere (course_by packet) words packet

-- by what the words say
abbrev pub AnswersBy : List ℕ → Result Packet Refusal → SessionState → SessionState → List ℕ → List ℕ → Type 0
AnswersBy words (Ok packet) s = AnswersPacket words packet s
AnswersBy words (Err refusal) s = AnswersText s (frame (packet_error_text refusal))

-- the session answers the data of a packet
abbrev pub Answers : List ℕ → SessionState → SessionState → List ℕ → List ℕ → Type 0
Answers words = AnswersBy words (packet_of words)
