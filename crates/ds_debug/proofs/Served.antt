-- A session over a reader and a writer.
use Rattle.std.proofs.Common.{◌≡◌, inr, ℕ, List, [], refl, ap, subst, ◌∙◌}
use Rattle.std.specs.Prelude.{Result, Ok, Err}
use Rattle.ds_packets.specs.Packets.{packet_of}
use Rattle.ds_packets.specs.declared.packet.Packet.{Packet}
use Rattle.ds_packets.specs.declared.packet.Refusal.{Refusal}
use Rattle.ds_gdb.specs.Serving.{EndsSo, Pipes, Serves, ServesPart, stream_of}
use Rattle.ds_gdb.specs.Streams.{Adds, StreamState}
use Rattle.ds_gdb.specs.declared.serving.Ending.{Ending}
use Rattle.ds_station.specs.declared.fault.Fault.{Fault}
use Rattle.ds_debug.specs.Answering.{Answers, AnswersBy, AnswersWhere, course_by}
use Rattle.ds_debug.specs.Serving.{Debugs, IsLate, Replies, stream_at}
use Rattle.ds_debug.specs.Inner.Serving.{DebugEndsBy}
use Rattle.ds_debug.specs.Inputs.{IsBeginning, RunInputs}
use Rattle.ds_debug.specs.Sessions.{SessionState, begun}
use Rattle.ds_debug.specs.declared.session.Course.{Course}
use Rattle.ds_debug.specs.declared.session.Course.TheVariants as course

-- What is answered does not depend on what was written before.

module _ (words : List ℕ) (old new : SessionState) (before after : List ℕ) where
  where_alone : (by : Course) (packet : Packet) → AnswersWhere by words packet old new before after → Adds (AnswersWhere by words packet old new []) before after
  where_alone course.Nowhere packet t = record { text = _; so = record { now = t.now; told = refl }; told = t.told }
  where_alone (course.Forward action) packet r = record { text = _; so = record { stop = r.stop; goes = r.goes; rest = r.rest; told = refl }; told = r.told }
  where_alone (course.Backward action) packet r =
      record { text = _; so = record { found = r.found; finds = r.finds; place = r.place; asked = r.asked; comes = r.comes; rest = r.rest; told = refl }; told = r.told }

  by_alone : (r : Result Packet Refusal) → AnswersBy words r old new before after → Adds (AnswersBy words r old new []) before after
  by_alone (Ok packet) t = where_alone (course_by packet) packet t
  by_alone (Err refusal) t = record { text = _; so = record { now = t.now; told = refl }; told = t.told }

  -- so of the answer to any data
  pub answer_alone : Answers words old new before after → Adds (Replies words old new) before after
  answer_alone t = by_alone (packet_of words) t

-- The whole session.

-- the stream of a session that has just begun
stream_begun : (i : RunInputs) (n : ℕ) (s : SessionState) (stream : StreamState SessionState) → s ≡ begun i n s.held → stream ≡ stream_of s → stream ≡ stream_at i n s.held
stream_begun i n s stream begins is = is ∙ ap stream_of begins

module _ (i : RunInputs) (n : ℕ) (s : SessionState) (stream : StreamState SessionState) (p : Pipes) (starts : IsBeginning i n s.held) (begins : s ≡ begun i n s.held)
    (is : stream ≡ stream_of s) where
  -- it was held to its end
  pub session_held : (ending : Ending) (last : StreamState SessionState) → Serves Replies stream last p → EndsSo ending last p → Debugs ending i n p
  session_held ending last serves ends = record {
    first = s.held;
    begins = starts;
    last = last;
    serves = subst (λ (x : StreamState SessionState). Serves Replies x last p) (stream_begun i n s stream begins is) serves;
    ends = ends;
  }

  -- or cut short by a fault
  pub session_cut : (f : Fault) → IsLate f → ServesPart Replies stream p → DebugEndsBy f i n p
  session_cut f late part = inr (late, record { first = s.held; begins = starts; serves = subst (λ (x : StreamState SessionState). ServesPart Replies x p) (stream_begun i n s stream begins is) part })
