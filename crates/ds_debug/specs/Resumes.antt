-- Packets after which a run goes on.
use Rattle.std.specs.Prelude.{◌≡◌, ℕ, Bool, true, false, zero, suc, ◌+◌, ◌&&◌, not, if◌then◌else◌, List, [], ◌∷◌, ◌++◌, length, drop, Option, Some, None}
use Rattle.ds_packets.specs.Framing.{frame}
use Rattle.ds_packets.specs.Packets.{action_for, names_process}
use Rattle.ds_packets.specs.declared.packet.Action.{Action}
use Rattle.ds_packets.specs.declared.packet.Who.{Who}
use Rattle.ds_refinement.specs.Held.{Held}
use Rattle.ds_debug.specs.Answers.{console_text}
use Rattle.ds_debug.specs.Exits.{exits_next}
use Rattle.ds_debug.specs.Forward.{GoesForward}
use Rattle.ds_debug.specs.Reports.{is_going}
use Rattle.ds_debug.specs.Sights.{sight_held}
use Rattle.ds_debug.specs.Goals.{Goal, goal_with}
use Rattle.ds_gdb.specs.Outputs.{outputs_text}
use Rattle.ds_debug.specs.Sessions.{SessionState}
use Rattle.ds_gdb.specs.Stops.{stop_text}
use Rattle.ds_debug.specs.Times.{still_asked, bound_by}
use Rattle.ds_debug.specs.declared.goals.Stop.{Stop}
use Rattle.ds_debug.specs.declared.grown.Lengths.{Lengths}
use Rattle.ds_gdb.specs.declared.stops.Reason.{Reason}
use Rattle.ds_gdb.specs.declared.stops.Reason.TheVariants.{Rest, End}

-- how much the consoles and the log have
abbrev pub lengths_of : Held → Lengths
lengths_of h = record {
  first = length (console_text (sight_held h) 0);
  second = length (console_text (sight_held h) 1);
  third = length (console_text (sight_held h) 2);
  fourth = length (console_text (sight_held h) 3);
  log = length h.kept.log;
}

-- what came to a text is shown
abbrev pub more_text : ℕ → List ℕ → List ℕ
more_text before text = outputs_text (drop before text)

-- what came to the consoles and to the log since they had so much
unfoldable pub grown_by : Lengths → Held → List ℕ
grown_by b h =
    more_text b.first (console_text (sight_held h) 0) ++ more_text b.second (console_text (sight_held h) 1) ++ more_text b.third (console_text (sight_held h) 2) ++ more_text b.fourth (console_text (sight_held h) 3)
    ++ more_text b.log h.kept.log

-- how far a process is to go: by the one action for those that go, or by the words of a vCont
abbrev pub action_by : Option Action → Who → List ℕ → ℕ → Option Action
action_by (Some action) going words p = if names_process going p then Some action else None
action_by None going words p = action_for words p

-- that of so many processes, the first of which has this number
unfoldable pub actions_from : Option Action → Who → List ℕ → ℕ → ℕ → List (Option Action)
actions_from action going words p zero = []
actions_from action going words p (suc n) = action_by action going words p ∷ actions_from action going words (p + 1) n

-- that of each process that may be
abbrev pub actions_by : Option Action → Who → List ℕ → List (Option Action)
actions_by action going words = actions_from action going words 0 101

-- what stops a session's run
abbrev pub goal_of : Option Action → List ℕ → SessionState → Goal
goal_of action words s = goal_with (actions_by action s.going words) s.breakpoints s.watchpoints

-- the process of which it is told where it came: where the run is over, the one that was looked at
abbrev pub came_process : Option Stop → ℕ → ℕ
came_process None p = p
came_process (Some stop) p = stop.process

-- and why it stands: at the end of the run, or, where that goes on, at a time that was asked for
abbrev pub came_reason : Bool → Option Stop → Reason
came_reason true None = Rest
came_reason false None = End
came_reason going (Some stop) = stop.reason

-- a run for n goes on for gdb: time is left, and the last process has not come to its exit
abbrev pub may_go : ℕ → Held → Bool
may_go n h = is_going n (sight_held h) && not (exits_next h)

-- up to when it goes
abbrev pub bound_of : SessionState → ℕ
bound_of s = bound_by s.stop_at s.held.kept.state.time s.limit

-- what is still asked for, where it has come to this
abbrev pub asked_of : SessionState → Held → Option ℕ
asked_of s h = still_asked s.stop_at s.held.kept.state.time h.kept.state.time

-- the run goes on to a stop, to a time that is asked for or to its end, and what came to the consoles and the log is shown before that is told
pub record Resumes (action : Option Action) (words : List ℕ) (old new : SessionState) (before after : List ℕ) : Type 0 where
  pub stop : Option Stop
  pub goes : GoesForward (goal_of action words old) (bound_of old) stop old.held new.held
  pub rest : new ≡ record old { held = new.held; process = came_process stop old.process; stop_at = asked_of old new.held }
  pub told : after ≡ before ++ (grown_by (lengths_of old.held) new.held ++ frame (stop_text (came_process stop old.process) (came_reason (may_go old.limit new.held) stop)))
