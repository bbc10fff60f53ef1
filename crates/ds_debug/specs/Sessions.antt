-- A session: what a debugger has asked for so far, and what each packet changes.
use Rattle.std.specs.Prelude.{codes, ℕ, Bool, false, if◌then◌else◌, List, [], Option, Some, None}
use Rattle.ds_packets.specs.declared.packet.Packet.{Packet}
use Rattle.ds_packets.specs.declared.packet.Packet.TheVariants.{StopAt, Look, Go, Break, Unbreak, Watch, Unwatch}
use Rattle.ds_packets.specs.declared.packet.Who.{Who}
use Rattle.ds_packets.specs.declared.packet.Who.TheVariants as who
use Rattle.ds_refinement.specs.Held.{Held}
use Rattle.ds_station.specs.declared.outcome.Unended.{Unended}
use Rattle.ds_debug.specs.Answers.{are_there, there_text}
use Rattle.ds_gdb.specs.Points.{break_text, watch_text, with_break, with_watch, without_break, without_watch}
use Rattle.ds_debug.specs.Inputs.{RunInputs}
use Rattle.ds_debug.specs.Sights.{Sight, sight_held}
use Rattle.ds_gdb.specs.declared.points.Breakpoint.{Breakpoint}
use Rattle.ds_gdb.specs.declared.points.Watchpoint.{Watchpoint}

-- what the run begins with, a station with that run: up to which time it goes, whose registers and memory are looked at, who goes where nobody is named, the breakpoints, what is watched, a time at which the run is to stop once, and whether it was cut short
pub record SessionState : Type 0 where
  pub inputs : RunInputs
  pub held : Held
  pub limit : ℕ
  pub process : ℕ
  pub going : Who
  pub breakpoints : List Breakpoint
  pub watchpoints : List Watchpoint
  pub stop_at : Option ℕ
  pub cut : Bool

-- what is seen
abbrev pub sight_of : SessionState → Sight
sight_of s = sight_held s.held

-- the process that is named, or else this one
abbrev pub named_or : Who → ℕ → ℕ
named_or who.Any p = p
named_or who.All p = p
named_or (who.Process q) p = q

-- at its beginning
abbrev pub begun : RunInputs → ℕ → Held → SessionState
begun i limit h = record { inputs = i; held = h; limit = limit; process = 1; going = who.All; breakpoints = []; watchpoints = []; stop_at = None; cut = false }

-- this process watches so many bytes from an address on
abbrev pub watch_of : SessionState → ℕ → ℕ → Watchpoint
watch_of s a l = record { process = s.process; address = a; length = l }

-- the session after a packet that changes what is looked at, or what stops
abbrev pub after_setting : SessionState → Packet → SessionState
after_setting s (Look w) = if are_there (sight_of s) w then record s { process = named_or w s.process } else s
after_setting s (Go w) = if are_there (sight_of s) w then record s { going = w } else s
after_setting s (Break a) = record s { breakpoints = with_break s.breakpoints s.process a }
after_setting s (Unbreak a) = record s { breakpoints = without_break s.breakpoints s.process a }
after_setting s (Watch a l) = record s { watchpoints = with_watch s.watchpoints (watch_of s a l) }
after_setting s (Unwatch a l) = record s { watchpoints = without_watch s.watchpoints (watch_of s a l) }
after_setting s (StopAt t) = record s { stop_at = Some t }
after_setting s other = s

-- and what is answered, where this is seen
abbrev pub setting_text : Sight → SessionState → Packet → List ℕ
setting_text v s (Look w) = there_text v w
setting_text v s (Go w) = there_text v w
setting_text v s (Break a) = break_text s.breakpoints s.process a
setting_text v s (Watch a l) = watch_text s.watchpoints (watch_of s a l)
setting_text v s other = codes "OK"

-- a process that has not ended, or else this one
abbrev pub unended_or : Option Unended → ℕ → ℕ
unended_or None p = p
unended_or (Some u) p = u.process

-- the process that is told of first: the one that runs, or the first that has not ended, or else this one
abbrev pub standing_by : Option ℕ → Option Unended → ℕ → ℕ
standing_by None u p = unended_or u p
standing_by (Some q) u p = q

abbrev pub told_first : Sight → ℕ → ℕ
told_first v p = standing_by v.runner v.unended p
