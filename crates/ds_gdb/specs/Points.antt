-- Breakpoints, and what is watched.
use Rattle.std.specs.Prelude.{codes, ℕ, ◌==◌, ◌&&◌, ◌||◌, Bool, nat_lt, if◌then◌else◌, List, [], ◌∷◌, ◌++◌, length, position, remove, Option, Some, None}
use Rattle.std.specs.List.{list_any}
use Rattle.ds_gdb.specs.declared.points.Breakpoint.{Breakpoint}
use Rattle.ds_gdb.specs.declared.points.Watchpoint.{Watchpoint}

-- a process has a breakpoint at an address
abbrev pub is_break : List Breakpoint → ℕ → ℕ → Bool
is_break breakpoints p pc = list_any (λ b. (b.process == p) && (b.address == pc)) breakpoints

-- there is room for one more breakpoint, or it is there
abbrev pub may_break : List Breakpoint → ℕ → ℕ → Bool
may_break bs p a = is_break bs p a || nat_lt (length bs) 64

-- whether it may be set
abbrev pub break_text : List Breakpoint → ℕ → ℕ → List ℕ
break_text bs p a = if may_break bs p a then codes "OK" else codes "E1C"

-- with a breakpoint, where it is not there and there is room
abbrev pub with_break : List Breakpoint → ℕ → ℕ → List Breakpoint
with_break bs p a = if is_break bs p a then bs else (if nat_lt (length bs) 64 then bs ++ (record { process = p; address = a }) ∷ [] else bs)

-- without the one at a place
abbrev pub without_breakpoint : Option ℕ → List Breakpoint → List Breakpoint
without_breakpoint None bs = bs
without_breakpoint (Some i) bs = remove bs i

-- without a breakpoint, where it is there
abbrev pub without_break : List Breakpoint → ℕ → ℕ → List Breakpoint
without_break bs p a = without_breakpoint (position (λ b. (b.process == p) && (b.address == a)) bs) bs

-- two watches are the same
abbrev pub is_same_watch : Watchpoint → Watchpoint → Bool
is_same_watch w x = (x.process == w.process) && (x.address == w.address) && (x.length == w.length)

-- a watch is there
abbrev pub is_watch : List Watchpoint → Watchpoint → Bool
is_watch ws w = list_any (is_same_watch w) ws

-- there is room for one more, or it is there
abbrev pub may_watch : List Watchpoint → Watchpoint → Bool
may_watch ws w = is_watch ws w || nat_lt (length ws) 16

-- with a watch of at most 64 bytes, where it is not there and there is room
abbrev pub with_watch : List Watchpoint → Watchpoint → List Watchpoint
with_watch ws w = if nat_lt 64 w.length || is_watch ws w then ws else (if nat_lt (length ws) 16 then ws ++ w ∷ [] else ws)

-- without the one at a place
abbrev pub without_one : Option ℕ → List Watchpoint → List Watchpoint
without_one None ws = ws
without_one (Some i) ws = remove ws i

-- without a watch, where it is there
abbrev pub without_watch : List Watchpoint → Watchpoint → List Watchpoint
without_watch ws w = without_one (position (is_same_watch w) ws) ws

-- whether it may be set
abbrev pub watch_text : List Watchpoint → Watchpoint → List ℕ
watch_text ws w = if nat_lt 64 w.length then codes "E16" else (if may_watch ws w then codes "OK" else codes "E1C")
