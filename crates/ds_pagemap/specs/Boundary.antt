-- What happens between two units.
use Rattle.std.specs.Prelude.{ℕ, zero, suc, ◌+◌, ◌/◌, ◌^◌, Bool, false, not, ◌&&◌, nat_lt, nat_le, ◌==◌, if◌then◌else◌, List, [], ◌∷◌, ◌++◌, length, take, filter, slice_set, slice_index_or, Option, Some, None}
use Rattle.ds_pagemap.specs.declared.turn.Turn.{Turn}
use Rattle.ds_pagemap.specs.Machine.{State, first, process_of, is_waiting, made_ready}
use Rattle.ds_policy.specs.Ends.{expired}
use Rattle.ds_policy.specs.declared.command.TimedCommand.{TimedCommand}
use Rattle.ds_policy.specs.declared.command.Character.{Character}
use Rattle.ds_pagemap.specs.Calls.{after_command, queue_of}

-- what commands do, in their order
abbrev pub after_commands : State → List TimedCommand → State
after_commands m [] = m
after_commands m (c ∷ rest) = after_commands (after_command m c.number c.command) rest

-- a queue that holds 256 takes no more
abbrev pub queued : List (List ℕ) → Character → List (List ℕ)
queued queues c =
    let queue = slice_index_or queues c.line [] in
    if nat_lt (length queue) 256 then slice_set queues c.line (queue ++ c.byte ∷ []) else queues

-- characters put into the queues of their lines, in their order
abbrev pub all_queued : List (List ℕ) → List Character → List (List ℕ)
all_queued queues [] = queues
all_queued queues (c ∷ rest) = all_queued (queued queues c) rest

-- whether a process waits and a character is there for it
abbrev pub wakes : State → ℕ → Bool
wakes m p = is_waiting (process_of m p).standing && nat_lt 0 (length (queue_of m p))

-- of n processes from p on, those that wait for what is there now
abbrev pub woken : State → ℕ → ℕ → State
woken m p zero = m
woken m p (suc n) = woken (if wakes m p then made_ready m p else m) (p + 1) n

-- the period of the rate ended between two times
abbrev pub has_passed : ℕ → ℕ → ℕ → Bool
has_passed rate before now = not (rate == 0) && nat_lt (before / 2 ^ (rate + 2)) (now / 2 ^ (rate + 2))

-- whether the first ready process is this one
abbrev pub is_first : Option ℕ → ℕ → Bool
is_first None p = false
is_first (Some q) p = q == p

-- the process that ran goes to the end of the list, if it is first
abbrev pub rotated : State → Option ℕ → State
rotated m None = m
rotated m (Some p) = if is_first (first m.ready) p then made_ready m p else m

-- the boundary at a state's time, after this turn
abbrev pub boundary_after : Turn → State → State
boundary_after turn m =
    let commands = filter (λ c. nat_le c.time m.time) m.commands in
    let characters = filter (λ c. nat_le c.time m.time) m.characters in
    let later = record m {
      memory = expired m.memory m.time;
      commands = filter (λ c. not (nat_le c.time m.time)) m.commands;
      characters = filter (λ c. not (nat_le c.time m.time)) m.characters;
      owed = None;
    } in
    let served = after_commands later commands in
    let typed = record served { queues = all_queued served.queues (take 64 characters) } in
    let awake = woken typed 1 (length typed.processes) in
    if has_passed m.rate turn.began m.time then rotated awake turn.runner else awake

-- the boundary of this turn, if there is one
abbrev pub owed_boundary : Option Turn → State → State
owed_boundary None m = m
owed_boundary (Some turn) m = boundary_after turn m

-- the boundary that is owed, if one is
unfoldable pub boundary : State → State
boundary m = owed_boundary m.owed m
