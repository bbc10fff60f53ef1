-- What a run adds to the log, line by line.
use Rattle.std.proofs.Common.{◌≡◌, ℕ, zero, suc, ◌+◌, ◌-◌, Bool, true, false, cond, not, List, [], ◌∷◌, ◌++◌, filter, take, length, length-set, Option, Some, None, Result, Ok, Err, refl, sym, ap, ap₂, ◌∙◌, subst, append-nil, append_assoc}
use Rattle.std.proofs.Math.Path.{fun_ext}
use Rattle.std.specs.Prelude.{◌&&◌, nat_lt, nat_le, is_some, slice_set, slice_index_or}
use Rattle.ds_word.specs.Word.{word}
use Rattle.ds_procs.specs.declared.process.Standing.{Standing}
use Rattle.ds_procs.specs.declared.call.Call.{Call}
use Rattle.ds_procs.specs.declared.call.Call.TheVariants as call
use Rattle.ds_procs.specs.Calls.{call_of}
use Rattle.ds_log.specs.declared.line.Line.{Line}
use Rattle.ds_policy.specs.declared.command.Command.{Command}
use Rattle.ds_policy.specs.declared.command.Command.TheVariants as command
use Rattle.ds_policy.specs.declared.command.TimedCommand.{TimedCommand}
use Rattle.ds_policy.specs.declared.command.Character.{Character}
use Rattle.ds_policy.specs.Grants.{PageState, give, take as take_back, drop_own, grant, narrow, revoke, drop_by_command}
use Rattle.ds_pagemap.specs.declared.turn.Turn.{Turn}
use Rattle.ds_pagemap.specs.Machine.{State, Process, no_process, process_of, has_ended, lives, is_parked, made_ready, first, touch_first, touched}
use Rattle.ds_pagemap.specs.Calls.{served, answered, or_number, or_denied, after_get, after_wait, queue_of, after_command, or_logged, refuse_command, ended}
use Rattle.ds_pagemap.specs.Unit.{Outcome, Went, Branched, Called, Stopped, settle, at_pc, instruction, after_slot, after_call, after_instruction, unit_of_first, unit}
use Rattle.ds_pagemap.specs.Boundary.{after_commands, all_queued, wakes, woken, has_passed, is_first, rotated, boundary_after, boundary, owed_boundary}
use Rattle.ds_pagemap.specs.Run.{half_turn, goes_on, after, Reaches}
use Rattle.ds_pagemap.specs.Laws.{due}
use Rattle.ds_pagemap.proofs.Units.{Leaves, leaves_instruction}
use Rattle.ds_pagemap.proofs.Touches.{touched-log}
use Rattle.ds_promise.specs.Lines.{refused_by, line_of_give, lines_of_call, lines_of_slot, lines_of_instruction, lines_of_first, command_refusal, line_of_command, lines_of_commands, lines_of_turn, lines_along, after_ends}

nothing : (xs ys : List Line) → ys ≡ xs → ys ≡ xs ++ []
nothing xs ys e = e ∙ sym (append-nil xs)

-- Calls.

get_lines : (m : State) (p : ℕ) (queue : List ℕ) → (after_get m p queue).log ≡ m.log
get_lines m p [] = refl
get_lines m p (b ∷ rest) = refl

wait_lines : (m : State) (p : ℕ) (queue : List ℕ) → (after_wait m p queue).log ≡ m.log
wait_lines m p [] = refl
wait_lines m p (b ∷ rest) = refl

number_lines : (m : State) (p : ℕ) (r : Result PageState ℕ) → (or_number m p r).log ≡ m.log
number_lines m p (Ok s) = refl
number_lines m p (Err number) = refl

give_lines : (m : State) (p pc address : ℕ) (r : Result PageState ℕ) → (or_denied m p pc address r).log ≡ m.log ++ line_of_give m p pc address (refused_by r)
give_lines m p pc address (Ok s) = nothing m.log _ refl
give_lines m p pc address (Err number) = refl

served_lines : (m : State) (p pc : ℕ) (c : Call) → (served m p pc c).log ≡ m.log ++ lines_of_call m p pc c
served_lines m p pc call.Exit = nothing m.log _ refl
served_lines m p pc (call.Put byte) = nothing m.log _ refl
served_lines m p pc call.Get = nothing m.log _ (get_lines m p (queue_of m p))
served_lines m p pc call.Yield = nothing m.log _ refl
served_lines m p pc call.Time = nothing m.log _ refl
served_lines m p pc call.Own = nothing m.log _ refl
served_lines m p pc (call.Give address receiver to mode) = give_lines m p pc address (give (lives m) m.memory p address receiver to mode)
served_lines m p pc (call.Take process address) = nothing m.log _ (number_lines m p (take_back (lives m) m.memory p process address))
served_lines m p pc (call.Drop address) = nothing m.log _ (number_lines m p (drop_own m.memory p address))
served_lines m p pc call.Wait = nothing m.log _ (wait_lines (answered m p 0) p (queue_of m p))
served_lines m p pc call.Unknown = nothing m.log _ refl

-- A process is read as before where what is put has the same there.
field_stays : {X : Type 0} (f : Process → X) (ps : List Process) (i j : ℕ) (q : Process) → f q ≡ f (slice_index_or ps i no_process) → f (slice_index_or (slice_set ps i q) j no_process) ≡ f (slice_index_or ps j no_process)
field_stays f [] i j q e = refl
field_stays f (b ∷ ps) zero zero q e = e
field_stays f (b ∷ ps) zero (suc j) q e = refl
field_stays f (b ∷ ps) (suc i) zero q e = refl
field_stays f (b ∷ ps) (suc i) (suc j) q e = field_stays f ps i j q e

-- the process after its call
abbrev pub after_the_call : State → ℕ → ℕ → State
after_the_call m p pc = at_pc (settle m p) p (word (pc + 4))

pub field_stays_after : {X : Type 0} (f : Process → X) (m : State) (p pc r : ℕ)
    → ((q : Process) (a : ℕ) → f (record q { pc = a }) ≡ f q) → ((q : Process) → f (record q { registers = record q.registers { late = None } }) ≡ f q)
    → f (process_of (after_the_call m p pc) r) ≡ f (process_of m r)
field_stays_after f m p pc r at settles =
    field_stays f (settle m p).processes (p - 1) (r - 1) _ (at (process_of (settle m p) p) (word (pc + 4)))
    ∙ field_stays f m.processes (p - 1) (r - 1) _ (settles (process_of m p))

pub lives_after_the_call : (m : State) (p pc : ℕ) → lives (after_the_call m p pc) ≡ lives m
lives_after_the_call m p pc = fun_ext (λ r. ap₂ (λ (n : ℕ) (s : Standing). nat_lt 0 r && (nat_lt r (n + 1) && not (has_ended s)))
    (length-set (settle m p).processes (p - 1) _ ∙ length-set m.processes (p - 1) _)
    (field_stays_after (λ (q : Process). q.standing) m p pc r (λ q a. refl) (λ q. refl)))

call_lines_after : (m : State) (p pc : ℕ) (c : Call) → lines_of_call (after_the_call m p pc) p pc c ≡ lines_of_call m p pc c
call_lines_after m p pc call.Exit = refl
call_lines_after m p pc (call.Put byte) = refl
call_lines_after m p pc call.Get = refl
call_lines_after m p pc call.Yield = refl
call_lines_after m p pc call.Time = refl
call_lines_after m p pc call.Own = refl
call_lines_after m p pc (call.Give address receiver to mode) = ap (λ (alive : ℕ → Bool). line_of_give m p pc address (refused_by (give alive m.memory p address receiver to mode))) (lives_after_the_call m p pc)
call_lines_after m p pc (call.Take process address) = refl
call_lines_after m p pc (call.Drop address) = refl
call_lines_after m p pc call.Wait = refl
call_lines_after m p pc call.Unknown = refl

after_call_lines : (m : State) (p pc : ℕ) → (after_call m p pc).log ≡ m.log ++ lines_of_call m p pc (call_of (process_of m p).registers.general)
after_call_lines m p pc =
    let b = after_the_call m p pc in
    served_lines b p pc (call_of (process_of b p).registers.general)
    ∙ ap (λ (ls : List Line). m.log ++ ls) (call_lines_after m p pc (call_of (process_of b p).registers.general)
    ∙ ap (λ (g : List ℕ). lines_of_call m p pc (call_of g)) (field_stays_after (λ (q : Process). q.registers.general) m p pc p (λ q a. refl) (λ q. refl)))

-- Units.

slot_lines : (m : State) (p a pc target : ℕ) (o : Outcome) → Leaves m o → (after_slot m p a pc target o).log ≡ m.log ++ lines_of_slot m.time p pc o
slot_lines m p a pc target (Went t) l = nothing m.log _ l.log
slot_lines m p a pc target (Branched t next) l = refl
slot_lines m p a pc target Called l = refl
slot_lines m p a pc target (Stopped stop) l = refl

instruction_lines : (m : State) (p pc : ℕ) (o : Outcome) → Leaves m o → (after_instruction m p pc o).log ≡ m.log ++ lines_of_instruction m p pc o
instruction_lines m p pc (Went t) l = nothing m.log _ l.log
instruction_lines m p pc (Branched t target) l =
    let slot = word (pc + 4) in
    slot_lines t p pc slot target (instruction t p slot) (leaves_instruction t p slot)
    ∙ ap₂ (λ (ls : List Line) (time : ℕ). ls ++ lines_of_slot time p slot (instruction t p slot)) l.0.log l.0.time
instruction_lines m p pc Called l = after_call_lines m p pc
instruction_lines m p pc (Stopped stop) l = refl

first_lines : (m : State) (ready : List ℕ) → (unit_of_first m ready).log ≡ m.log ++ lines_of_first m ready
first_lines m [] = nothing m.log _ refl
first_lines m (p ∷ rest) = let pc = (process_of m p).pc in instruction_lines m p pc (instruction m p pc) (leaves_instruction m p pc)

pub unit_lines : (m : State) → (unit m).log ≡ m.log ++ lines_of_first m m.ready
unfolding unit
unit_lines m = first_lines m m.ready

-- Commands.

logged_lines : (m : State) (k : ℕ) (r : Result PageState ℕ) → (or_logged m k r).log ≡ m.log ++ line_of_command m.time k (refused_by r)
logged_lines m k (Ok s) = nothing m.log _ refl
logged_lines m k (Err number) = refl

stop_lines : (b : Bool) (m t : State) (k : ℕ) → t.log ≡ m.log → (cond b (refuse_command m k 12) t).log ≡ m.log ++ line_of_command m.time k (cond b (Some 12) None)
stop_lines true m t k e = refl
stop_lines false m t k e = nothing m.log _ e

resume_lines : (b c : Bool) (m t : State) (k : ℕ) → t.log ≡ m.log → (cond b (refuse_command m k 12) (cond c (refuse_command m k 15) t)).log ≡ m.log ++ line_of_command m.time k (cond b (Some 12) (cond c (Some 15) None))
resume_lines true c m t k e = refl
resume_lines false true m t k e = refl
resume_lines false false m t k e = nothing m.log _ e

pub command_lines : (m : State) (k : ℕ) (c : Command) → (after_command m k c).log ≡ m.log ++ line_of_command m.time k (command_refusal m k c)
command_lines m k (command.Grant p address page right give) = logged_lines m k (grant (lives m) m.memory p address page right give (1000 + k))
command_lines m k (command.Narrow p address) = logged_lines m k (narrow (lives m) m.memory p address)
command_lines m k (command.Revoke p address) = logged_lines m k (revoke (lives m) m.memory p address (1000 + k))
command_lines m k (command.Drop p address) = logged_lines m k (drop_by_command (lives m) m.memory p address)
command_lines m k (command.Resume p) = resume_lines (not (lives m p)) (not (is_parked (process_of m p).standing)) m (made_ready m p) k refl
command_lines m k (command.Stop p) = stop_lines (not (lives m p)) m (ended m p) k refl

commands_lines : (m : State) (cs : List TimedCommand) → (after_commands m cs).log ≡ m.log ++ lines_of_commands m cs
commands_lines m [] = nothing m.log _ refl
commands_lines m (c ∷ rest) =
    let next = after_command m c.number c.command in
    let line = line_of_command m.time c.number (command_refusal m c.number c.command) in
    commands_lines next rest
    ∙ (ap (λ (ls : List Line). ls ++ lines_of_commands next rest) (command_lines m c.number c.command) ∙ append_assoc m.log line (lines_of_commands next rest))

-- Commands do the same whatever is still to come.

abbrev pub with_events : List TimedCommand → List Character → Option Turn → State → State
with_events cs chs owed m = record m { commands = cs; characters = chs; owed = owed }

module _ (cs : List TimedCommand) (chs : List Character) (owed : Option Turn) where
  logged_with_events : (m : State) (k : ℕ) (r : Result PageState ℕ) → or_logged (with_events cs chs owed m) k r ≡ with_events cs chs owed (or_logged m k r)
  logged_with_events m k (Ok s) = refl
  logged_with_events m k (Err number) = refl

  cond_with_events : (b : Bool) (s t : State) → cond b (with_events cs chs owed s) (with_events cs chs owed t) ≡ with_events cs chs owed (cond b s t)
  cond_with_events true s t = refl
  cond_with_events false s t = refl

  command_with_events : (m : State) (k : ℕ) (c : Command) → after_command (with_events cs chs owed m) k c ≡ with_events cs chs owed (after_command m k c)
  command_with_events m k (command.Grant p address page right give) = logged_with_events m k (grant (lives m) m.memory p address page right give (1000 + k))
  command_with_events m k (command.Narrow p address) = logged_with_events m k (narrow (lives m) m.memory p address)
  command_with_events m k (command.Revoke p address) = logged_with_events m k (revoke (lives m) m.memory p address (1000 + k))
  command_with_events m k (command.Drop p address) = logged_with_events m k (drop_by_command (lives m) m.memory p address)
  command_with_events m k (command.Resume p) =
      let b = not (lives m p) in let c = not (is_parked (process_of m p).standing) in
      ap (cond b (with_events cs chs owed (refuse_command m k 12))) (cond_with_events c (refuse_command m k 15) (made_ready m p))
      ∙ cond_with_events b (refuse_command m k 12) (cond c (refuse_command m k 15) (made_ready m p))
  command_with_events m k (command.Stop p) = cond_with_events (not (lives m p)) (refuse_command m k 12) (ended m p)

  pub commands_with_events : (m : State) (todo : List TimedCommand) → after_commands (with_events cs chs owed m) todo ≡ with_events cs chs owed (after_commands m todo)
  commands_with_events m [] = refl
  commands_with_events m (c ∷ rest) = ap (λ (s : State). after_commands s rest) (command_with_events m c.number c.command) ∙ commands_with_events (after_command m c.number c.command) rest

  refusal_with_events : (m : State) (k : ℕ) (c : Command) → command_refusal (with_events cs chs owed m) k c ≡ command_refusal m k c
  refusal_with_events m k (command.Grant p address page right give) = refl
  refusal_with_events m k (command.Narrow p address) = refl
  refusal_with_events m k (command.Revoke p address) = refl
  refusal_with_events m k (command.Drop p address) = refl
  refusal_with_events m k (command.Resume p) = refl
  refusal_with_events m k (command.Stop p) = refl

  lines_with_events : (m : State) (todo : List TimedCommand) → lines_of_commands (with_events cs chs owed m) todo ≡ lines_of_commands m todo
  lines_with_events m [] = refl
  lines_with_events m (c ∷ rest) = ap₂ (λ (o : Option ℕ) (ls : List Line). line_of_command m.time c.number o ++ ls) (refusal_with_events m c.number c.command)
      (ap (λ (s : State). lines_of_commands s rest) (command_with_events m c.number c.command) ∙ lines_with_events (after_command m c.number c.command) rest)

-- Boundaries.

-- the state that a boundary's commands find
abbrev found_by : State → State
found_by m = with_events (filter (λ c. not (nat_le c.time m.time)) m.commands) (filter (λ c. not (nat_le c.time m.time)) m.characters) None (after_ends m)

ready_log : (b : Bool) (m : State) (p : ℕ) → (cond b (made_ready m p) m).log ≡ m.log
ready_log true m p = refl
ready_log false m p = refl

woken_log : (m : State) (p n : ℕ) → (woken m p n).log ≡ m.log
woken_log m p zero = refl
woken_log m p (suc n) = woken_log (cond (wakes m p) (made_ready m p) m) (p + 1) n ∙ ready_log (wakes m p) m p

rotated_log : (m : State) (runner : Option ℕ) → (rotated m runner).log ≡ m.log
rotated_log m None = refl
rotated_log m (Some p) = ready_log (is_first (first m.ready) p) m p

ending_log : (b : Bool) (m : State) (runner : Option ℕ) → (cond b (rotated m runner) m).log ≡ m.log
ending_log true m runner = rotated_log m runner
ending_log false m runner = refl

boundary_after_log : (turn : Turn) (m : State) → (boundary_after turn m).log ≡ (after_commands (found_by m) (due m)).log
boundary_after_log turn m =
    let served = after_commands (found_by m) (due m) in
    let typed = record served { queues = all_queued served.queues (take 64 (filter (λ c. nat_le c.time m.time) m.characters)) } in
    let awake = woken typed 1 (length typed.processes) in
    ending_log (has_passed m.rate turn.began m.time) awake turn.runner ∙ woken_log typed 1 (length typed.processes)

boundary_after_lines : (turn : Turn) (m : State) → (boundary_after turn m).log ≡ m.log ++ lines_of_commands (after_ends m) (due m)
boundary_after_lines turn m = boundary_after_log turn m ∙ (commands_lines (found_by m) (due m)
    ∙ ap (λ (ls : List Line). m.log ++ ls) (lines_with_events (filter (λ c. not (nat_le c.time m.time)) m.commands) (filter (λ c. not (nat_le c.time m.time)) m.characters) None (after_ends m) (due m)))

pub boundary_lines : (m : State) (turn : Turn) → m.owed ≡ Some turn → (boundary m).log ≡ m.log ++ lines_of_commands (after_ends m) (due m)
unfolding boundary
boundary_lines m turn is = ap (λ (owed : Option Turn). (owed_boundary owed m).log) is ∙ boundary_after_lines turn m

-- Half turns and runs.

turn_by : (owed : Option Turn) (m : State) → m.owed ≡ owed → (cond (is_some owed) (boundary m) (unit m)).log ≡ m.log ++ cond (is_some owed) (lines_of_commands (after_ends m) (due m)) (lines_of_first m m.ready)
turn_by None m is = unit_lines m
turn_by (Some turn) m is = boundary_lines m turn is

touched_owed : (b : Bool) (m : State) → (touched b m).owed ≡ m.owed
touched_owed true m = of_first m m.ready
  where
    of_first : (m : State) (ready : List ℕ) → (touch_first m ready).owed ≡ m.owed
    of_first m [] = refl
    of_first m (p ∷ rest) = refl
touched_owed false m = refl

pub half_lines : (b : Bool) (m : State) → (half_turn b m).log ≡ m.log ++ lines_of_turn (touched b m)
unfolding half_turn
half_lines b m =
    subst (λ (o : Option Turn). (cond (is_some m.owed) (boundary (touched b m)) (unit (touched b m))).log ≡ m.log ++ cond (is_some o) (lines_of_commands (after_ends (touched b m)) (due (touched b m))) (lines_of_first (touched b m) (touched b m).ready)) (sym (touched_owed b m))
    (turn_by m.owed (touched b m) (touched_owed b m) ∙ ap (λ (ls : List Line). ls ++ cond (is_some m.owed) (lines_of_commands (after_ends (touched b m)) (due (touched b m))) (lines_of_first (touched b m) (touched b m).ready)) (touched-log b m))

go_lines : (on b : Bool) (m : State) → (cond on (half_turn b m) m).log ≡ m.log ++ cond on (lines_of_turn (touched b m)) []
go_lines true b m = half_lines b m
go_lines false b m = nothing m.log _ refl

pub along_lines : (n : ℕ) (choices : List Bool) (m : State) → (after n choices m).log ≡ m.log ++ lines_along n choices m
unfolding after
along_lines n [] m = nothing m.log _ refl
along_lines n (touch ∷ earlier) m =
    let a = after n earlier m in
    let more = cond (goes_on n a) (lines_of_turn (touched touch a)) [] in
    go_lines (goes_on n a) touch a ∙ (ap (λ (ls : List Line). ls ++ more) (along_lines n earlier m) ∙ append_assoc m.log (lines_along n earlier m) more)

pub reaches_lines : (n : ℕ) (m t : State) → (r : Reaches n m t) → t.log ≡ m.log ++ lines_along n r.choices m
reaches_lines n m t r = ap (λ (s : State). s.log) r.comes_to ∙ (touched-log r.early (after n r.choices m) ∙ along_lines n r.choices m)
