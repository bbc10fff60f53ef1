-- The lines of processes stay, and consoles have what was put.
use Rattle.std.proofs.Common.{◌≡◌, ℕ, zero, suc, ◌+◌, ◌-◌, ◌<◌, ◌≤◌, Bool, true, false, cond, not, List, [], ◌∷◌, ◌++◌, take, filter, length, length-set, Option, Some, None, Result, Ok, Err, refl, sym, ap₂, ◌∙◌, subst, arith}
use Rattle.std.specs.Prelude.{◌^◌, nat_le, slice_set, slice_index_or}
use Rattle.ds_word.specs.Word.{word}
use Rattle.ds_isa.specs.Registers.{settled}
use Rattle.ds_procs.specs.declared.process.Standing.{Standing}
use Rattle.ds_procs.specs.declared.process.Standing.TheVariants.{Ready, Waiting, Parked, Ended}
use Rattle.ds_procs.specs.declared.call.Call.{Call}
use Rattle.ds_procs.specs.declared.call.Call.TheVariants as call
use Rattle.ds_procs.specs.Calls.{call_of}
use Rattle.ds_policy.specs.declared.command.Command.{Command}
use Rattle.ds_policy.specs.declared.command.Command.TheVariants as command
use Rattle.ds_policy.specs.declared.command.TimedCommand.{TimedCommand}
use Rattle.ds_policy.specs.Grants.{PageState, give, take as take_back, drop_own, grant, narrow, revoke, drop_by_command}
use Rattle.ds_pagemap.specs.declared.turn.Turn.{Turn}
use Rattle.ds_pagemap.specs.Machine.{State, Process, no_process, process_of, with_process, lives, is_parked, first, made_ready, made_unready}
use Rattle.ds_pagemap.specs.Calls.{served, answered, or_number, or_denied, with_pages, after_put, after_get, after_wait, queue_of, after_command, or_logged, refuse_command, ended}
use Rattle.ds_pagemap.specs.Unit.{Stop, Outcome, Went, Branched, Called, Stopped, fault, settle, at_pc, instruction, parked, after_slot, after_instruction, unit_of_first, unit}
use Rattle.ds_pagemap.specs.Boundary.{after_commands, all_queued, wakes, woken, has_passed, is_first, rotated, boundary_after, boundary, owed_boundary}
use Rattle.ds_pagemap.specs.Laws.{due}
use Rattle.ds_promise.specs.Seen.{Action, Computes, Jumps, WritesWord, MakesCall, Stops, carried_out}
use Rattle.ds_promise.proofs.Lines.{after_the_call, field_stays_after}
use Rattle.ds_promise.proofs.Seen.{one_action, looks_like_itself}
use Rattle.ds_promise.proofs.Stores.{found_by}
use Rattle.ds_alone.specs.Deeds.{written_by, puts_of}

-- the lines of processes stay, and so do the consoles
pub record Silent (m t : State) : Type 0 where
  pub lines : (r : ℕ) → (process_of t r).line ≡ (process_of m r).line
  pub many : length t.processes ≡ length m.processes
  pub consoles : t.consoles ≡ m.consoles

pub still : (m : State) → Silent m m
still m = record { lines = λ r. refl; many = refl; consoles = refl }

then : (m t u : State) → Silent m t → Silent t u → Silent m u
then m t u a b = record { lines = λ r. b.lines r ∙ a.lines r; many = b.many ∙ a.many; consoles = b.consoles ∙ a.consoles }

line_stays : (ps : List Process) (i j : ℕ) (x : Process) → x.line ≡ (slice_index_or ps i no_process).line → (slice_index_or (slice_set ps i x) j no_process).line ≡ (slice_index_or ps j no_process).line
line_stays [] i j x e = refl
line_stays (b ∷ ps) zero zero x e = e
line_stays (b ∷ ps) zero (suc j) x e = refl
line_stays (b ∷ ps) (suc i) zero x e = refl
line_stays (b ∷ ps) (suc i) (suc j) x e = line_stays ps i j x e

pub put_silent : (m : State) (q : ℕ) (x : Process) → x.line ≡ (process_of m q).line → Silent m (with_process m q x)
put_silent m q x e = record { lines = λ r. line_stays m.processes (q - 1) (r - 1) x e; many = length-set m.processes (q - 1) x; consoles = refl }

either : (c : Bool) (m s t : State) → Silent m s → Silent m t → Silent m (cond c s t)
either true m s t x y = x
either false m s t x y = y

-- the consoles after these bytes on a line
abbrev pub written : List (List ℕ) → ℕ → List ℕ → List (List ℕ)
written consoles l [] = consoles
written consoles l (byte ∷ rest) = slice_set consoles l (slice_index_or consoles l [] ++ byte ∷ rest)

-- what process q does
module _ (q : ℕ) where
  answered_silent : (m : State) (value : ℕ) → Silent m (answered m q value)
  answered_silent m value = put_silent m q _ refl

  unready_silent : (m : State) (standing : Standing) → Silent m (made_unready m q standing)
  unready_silent m standing = let b = put_silent m q (record (process_of m q) { standing = standing }) refl in record { lines = b.lines; many = b.many; consoles = b.consoles }

  ready_silent : (m : State) → Silent m (made_ready m q)
  ready_silent m = let b = put_silent m q (record (process_of m q) { standing = Ready }) refl in record { lines = b.lines; many = b.many; consoles = b.consoles }

  ended_silent : (m : State) → Silent m (ended m q)
  ended_silent m = let b = unready_silent m Ended in record { lines = b.lines; many = b.many; consoles = b.consoles }

  number_silent : (m : State) (r : Result PageState ℕ) → Silent m (or_number m q r)
  number_silent m (Ok s) = let b = answered_silent (with_pages m s) 0 in record { lines = b.lines; many = b.many; consoles = b.consoles }
  number_silent m (Err number) = answered_silent m number

  denied_silent : (m : State) (pc a : ℕ) (r : Result PageState ℕ) → Silent m (or_denied m q pc a r)
  denied_silent m pc a (Ok s) = let b = answered_silent (with_pages m s) 0 in record { lines = b.lines; many = b.many; consoles = b.consoles }
  denied_silent m pc a (Err number) = let b = answered_silent m number in record { lines = b.lines; many = b.many; consoles = b.consoles }

  get_silent : (m : State) (queue : List ℕ) → Silent m (after_get m q queue)
  get_silent m [] = answered_silent m (2 ^ 32 - 1)
  get_silent m (byte ∷ rest) = let b = answered_silent (record m { queues = slice_set m.queues (process_of m q).line rest }) byte in record { lines = b.lines; many = b.many; consoles = b.consoles }

  wait_silent : (m : State) (queue : List ℕ) → Silent m (after_wait m q queue)
  wait_silent m [] = unready_silent m Waiting
  wait_silent m (byte ∷ rest) = still m

  -- lines stay, and consoles have what was written
  pub record Wrote (m t : State) (bytes : List ℕ) : Type 0 where
    pub lines : (r : ℕ) → (process_of t r).line ≡ (process_of m r).line
    pub many : length t.processes ≡ length m.processes
    pub consoles : t.consoles ≡ written m.consoles (process_of m q).line bytes

  wrote_nothing : (m t : State) → Silent m t → Wrote m t []
  wrote_nothing m t s = record { lines = s.lines; many = s.many; consoles = s.consoles }

  served_wrote : (m : State) (pc : ℕ) (c : Call) → Wrote m (served m q pc c) (written_by c)
  served_wrote m pc call.Exit = wrote_nothing m _ (ended_silent m)
  served_wrote m pc (call.Put byte) = let b = answered_silent (after_put m q byte) 0 in record { lines = b.lines; many = b.many; consoles = b.consoles }
  served_wrote m pc call.Get = wrote_nothing m _ (get_silent m (queue_of m q))
  served_wrote m pc call.Yield = wrote_nothing m _ (then m _ _ (answered_silent m 0) (ready_silent (answered m q 0)))
  served_wrote m pc call.Time = wrote_nothing m _ (answered_silent m m.time)
  served_wrote m pc call.Own = wrote_nothing m _ (answered_silent m q)
  served_wrote m pc (call.Give a receiver to mode) = wrote_nothing m _ (denied_silent m pc a (give (lives m) m.memory q a receiver to mode))
  served_wrote m pc (call.Take r a) = wrote_nothing m _ (number_silent m (take_back (lives m) m.memory q r a))
  served_wrote m pc (call.Drop a) = wrote_nothing m _ (number_silent m (drop_own m.memory q a))
  served_wrote m pc call.Wait = wrote_nothing m _ (then m _ _ (answered_silent m 0) (wait_silent (answered m q 0) (queue_of m q)))
  served_wrote m pc call.Unknown = wrote_nothing m _ (answered_silent m (2 ^ 32 - 1))

  -- Units.

  abbrev OutcomeSilent : State → Outcome → Type 0
  OutcomeSilent m (Went t) = Silent m t
  OutcomeSilent m (Branched t target) = Silent m t
  OutcomeSilent m Called = Unit {0}
  OutcomeSilent m (Stopped stop) = Unit {0}

  action_silent : (m : State) (a : Action) → OutcomeSilent m (carried_out m q a)
  action_silent m (Computes r) = put_silent m q _ refl
  action_silent m (Jumps r target) = put_silent m q _ refl
  action_silent m (WritesWord page offset w) = let b = put_silent m q (record (process_of m q) { registers = settled (process_of m q).registers }) refl in record { lines = b.lines; many = b.many; consoles = b.consoles }
  action_silent m MakesCall = tt
  action_silent m (Stops stop) = tt

  instruction_silent : (m : State) (pc : ℕ) → 0 < q → q ≤ length m.processes → OutcomeSilent m (instruction m q pc)
  instruction_silent m pc above within = let a = one_action q pc m m (looks_like_itself q m above within) in subst (OutcomeSilent m) (sym a.here) (action_silent m a.action)

  at_pc_silent : (m : State) (pc : ℕ) → Silent m (at_pc m q pc)
  at_pc_silent m pc = put_silent m q _ refl

  parked_silent : (m : State) (a pc : ℕ) (stop : Stop) → Silent m (parked m q a pc stop)
  parked_silent m a pc stop =
      let one = made_unready m q Parked in
      let two = settle one q in
      let b = then m one (at_pc two q a) (unready_silent m Parked) (then one two (at_pc two q a) (put_silent one q _ refl) (at_pc_silent two a)) in
      record { lines = b.lines; many = b.many; consoles = b.consoles }

  slot_silent : (m : State) (a pc target : ℕ) (o : Outcome) → OutcomeSilent m o → Silent m (after_slot m q a pc target o)
  slot_silent m a pc target (Went t) b = let c = then m t (at_pc t q target) b (at_pc_silent t target) in record { lines = c.lines; many = c.many; consoles = c.consoles }
  slot_silent m a pc target (Branched t next) b = parked_silent m a pc (fault pc 10)
  slot_silent m a pc target Called b = parked_silent m a pc (fault pc 8)
  slot_silent m a pc target (Stopped stop) b = parked_silent m a pc stop

  after_wrote : (m : State) (pc : ℕ) (o : Outcome) → 0 < q → q ≤ length m.processes → OutcomeSilent m o → Wrote m (after_instruction m q pc o) (puts_of m q o)
  after_wrote m pc (Went t) above within b = let c = then m t (at_pc t q (word (pc + 4))) b (at_pc_silent t (word (pc + 4))) in record { lines = c.lines; many = c.many; consoles = c.consoles }
  after_wrote m pc (Branched t target) above within b =
      let slot = word (pc + 4) in
      wrote_nothing m _ (then m t _ b (slot_silent t pc slot target (instruction t q slot) (instruction_silent t slot above (more b.many))))
    where
      more : (length t.processes ≡ length m.processes) → q ≤ length t.processes
      more e = omega (arith, e, within)
  after_wrote m pc Called above within b =
      let next = after_the_call m q pc in
      let until = then m (settle m q) next (put_silent m q _ refl) (at_pc_silent (settle m q) (word (pc + 4))) in
      let c = call_of (process_of next q).registers.general in
      let w = served_wrote next pc c in
      let same = field_stays_after (λ x. x.registers.general) m q pc q (λ x a. refl) (λ x. refl) in
      record {
        lines = λ r. w.lines r ∙ until.lines r;
        many = w.many ∙ until.many;
        consoles = w.consoles ∙ ap₂ (λ (l : ℕ) (r : List ℕ). written m.consoles l (written_by (call_of r))) (until.lines q) same;
      }
  after_wrote m pc (Stopped stop) above within b = wrote_nothing m _ (parked_silent m pc pc stop)

  pub unit_wrote : (m : State) (rest : List ℕ) → m.ready ≡ q ∷ rest → 0 < q → q ≤ length m.processes → Wrote m (unit m) (puts_of m q (instruction m q (process_of m q).pc))
  unfolding unit
  unit_wrote m rest here above within =
      let pc = (process_of m q).pc in
      let bytes = puts_of m q (instruction m q pc) in
      let w = after_wrote m pc (instruction m q pc) above within (instruction_silent m pc above within) in
      let c : Wrote m (unit_of_first m m.ready) bytes = subst (λ (ready : List ℕ). Wrote m (unit_of_first m ready) bytes) (sym here) w in
      record { lines = c.lines; many = c.many; consoles = c.consoles }

pub idle_silent : (m : State) → m.ready ≡ [] → Silent m (unit m)
unfolding unit
idle_silent m here =
    let c : Silent m (unit_of_first m m.ready) = subst (λ (ready : List ℕ). Silent m (unit_of_first m ready)) (sym here) (record { lines = λ r. refl; many = refl; consoles = refl }) in
    record { lines = c.lines; many = c.many; consoles = c.consoles }

-- Boundaries.

logged_silent : (m : State) (k : ℕ) (r : Result PageState ℕ) → Silent m (or_logged m k r)
logged_silent m k (Ok s) = record { lines = λ r. refl; many = refl; consoles = refl }
logged_silent m k (Err number) = record { lines = λ r. refl; many = refl; consoles = refl }

command_silent : (m : State) (k : ℕ) (c : Command) → Silent m (after_command m k c)
command_silent m k (command.Grant q a page right may) = logged_silent m k (grant (lives m) m.memory q a page right may (1000 + k))
command_silent m k (command.Narrow q a) = logged_silent m k (narrow (lives m) m.memory q a)
command_silent m k (command.Revoke q a) = logged_silent m k (revoke (lives m) m.memory q a (1000 + k))
command_silent m k (command.Drop q a) = logged_silent m k (drop_by_command (lives m) m.memory q a)
command_silent m k (command.Resume q) =
    either (not (lives m q)) m (refuse_command m k 12) _ (record { lines = λ r. refl; many = refl; consoles = refl })
    (either (not (is_parked (process_of m q).standing)) m (refuse_command m k 15) (made_ready m q) (record { lines = λ r. refl; many = refl; consoles = refl }) (ready_silent q m))
command_silent m k (command.Stop q) = either (not (lives m q)) m (refuse_command m k 12) (ended m q) (record { lines = λ r. refl; many = refl; consoles = refl }) (ended_silent q m)

commands_silent : (m : State) (cs : List TimedCommand) → Silent m (after_commands m cs)
commands_silent m [] = still m
commands_silent m (c ∷ rest) = then m (after_command m c.number c.command) _ (command_silent m c.number c.command) (commands_silent (after_command m c.number c.command) rest)

woken_silent : (m : State) (r n : ℕ) → Silent m (woken m r n)
woken_silent m r zero = still m
woken_silent m r (suc n) =
    let next = cond (wakes m r) (made_ready m r) m in
    then m next _ (either (wakes m r) m (made_ready m r) m (ready_silent r m) (still m)) (woken_silent next (r + 1) n)

rotated_silent : (m : State) (runner : Option ℕ) → Silent m (rotated m runner)
rotated_silent m None = still m
rotated_silent m (Some r) = either (is_first (first m.ready) r) m (made_ready m r) m (ready_silent r m) (still m)

after_silent : (turn : Turn) (m : State) → Silent m (boundary_after turn m)
after_silent turn m =
    let later = found_by m in
    let served = after_commands later (due m) in
    let typed = record served { queues = all_queued served.queues (take 64 (filter (λ c. nat_le c.time m.time) m.characters)) } in
    let awake = woken typed 1 (length typed.processes) in
    let a : Silent m later = record { lines = λ r. refl; many = refl; consoles = refl } in
    let b : Silent m served = then m later served a (commands_silent later (due m)) in
    let c : Silent m typed = record { lines = b.lines; many = b.many; consoles = b.consoles } in
    let d : Silent m awake = then m typed awake c (woken_silent typed 1 (length typed.processes)) in
    either (has_passed m.rate turn.began m.time) m (rotated awake turn.runner) awake (then m awake _ d (rotated_silent awake turn.runner)) d

pub boundary_silent : (m : State) (turn : Turn) → m.owed ≡ Some turn → Silent m (boundary m)
unfolding boundary
boundary_silent m turn is = subst (λ (o : Option Turn). Silent m (owed_boundary o m)) (sym is) (after_silent turn m)
