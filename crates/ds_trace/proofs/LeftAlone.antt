-- A boundary leaves each process its registers and its address.
use Rattle.std.proofs.Common.{◌≡◌, ℕ, zero, suc, ◌+◌, ◌-◌, Bool, true, false, cond, List, [], ◌∷◌, length, Option, Some, None, Result, Ok, Err, refl, ◌∙◌}
use Rattle.std.specs.Prelude.{not, nat_le, filter, take}
use Rattle.ds_procs.specs.declared.process.Standing.{Standing}
use Rattle.ds_procs.specs.declared.process.Standing.TheVariants.{Ready, Ended}
use Rattle.ds_policy.specs.declared.command.Command.{Command}
use Rattle.ds_policy.specs.declared.command.Command.TheVariants as command
use Rattle.ds_policy.specs.declared.command.TimedCommand.{TimedCommand}
use Rattle.ds_policy.specs.Ends.{expired}
use Rattle.ds_policy.specs.Grants.{PageState, grant, narrow, revoke, drop_by_command}
use Rattle.ds_pagemap.specs.declared.turn.Turn.{Turn}
use Rattle.ds_pagemap.specs.Machine.{State, Process, no_process, process_of, with_process, lives, is_parked, first, made_ready}
use Rattle.ds_pagemap.specs.Calls.{or_logged, after_command, ended, refuse_command}
use Rattle.ds_pagemap.specs.Boundary.{after_commands, all_queued, wakes, woken, has_passed, is_first, rotated, boundary_after, owed_boundary, boundary}
use Rattle.ds_trace.proofs.Touched.{read_again}

-- what is read of a process, but for how it stands
module _ {Y : Type 0} (g : Process → Y) (keeps : (q : Process) (s : Standing) → g (record q { standing = s }) ≡ g q) where
  standing_read : (m : State) (p : ℕ) (s : Standing) (r : ℕ) → g (process_of (with_process m p (record (process_of m p) { standing = s })) r) ≡ g (process_of m r)
  standing_read m p s r = read_again g (λ (q : Process). record q { standing = s }) (λ q. keeps q s) m.processes (p - 1) (r - 1) no_process

  ready_if : (b : Bool) (m : State) (p r : ℕ) → g (process_of (cond b (made_ready m p) m) r) ≡ g (process_of m r)
  ready_if true m p r = standing_read m p Ready r
  ready_if false m p r = refl

  logged_read : (m : State) (k : ℕ) (o : Result PageState ℕ) (r : ℕ) → g (process_of (or_logged m k o) r) ≡ g (process_of m r)
  logged_read m k (Ok s) r = refl
  logged_read m k (Err n) r = refl

  resume_read : (m : State) (k p : ℕ) (dead parked : Bool) (r : ℕ) → g (process_of (cond dead (refuse_command m k 12) (cond parked (refuse_command m k 15) (made_ready m p))) r) ≡ g (process_of m r)
  resume_read m k p true parked r = refl
  resume_read m k p false true r = refl
  resume_read m k p false false r = standing_read m p Ready r

  stop_read : (m : State) (k p : ℕ) (dead : Bool) (r : ℕ) → g (process_of (cond dead (refuse_command m k 12) (ended m p)) r) ≡ g (process_of m r)
  stop_read m k p true r = refl
  stop_read m k p false r = standing_read m p Ended r

  command_read : (m : State) (k : ℕ) (c : Command) (r : ℕ) → g (process_of (after_command m k c) r) ≡ g (process_of m r)
  command_read m k (command.Grant p address page right give) r = logged_read m k (grant (lives m) m.memory p address page right give (1000 + k)) r
  command_read m k (command.Narrow p address) r = logged_read m k (narrow (lives m) m.memory p address) r
  command_read m k (command.Revoke p address) r = logged_read m k (revoke (lives m) m.memory p address (1000 + k)) r
  command_read m k (command.Drop p address) r = logged_read m k (drop_by_command (lives m) m.memory p address) r
  command_read m k (command.Resume p) r = resume_read m k p (not (lives m p)) (not (is_parked (process_of m p).standing)) r
  command_read m k (command.Stop p) r = stop_read m k p (not (lives m p)) r

  commands_read : (m : State) (cs : List TimedCommand) (r : ℕ) → g (process_of (after_commands m cs) r) ≡ g (process_of m r)
  commands_read m [] r = refl
  commands_read m (c ∷ rest) r = commands_read (after_command m c.number c.command) rest r ∙ command_read m c.number c.command r

  woken_read : (m : State) (p n r : ℕ) → g (process_of (woken m p n) r) ≡ g (process_of m r)
  woken_read m p zero r = refl
  woken_read m p (suc n) r = woken_read (cond (wakes m p) (made_ready m p) m) (p + 1) n r ∙ ready_if (wakes m p) m p r

  rotated_read : (m : State) (o : Option ℕ) (r : ℕ) → g (process_of (rotated m o) r) ≡ g (process_of m r)
  rotated_read m None r = refl
  rotated_read m (Some p) r = ready_if (is_first (first m.ready) p) m p r

  ending_read : (b : Bool) (m : State) (o : Option ℕ) (r : ℕ) → g (process_of (cond b (rotated m o) m) r) ≡ g (process_of m r)
  ending_read true m o r = rotated_read m o r
  ending_read false m o r = refl

  after_read : (turn : Turn) (m : State) (r : ℕ) → g (process_of (boundary_after turn m) r) ≡ g (process_of m r)
  after_read turn m r =
      let commands = filter (λ c. nat_le c.time m.time) m.commands in
      let characters = filter (λ c. nat_le c.time m.time) m.characters in
      let later : State = record m {
        memory = expired m.memory m.time;
        commands = filter (λ c. not (nat_le c.time m.time)) m.commands;
        characters = filter (λ c. not (nat_le c.time m.time)) m.characters;
        owed = None;
      } in
      let served : State = after_commands later commands in
      let typed : State = record served { queues = all_queued served.queues (take 64 characters) } in
      let awake : State = woken typed 1 (length typed.processes) in
      ending_read (has_passed m.rate turn.began m.time) awake turn.runner r
      ∙ (woken_read typed 1 (length typed.processes) r ∙ commands_read later commands r)

  owed_read : (o : Option Turn) (m : State) (r : ℕ) → g (process_of (owed_boundary o m) r) ≡ g (process_of m r)
  owed_read None m r = refl
  owed_read (Some turn) m r = after_read turn m r

  pub boundary_read : (m : State) (r : ℕ) → g (process_of (boundary m) r) ≡ g (process_of m r)
  unfolding boundary
  boundary_read m r = owed_read m.owed m r
