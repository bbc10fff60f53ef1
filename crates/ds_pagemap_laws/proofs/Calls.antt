-- Calls, commands and stops, and late loads that are finished before or after them.
use Rattle.std.proofs.Common.{◌≡◌, ℕ, ◌+◌, ◌-◌, ◌^◌, Bool, true, false, cond, List, [], ◌∷◌, not, nat_lt, ◌&&◌, Result, Ok, Err, refl, sym, ap, ap₂, ◌∙◌}
use Rattle.std.specs.Prelude.{slice_set, slice_index_or, ◌++◌}
use Rattle.std.proofs.lemmas.List.{length-map}
use Rattle.ds_procs.specs.declared.process.Standing.{Standing}
use Rattle.ds_procs.specs.declared.process.Standing.TheVariants.{Waiting, Parked, Ended}
use Rattle.ds_procs.specs.declared.call.Call.{Call}
use Rattle.ds_procs.specs.declared.call.Call.TheVariants as call
use Rattle.ds_policy.specs.declared.command.Command.{Command}
use Rattle.ds_policy.specs.declared.command.Command.TheVariants as command
use Rattle.ds_policy.specs.declared.command.TimedCommand.{TimedCommand}
use Rattle.ds_policy.specs.declared.grant.Right.{Right}
use Rattle.ds_policy.specs.Grants.{PageState, give, take, drop_own, grant, narrow, revoke, drop_by_command, end_process}
use Rattle.ds_pagemap.specs.Machine.{State, Process, process_of, with_process, lives, has_ended, is_parked, made_ready, made_unready, logged}
use Rattle.ds_pagemap.specs.Calls.{with_pages, ended, refuse_command, or_logged, after_command, answered, or_number, or_denied, queue_of, after_put, after_get, after_wait, served}
use Rattle.ds_isa.specs.Registers.{Registers, settled}
use Rattle.ds_word.specs.Word.{word}
use Rattle.ds_procs.specs.Calls.{call_of}
use Rattle.ds_log.specs.declared.line.Line.TheVariants.{Denial}
use Rattle.ds_pagemap.specs.Unit.{Stop, with_registers, at_pc, settle, ticked, parked, after_call}
use Rattle.ds_pagemap.specs.Boundary.{after_commands}
use Rattle.ds_pagemap_laws.specs.Settled.{settled_process, all_settled}
use Rattle.ds_pagemap_laws.proofs.Processes.{of_settled, with_settled, ready_settles}

answered_settles : (m : State) (p v : ℕ) → all_settled (answered m p v) ≡ answered (all_settled m) p v
answered_settles m p v =
    with_settled m p _
    ∙ ap (λ (q : Process). with_process (all_settled m) p (record q { registers = record q.registers { general = slice_set q.registers.general 2 v } })) (sym (of_settled m p))

unready_settles : (m : State) (p : ℕ) (s : Standing) → all_settled (made_unready m p s) ≡ made_unready (all_settled m) p s
unready_settles m p s =
    ap (λ (n : State). record n { ready = (made_unready m p s).ready }) (with_settled m p (record (process_of m p) { standing = s }))
    ∙ ap (λ (q : Process). record (with_process (all_settled m) p (record q { standing = s })) { ready = (made_unready m p s).ready }) (sym (of_settled m p))

line_settles : (m : State) (p : ℕ) → (process_of (all_settled m) p).line ≡ (process_of m p).line
line_settles m p = ap (λ (q : Process). q.line) (of_settled m p)

lives_settles : (m : State) (p : ℕ) → lives (all_settled m) p ≡ lives m p
lives_settles m p = ap₂ (λ (n : ℕ) (q : Process). nat_lt 0 p && (nat_lt p (n + 1) && not (has_ended q.standing))) (length-map m.processes settled_process) (of_settled m p)

ended_settles : (m : State) (p : ℕ) → all_settled (ended m p) ≡ ended (all_settled m) p
ended_settles m p = ap (λ (n : State). with_pages n (end_process m.memory p)) (unready_settles m p Ended)

put_settles : (m : State) (p byte : ℕ) → all_settled (after_put m p byte) ≡ after_put (all_settled m) p byte
put_settles m p byte = ap (λ (l : ℕ). record (all_settled m) { consoles = slice_set m.consoles l (slice_index_or m.consoles l [] ++ byte ∷ []) }) (sym (line_settles m p))

queue_settles : (m : State) (p : ℕ) → queue_of (all_settled m) p ≡ queue_of m p
queue_settles m p = ap (λ (l : ℕ). slice_index_or m.queues l []) (line_settles m p)

get_settles : (m : State) (p : ℕ) (q : List ℕ) → all_settled (after_get m p q) ≡ after_get (all_settled m) p q
get_settles m p [] = answered_settles m p (2 ^ 32 - 1)
get_settles m p (byte ∷ rest) =
    answered_settles (record m { queues = slice_set m.queues (process_of m p).line rest }) p byte
    ∙ ap (λ (l : ℕ). answered (record (all_settled m) { queues = slice_set m.queues l rest }) p byte) (sym (line_settles m p))

wait_settles : (m : State) (p : ℕ) (q : List ℕ) → all_settled (after_wait m p q) ≡ after_wait (all_settled m) p q
wait_settles m p [] = unready_settles m p Waiting
wait_settles m p (byte ∷ rest) = refl

number_settles : (m : State) (p : ℕ) (r : Result PageState ℕ) → all_settled (or_number m p r) ≡ or_number (all_settled m) p r
number_settles m p (Ok s) = answered_settles (with_pages m s) p 0
number_settles m p (Err n) = answered_settles m p n

denied_settles : (m : State) (p pc a : ℕ) (r : Result PageState ℕ) → all_settled (or_denied m p pc a r) ≡ or_denied (all_settled m) p pc a r
denied_settles m p pc a (Ok s) = answered_settles (with_pages m s) p 0
denied_settles m p pc a (Err n) = ap (λ (s : State). record s { log = (or_denied m p pc a (Err n)).log }) (answered_settles m p n)

logged_settles : (m : State) (k : ℕ) (r : Result PageState ℕ) → all_settled (or_logged m k r) ≡ or_logged (all_settled m) k r
logged_settles m k (Ok s) = refl
logged_settles m k (Err n) = refl

-- a call asks of the living only whether one lives
give_by : (l k : ℕ → Bool) (s : PageState) (caller a receiver to mode : ℕ) → l receiver ≡ k receiver → give l s caller a receiver to mode ≡ give k s caller a receiver to mode
give_by l k s caller a receiver to mode e = rw e refl

take_by : (l k : ℕ → Bool) (s : PageState) (caller p a : ℕ) → l p ≡ k p → take l s caller p a ≡ take k s caller p a
take_by l k s caller p a e = rw e refl

grant_by : (l k : ℕ → Bool) (s : PageState) (p a page : ℕ) (right : Right) (may : Bool) (rule : ℕ) → l p ≡ k p → grant l s p a page right may rule ≡ grant k s p a page right may rule
grant_by l k s p a page right may rule e = rw e refl

narrow_by : (l k : ℕ → Bool) (s : PageState) (p a : ℕ) → l p ≡ k p → narrow l s p a ≡ narrow k s p a
narrow_by l k s p a e = rw e refl

revoke_by : (l k : ℕ → Bool) (s : PageState) (p a rule : ℕ) → l p ≡ k p → revoke l s p a rule ≡ revoke k s p a rule
revoke_by l k s p a rule e = rw e refl

drop_by : (l k : ℕ → Bool) (s : PageState) (p a : ℕ) → l p ≡ k p → drop_by_command l s p a ≡ drop_by_command k s p a
drop_by l k s p a e = rw e refl

-- a call
pub served_settles : (m : State) (p pc : ℕ) (c : Call) → all_settled (served m p pc c) ≡ served (all_settled m) p pc c
served_settles m p pc call.Exit = ended_settles m p
served_settles m p pc (call.Put byte) = answered_settles (after_put m p byte) p 0 ∙ ap (λ (s : State). answered s p 0) (put_settles m p byte)
served_settles m p pc call.Get = get_settles m p (queue_of m p) ∙ ap (after_get (all_settled m) p) (sym (queue_settles m p))
served_settles m p pc call.Yield = ready_settles (answered m p 0) p ∙ ap (λ (s : State). made_ready s p) (answered_settles m p 0)
served_settles m p pc call.Time = answered_settles m p m.time
served_settles m p pc call.Own = answered_settles m p p
served_settles m p pc (call.Give a receiver to mode) =
    denied_settles m p pc a (give (lives m) m.memory p a receiver to mode)
    ∙ ap (or_denied (all_settled m) p pc a) (give_by (lives m) (lives (all_settled m)) m.memory p a receiver to mode (sym (lives_settles m receiver)))
served_settles m p pc (call.Take q a) =
    number_settles m p (take (lives m) m.memory p q a)
    ∙ ap (or_number (all_settled m) p) (take_by (lives m) (lives (all_settled m)) m.memory p q a (sym (lives_settles m q)))
served_settles m p pc (call.Drop a) = number_settles m p (drop_own m.memory p a)
served_settles m p pc call.Wait =
    wait_settles (answered m p 0) p (queue_of m p)
    ∙ ap₂ (λ (s : State) (q : List ℕ). after_wait s p q) (answered_settles m p 0) (sym (queue_settles m p))
served_settles m p pc call.Unknown = answered_settles m p (2 ^ 32 - 1)

if_settles : (b : Bool) (f : State → State) (m s t : State) → all_settled s ≡ f s → all_settled t ≡ f t → all_settled (cond b s t) ≡ f (cond b s t)
if_settles true f m s t e g = e
if_settles false f m s t e g = g

resume_by : (a b : Bool) (m : State) (k p : ℕ) → all_settled (cond a (refuse_command m k 12) (cond b (refuse_command m k 15) (made_ready m p))) ≡ cond a (refuse_command (all_settled m) k 12) (cond b (refuse_command (all_settled m) k 15) (made_ready (all_settled m) p))
resume_by true b m k p = refl
resume_by false true m k p = refl
resume_by false false m k p = ready_settles m p

stop_by : (a : Bool) (m : State) (k p : ℕ) → all_settled (cond a (refuse_command m k 12) (ended m p)) ≡ cond a (refuse_command (all_settled m) k 12) (ended (all_settled m) p)
stop_by true m k p = refl
stop_by false m k p = ended_settles m p

-- a command
pub command_settles : (m : State) (k : ℕ) (c : Command) → all_settled (after_command m k c) ≡ after_command (all_settled m) k c
command_settles m k (command.Grant p a page right may) = logged_settles m k _ ∙ ap (or_logged (all_settled m) k) (grant_by (lives m) (lives (all_settled m)) m.memory p a page right may (1000 + k) (sym (lives_settles m p)))
command_settles m k (command.Narrow p a) = logged_settles m k _ ∙ ap (or_logged (all_settled m) k) (narrow_by (lives m) (lives (all_settled m)) m.memory p a (sym (lives_settles m p)))
command_settles m k (command.Revoke p a) = logged_settles m k _ ∙ ap (or_logged (all_settled m) k) (revoke_by (lives m) (lives (all_settled m)) m.memory p a (1000 + k) (sym (lives_settles m p)))
command_settles m k (command.Drop p a) = logged_settles m k _ ∙ ap (or_logged (all_settled m) k) (drop_by (lives m) (lives (all_settled m)) m.memory p a (sym (lives_settles m p)))
command_settles m k (command.Resume p) =
    resume_by (not (lives m p)) (not (is_parked (process_of m p).standing)) m k p
    ∙ ap₂ (λ (a b : Bool). cond (not a) (refuse_command (all_settled m) k 12) (cond (not b) (refuse_command (all_settled m) k 15) (made_ready (all_settled m) p))) (sym (lives_settles m p)) (sym (ap (λ (q : Process). is_parked q.standing) (of_settled m p)))
command_settles m k (command.Stop p) =
    stop_by (not (lives m p)) m k p
    ∙ ap (λ (a : Bool). cond (not a) (refuse_command (all_settled m) k 12) (ended (all_settled m) p)) (sym (lives_settles m p))

pub commands_settle : (m : State) (cs : List TimedCommand) → all_settled (after_commands m cs) ≡ after_commands (all_settled m) cs
commands_settle m [] = refl
commands_settle m (c ∷ rest) = commands_settle (after_command m c.number c.command) rest ∙ ap (λ (s : State). after_commands s rest) (command_settles m c.number c.command)

-- Stops.

registers_settle : (m : State) (p : ℕ) (r : Registers) → all_settled (with_registers m p r) ≡ with_registers (all_settled m) p (settled r)
registers_settle m p r =
    with_settled m p (record (process_of m p) { registers = r })
    ∙ ap (λ (q : Process). with_process (all_settled m) p (record q { registers = settled r })) (sym (of_settled m p))

-- to finish the load of one process first changes nothing
pub settle_settles : (m : State) (p : ℕ) → all_settled (settle m p) ≡ settle (all_settled m) p
settle_settles m p =
    registers_settle m p (settled (process_of m p).registers)
    ∙ ap (λ (q : Process). with_registers (all_settled m) p (settled q.registers)) (sym (of_settled m p))

at_pc_settles : (m : State) (p pc : ℕ) → all_settled (at_pc m p pc) ≡ at_pc (all_settled m) p pc
at_pc_settles m p pc =
    with_settled m p (record (process_of m p) { pc = pc })
    ∙ ap (λ (q : Process). with_process (all_settled m) p (record q { pc = pc })) (sym (of_settled m p))

pub parked_settles : (m : State) (p unit pc : ℕ) (stop : Stop) → all_settled (parked m p unit pc stop) ≡ parked (all_settled m) p unit pc stop
parked_settles m p unit pc stop =
    let line = Denial m.time p pc stop.kind stop.address stop.rule stop.code in
    ap (λ (s : State). ticked 1 (logged s line))
    (at_pc_settles (settle (made_unready m p Parked) p) p unit
    ∙ ap (λ (s : State). at_pc s p unit) (settle_settles (made_unready m p Parked) p ∙ ap (λ (s : State). settle s p) (unready_settles m p Parked)))

call_settles : (m : State) (p : ℕ) → call_of (process_of (all_settled m) p).registers.general ≡ call_of (process_of m p).registers.general
call_settles m p = ap (λ (q : Process). call_of q.registers.general) (of_settled m p)

pub after_call_settles : (m : State) (p pc : ℕ) → all_settled (after_call m p pc) ≡ after_call (all_settled m) p pc
after_call_settles m p pc =
    let afterwards : State = at_pc (settle m p) p (word (pc + 4)) in
    let settles : all_settled afterwards ≡ at_pc (settle (all_settled m) p) p (word (pc + 4)) =
    at_pc_settles (settle m p) p (word (pc + 4)) ∙ ap (λ (s : State). at_pc s p (word (pc + 4))) (settle_settles m p) in
    ap (ticked 1)
    (served_settles afterwards p pc (call_of (process_of afterwards p).registers.general)
    ∙ (ap (served (all_settled afterwards) p pc) (sym (call_settles afterwards p))
    ∙ ap (λ (s : State). served s p pc (call_of (process_of s p).registers.general)) settles))
