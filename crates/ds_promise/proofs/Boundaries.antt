-- A boundary makes twins of twins.
use Rattle.std.proofs.Common.{◌≡◌, ℕ, zero, suc, ◌+◌, ◌-◌, Bool, true, false, cond, List, [], ◌∷◌, refl, sym, ap, ap₂, ◌∙◌, subst, length}
use Rattle.std.specs.Prelude.{◌&&◌, not, nat_lt, nat_le, filter, take, Some, None, Option, Result, Ok, Err}
use Rattle.ds_policy.specs.declared.command.Command.{Command}
use Rattle.ds_policy.specs.declared.command.Command.TheVariants as command
use Rattle.ds_policy.specs.declared.command.TimedCommand.{TimedCommand}
use Rattle.ds_policy.specs.declared.command.Character.{Character}
use Rattle.ds_policy.specs.Grants.{PageState, grant, narrow, revoke, drop_by_command}
use Rattle.ds_policy.specs.Ends.{expired}
use Rattle.ds_log.specs.declared.line.Line.TheVariants.{Refused}
use Rattle.ds_procs.specs.declared.process.Standing.{Standing}
use Rattle.ds_pagemap.specs.declared.turn.Turn.{Turn}
use Rattle.ds_pagemap.specs.Machine.{State, Process, process_of, lives, is_parked, is_waiting, made_ready, first}
use Rattle.ds_pagemap.specs.Calls.{or_logged, refuse_command, after_command, ended}
use Rattle.ds_pagemap.specs.Boundary.{after_commands, all_queued, wakes, woken, has_passed, is_first, rotated, boundary_after, owed_boundary, boundary}
use Rattle.ds_promise.specs.Inner.Twins.{AreTwins, IsTwin}
use Rattle.ds_promise.proofs.Twins.{twin, same, via, logged_alike, ready_alike}
use Rattle.ds_promise.proofs.Units.{lives_alike, pages_alike, ended_alike, queue_alike}

refuse_alike : (a : State) (qs : List Process) (k number : ℕ) → AreTwins a.processes qs → IsTwin (refuse_command a k number) (refuse_command (twin a qs) k number)
refuse_alike a qs k number t = logged_alike a (twin a qs) (Refused a.time k number) (same a qs t)

or_logged_alike : (a : State) (qs : List Process) (k : ℕ) (r : Result PageState ℕ) → AreTwins a.processes qs → IsTwin (or_logged a k r) (or_logged (twin a qs) k r)
or_logged_alike a qs k (Ok s) t = pages_alike a (twin a qs) s (same a qs t)
or_logged_alike a qs k (Err number) t = refuse_alike a qs k number t

-- a command that asks who lives
asked : (a : State) (qs : List Process) (k : ℕ) (f : (ℕ → Bool) → Result PageState ℕ) → AreTwins a.processes qs → IsTwin (or_logged a k (f (lives a))) (or_logged (twin a qs) k (f (lives (twin a qs))))
asked a qs k f t = subst (λ (alive : ℕ → Bool). IsTwin (or_logged a k (f (lives a))) (or_logged (twin a qs) k (f alive))) (sym (lives_alike a qs t)) (or_logged_alike a qs k (f (lives a)) t)

resumed_by : (a : State) (qs : List Process) (k p : ℕ) (alive parked : Bool) → AreTwins a.processes qs
    → IsTwin (cond (not alive) (refuse_command a k 12) (cond (not parked) (refuse_command a k 15) (made_ready a p)))
    (cond (not alive) (refuse_command (twin a qs) k 12) (cond (not parked) (refuse_command (twin a qs) k 15) (made_ready (twin a qs) p)))
resumed_by a qs k p false parked t = refuse_alike a qs k 12 t
resumed_by a qs k p true false t = refuse_alike a qs k 15 t
resumed_by a qs k p true true t = ready_alike a (twin a qs) p (same a qs t)

stopped_by : (a : State) (qs : List Process) (k p : ℕ) (alive : Bool) → AreTwins a.processes qs
    → IsTwin (cond (not alive) (refuse_command a k 12) (ended a p)) (cond (not alive) (refuse_command (twin a qs) k 12) (ended (twin a qs) p))
stopped_by a qs k p false t = refuse_alike a qs k 12 t
stopped_by a qs k p true t = ended_alike a (twin a qs) p (same a qs t)

command_alike : (a : State) (qs : List Process) (k : ℕ) (c : Command) → AreTwins a.processes qs → IsTwin (after_command a k c) (after_command (twin a qs) k c)
command_alike a qs k (command.Grant p address page right give) t = asked a qs k (λ alive. grant alive a.memory p address page right give (1000 + k)) t
command_alike a qs k (command.Narrow p address) t = asked a qs k (λ alive. narrow alive a.memory p address) t
command_alike a qs k (command.Revoke p address) t = asked a qs k (λ alive. revoke alive a.memory p address (1000 + k)) t
command_alike a qs k (command.Drop p address) t = asked a qs k (λ alive. drop_by_command alive a.memory p address) t
command_alike a qs k (command.Resume p) t =
    subst (λ (alive : ℕ → Bool). IsTwin (after_command a k (command.Resume p)) (cond (not (alive p)) (refuse_command (twin a qs) k 12) (cond (not (is_parked (process_of (twin a qs) p).standing)) (refuse_command (twin a qs) k 15) (made_ready (twin a qs) p)))) (sym (lives_alike a qs t))
    (subst (λ (s : Standing). IsTwin (after_command a k (command.Resume p)) (cond (not (lives a p)) (refuse_command (twin a qs) k 12) (cond (not (is_parked s)) (refuse_command (twin a qs) k 15) (made_ready (twin a qs) p)))) ((t.each (p - 1)).standing)
    (resumed_by a qs k p (lives a p) (is_parked (process_of a p).standing) t))
command_alike a qs k (command.Stop p) t =
    subst (λ (alive : ℕ → Bool). IsTwin (after_command a k (command.Stop p)) (cond (not (alive p)) (refuse_command (twin a qs) k 12) (ended (twin a qs) p))) (sym (lives_alike a qs t))
    (stopped_by a qs k p (lives a p) t)

commands_alike : (a b : State) (cs : List TimedCommand) → IsTwin a b → IsTwin (after_commands a cs) (after_commands b cs)
commands_alike a b [] k = k
commands_alike a b (c ∷ rest) k = commands_alike (after_command a c.number c.command) (after_command b c.number c.command) rest (via (λ m. after_command m c.number c.command) a b (λ qs t. command_alike a qs c.number c.command t) k)

typed_alike : (a b : State) (cs : List Character) → IsTwin a b → IsTwin (record a { queues = all_queued a.queues cs }) (record b { queues = all_queued b.queues cs })
typed_alike a b cs = via (λ m. record m { queues = all_queued m.queues cs }) a b (λ qs t. record { processes = qs; is = refl; twins = t })

wakes_alike : (a : State) (qs : List Process) (p : ℕ) → AreTwins a.processes qs → wakes (twin a qs) p ≡ wakes a p
wakes_alike a qs p t = ap₂ (λ (s : Standing) (queue : List ℕ). is_waiting s && nat_lt 0 (length queue)) (sym ((t.each (p - 1)).standing)) (queue_alike a qs p t)

woken_once : (a : State) (qs : List Process) (p : ℕ) (b : Bool) → AreTwins a.processes qs → IsTwin (cond b (made_ready a p) a) (cond b (made_ready (twin a qs) p) (twin a qs))
woken_once a qs p true t = ready_alike a (twin a qs) p (same a qs t)
woken_once a qs p false t = same a qs t

woken_one : (a : State) (qs : List Process) (p : ℕ) → AreTwins a.processes qs → IsTwin (cond (wakes a p) (made_ready a p) a) (cond (wakes (twin a qs) p) (made_ready (twin a qs) p) (twin a qs))
woken_one a qs p t = subst (λ (b : Bool). IsTwin (cond (wakes a p) (made_ready a p) a) (cond b (made_ready (twin a qs) p) (twin a qs))) (sym (wakes_alike a qs p t)) (woken_once a qs p (wakes a p) t)

woken_alike : (a b : State) (p n : ℕ) → IsTwin a b → IsTwin (woken a p n) (woken b p n)
woken_alike a b p zero k = k
woken_alike a b p (suc n) k = woken_alike (cond (wakes a p) (made_ready a p) a) (cond (wakes b p) (made_ready b p) b) (p + 1) n (via (λ m. cond (wakes m p) (made_ready m p) m) a b (λ qs t. woken_one a qs p t) k)

all_woken : (a b : State) → IsTwin a b → IsTwin (woken a 1 (length a.processes)) (woken b 1 (length b.processes))
all_woken a b k = subst (λ (n : ℕ). IsTwin (woken a 1 (length a.processes)) (woken b 1 n)) (k.twins.size ∙ ap (λ (m : State). length m.processes) (sym k.is)) (woken_alike a b 1 (length a.processes) k)

rotated_by : (a : State) (qs : List Process) (p : ℕ) (b : Bool) → AreTwins a.processes qs → IsTwin (cond b (made_ready a p) a) (cond b (made_ready (twin a qs) p) (twin a qs))
rotated_by a qs p b t = woken_once a qs p b t

rotated_alike : (a b : State) (runner : Option ℕ) → IsTwin a b → IsTwin (rotated a runner) (rotated b runner)
rotated_alike a b None k = k
rotated_alike a b (Some p) k = via (λ m. rotated m (Some p)) a b (λ qs t. rotated_by a qs p (is_first (first a.ready) p) t) k

passed_by : (a b : State) (runner : Option ℕ) (passed : Bool) → IsTwin a b → IsTwin (cond passed (rotated a runner) a) (cond passed (rotated b runner) b)
passed_by a b runner true k = rotated_alike a b runner k
passed_by a b runner false k = k

after_turn : (m : State) (qs : List Process) (turn : Turn) → AreTwins m.processes qs → IsTwin (boundary_after turn m) (boundary_after turn (twin m qs))
after_turn m qs turn t =
    let due = filter (λ (c : TimedCommand). nat_le c.time m.time) m.commands in
    let characters = filter (λ (c : Character). nat_le c.time m.time) m.characters in
    let later : State = record m { memory = expired m.memory m.time; commands = filter (λ (c : TimedCommand). not (nat_le c.time m.time)) m.commands; characters = filter (λ (c : Character). not (nat_le c.time m.time)) m.characters; owed = None } in
    passed_by _ _ turn.runner (has_passed m.rate turn.began m.time)
    (all_woken _ _ (typed_alike _ _ (take 64 characters) (commands_alike later (twin later qs) due (same later qs t))))

owed_by : (m : State) (qs : List Process) (owed : Option Turn) → AreTwins m.processes qs → IsTwin (owed_boundary owed m) (owed_boundary owed (twin m qs))
owed_by m qs None t = same m qs t
owed_by m qs (Some turn) t = after_turn m qs turn t

pub boundary_alike : (m : State) (qs : List Process) → AreTwins m.processes qs → IsTwin (boundary m) (boundary (twin m qs))
unfolding boundary
boundary_alike m qs t = owed_by m qs m.owed t
