-- A boundary takes what is due from the events, and leaves the rest in order.
use Rattle.std.proofs.Common.{◌≡◌, ℕ, zero, suc, ◌+◌, Bool, true, false, cond, not, nat_le, List, [], ◌∷◌, length, take, filter, Option, Some, None, Result, Ok, Err, refl, sym, ◌∙◌, subst}
use Rattle.std.specs.List.Sorted.{IsNonDecreasingBy}
use Rattle.std.proofs.lemmas.List.Sorted.{IsNonDecreasingBy-drop}
use Rattle.ds_policy.specs.declared.command.Command.{Command}
use Rattle.ds_policy.specs.declared.command.Command.TheVariants as command
use Rattle.ds_policy.specs.declared.command.TimedCommand.{TimedCommand}
use Rattle.ds_policy.specs.InputFacts.{has_time, comes_at}
use Rattle.ds_policy.specs.Ends.{expired}
use Rattle.ds_policy.specs.Grants.{PageState, grant, narrow, revoke, drop_by_command}
use Rattle.ds_pagemap.specs.declared.turn.Turn.{Turn}
use Rattle.ds_pagemap.specs.Machine.{State, first, process_of, lives, is_parked, made_ready}
use Rattle.ds_pagemap.specs.Calls.{or_logged, refuse_command, after_command, ended}
use Rattle.ds_pagemap.specs.Boundary.{after_commands, all_queued, wakes, woken, has_passed, is_first, rotated, boundary_after, owed_boundary, boundary}
use Rattle.ds_pagemap.specs.Laws.{due}
use Rattle.ds_pagemap_laws.specs.Due.{IsInOrder, come, due_count}
use Rattle.ds_pagemap_laws.proofs.Due.{splits}

-- the same events are still to come
record SameEvents (m t : State) : Type 0 where
  commands : t.commands ≡ m.commands
  characters : t.characters ≡ m.characters

same : (m : State) → SameEvents m m
same m = record { commands = refl; characters = refl }

then : (m s t : State) → SameEvents m s → SameEvents s t → SameEvents m t
then m s t a b = record { commands = b.commands ∙ a.commands; characters = b.characters ∙ a.characters }

either_same : (b : Bool) (m s t : State) → SameEvents m s → SameEvents m t → SameEvents m (cond b s t)
either_same true m s t k l = k
either_same false m s t k l = l

logged_same : (m : State) (n : ℕ) (r : Result PageState ℕ) → SameEvents m (or_logged m n r)
logged_same m n (Ok s) = record { commands = refl; characters = refl }
logged_same m n (Err number) = record { commands = refl; characters = refl }

command_same : (m : State) (n : ℕ) (c : Command) → SameEvents m (after_command m n c)
command_same m n (command.Grant p a page right may) = logged_same m n (grant (lives m) m.memory p a page right may (1000 + n))
command_same m n (command.Narrow p a) = logged_same m n (narrow (lives m) m.memory p a)
command_same m n (command.Revoke p a) = logged_same m n (revoke (lives m) m.memory p a (1000 + n))
command_same m n (command.Drop p a) = logged_same m n (drop_by_command (lives m) m.memory p a)
command_same m n (command.Resume p) =
    either_same (not (lives m p)) m (refuse_command m n 12) _ (record { commands = refl; characters = refl })
    (either_same (not (is_parked (process_of m p).standing)) m (refuse_command m n 15) (made_ready m p) (record { commands = refl; characters = refl }) (record { commands = refl; characters = refl }))
command_same m n (command.Stop p) = either_same (not (lives m p)) m (refuse_command m n 12) (ended m p) (record { commands = refl; characters = refl }) (record { commands = refl; characters = refl })

commands_same : (m : State) (cs : List TimedCommand) → SameEvents m (after_commands m cs)
commands_same m [] = same m
commands_same m (c ∷ rest) = then m (after_command m c.number c.command) (after_commands (after_command m c.number c.command) rest) (command_same m c.number c.command) (commands_same (after_command m c.number c.command) rest)

ready_same : (b : Bool) (m : State) (p : ℕ) → SameEvents m (cond b (made_ready m p) m)
ready_same b m p = either_same b m (made_ready m p) m (record { commands = refl; characters = refl }) (same m)

woken_same : (m : State) (p n : ℕ) → SameEvents m (woken m p n)
woken_same m p zero = same m
woken_same m p (suc n) = let next = cond (wakes m p) (made_ready m p) m in then m next (woken next (p + 1) n) (ready_same (wakes m p) m p) (woken_same next (p + 1) n)

rotated_same : (m : State) (runner : Option ℕ) → SameEvents m (rotated m runner)
rotated_same m None = same m
rotated_same m (Some p) = ready_same (is_first (first m.ready) p) m p

-- a boundary leaves the events that come later
after_same : (turn : Turn) (m : State) → SameEvents (record m { commands = filter (λ c. not (nat_le c.time m.time)) m.commands; characters = filter (λ c. not (nat_le c.time m.time)) m.characters }) (boundary_after turn m)
after_same turn m =
    let waits : State = record m { memory = expired m.memory m.time; commands = filter (λ c. not (nat_le c.time m.time)) m.commands; characters = filter (λ c. not (nat_le c.time m.time)) m.characters; owed = None } in
    let served : State = after_commands waits (due m) in
    let typed : State = record served { queues = all_queued served.queues (take 64 (come m)) } in
    let awake : State = woken typed 1 (length typed.processes) in
    let until : SameEvents served awake = then served typed awake (record { commands = refl; characters = refl }) (woken_same typed 1 (length typed.processes)) in
    let done : SameEvents waits (boundary_after turn m) =
    then waits served (boundary_after turn m) (commands_same waits (due m))
    (either_same (has_passed m.rate turn.began m.time) served (rotated awake turn.runner) awake (then served awake (rotated awake turn.runner) until (rotated_same awake turn.runner)) until) in
    record { commands = done.commands; characters = done.characters }

after_ordered : (turn : Turn) (m : State) → IsInOrder m → IsInOrder (boundary_after turn m)
after_ordered turn m k =
    let is = after_same turn m in
    record {
      commands = subst (IsNonDecreasingBy has_time) (sym (is.commands ∙ (splits has_time m.time m.commands k.commands).rest)) (IsNonDecreasingBy-drop has_time (due_count has_time m.time m.commands) m.commands k.commands);
      characters = subst (IsNonDecreasingBy comes_at) (sym (is.characters ∙ (splits comes_at m.time m.characters k.characters).rest)) (IsNonDecreasingBy-drop comes_at (due_count comes_at m.time m.characters) m.characters k.characters);
    }

owed_ordered : (o : Option Turn) (m : State) → IsInOrder m → IsInOrder (owed_boundary o m)
owed_ordered None m k = k
owed_ordered (Some turn) m k = after_ordered turn m k

pub boundary_ordered : (m : State) → IsInOrder m → IsInOrder (boundary m)
unfolding boundary
boundary_ordered m k = owed_ordered m.owed m k
