-- A boundary, and late loads that are finished before or after it.
use Rattle.std.proofs.Common.{◌≡◌, ℕ, zero, suc, ◌+◌, Bool, true, false, cond, List, [], ◌∷◌, length, map, take, filter, not, nat_le, Option, Some, None, refl, sym, ap, ap₂, ◌∙◌}
use Rattle.std.proofs.lemmas.List.{length-map}
use Rattle.ds_policy.specs.declared.command.TimedCommand.{TimedCommand}
use Rattle.ds_policy.specs.declared.command.Character.{Character}
use Rattle.ds_policy.specs.Grants.{PageState}
use Rattle.ds_policy.specs.Ends.{expired}
use Rattle.ds_pagemap.specs.declared.turn.Turn.{Turn}
use Rattle.ds_pagemap.specs.Machine.{State, made_ready, first}
use Rattle.ds_pagemap.specs.Boundary.{after_commands, all_queued, wakes, woken, has_passed, is_first, rotated, boundary_after, owed_boundary, boundary}
use Rattle.ds_pagemap.specs.Laws.{due}
use Rattle.ds_pagemap.proofs.Ends.{expired_same}
use Rattle.ds_pagemap_laws.specs.Settled.{settled_process, all_settled}
use Rattle.ds_pagemap_laws.specs.Due.{come, HasNothingToDo}
use Rattle.ds_pagemap_laws.proofs.Processes.{wakes_settles, if_ready_settles}
use Rattle.ds_pagemap_laws.proofs.Calls.{commands_settle}

pub woken_settles : (m : State) (p n : ℕ) → all_settled (woken m p n) ≡ woken (all_settled m) p n
woken_settles m p zero = refl
woken_settles m p (suc n) =
    woken_settles (cond (wakes m p) (made_ready m p) m) (p + 1) n
    ∙ ap (λ (s : State). woken s (p + 1) n) (if_ready_settles (wakes m p) m p ∙ ap (λ (b : Bool). cond b (made_ready (all_settled m) p) (all_settled m)) (sym (wakes_settles m p)))

pub rotated_settles : (m : State) (runner : Option ℕ) → all_settled (rotated m runner) ≡ rotated (all_settled m) runner
rotated_settles m None = refl
rotated_settles m (Some p) = if_ready_settles (is_first (first m.ready) p) m p

last_settles : (b : Bool) (m : State) (runner : Option ℕ) → all_settled (cond b (rotated m runner) m) ≡ cond b (rotated (all_settled m) runner) (all_settled m)
last_settles true m runner = rotated_settles m runner
last_settles false m runner = refl

-- what comes after the commands
abbrev afterwards : Turn → ℕ → ℕ → List Character → State → State
afterwards turn rate now characters m =
    let typed = record m { queues = all_queued m.queues (take 64 characters) } in
    let awake = woken typed 1 (length typed.processes) in
    cond (has_passed rate turn.began now) (rotated awake turn.runner) awake

past_settles : (turn : Turn) (rate now : ℕ) (characters : List Character) (m : State) → all_settled (afterwards turn rate now characters m) ≡ afterwards turn rate now characters (all_settled m)
past_settles turn rate now characters m =
    let typed : State = record m { queues = all_queued m.queues (take 64 characters) } in
    let count : length (map settled_process m.processes) ≡ length m.processes = length-map m.processes settled_process in
    last_settles (has_passed rate turn.began now) (woken typed 1 (length typed.processes)) turn.runner
    ∙ ap (λ (s : State). cond (has_passed rate turn.began now) (rotated s turn.runner) s) (woken_settles typed 1 (length typed.processes) ∙ ap (λ (n : ℕ). woken (all_settled typed) 1 n) (sym count))

-- the state at a boundary without the rights that have ended and the events that are due
abbrev waits : State → State
waits m = record m { memory = expired m.memory m.time; commands = filter (λ c. not (nat_le c.time m.time)) m.commands; characters = filter (λ c. not (nat_le c.time m.time)) m.characters; owed = None }

after_settles : (turn : Turn) (m : State) → all_settled (boundary_after turn m) ≡ boundary_after turn (all_settled m)
after_settles turn m =
    past_settles turn m.rate m.time (come m) (after_commands (waits m) (due m))
    ∙ ap (afterwards turn m.rate m.time (come m)) (commands_settle (waits m) (due m))

owed_settles : (o : Option Turn) (m : State) → all_settled (owed_boundary o m) ≡ owed_boundary o (all_settled m)
owed_settles None m = refl
owed_settles (Some turn) m = after_settles turn m

pub boundary_settles : (m : State) → all_settled (boundary m) ≡ boundary (all_settled m)
unfolding boundary
boundary_settles m = owed_settles m.owed m

-- Nobody wakes.
still : (m : State) (p n : ℕ) → ((q : ℕ) → wakes m q ≡ false) → woken m p n ≡ m
still m p zero asleep = refl
still m p (suc n) asleep = ap (λ (b : Bool). woken (cond b (made_ready m p) m) (p + 1) n) (asleep p) ∙ still m (p + 1) n asleep

-- where no element passes a test, each fails it
all_later : {X : Type 0} (p : X → Bool) (xs : List X) → filter p xs ≡ [] → filter (λ x. not (p x)) xs ≡ xs
all_later p [] e = refl
all_later p (x ∷ xs) e = step (p x) x (filter p xs) xs (filter (λ y. not (p y)) xs) e (all_later p xs)
  where
    step : {X : Type 0} (b : Bool) (x : X) (kept rest others : List X) → cond b (x ∷ kept) kept ≡ [] → (kept ≡ [] → others ≡ rest) → cond (not b) (x ∷ others) others ≡ x ∷ rest
    step true x kept rest others e more = absurd cc
    step false x kept rest others e more = ap (λ l. x ∷ l) (more e)

-- Nothing is due, no right has ended, nobody wakes and no period has ended: the boundary owes nothing more, and that is all.
pub quiet_boundary : (m : State) (turn : Turn) → m.owed ≡ Some turn → HasNothingToDo turn m → boundary m ≡ record m { owed = None }
unfolding boundary
quiet_boundary m turn o nothing =
    ap (λ (x : Option Turn). owed_boundary x m) o
    ∙ (ap (λ (s : PageState). by s (due m) (filter (λ c. not (nat_le c.time m.time)) m.commands) (come m) (filter (λ c. not (nat_le c.time m.time)) m.characters)) (expired_same m.memory m.time nothing.ends)
    ∙ (ap₂ (λ (cs : List TimedCommand) (ls : List TimedCommand). by m.memory cs ls (come m) (filter (λ c. not (nat_le c.time m.time)) m.characters)) nothing.commands (all_later (λ c. nat_le c.time m.time) m.commands nothing.commands)
    ∙ (ap₂ (λ (xs ys : List Character). by m.memory [] m.commands xs ys) nothing.characters (all_later (λ c. nat_le c.time m.time) m.characters nothing.characters)
    ∙ (ap (λ (b : Bool). cond b (rotated (woken (record m { owed = None }) 1 (length m.processes)) turn.runner) (woken (record m { owed = None }) 1 (length m.processes))) nothing.period
    ∙ still (record m { owed = None }) 1 (length m.processes) nothing.asleep))))
  where
    by : PageState → List TimedCommand → List TimedCommand → List Character → List Character → State
    by s cs ls xs ys =
        let served = after_commands (record m { memory = s; commands = ls; characters = ys; owed = None }) cs in
        let typed = record served { queues = all_queued served.queues (take 64 xs) } in
        let awake = woken typed 1 (length typed.processes) in
        cond (has_passed m.rate turn.began m.time) (rotated awake turn.runner) awake
