-- A silent line stays silent: no character waits there, and none is to come, whoever runs and whatever is due.
use Rattle.std.proofs.Common.{◌≡◌, ◌≢◌, ℕ, zero, suc, ◌+◌, ◌<◌, ◌≤◌, Bool, true, false, cond, not, List, [], ◌∷◌, ◌++◌, take, filter, length, Option, Some, None, Result, Ok, Err, refl, sym, ap, ◌∙◌, subst}
use Rattle.std.specs.Prelude.{nat_lt, nat_le, slice_set, slice_index_or}
use Rattle.std.specs.List.{All}
use Rattle.std.proofs.lemmas.List.{get_or-set_other}
use Rattle.std.proofs.lemmas.List.Elements.{All-head, All-tail, All-take, All-filter}
use Rattle.ds_word.specs.Word.{word}
use Rattle.ds_procs.specs.declared.call.Call.{Call}
use Rattle.ds_procs.specs.declared.call.Call.TheVariants as call
use Rattle.ds_procs.specs.Calls.{call_of}
use Rattle.ds_policy.specs.declared.command.Character.{Character}
use Rattle.ds_policy.specs.declared.command.Command.{Command}
use Rattle.ds_policy.specs.declared.command.Command.TheVariants as command
use Rattle.ds_policy.specs.declared.command.TimedCommand.{TimedCommand}
use Rattle.ds_policy.specs.Grants.{PageState, give, take as take_back, drop_own, grant, narrow, revoke, drop_by_command}
use Rattle.ds_pagemap.specs.declared.turn.Turn.{Turn}
use Rattle.ds_pagemap.specs.Machine.{State, Process, process_of, lives, is_parked, first, made_ready}
use Rattle.ds_pagemap.specs.Calls.{served, or_number, or_denied, answered, after_get, after_wait, queue_of, after_command, or_logged, refuse_command, ended}
use Rattle.ds_pagemap.specs.Unit.{Outcome, Went, Branched, Called, Stopped, instruction, after_slot, after_instruction, unit_of_first, unit}
use Rattle.ds_pagemap.specs.Boundary.{after_commands, queued, all_queued, wakes, woken, has_passed, is_first, rotated, boundary_after, boundary, owed_boundary}
use Rattle.ds_pagemap.specs.Laws.{due}
use Rattle.ds_pagemap_laws.proofs.Formed.{still_within}
use Rattle.ds_promise.specs.Seen.{Action, Computes, Jumps, WritesWord, MakesCall, Stops, carried_out}
use Rattle.ds_promise.proofs.Lines.{after_the_call}
use Rattle.ds_promise.proofs.Seen.{one_action, looks_like_itself}
use Rattle.ds_promise.proofs.Stores.{found_by}
use Rattle.ds_alone.specs.Alone.{HasSilentLine, HearsNothing, NothingWaits}
use Rattle.ds_alone.proofs.Lines.{unit_wrote, idle_silent, boundary_silent}

-- the characters that wait on line l
abbrev waiting : State → ℕ → List ℕ
waiting m l = slice_index_or m.queues l []

-- the characters that are to come stay, and where none waits on line l none comes to it
record Hushed (l : ℕ) (m t : State) : Type 0 where
  characters : t.characters ≡ m.characters
  empty : waiting m l ≡ [] → waiting t l ≡ []

-- no queue changes, nor what is to come
record SameKeys (m t : State) : Type 0 where
  queues : t.queues ≡ m.queues
  characters : t.characters ≡ m.characters

hushed : (l : ℕ) (m t : State) → SameKeys m t → Hushed l m t
hushed l m t s = record { characters = s.characters; empty = λ e. ap (λ (qs : List (List ℕ)). slice_index_or qs l []) s.queues ∙ e }

same : (m : State) → SameKeys m m
same m = record { queues = refl; characters = refl }

then : (m t u : State) → SameKeys m t → SameKeys t u → SameKeys m u
then m t u a b = record { queues = b.queues ∙ a.queues; characters = b.characters ∙ a.characters }

either : (c : Bool) (m s t : State) → SameKeys m s → SameKeys m t → SameKeys m (cond c s t)
either true m s t x y = x
either false m s t x y = y

-- What process q does.
module _ (q : ℕ) where
  number_keys : (m : State) (r : Result PageState ℕ) → SameKeys m (or_number m q r)
  number_keys m (Ok s) = record { queues = refl; characters = refl }
  number_keys m (Err number) = record { queues = refl; characters = refl }

  denied_keys : (m : State) (pc a : ℕ) (r : Result PageState ℕ) → SameKeys m (or_denied m q pc a r)
  denied_keys m pc a (Ok s) = record { queues = refl; characters = refl }
  denied_keys m pc a (Err number) = record { queues = refl; characters = refl }

  -- who gets a character has another line
  get_hushed : (l : ℕ) (m : State) (queue : List ℕ) → queue_of m q ≡ queue → Hushed l m (after_get m q queue)
  get_hushed l m [] is = record { characters = refl; empty = λ e. e }
  get_hushed l m (byte ∷ rest) is = record {
    characters = refl;
    empty = λ e. get_or-set_other m.queues (process_of m q).line l rest [] (λ (s : ◌≡◌ {A = ℕ} l (process_of m q).line). nothing byte rest (sym e ∙ (ap (waiting m) s ∙ is))) ∙ e;
  }
    where
      nothing : (byte : ℕ) (rest : List ℕ) → ◌≡◌ {A = List ℕ} [] (byte ∷ rest) → ⊥
      nothing byte rest e = cc

  wait_keys : (m : State) (queue : List ℕ) → SameKeys m (after_wait m q queue)
  wait_keys m [] = record { queues = refl; characters = refl }
  wait_keys m (byte ∷ rest) = same m

  served_hushed : (l : ℕ) (m : State) (pc : ℕ) (c : Call) → Hushed l m (served m q pc c)
  served_hushed l m pc call.Exit = hushed l m _ (record { queues = refl; characters = refl })
  served_hushed l m pc (call.Put byte) = hushed l m _ (record { queues = refl; characters = refl })
  served_hushed l m pc call.Get = get_hushed l m (queue_of m q) refl
  served_hushed l m pc call.Yield = hushed l m _ (record { queues = refl; characters = refl })
  served_hushed l m pc call.Time = hushed l m _ (record { queues = refl; characters = refl })
  served_hushed l m pc call.Own = hushed l m _ (record { queues = refl; characters = refl })
  served_hushed l m pc (call.Give a receiver to mode) = hushed l m _ (denied_keys m pc a (give (lives m) m.memory q a receiver to mode))
  served_hushed l m pc (call.Take r a) = hushed l m _ (number_keys m (take_back (lives m) m.memory q r a))
  served_hushed l m pc (call.Drop a) = hushed l m _ (number_keys m (drop_own m.memory q a))
  served_hushed l m pc call.Wait = hushed l m _ (then m (answered m q 0) _ (record { queues = refl; characters = refl }) (wait_keys (answered m q 0) (queue_of m q)))
  served_hushed l m pc call.Unknown = hushed l m _ (record { queues = refl; characters = refl })

  -- after a branch its process is still there
  abbrev OutcomeKeys : State → Outcome → Type 0
  OutcomeKeys m (Went t) = SameKeys m t
  OutcomeKeys m (Branched t target) = SameKeys m t × (q ≤ length t.processes)
  OutcomeKeys m Called = Unit {0}
  OutcomeKeys m (Stopped stop) = Unit {0}

  action_keys : (m : State) (a : Action) → q ≤ length m.processes → OutcomeKeys m (carried_out m q a)
  action_keys m (Computes r) within = record { queues = refl; characters = refl }
  action_keys m (Jumps r target) within = (record { queues = refl; characters = refl }, still_within m q q _ within)
  action_keys m (WritesWord page offset w) within = record { queues = refl; characters = refl }
  action_keys m MakesCall within = tt
  action_keys m (Stops stop) within = tt

  instruction_keys : (m : State) (pc : ℕ) → 0 < q → q ≤ length m.processes → OutcomeKeys m (instruction m q pc)
  instruction_keys m pc above within = let a = one_action q pc m m (looks_like_itself q m above within) in subst (OutcomeKeys m) (sym a.here) (action_keys m a.action within)

  slot_keys : (m : State) (a pc target : ℕ) (o : Outcome) → OutcomeKeys m o → SameKeys m (after_slot m q a pc target o)
  slot_keys m a pc target (Went t) b = record { queues = b.queues; characters = b.characters }
  slot_keys m a pc target (Branched t next) b = record { queues = refl; characters = refl }
  slot_keys m a pc target Called b = record { queues = refl; characters = refl }
  slot_keys m a pc target (Stopped stop) b = record { queues = refl; characters = refl }

  after_hushed : (l : ℕ) (m : State) (pc : ℕ) (o : Outcome) → 0 < q → OutcomeKeys m o → Hushed l m (after_instruction m q pc o)
  after_hushed l m pc (Went t) above b = hushed l m _ (record { queues = b.queues; characters = b.characters })
  after_hushed l m pc (Branched t target) above b =
      let slot = word (pc + 4) in
      hushed l m _ (then m t _ b.0 (slot_keys t pc slot target (instruction t q slot) (instruction_keys t slot above b.1)))
  after_hushed l m pc Called above b =
      let next = after_the_call m q pc in
      let h = served_hushed l next pc (call_of (process_of next q).registers.general) in
      record { characters = h.characters; empty = h.empty }
  after_hushed l m pc (Stopped stop) above b = hushed l m _ (record { queues = refl; characters = refl })

  unit_hushed : (l : ℕ) (m : State) (rest : List ℕ) → m.ready ≡ q ∷ rest → 0 < q → q ≤ length m.processes → Hushed l m (unit m)
  unfolding unit
  unit_hushed l m rest here above within =
      let pc = (process_of m q).pc in
      let h = after_hushed l m pc (instruction m q pc) above (instruction_keys m pc above within) in
      let c : Hushed l m (unit_of_first m m.ready) = subst (λ (ready : List ℕ). Hushed l m (unit_of_first m ready)) (sym here) h in
      record { characters = c.characters; empty = c.empty }

idle_hushed : (l : ℕ) (m : State) → m.ready ≡ [] → Hushed l m (unit m)
unfolding unit
idle_hushed l m here =
    let c : Hushed l m (unit_of_first m m.ready) = subst (λ (ready : List ℕ). Hushed l m (unit_of_first m ready)) (sym here) (record { characters = refl; empty = λ e. e }) in
    record { characters = c.characters; empty = c.empty }

-- Boundaries.

logged_keys : (m : State) (k : ℕ) (r : Result PageState ℕ) → SameKeys m (or_logged m k r)
logged_keys m k (Ok s) = record { queues = refl; characters = refl }
logged_keys m k (Err number) = record { queues = refl; characters = refl }

command_keys : (m : State) (k : ℕ) (c : Command) → SameKeys m (after_command m k c)
command_keys m k (command.Grant q a page right may) = logged_keys m k (grant (lives m) m.memory q a page right may (1000 + k))
command_keys m k (command.Narrow q a) = logged_keys m k (narrow (lives m) m.memory q a)
command_keys m k (command.Revoke q a) = logged_keys m k (revoke (lives m) m.memory q a (1000 + k))
command_keys m k (command.Drop q a) = logged_keys m k (drop_by_command (lives m) m.memory q a)
command_keys m k (command.Resume q) =
    either (not (lives m q)) m (refuse_command m k 12) _ (record { queues = refl; characters = refl })
    (either (not (is_parked (process_of m q).standing)) m (refuse_command m k 15) (made_ready m q) (record { queues = refl; characters = refl }) (record { queues = refl; characters = refl }))
command_keys m k (command.Stop q) = either (not (lives m q)) m (refuse_command m k 12) (ended m q) (record { queues = refl; characters = refl }) (record { queues = refl; characters = refl })

commands_keys : (m : State) (cs : List TimedCommand) → SameKeys m (after_commands m cs)
commands_keys m [] = same m
commands_keys m (c ∷ rest) = then m (after_command m c.number c.command) _ (command_keys m c.number c.command) (commands_keys (after_command m c.number c.command) rest)

woken_keys : (m : State) (r n : ℕ) → SameKeys m (woken m r n)
woken_keys m r zero = same m
woken_keys m r (suc n) =
    let next = cond (wakes m r) (made_ready m r) m in
    then m next _ (either (wakes m r) m (made_ready m r) m (record { queues = refl; characters = refl }) (same m)) (woken_keys next (r + 1) n)

rotated_keys : (m : State) (runner : Option ℕ) → SameKeys m (rotated m runner)
rotated_keys m None = same m
rotated_keys m (Some r) = either (is_first (first m.ready) r) m (made_ready m r) m (record { queues = refl; characters = refl }) (same m)

-- characters of other lines
abbrev AreElsewhere : ℕ → List Character → Type 0
AreElsewhere l cs = All (λ (c : Character). c.line ≢ l) cs

queued_elsewhere : (qs : List (List ℕ)) (c : Character) (l : ℕ) → c.line ≢ l → slice_index_or (queued qs c) l [] ≡ slice_index_or qs l []
queued_elsewhere qs c l apart = by (nat_lt (length (slice_index_or qs c.line [])) 256)
  where
    by : (b : Bool) → slice_index_or (cond b (slice_set qs c.line (slice_index_or qs c.line [] ++ c.byte ∷ [])) qs) l [] ≡ slice_index_or qs l []
    by true = get_or-set_other qs c.line l (slice_index_or qs c.line [] ++ c.byte ∷ []) [] (λ (e : ◌≡◌ {A = ℕ} l c.line). apart (sym e))
    by false = refl

all_queued_elsewhere : (qs : List (List ℕ)) (cs : List Character) (l : ℕ) → AreElsewhere l cs → slice_index_or (all_queued qs cs) l [] ≡ slice_index_or qs l []
all_queued_elsewhere qs [] l k = refl
all_queued_elsewhere qs (c ∷ rest) l k =
    let P : Character → Type 0 = λ (c : Character). c.line ≢ l in
    all_queued_elsewhere (queued qs c) rest l (All-tail P c rest k) ∙ queued_elsewhere qs c l (All-head P c rest k)

-- the characters that a boundary puts into queues
abbrev typed_characters : State → List Character
typed_characters m = take 64 (filter (λ c. nat_le c.time m.time) m.characters)

-- the state of a boundary when commands are done and characters are in their queues
abbrev pub typed : State → State
typed m = let served = after_commands (found_by m) (due m) in record served { queues = all_queued served.queues (typed_characters m) }

-- where nothing comes to line l, nothing waits there then
typed_empty : (l : ℕ) (m : State) → AreElsewhere l m.characters → waiting m l ≡ [] → waiting (typed m) l ≡ []
typed_empty l m k e =
    let P : Character → Type 0 = λ (c : Character). c.line ≢ l in
    let served = after_commands (found_by m) (due m) in
    all_queued_elsewhere served.queues (typed_characters m) l (All-take P 64 (filter (λ c. nat_le c.time m.time) m.characters) (All-filter (λ c. nat_le c.time m.time) P m.characters k))
    ∙ (ap (λ (qs : List (List ℕ)). slice_index_or qs l []) (commands_keys (found_by m) (due m)).queues ∙ e)

-- what a boundary leaves of what is to come, and of a line to which nothing comes
record HushedBoundary (l : ℕ) (m t : State) : Type 0 where
  characters : t.characters ≡ filter (λ c. not (nat_le c.time m.time)) m.characters
  empty : waiting t l ≡ []

after_hushed_boundary : (l : ℕ) (turn : Turn) (m : State) → AreElsewhere l m.characters → waiting m l ≡ [] → HushedBoundary l m (boundary_after turn m)
after_hushed_boundary l turn m k e =
    let awake = woken (typed m) 1 (length (typed m).processes) in
    let w : SameKeys (typed m) awake = woken_keys (typed m) 1 (length (typed m).processes) in
    let s : SameKeys (typed m) (cond (has_passed m.rate turn.began m.time) (rotated awake turn.runner) awake) =
    either (has_passed m.rate turn.began m.time) (typed m) (rotated awake turn.runner) awake (then (typed m) awake _ w (rotated_keys awake turn.runner)) w in
    record {
      characters = s.characters ∙ (commands_keys (found_by m) (due m)).characters;
      empty = ap (λ (qs : List (List ℕ)). slice_index_or qs l []) s.queues ∙ typed_empty l m k e;
    }

boundary_hushed : (l : ℕ) (m : State) (turn : Turn) → m.owed ≡ Some turn → AreElsewhere l m.characters → waiting m l ≡ [] → HushedBoundary l m (boundary m)
unfolding boundary
boundary_hushed l m turn is k e = subst (λ (o : Option Turn). HushedBoundary l m (owed_boundary o m)) (sym is) (after_hushed_boundary l turn m k e)

-- One process's line.

-- the line of process p stays
abbrev LineStays : ℕ → State → State → Type 0
LineStays p m t = (process_of t p).line ≡ (process_of m p).line

still_silent : (p : ℕ) (m t : State) → LineStays p m t → Hushed (process_of m p).line m t → HasSilentLine p m → HasSilentLine p t
still_silent p m t line h s = record {
  queue = ap (waiting t) line ∙ h.empty s.queue;
  coming = subst (λ (cs : List Character). AreElsewhere (process_of t p).line cs) (sym h.characters) (subst (λ (l : ℕ). AreElsewhere l m.characters) (sym line) s.coming);
}

pub unit_silent : (p q : ℕ) (m : State) (rest : List ℕ) → m.ready ≡ q ∷ rest → 0 < q → q ≤ length m.processes → HasSilentLine p m → HasSilentLine p (unit m)
unit_silent p q m rest here above within s = still_silent p m (unit m) ((unit_wrote q m rest here above within).lines p) (unit_hushed q (process_of m p).line m rest here above within) s

pub idle_is_silent : (p : ℕ) (m : State) → m.ready ≡ [] → HasSilentLine p m → HasSilentLine p (unit m)
idle_is_silent p m here s = still_silent p m (unit m) ((idle_silent m here).lines p) (idle_hushed (process_of m p).line m here) s

pub boundary_is_silent : (p : ℕ) (m : State) (turn : Turn) → m.owed ≡ Some turn → HasSilentLine p m → HasSilentLine p (boundary m)
boundary_is_silent p m turn is s =
    let line : LineStays p m (boundary m) = (boundary_silent m turn is).lines p in
    let h = boundary_hushed (process_of m p).line m turn is s.coming s.queue in
    let P : Character → Type 0 = λ (c : Character). c.line ≢ (process_of m p).line in
    record {
      queue = ap (waiting (boundary m)) line ∙ h.empty;
      coming = subst (λ (cs : List Character). AreElsewhere (process_of (boundary m) p).line cs) (sym h.characters)
          (subst (λ (l : ℕ). AreElsewhere l (filter (λ c. not (nat_le c.time m.time)) m.characters)) (sym line) (All-filter (λ c. not (nat_le c.time m.time)) P m.characters s.coming));
    }

-- nobody wakes process p then
pub typed_is_silent : (p : ℕ) (m : State) → process_of (typed m) p ≡ process_of m p → HasSilentLine p m → queue_of (typed m) p ≡ []
typed_is_silent p m process s = ap (λ (x : Process). waiting (typed m) x.line) process ∙ typed_empty (process_of m p).line m s.coming s.queue

-- What waits.

pub waits_by : (listens : Bool) (p : ℕ) (m : State) → HearsNothing listens p m → NothingWaits listens p m
waits_by true p m h = h.queue
waits_by false p m h = tt

-- with the same line and the same queues
pub waits_too : (listens : Bool) (p : ℕ) (m t : State) → LineStays p m t → t.queues ≡ m.queues → NothingWaits listens p m → NothingWaits listens p t
waits_too true p m t line queues n = ap (λ (qs : List (List ℕ)). slice_index_or qs (process_of t p).line []) queues ∙ (ap (waiting m) line ∙ n)
waits_too false p m t line queues n = tt

-- a unit of its own
pub waits_after : (listens : Bool) (p : ℕ) (m : State) (rest : List ℕ) → m.ready ≡ p ∷ rest → 0 < p → p ≤ length m.processes → NothingWaits listens p m → NothingWaits listens p (unit m)
waits_after true p m rest here above within n = ap (waiting (unit m)) ((unit_wrote p m rest here above within).lines p) ∙ (unit_hushed p (process_of m p).line m rest here above within).empty n
waits_after false p m rest here above within n = tt
