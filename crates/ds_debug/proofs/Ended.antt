-- A run in which all have ended stays so.
use Rattle.std.proofs.Common.{◌≡◌, ℕ, zero, suc, ◌+◌, ◌-◌, Bool, true, false, cond, List, [], ◌∷◌, length, take, Option, Some, None, Result, Ok, Err, refl, sym, ap, ◌∙◌, arith}
use Rattle.std.specs.Prelude.{◌||◌, ◌&&◌, if◌then◌else◌, nat_le, nat_lt, not, filter, is_some}
use Rattle.std.specs.List.{list_all}
use Rattle.std.proofs.lemmas.Bool.Decides.{nat_tests}
use Rattle.ds_procs.specs.declared.process.Standing.{Standing}
use Rattle.ds_policy.specs.Ends.{expired}
use Rattle.ds_policy.specs.Grants.{PageState}
use Rattle.ds_policy.specs.declared.command.Command.{Command}
use Rattle.ds_policy.specs.declared.command.Command.TheVariants as command
use Rattle.ds_policy.specs.declared.command.TimedCommand.{TimedCommand}
use Rattle.ds_pagemap.specs.declared.turn.Turn.{Turn}
use Rattle.ds_pagemap.specs.Machine.{Process, State, first, has_ended, is_parked, is_waiting, lives, made_ready, no_process, process_of, touch_first, touched, touched_process}
use Rattle.ds_pagemap.specs.Calls.{after_command, ended, or_logged, queue_of, refuse_command}
use Rattle.ds_pagemap.specs.Boundary.{after_commands, all_queued, boundary, boundary_after, has_passed, is_first, owed_boundary, rotated, wakes, woken}
use Rattle.ds_pagemap.specs.Laws.{due}
use Rattle.ds_pagemap.specs.Run.{Reaches, after, go, goes_on, half_turn, is_over}
use Rattle.ds_pagemap.specs.Unit.{unit}
use Rattle.ds_pagemap.proofs.Boundaries.{boundary_owed}
use Rattle.ds_pagemap.proofs.Lists.{list_all-set}
use Rattle.ds_pagemap.proofs.Touches.{touch_first-owed, touch_first-ready}
use Rattle.ds_refinement.specs.Held.{Held}
use Rattle.ds_refinement.specs.Stands.{Stands}
use Rattle.ds_refinement.specs.Inner.Runs.{RunsWithin}
use Rattle.ds_refinement.specs.Inner.Stands.{IsSound}
use Rattle.ds_refinement.proofs.Boundaries.{ended_there}
use Rattle.ds_refinement.proofs.RunSteps.{goes_alike}
use Rattle.ds_station.proofs.Headlines.{owed_stands, time_stands}

-- a process has ended
abbrev pub is_done : Process → Bool
is_done q = has_ended q.standing

-- the processes, and which of them are ready
abbrev seats : State → List Process × List ℕ
seats m = (m.processes, m.ready)

-- so all have ended where the seats are the same
over_seats : (m t : State) → seats t ≡ seats m → is_over m ≡ true → is_over t ≡ true
over_seats m t same over = ap (λ (s : List Process × List ℕ). list_all is_done s.0) same ∙ over

-- Commands.

nobody_lives : (m : State) (p : ℕ) → is_over m ≡ true → lives m p ≡ false
nobody_lives m p over = grind (arith, ended_there m.processes (p - 1) over)

or_logged_still : (m : State) (k : ℕ) (r : Result PageState ℕ) → seats (or_logged m k r) ≡ seats m
or_logged_still m k (Ok s) = refl
or_logged_still m k (Err number) = refl

command_still : (m : State) (k : ℕ) → is_over m ≡ true → (c : Command) → seats (after_command m k c) ≡ seats m
command_still m k over (command.Resume p) =
    let parked : Bool = is_parked (process_of m p).standing in
    ap (λ (b : Bool). seats (cond (not b) (refuse_command m k 12) (if not parked then refuse_command m k 15 else made_ready m p))) (nobody_lives m p over)
command_still m k over (command.Stop p) = ap (λ (b : Bool). seats (cond (not b) (refuse_command m k 12) (ended m p))) (nobody_lives m p over)
command_still m k over other = or_logged_still m k _

commands_still : (m : State) → is_over m ≡ true → (cs : List TimedCommand) → seats (after_commands m cs) ≡ seats m
commands_still m over [] = refl
commands_still m over (c ∷ rest) =
    let next : State = after_command m c.number c.command in
    let one : seats next ≡ seats m = command_still m c.number over c.command in
    commands_still next (over_seats m next one over) rest ∙ one

-- Boundaries.

not_waiting : (s : Standing) → has_ended s ≡ true → is_waiting s ≡ false
not_waiting s over = grind arith

nobody_wakes : (m : State) → is_over m ≡ true → (p n : ℕ) → woken m p n ≡ m
nobody_wakes m over p zero = refl
nobody_wakes m over p (suc n) =
    let here : is_waiting (process_of m p).standing ≡ false = not_waiting (process_of m p).standing (ended_there m.processes (p - 1) over) in
    let asleep : wakes m p ≡ false = ap (λ (b : Bool). b && nat_lt 0 (length (queue_of m p))) here in
    ap (λ (b : Bool). woken (cond b (made_ready m p) m) (p + 1) n) asleep ∙ nobody_wakes m over (p + 1) n

-- whether the one that ran is still the first of those that are ready
abbrev pub is_still_first : Option ℕ → List ℕ → Bool
is_still_first None ready = false
is_still_first (Some p) ready = is_first (first ready) p

nobody_rotates : (b : Bool) (runner : Option ℕ) (m : State) → is_still_first runner m.ready ≡ false → cond b (rotated m runner) m ≡ m
nobody_rotates false runner m away = refl
nobody_rotates true None m away = refl
nobody_rotates true (Some p) m away = ap (λ (b : Bool). cond b (made_ready m p) m) away

-- the state that a boundary's commands find
abbrev found : State → State
found m = record m {
  memory = expired m.memory m.time;
  commands = filter (λ c. not (nat_le c.time m.time)) m.commands;
  characters = filter (λ c. not (nat_le c.time m.time)) m.characters;
  owed = None;
}

turn_still : (turn : Turn) (m : State) → is_over m ≡ true → is_still_first turn.runner m.ready ≡ false → seats (boundary_after turn m) ≡ seats m
turn_still turn m over away =
    let served : State = after_commands (found m) (due m) in
    let typed : State = record served { queues = all_queued served.queues (take 64 (filter (λ c. nat_le c.time m.time) m.characters)) } in
    let same : seats typed ≡ seats m = commands_still (found m) over (due m) in
    let passed : Bool = has_passed m.rate turn.began m.time in
    ap (λ (awake : State). seats (cond passed (rotated awake turn.runner) awake)) (nobody_wakes typed (over_seats m typed same over) 1 (length typed.processes))
    ∙ (ap seats (nobody_rotates passed turn.runner typed (ap (λ (s : List Process × List ℕ). is_still_first turn.runner s.1) same ∙ away)) ∙ same)

-- Runs.

-- whether the one whose turn owes its boundary is
abbrev pub owes_to_first : Option Turn → List ℕ → Bool
owes_to_first None ready = false
owes_to_first (Some turn) ready = is_still_first turn.runner ready

-- all have ended, and no boundary that is owed finds the one that ran ready
pub record HaveEnded (m : State) : Type 0 where
  pub over : is_over m ≡ true
  pub away : owes_to_first m.owed m.ready ≡ false

owed_still : (owed : Option Turn) (m : State) → is_over m ≡ true → owes_to_first owed m.ready ≡ false → seats (owed_boundary owed m) ≡ seats m
owed_still None m over away = refl
owed_still (Some turn) m over away = turn_still turn m over away

ended_boundary : (m : State) → HaveEnded m → HaveEnded (boundary m)
unfolding boundary
ended_boundary m d = record {
  over = over_seats m (boundary m) (owed_still m.owed m d.over d.away) d.over;
  away = ap (λ (owed : Option Turn). owes_to_first owed (boundary m).ready) (boundary_owed m);
}

over_first : (m : State) (ready : List ℕ) → is_over (touch_first m ready) ≡ is_over m
over_first m [] = refl
over_first m (p ∷ rest) = list_all-set is_done touched_process (λ q. refl) m.processes (p - 1) no_process

pub over_touched : (touch : Bool) (m : State) → is_over (touched touch m) ≡ is_over m
over_touched true m = over_first m m.ready
over_touched false m = refl

ended_touched : (touch : Bool) (m : State) → HaveEnded m → HaveEnded (touched touch m)
ended_touched false m d = d
ended_touched true m d = record {
  over = over_first m m.ready ∙ d.over;
  away =
      ap (λ (owed : Option Turn). owes_to_first owed (touched true m).ready) (touch_first-owed m m.ready)
      ∙ (ap (owes_to_first m.owed) (touch_first-ready m m.ready) ∙ d.away);
}

pub ended_goes : (n : ℕ) (touch : Bool) (m : State) → HaveEnded m → HaveEnded (go n touch m)
unfolding half_turn
ended_goes n touch m d = by (is_some m.owed) (goes_on n m) refl refl
  where
    by : (owed on : Bool) → is_some m.owed ≡ owed → goes_on n m ≡ on → HaveEnded (cond on (cond owed (boundary (touched touch m)) (unit (touched touch m))) m)
    by owed false has goes = d
    by true true has goes = ended_boundary (touched touch m) (ended_touched touch m d)
    by false true has goes = absurd (grind (arith, has, goes, d.over))

-- all have ended from then on
ended_after : (n : ℕ) (m : State) → HaveEnded m → (choices : List Bool) → HaveEnded (after n choices m)
unfolding after
ended_after n m d [] = d
ended_after n m d (touch ∷ rest) = ended_goes n touch (after n rest m) (ended_after n m d rest)

pub reached_over : (n : ℕ) (m t : State) → (r : Reaches n m t) → HaveEnded (after n r.choices m) → is_over t ≡ true
reached_over n m t r d = ap is_over r.comes_to ∙ (over_touched r.early (after n r.choices m) ∙ d.over)

-- Of a station.

same_by : (owed early a owes before b : Bool) → owed ≡ false → early ≡ true → owes ≡ false → before ≡ true
    → (owed || (early && not a)) ≡ (owes || (before && not b)) → a ≡ b
same_by owed early a owes before b none is rests soon same = grind arith

next_tick : (t : ℕ) → nat_lt t (t + 1) ≡ true
next_tick t = grind (arith, nat_tests)

-- between two turns all have ended where they have in the states that it stands for
pub over_same : (h : Held) (m : State) → Stands h m → h.kept.state.owed ≡ None → is_over m ≡ is_over h.kept.state
over_same h m k none =
    let n : ℕ = h.kept.state.time + 1 in
    let early : nat_lt m.time n ≡ true = ap (λ (t : ℕ). nat_lt t n) (time_stands h m k) ∙ next_tick h.kept.state.time in
    same_by (is_some m.owed) (nat_lt m.time n) (is_over m) (is_some h.kept.state.owed) (nat_lt h.kept.state.time n) (is_over h.kept.state)
    (ap is_some (owed_stands h m k ∙ none)) early (ap is_some none) (next_tick h.kept.state.time) (goes_alike n h m k)

-- a run in which all have ended stays so
pub stays_over : (n : ℕ) (old new : Held) → IsSound old → old.kept.state.owed ≡ None → new.kept.state.owed ≡ None → RunsWithin n old new
    → is_over old.kept.state ≡ true → is_over new.kept.state ≡ true
stays_over n old new s whole rests w over =
    let m : State = s.state in
    let u = w.runs m s.stands in
    let none : m.owed ≡ None = owed_stands old m s.stands ∙ whole in
    let d : HaveEnded m = record { over = over_same old m s.stands whole ∙ over; away = ap (λ (owed : Option Turn). owes_to_first owed m.ready) none } in
    sym (over_same new u.0 u.2 rests) ∙ reached_over n m u.0 u.1 (ended_after n m d u.1.choices)
