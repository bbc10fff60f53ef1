-- Turns in which no process runs, many at once, are so many single ones.
use Rattle.std.proofs.Common.{◌≡◌, ℕ, zero, suc, ◌+◌, ◌-◌, ◌%◌, ◌<◌, ◌≤◌, ◌^◌, Bool, true, false, cond, List, [], ◌∷◌, length, filter, not, take, nat_le, Option, Some, None, refl, sym, ap, subst, ◌∙◌, arith, inr}
use Rattle.std.proofs.lemmas.Bool.Decides.{nat_tests}
use Rattle.std.proofs.Math.Nat.{min-le_left, min-le_right}
use Rattle.std.specs.List.Sorted.{IsNonDecreasingBy}
use Rattle.std.specs.Prelude.{is_some, min, ◌||◌, ◌&&◌, nat_lt}
use Rattle.ds_word.specs.Word.{truth}
use Rattle.ds_policy.specs.declared.command.TimedCommand.{TimedCommand}
use Rattle.ds_policy.specs.declared.command.Character.{Character}
use Rattle.ds_policy.specs.Ends.{has_some_expired, expired}
use Rattle.ds_policy.specs.Grants.{PageState}
use Rattle.ds_policy.specs.InputFacts.{has_time, comes_at}
use Rattle.ds_dev.specs.Clock.{ClockState}
use Rattle.ds_core.specs.Core.{CoreState}
use Rattle.ds_pagemap.specs.declared.turn.Turn.{Turn}
use Rattle.ds_pagemap.specs.Machine.{State, first}
use Rattle.ds_pagemap.specs.Boundary.{after_commands, all_queued, wakes, woken, has_passed, rotated, owed_boundary, boundary}
use Rattle.ds_pagemap.specs.Laws.{due}
use Rattle.ds_pagemap.specs.Run.{half_turn, is_over}
use Rattle.ds_pagemap_laws.specs.Due.{come, NobodyWakes, HasNothingToDo}
use Rattle.ds_pagemap_laws.proofs.Processes.{wakes_settles}
use Rattle.ds_pagemap_laws.proofs.Boundaries.{quiet_boundary}
use Rattle.ds_refinement.specs.declared.step.Step.TheVariants.{Boundary}
use Rattle.ds_refinement.specs.Held.{Held, Kept, bare, vacated, began_or, last_boundary}
use Rattle.ds_refinement.specs.Stands.{RunningBy, Agrees, CountedBy, Stands}
use Rattle.ds_refinement.specs.Inner.Stands.{IsSound}
use Rattle.ds_refinement.specs.Steps.{Comes}
use Rattle.ds_refinement.specs.Real.{IsReal}
use Rattle.ds_refinement.specs.Runs.{held_goes_on}
use Rattle.ds_refinement.proofs.Ending.{half_unit}
use Rattle.ds_refinement.proofs.Boundaries.{beside, kept_later, half_boundary, owed_is, unit_rests, over_too, waited, resting_tallied}
use Rattle.ds_refinement.proofs.NoNewPairs.{same_pairs}
use Rattle.ds_refinement.proofs.Quieter.{expired_earlier}
use Rattle.ds_monitor.specs.Inner.Coming.{first_time, first_event, next_due}
use Rattle.ds_monitor.specs.Inner.Kept.{kept_of}
use Rattle.ds_monitor.specs.Inner.Orderly as monitor
use Rattle.ds_monitor.proofs.Coming.{none_due}
use Rattle.ds_monitor.proofs.Lawful.{turn_orderly}
use Rattle.ds_kernel.specs.declared.parts.Parts.{Parts}
use Rattle.ds_kernel.specs.Inner.Parts.{held, own_of}
use Rattle.ds_refinement.specs.Counts.{Counts, HasNone}
use Rattle.ds_kernel.proofs.Doing.{none_of_fresh}
use Rattle.ds_kernel.specs.Inner.Good.{IsOrderly, IsGood}
use Rattle.ds_kernel.specs.Inner.Ended.{DoesStep}
use Rattle.ds_kernel.specs.Inner.Going.{GoesOn}
use Rattle.ds_kernel.specs.Inner.Idling.{idled, MayIdle}
use Rattle.ds_kernel.proofs.Clocks.{none_since}
use Rattle.ds_kernel.proofs.Stepping.{none_is_not_some, sound_after}
use Rattle.ds_kernel.proofs.Running.{step_goes, goes_join}

-- A boundary after a turn of nobody, at which nothing comes.

-- nobody ran, so the end of a period moves nobody: the boundary is one at which none has ended
period_unseen : (passed : Bool) (m : State) → cond passed (rotated m None) m ≡ m
period_unseen true m = refl
period_unseen false m = refl

-- what comes before the end of a period is looked at
abbrev awake : Turn → State → State
awake turn m =
    let commands = filter (λ (c : TimedCommand). nat_le c.time m.time) m.commands in
    let characters = filter (λ (c : Character). nat_le c.time m.time) m.characters in
    let later = record m {
      memory = expired m.memory m.time;
      commands = filter (λ (c : TimedCommand). not (nat_le c.time m.time)) m.commands;
      characters = filter (λ (c : Character). not (nat_le c.time m.time)) m.characters;
      owed = None;
    } in
    let served = after_commands later commands in
    let typed = record served { queues = all_queued served.queues (take 64 characters) } in
    woken typed 1 (length typed.processes)

-- the turn of nobody that began now
abbrev at_once : State → Turn
at_once m = record { began = m.time; runner = None }

-- so the boundary of any turn of nobody is that of one that began now
pub nobody_boundary : (m : State) (began : ℕ) → m.owed ≡ Some (record { began = began; runner = None }) → HasNothingToDo (at_once m) (record m { owed = Some (at_once m) }) → boundary m ≡ record m { owed = None }
unfolding boundary
nobody_boundary m began owed nothing =
    let turn : Turn = record { began = began; runner = None } in
    ap (λ (x : Option Turn). owed_boundary x m) owed
    ∙ (period_unseen (has_passed m.rate began m.time) (awake turn m)
    ∙ (sym (period_unseen (has_passed m.rate m.time m.time) (awake (at_once m) m))
    ∙ quiet_boundary (record m { owed = Some (at_once m) }) (at_once m) refl nothing))

-- One turn.

-- nobody who waits in the machine finds a character, where nobody does as it is kept
asleep_there : (m k : State) → bare m ≡ k → NobodyWakes k → NobodyWakes m
asleep_there m k e asleep r = sym (wakes_settles m r) ∙ (ap (λ (s : State). wakes s r) e ∙ asleep r)

-- where nobody is ready the processor rests, whatever is kept
at_rest : (queue : List ℕ) (c : CoreState) (k k' : Kept) (m m' : State) → queue ≡ [] → RunningBy queue c k m → RunningBy queue c k' m'
at_rest [] c k k' m m' none a = a
at_rest (p ∷ rest) c k k' m m' none a = absurd (cc)

least_left : (a b c : ℕ) → a < b → b ≤ c → a < c
least_left a b c e f = omega (arith, e, f)

module _ (h : Held) (may : MayIdle (h.kept.state.time + 1) h) where
  abbrev later : ℕ
  later = h.kept.state.time + 1

  none_commands : due (record h.kept.state { time = later }) ≡ []
  none_commands = none_due has_time later h.kept.state.commands may.commands
      (least_left later _ _ may.early (min-le_left (first_time has_time h.kept.state.commands) (first_time comes_at h.kept.state.characters)))

  none_characters : come (record h.kept.state { time = later }) ≡ []
  none_characters = none_due comes_at later h.kept.state.characters may.characters
      (least_left later _ _ may.early (min-le_right (first_time has_time h.kept.state.commands) (first_time comes_at h.kept.state.characters)))

  -- the time of the last boundary is that time
  last : last_boundary (record h.kept.state { time = later }) ≡ later
  last = ap (λ (o : Option Turn). began_or o later) may.owed

  module _ (m : State) (all : Stands h m) where
    abbrev k : Agrees h m
    k = all.agrees

    abbrev there : State
    there = record (waited m) { owed = None }

    beside_is : record (bare m) { processes = [] } ≡ record h.kept.state { processes = [] }
    beside_is = beside h.kept.state.ready m h.kept.state k.kept.state

    bare_is : bare m ≡ h.kept.state
    bare_is = subst (λ (rs : List ℕ). bare (vacated rs m) ≡ vacated rs h.kept.state) may.ready k.kept.state

    nothing : HasNothingToDo (at_once (waited m)) (record (waited m) { owed = Some (at_once (waited m)) })
    nothing = record {
      commands = ap (λ (s : State). due (record s { time = s.time + 1 })) beside_is ∙ none_commands;
      characters = ap (λ (s : State). come (record s { time = s.time + 1 })) beside_is ∙ none_characters;
      asleep = asleep_there m h.kept.state bare_is may.asleep;
      period = none_since m.rate (m.time + 1);
      ends =
          ap (λ (s : State). has_some_expired (s.time + 1) m.memory.table) beside_is
          ∙ (ap (λ (s : PageState). has_some_expired later s.table) k.kept.pages ∙ may.ends);
    }

    turn_is : half_turn false (half_turn false m) ≡ there
    turn_is =
        let o : m.owed ≡ None = owed_is h m k ∙ may.owed in
        let nobody : m.ready ≡ [] = k.kept.ready ∙ may.ready in
        ap (half_turn false) (half_unit m o ∙ unit_rests m nobody)
        ∙ (half_boundary (waited m) (record { began = m.time; runner = None }) refl ∙ nobody_boundary (waited m) m.time refl nothing)

    stands_there : Stands (idled later h) there
    stands_there = record {
      agrees = record {
        represented = k.represented;
        vectors = k.vectors;
        base = k.base;
        grants = k.grants;
        size = k.size;
        kept = record {
          ready = k.kept.ready;
          state =
              kept_later h.kept.state.ready m h.kept.state (m.time + 1) None k.kept.state
              ∙ (ap (λ (s : State). vacated h.kept.state.ready (record h.kept.state { time = s.time + 1; owed = None })) beside_is
              ∙ ap (λ (o : Option Turn). vacated h.kept.state.ready (record h.kept.state { time = later; owed = o })) (sym may.owed));
          pages = k.kept.pages;
          log = k.kept.log;
          lines = k.kept.lines;
        };
        running = at_rest h.kept.state.ready h.core h.kept (idled later h).kept m there may.ready k.running;
        devices = record {
          serial = k.devices.serial;
          clock = ap (λ (c : ClockState). record c { flagged = false; time = later % 2 ^ 17 }) k.devices.clock;
          system = k.devices.system;
          ticked = subst (λ (n : ℕ). later ≤ n) (sym last) (omega arith);
          period = ap (has_passed h.kept.state.rate later) last ∙ none_since h.kept.state.rate later;
        };
      };
      counted = resting_tallied h.kept.state.ready h.core h.own h.kept (idled later h).kept m there may.ready all.counted;
    }

    comes : Comes Boundary (idled later h) m
    comes =
        let o : m.owed ≡ None = owed_is h m k ∙ may.owed in
        let nobody : m.ready ≡ [] = k.kept.ready ∙ may.ready in
        let going : is_over m ≡ false = over_too h.kept.state.ready m h.kept.state may.ready k.kept.state ∙ may.going in
        (there, inr (o, nobody, going, (false, false, sym turn_is)), stands_there)

  real : IsReal h (idled later h)
  real = record {
    instruction = λ unit other. absurd (unit.1 may.ready);
    service = λ unit served. absurd (unit.1 may.ready);
    random = λ all. refl;
    pairs = λ all. same_pairs h.core.entries;
  }

  turn_does : HasNone h.own → DoesStep Boundary h (idled later h)
  turn_does none =
      let time : later ≡ h.kept.state.time + truth (not (is_some h.kept.state.owed)) = ap (λ (o : Option Turn). h.kept.state.time + truth (not (is_some o))) (sym may.owed) in record {
        follows = record { follows = comes };
        moves = (may.owed, ap (λ (n : Counts). n.spent) none, time, refl, none);
        real = real;
      }

-- Many turns.

before_end : (t n : ℕ) (over : Bool) → t < n → over ≡ false → (nat_lt t n && not over) ≡ true
before_end t n over soon none = rw none (let before : nat_lt t n ≡ true = grind (arith, nat_tests) in rw before refl)

idle_goes_on : (n : ℕ) (h : Held) → h.kept.state.owed ≡ None → h.kept.state.time < n → is_over h.kept.state ≡ false → held_goes_on n h ≡ true
idle_goes_on n h owed soon going =
    ap (λ (o : Option Turn). is_some o || (nat_lt h.kept.state.time n && not (is_over h.kept.state))) owed ∙ before_end h.kept.state.time n (is_over h.kept.state) soon going

one_more : (t k : ℕ) → t + 1 + k ≡ t + suc k
one_more t k = omega arith

-- the first of some more turns may be done
first_of : (k : ℕ) (h : Held) → MayIdle (h.kept.state.time + suc k) h → MayIdle (h.kept.state.time + 1) h
first_of k h may = let early = may.early in record {
  owed = may.owed;
  ready = may.ready;
  going = may.going;
  asleep = may.asleep;
  commands = may.commands;
  characters = may.characters;
  early = omega (arith, early);
  ends = expired_earlier (h.kept.state.time + 1) (h.kept.state.time + suc k) h.kept.grants.table (omega arith) may.ends;
}

-- and after it the others
others_of : (k : ℕ) (h : Held) → MayIdle (h.kept.state.time + suc k) h → MayIdle (h.kept.state.time + 1 + k) (idled (h.kept.state.time + 1) h)
others_of k h may = let early = may.early in record {
  owed = may.owed;
  ready = may.ready;
  going = may.going;
  asleep = may.asleep;
  commands = may.commands;
  characters = may.characters;
  early = omega (arith, early);
  ends = subst (λ (t : ℕ). has_some_expired t h.kept.grants.table ≡ false) (sym (one_more h.kept.state.time k)) may.ends;
}

-- what is reached, and that the station stands for some state there
record Reached (n time : ℕ) (h : Held) : Type 0 where
  goes : GoesOn n h (idled time h)
  sound : IsSound (idled time h)

turns_reach : (k n : ℕ) (h : Held) → IsSound h → HasNone h.own → MayIdle (h.kept.state.time + suc k) h → h.kept.state.time + suc k ≤ n → Reached n (h.kept.state.time + suc k) h
turns_reach zero n h sound none may within =
    let does = turn_does h may none in
    record {
      goes = step_goes Boundary n h (idled (h.kept.state.time + 1) h) (idle_goes_on n h may.owed (omega (arith, within)) may.going) sound does;
      sound = sound_after Boundary h (idled (h.kept.state.time + 1) h) sound does.follows;
    }
turns_reach (suc k) n h sound none may within =
    let next : Held = idled (h.kept.state.time + 1) h in
    let does = turn_does h (first_of (suc k) h may) none in
    let once : GoesOn n h next = step_goes Boundary n h next (idle_goes_on n h may.owed (omega (arith, within)) may.going) sound does in
    let more : Reached n (h.kept.state.time + 1 + suc k) next = turns_reach k n next (sound_after Boundary h next sound does.follows) none (others_of (suc k) h may) (omega (arith, within)) in
    subst (λ (t : ℕ). Reached n t h) (one_more h.kept.state.time (suc k)) (record { goes = goes_join n h next (idled (h.kept.state.time + 1 + suc k) h) once more.goes; sound = more.sound })

next_of : (k : ℕ) → suc k ≡ k + 1
next_of k = omega arith

pub turns_go : (k n : ℕ) (h : Held) → IsSound h → HasNone h.own → MayIdle (h.kept.state.time + (k + 1)) h → h.kept.state.time + (k + 1) ≤ n → GoesOn n h (idled (h.kept.state.time + (k + 1)) h)
turns_go k n h sound none = subst (λ (j : ℕ). MayIdle (h.kept.state.time + j) h → h.kept.state.time + j ≤ n → GoesOn n h (idled (h.kept.state.time + j) h)) (next_of k)
    (λ may within. (turns_reach k n h sound none may within).goes)

-- where nobody is ready nothing is counted
pub none_of_nobody : (h : Held) → IsSound h → h.kept.state.ready ≡ [] → HasNone h.own
none_of_nobody h sound nobody = (subst (λ (ps : List ℕ). CountedBy ps h.core h.own h.kept sound.state) nobody sound.stands.counted).0

-- Where they may be done.

pub none_owed : {X : Type 0} (o : Option X) → is_some o ≡ false → o ≡ None
none_owed None e = refl
none_owed (Some x) e = absurd (cc)

pub nobody_ready : (queue : List ℕ) → is_some (first queue) ≡ false → queue ≡ []
nobody_ready [] e = refl
nobody_ready (p ∷ rest) e = absurd (cc)

-- the first event comes after the time before it
before_event : (n event end : ℕ) → end ≡ min n (event - 1) → 0 < end → end < event
before_event n event end is some = omega (arith, is, some, min-le_right n (event - 1))

still_going : (early over : Bool) → (early && not over) ≡ true → over ≡ false
still_going true true e = absurd (cc)
still_going true false e = refl
still_going false over e = absurd (cc)

pub may_idle : {L : Type 0} (n end : ℕ) (p : Parts L) → IsGood p → held_goes_on n (held p) ≡ true → p.monitor.owed ≡ None → p.monitor.ready ≡ []
    → IsNonDecreasingBy has_time p.monitor.due.commands → IsNonDecreasingBy comes_at p.monitor.due.characters → end ≡ min n (min (first_event p.monitor.due) p.monitor.ends - 1) → p.monitor.time < end → MayIdle end (held p)
may_idle n end p good going owed ready commands characters is soon =
    let first : ℕ = first_event p.monitor.due in
    let before : end < min first p.monitor.ends = before_event n (min first p.monitor.ends) end is (omega (arith, soon)) in record {
      owed = owed;
      ready = ready;
      going = still_going (nat_lt p.monitor.time n) (is_over (held p).kept.state)
          (sym (ap (λ (o : Option Turn). is_some o || (nat_lt p.monitor.time n && not (is_over (held p).kept.state))) owed) ∙ going);
      asleep = good.orderly.kept.lawful.asleep;
      commands = commands;
      characters = characters;
      early = least_left end (min first p.monitor.ends) first before (min-le_left first p.monitor.ends);
      ends = good.orderly.kept.ends end (least_left end (min first p.monitor.ends) p.monitor.ends before (min-le_right first p.monitor.ends));
    }

-- Parts that went so far.

some_turns : (t end : ℕ) → t < end → t + suc (end - t - 1) ≡ end
some_turns t end soon = omega (arith, soon)

none_spent : (n : ℕ) → (0 < n → ⊥) → n ≡ 0
none_spent zero none = refl
none_spent (suc n) none = absurd (none (omega arith))

module _ {L : Type 0} (n end : ℕ) (old new : Parts L) (good : IsGood old) (may : MayIdle end (held old)) (soon : old.monitor.time < end) (within : end ≤ n) (few : n ≤ 1000000000) (is : held new ≡ idled end (held old)) where
  spent : old.spent ≡ 0
  spent = none_spent old.spent (λ some. good.orderly.running some may.ready)

  reached : Reached n end (held old)
  reached =
      let k : ℕ = end - old.monitor.time - 1 in
      let to : old.monitor.time + suc k ≡ end = some_turns old.monitor.time end soon in
      subst (λ (t : ℕ). Reached n t (held old)) to
      (turns_reach k n (held old) good.sound (none_of_fresh (own_of old) old.core.slot spent good.orderly.fresh) (subst (λ (t : ℕ). MayIdle t (held old)) (sym to) may) (subst (λ (t : ℕ). t ≤ n) (sym to) within))

  pub idle_goes : GoesOn n (held old) (held new)
  idle_goes = subst (GoesOn n (held old)) (sym is) reached.goes

  kept_orderly : monitor.IsOrderly (idled end (held old)).kept
  kept_orderly =
      let o = turn_orderly (held old).kept end (held old).kept.state.owed good.orderly.kept in
      record { lawful = o.lawful; ended = o.ended; commands = o.commands; ends = o.ends }

  marks : IsOrderly (idled end (held old))
  marks =
      let o = good.orderly in
      let lines : old.monitor.lines + length old.monitor.due.commands ≤ old.monitor.time + 4096 = o.lines in record {
        begun = λ some. may.owed;
        failed = λ failed. may.owed;
        raised = o.raised;
        running = o.running;
        spent = o.spent;
        fresh = o.fresh;
        lines = omega (arith, lines, soon);
        ticked = omega arith;
        early = omega (arith, within, few);
        rate = o.rate;
        kept = kept_orderly;
      }

  pub idle_good : new.monitor.quiet_until ≡ next_due (kept_of new.monitor) → IsGood new
  idle_good next =
      let begun : new.spent ≡ 0 = ap (λ (x : Held). x.own.spent) is ∙ spent in
      let unowed : new.monitor.owed ≡ None = ap (λ (x : Held). x.kept.state.owed) is ∙ may.owed in record {
        sound = subst IsSound (sym is) reached.sound;
        orderly = subst IsOrderly (sym is) marks;
        room = λ some. absurd (omega (arith, begun, some));
        owed = λ some. absurd (none_is_not_some new.monitor.owed unowed some);
        next = next;
      }
