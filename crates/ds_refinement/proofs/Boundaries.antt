-- Boundaries with nothing to do, and turns in which no process runs.
use Rattle.std.proofs.Common.{◌≡◌, ℕ, zero, suc, ◌+◌, ◌-◌, ◌/◌, ◌≤◌, ◌^◌, Bool, true, false, cond, List, [], ◌∷◌, length, map, refl, sym, ap, subst, ◌∙◌, inl, inr, arith, div-mul-le_self, le_trans}
use Rattle.std.specs.Prelude.{◌&&◌, ◌==◌, not, nat_lt, slice_index_or, Option, Some, None, is_some, IsSome}
use Rattle.std.specs.List.{list_all}
use Rattle.std.proofs.lemmas.Bool.{and_parts}
use Rattle.std.proofs.lemmas.Bool.Decides.{nat_tests}
use Rattle.std.proofs.lemmas.Nat.{pow_pos, le-div}
use Rattle.ds_policy.specs.Ends.{has_some_expired}
use Rattle.ds_policy.specs.Grants.{PageState}
use Rattle.ds_procs.specs.declared.process.Standing.{Standing}
use Rattle.ds_procs.specs.declared.process.Standing.TheVariants.{Ready}
use Rattle.ds_cp0.specs.System.{is_user}
use Rattle.ds_core.specs.Core.{CoreState}
use Rattle.ds_pagemap.specs.declared.turn.Turn.{Turn}
use Rattle.ds_pagemap.specs.Machine.{State, Process, no_process, process_of, with_process, has_ended, is_waiting, first}
use Rattle.ds_pagemap.specs.Unit.{unit}
use Rattle.ds_pagemap.specs.Boundary.{boundary, has_passed, wakes}
use Rattle.ds_pagemap.specs.Run.{half_turn, is_over}
use Rattle.ds_pagemap.specs.Laws.{due}
use Rattle.ds_pagemap.proofs.Processes.{with_process-process_of, with_process_again}
use Rattle.ds_pagemap_laws.specs.Settled.{settled_process}
use Rattle.ds_pagemap_laws.specs.Due.{HasNothingToDo, NobodyWakes, come}
use Rattle.ds_pagemap_laws.proofs.Processes.{wakes_settles}
use Rattle.ds_pagemap_laws.proofs.Asleep.{still_asleep}
use Rattle.ds_pagemap_laws.proofs.Boundaries.{quiet_boundary}
use Rattle.ds_refinement.specs.declared.step.Step.TheVariants.{Boundary, Over}
use Rattle.ds_refinement.specs.Held.{Held, Kept, Own, bare, vacated, began_or, last_boundary}
use Rattle.ds_refinement.specs.Units.{is_general, has_left_user}
use Rattle.ds_refinement.specs.Stands.{Stands, Agrees, CountedBy, IsUnbegun, RunningBy, InKernel, OnProcessor}
use Rattle.ds_refinement.specs.Counts.{Counts, HasNone}
use Rattle.ds_refinement.proofs.Tallied.{UnbegunBy, none_counted, ranges_of}
use Rattle.ds_refinement.specs.Inner.Services.{with_boundary, with_idle_turn}
use Rattle.ds_refinement.specs.Steps.{Follows}
use Rattle.ds_refinement.specs.Inner.Quiet.{IsUndisturbed}
use Rattle.ds_refinement.proofs.Ending.{half_unit}

-- What is kept beside the process that runs.

-- all but the processes, the pages and the log is as it is kept
pub beside : (queue : List ℕ) (m k : State) → bare (vacated queue m) ≡ vacated queue k → record (bare m) { processes = [] } ≡ record k { processes = [] }
beside [] m k e = ap (λ (s : State). record s { processes = [] }) e
beside (p ∷ rest) m k e = ap (λ (s : State). record s { processes = [] }) e

-- at another time, with another boundary owed
pub kept_later : (queue : List ℕ) (m k : State) (time : ℕ) (owed : Option Turn) → bare (vacated queue m) ≡ vacated queue k
    → bare (vacated queue (record m { time = time; owed = owed })) ≡ vacated queue (record k { time = time; owed = owed })
kept_later [] m k time owed e = ap (λ (s : State). record s { time = time; owed = owed }) e
kept_later (p ∷ rest) m k time owed e = ap (λ (s : State). record s { time = time; owed = owed }) e

-- Nobody wakes.

abbrev RunnerIsReady : List ℕ → State → Type 0
RunnerIsReady [] m = Unit {0}
RunnerIsReady (p ∷ rest) m = (process_of m p).standing ≡ Ready

runner_ready : (queue : List ℕ) (c : CoreState) (k : Kept) (m : State) → RunningBy queue c k m → RunnerIsReady queue m
runner_ready [] c k m a = tt
runner_ready (p ∷ rest) c k m a = a.standing

asleep_too : (queue : List ℕ) (m k : State) → bare (vacated queue m) ≡ vacated queue k → RunnerIsReady queue m → NobodyWakes k → NobodyWakes m
asleep_too [] m k e ready asleep r = sym (wakes_settles m r) ∙ (ap (λ (s : State). wakes s r) e ∙ asleep r)
asleep_too (p ∷ rest) m k e ready asleep r =
    let vacant : State = with_process m p no_process in
    let there : wakes vacant r ≡ false = sym (wakes_settles vacant r) ∙ (ap (λ (s : State). wakes s r) e ∙ still_asleep k p r no_process refl (asleep r)) in
    let q : Process = process_of m p in
    let back : with_process vacant p q ≡ m = with_process_again m p no_process q ∙ with_process-process_of m p in
    ap (λ (s : State). wakes s r) (sym back)
    ∙ still_asleep vacant p r q (ap (λ (s : Standing). is_waiting s && nat_lt 0 (length (slice_index_or m.queues q.line []))) ready) there

-- No period ends.

-- where none has ended since an earlier time, none has since a later one
passed_later : (rate ticked began now : ℕ) → ticked ≤ began → has_passed rate ticked now ≡ false → has_passed rate began now ≡ false
passed_later rate ticked began now later none = by (not (rate == 0)) none
  where
    grows : ticked / 2 ^ (rate + 2) ≤ began / 2 ^ (rate + 2)
    grows = le-div (ticked / 2 ^ (rate + 2)) began (2 ^ (rate + 2)) (pow_pos (rate + 2)) (le_trans (div-mul-le_self ticked (2 ^ (rate + 2))) later)

    further : (a b n : ℕ) → a ≤ b → nat_lt a n ≡ false → nat_lt b n ≡ false
    further a b n le e = grind (arith, nat_tests)

    by : (on : Bool) → (on && nat_lt (ticked / 2 ^ (rate + 2)) (now / 2 ^ (rate + 2))) ≡ false → (on && nat_lt (began / 2 ^ (rate + 2)) (now / 2 ^ (rate + 2))) ≡ false
    by true e = further (ticked / 2 ^ (rate + 2)) (began / 2 ^ (rate + 2)) (now / 2 ^ (rate + 2)) grows e
    by false e = refl

-- A boundary with nothing to do.

pub some_turn : (o : Option Turn) → IsSome o → (turn : Turn) × (o ≡ Some turn)
some_turn None e = absurd (cc)
some_turn (Some turn) e = (turn, refl)

-- half a turn where a boundary is owed is that boundary
pub half_boundary : (m : State) (turn : Turn) → m.owed ≡ Some turn → half_turn false m ≡ boundary m
unfolding half_turn
half_boundary m turn o = ap (λ (x : Option Turn). cond (is_some x) (boundary m) (unit m)) o

-- what is owed is as it is kept
pub owed_is : (h : Held) (m : State) → Agrees h m → m.owed ≡ h.kept.state.owed
owed_is h m k = ap (λ (s : State). s.owed) (beside h.kept.state.ready m h.kept.state k.kept.state)

nothing_to_do : (h : Held) (m : State) (turn : Turn) → Agrees h m → h.kept.state.owed ≡ Some turn → IsUndisturbed h.kept → HasNothingToDo turn m
nothing_to_do h m turn k owed quiet =
    let b = beside h.kept.state.ready m h.kept.state k.kept.state in
    let began : last_boundary h.kept.state ≡ turn.began = ap (λ (o : Option Turn). began_or o h.kept.state.time) owed in
    let since : h.kept.ticked ≤ turn.began = subst (λ (n : ℕ). h.kept.ticked ≤ n) began k.devices.ticked in
    record {
      commands = ap due b ∙ quiet.commands;
      characters = ap come b ∙ quiet.characters;
      asleep = asleep_too h.kept.state.ready m h.kept.state k.kept.state (runner_ready h.kept.state.ready h.core h.kept m k.running) quiet.asleep;
      period = ap (λ (s : State). has_passed s.rate turn.began s.time) b ∙ passed_later h.kept.state.rate h.kept.ticked turn.began h.kept.state.time since quiet.period;
      ends =
          ap (λ (s : State). has_some_expired s.time m.memory.table) b
          ∙ (ap (λ (x : PageState). has_some_expired h.kept.state.time x.table) k.kept.pages ∙ quiet.ends);
    }

boundary_of : (h : Held) (m : State) (turn : Turn) → Agrees h m → h.kept.state.owed ≡ Some turn → IsUndisturbed h.kept → half_turn false m ≡ record m { owed = None }
boundary_of h m turn k owed quiet =
    let o : m.owed ≡ Some turn = owed_is h m k ∙ owed in
    half_boundary m turn o ∙ quiet_boundary m turn o (nothing_to_do h m turn k owed quiet)

-- in kernel mode no boundary is owed
pub kernel_owes : (general left : Bool) (c : CoreState) (k : Kept) (p : ℕ) (m : State) → InKernel general left c k p m → m.owed ≡ None
kernel_owes true true c k p m (inl a) = a.owed
kernel_owes true true c k p m (inr a) = a.owed
kernel_owes true false c k p m a = a.owed
kernel_owes false left c k p m a = a.1.owed

-- where a boundary is owed, the unit has not begun
not_begun : (user slot : Bool) (c : CoreState) (k k' : Kept) (p : ℕ) (m : State) (turn : Turn) → m.owed ≡ Some turn → OnProcessor user slot c k p m → OnProcessor user slot c k' p (record m { owed = None })
not_begun false slot c k k' p m turn o a = let no : Some turn ≡ None = sym o ∙ kernel_owes (is_general c) (has_left_user c) c k p m a in absurd (cc)
not_begun true true c k k' p m turn o a = let no : Some turn ≡ None = sym o ∙ a.owed in absurd (cc)
not_begun true false c k k' p m turn o a = record {
  mode = a.mode;
  first = a.first;
  pc = a.pc;
  next = a.next;
  registers = elim a.registers [ inl same ↦ inl same | inr again ↦ (let no : Some turn ≡ None = sym o ∙ again.0 in absurd (cc)) ];
}

still_running : (queue : List ℕ) (c : CoreState) (k : Kept) (m : State) (turn : Turn) → m.owed ≡ Some turn → RunningBy queue c k m
    → RunningBy queue c (record k { state = record k.state { owed = None } }) (record m { owed = None })
still_running [] c k m turn o a = a
still_running (p ∷ rest) c k m turn o a = record {
  seat = a.seat;
  standing = a.standing;
  kept = a.kept;
  line = a.line;
  number = a.number;
  set = a.set;
  on = not_begun (is_user c.system) c.slot c k (record k { state = record k.state { owed = None } }) p m turn o a.on;
}

stands_past : (h : Held) (m : State) (turn : Turn) → Agrees h m → h.kept.state.owed ≡ Some turn → h.kept.ticked ≤ h.kept.state.time → IsUndisturbed h.kept → Agrees (with_boundary h) (record m { owed = None })
stands_past h m turn k owed ticked quiet = record {
  represented = k.represented;
  vectors = k.vectors;
  base = k.base;
  grants = k.grants;
  size = k.size;
  kept = record {
    ready = k.kept.ready;
    state =
        kept_later h.kept.state.ready m h.kept.state m.time None k.kept.state
        ∙ ap (λ (s : State). vacated h.kept.state.ready (record h.kept.state { time = s.time; owed = None })) (beside h.kept.state.ready m h.kept.state k.kept.state);
    pages = k.kept.pages;
    log = k.kept.log;
    lines = k.kept.lines;
  };
  running = still_running h.kept.state.ready h.core h.kept m turn (owed_is h m k ∙ owed) k.running;
  devices = record { serial = k.devices.serial; clock = k.devices.clock; system = k.devices.system; ticked = ticked; period = quiet.period };
}

-- where nothing is counted the unit is unbegun, so it is tallied whatever it asks for
still_unbegun : (queue : List ℕ) (c : CoreState) (own : Own) (k : Kept) (m : State) → CountedBy queue c own k m → HasNone own → UnbegunBy queue c (record m { owed = None })
still_unbegun [] c own k m i none = tt
still_unbegun (p ∷ rest) c own k m i none =
    let u : IsUnbegun c p m = i.1 (ap (λ (n : Counts). n.spent) none) in
    record { mode = u.mode; first = u.first; registers = u.registers }

pub quiet : (h : Held) → IsSome h.kept.state.owed → HasNone h.own → h.kept.ticked ≤ h.kept.state.time → IsUndisturbed h.kept → Follows Boundary h (with_boundary h)
quiet h some nothing ticked q = let turn = (some_turn h.kept.state.owed some).0 in let owed = (some_turn h.kept.state.owed some).1 in record {
  follows = λ m k.
      let o : m.owed ≡ Some turn = owed_is h m k.agrees ∙ owed in (
        record m { owed = None },
        inl (λ (e : m.owed ≡ None). (let no : Some turn ≡ None = sym o ∙ e in cc), (false, false, sym (boundary_of h m turn k.agrees owed q))),
        record {
          agrees = stands_past h m turn k.agrees owed ticked q;
          counted = none_counted h.kept.state.ready h.core h.own (with_boundary h).kept (record m { owed = None })
              (still_unbegun h.kept.state.ready h.core h.own h.kept m k.counted nothing) nothing (ranges_of h m k);
        },
      );
}

-- Turns in which no process runs.

pub unit_rests : (m : State) → m.ready ≡ [] → unit m ≡ record m { time = m.time + 1; owed = Some (record { began = m.time; runner = None }) }
unfolding unit
unit_rests m e = ap (λ (r : List ℕ). unit (record m { ready = r })) e ∙ ap (λ (r : List ℕ). record m { ready = r; time = m.time + 1; owed = Some (record { began = m.time; runner = None }) }) (sym e)

over_settles : (qs : List Process) → list_all (λ (q : Process). has_ended q.standing) (map settled_process qs) ≡ list_all (λ (q : Process). has_ended q.standing) qs
over_settles [] = refl
over_settles (q ∷ qs) = ap (λ (b : Bool). has_ended q.standing && b) (over_settles qs)

-- where nobody is ready, all processes have ended if they have as they are kept
pub over_too : (queue : List ℕ) (m k : State) → queue ≡ [] → bare (vacated queue m) ≡ vacated queue k → is_over m ≡ is_over k
over_too [] m k none e = sym (over_settles m.processes) ∙ ap is_over e
over_too (p ∷ rest) m k none e = absurd (cc)

-- the state after an idle turn
abbrev pub waited : State → State
waited m = record m { time = m.time + 1; owed = Some (record { began = m.time; runner = None }) }

at_rest : (queue : List ℕ) (c : CoreState) (k k' : Kept) (m m' : State) → queue ≡ [] → RunningBy queue c k m → RunningBy queue c k' m'
at_rest [] c k k' m m' none a = a
at_rest (p ∷ rest) c k k' m m' none a = absurd (cc)

pub stands_waited : (h : Held) (m : State) → Agrees h m → h.kept.state.owed ≡ None → h.kept.state.ready ≡ [] → Agrees (with_idle_turn h) (waited m)
stands_waited h m k owed none =
    let last : last_boundary h.kept.state ≡ h.kept.state.time = ap (λ (o : Option Turn). began_or o h.kept.state.time) owed in
    record {
      represented = k.represented;
      vectors = k.vectors;
      base = k.base;
      grants = k.grants;
      size = k.size;
      kept = record {
        ready = k.kept.ready;
        state =
            kept_later h.kept.state.ready m h.kept.state (m.time + 1) (Some (record { began = m.time; runner = None })) k.kept.state
            ∙ (ap (λ (s : State). vacated h.kept.state.ready (record h.kept.state { time = s.time + 1; owed = Some (record { began = s.time; runner = None }) })) (beside h.kept.state.ready m h.kept.state k.kept.state)
            ∙ ap (λ (rs : List ℕ). vacated h.kept.state.ready (record h.kept.state { time = h.kept.state.time + 1; owed = Some (record { began = h.kept.state.time; runner = first rs }) })) (sym none));
        pages = k.kept.pages;
        log = k.kept.log;
        lines = k.kept.lines;
      };
      running = at_rest h.kept.state.ready h.core h.kept (with_idle_turn h).kept m (waited m) none k.running;
      devices = record {
        serial = k.devices.serial;
        clock = k.devices.clock;
        system = k.devices.system;
        ticked = subst (λ (n : ℕ). h.kept.ticked ≤ n) last k.devices.ticked;
        period = ap (has_passed h.kept.state.rate h.kept.ticked) (sym last) ∙ k.devices.period;
      };
    }

-- where nobody is ready the counts rest
pub resting_tallied : (queue : List ℕ) (c : CoreState) (own : Own) (k k' : Kept) (m m' : State) → queue ≡ [] → CountedBy queue c own k m → CountedBy queue c own k' m'
resting_tallied [] c own k k' m m' none i = i
resting_tallied (p ∷ rest) c own k k' m m' none i = absurd (cc)

-- where nobody is ready a tick may pass
pub waited_stands : (h : Held) (m : State) → Stands h m → h.kept.state.owed ≡ None → h.kept.state.ready ≡ [] → Stands (with_idle_turn h) (waited m)
waited_stands h m k owed none = record {
  agrees = stands_waited h m k.agrees owed none;
  counted = resting_tallied h.kept.state.ready h.core h.own h.kept (with_idle_turn h).kept m (waited m) none k.counted;
}

pub idle : (h : Held) → h.kept.state.owed ≡ None → h.kept.state.ready ≡ [] → is_over h.kept.state ≡ false → IsUndisturbed (with_idle_turn h).kept → Follows Boundary h (with_boundary (with_idle_turn h))
idle h owed none left q = record {
  follows = λ m k.
      let o : m.owed ≡ None = owed_is h m k.agrees ∙ owed in
      let nobody : m.ready ≡ [] = k.agrees.kept.ready ∙ none in
      let going : is_over m ≡ false = over_too h.kept.state.ready m h.kept.state none k.agrees.kept.state ∙ left in
      let turn : Turn = record { began = h.kept.state.time; runner = first h.kept.state.ready } in
      let first_half : half_turn false m ≡ waited m = half_unit m o ∙ unit_rests m nobody in
      let k' : Agrees (with_idle_turn h) (waited m) = stands_waited h m k.agrees owed none in
      let last : last_boundary h.kept.state ≡ h.kept.state.time = ap (λ (x : Option Turn). began_or x h.kept.state.time) owed in
      let since : h.kept.ticked ≤ h.kept.state.time = subst (λ (n : ℕ). h.kept.ticked ≤ n) last k.agrees.devices.ticked in (
        record (waited m) { owed = None },
        inr (o, nobody, going, (false, false, sym (ap (half_turn false) first_half ∙ boundary_of (with_idle_turn h) (waited m) turn k' refl q))),
        record {
          agrees = stands_past (with_idle_turn h) (waited m) turn k' refl (omega (arith, since)) q;
          counted = resting_tallied h.kept.state.ready h.core h.own h.kept (with_boundary (with_idle_turn h)).kept m (record (waited m) { owed = None }) none k.counted;
        },
      );
}

-- Nothing is left to do.

-- where all have ended, a process that is there has, and so has what stands for one that is not
pub ended_there : (qs : List Process) (i : ℕ) → list_all (λ (q : Process). has_ended q.standing) qs ≡ true → has_ended (slice_index_or qs i no_process).standing ≡ true
ended_there [] i all = refl
ended_there (q ∷ qs) zero all = (and_parts (has_ended q.standing) _ all).0
ended_there (q ∷ qs) (suc i) all = ended_there qs i (and_parts (has_ended q.standing) _ all).1

-- where all have ended, nobody runs
nobody_runs : (queue : List ℕ) (c : CoreState) (k : Kept) (m : State) → is_over k.state ≡ true → RunningBy queue c k m → queue ≡ []
nobody_runs [] c k m over a = refl
nobody_runs (p ∷ rest) c k m over a =
    let no : false ≡ true = sym (ap has_ended a.kept) ∙ ended_there k.state.processes (p - 1) over in
    absurd (cc)

pub rests : (h : Held) → h.kept.state.owed ≡ None → is_over h.kept.state ≡ true → Follows Over h h
rests h owed over = record {
  follows = λ m k.
      let none : h.kept.state.ready ≡ [] = nobody_runs h.kept.state.ready h.core h.kept m over k.agrees.running in
      (m, (owed_is h m k.agrees ∙ owed, over_too h.kept.state.ready m h.kept.state none k.agrees.kept.state ∙ over, refl), k);
}
