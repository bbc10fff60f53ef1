-- What single steps of a station do: an instruction, a boundary, an idle turn; and a failure.
use Rattle.std.proofs.Common.{◌≡◌, ◌≢◌, ℕ, ◌+◌, ◌^◌, ◌<◌, ◌≤◌, Bool, true, false, not, [], length, Option, None, refl, sym, ap, ap₂, subst, ◌∙◌, arith}
use Rattle.std.proofs.lemmas.Bool.Decides.{nat_tests}
use Rattle.std.specs.Prelude.{IsSome, is_some, ◌&&◌, ◌==◌}
use Rattle.ds_cp0.specs.System.{is_user}
use Rattle.ds_core.specs.declared.event.Event.{Event}
use Rattle.ds_core.specs.declared.event.Event.TheVariants.{Retired, Branched, Raised}
use Rattle.ds_core.specs.Core as core
use Rattle.ds_core.specs.Core.{CoreState}
use Rattle.ds_core.specs.Inner.Core.{is_raised}
use Rattle.ds_core.specs.Effect.{step}
use Rattle.ds_ahead.specs.Inner.Ahead.{owed_tick}
use Rattle.ds_core.proofs.Users.{keeps_system}
use Rattle.ds_dev.specs.Bus.{BusState}
use Rattle.ds_pagemap.specs.declared.turn.Turn.{Turn}
use Rattle.ds_pagemap.specs.Run.{is_over}
use Rattle.ds_refinement.specs.declared.step.Step.{Step}
use Rattle.ds_refinement.specs.declared.step.Step.TheVariants.{Inside, Over}
use Rattle.ds_refinement.specs.Held.{Held, Own}
use Rattle.ds_refinement.specs.Counts.{counts_of, one_more}
use Rattle.ds_refinement.specs.Inner.Counts.{IsFresh}
use Rattle.ds_refinement.specs.Inner.Stands.{IsSound}
use Rattle.ds_refill.specs.Handler.{handler_address}
use Rattle.ds_refinement.specs.Handling.{IsWhole, touches}
use Rattle.ds_refinement.specs.Inner.Services.{after_event, after_word, step_of, with_failure, with_one_spent}
use Rattle.ds_refinement.specs.Steps.{Follows, ticks_of}
use Rattle.ds_refinement.specs.Units.{is_general, is_served}
use Rattle.ds_refinement.proofs.Boundaries.{rests}
use Rattle.ds_refinement.proofs.Joined.{instruction_real, word_real}
use Rattle.ds_refinement.proofs.Counting.{event_moves, word_moves, word_spent}
use Rattle.ds_refinement.proofs.Tallied.{failure_stands}
use Rattle.ds_refinement.proofs.Meets.{barred}
use Rattle.ds_refinement.proofs.NoNewPairs.{same_pairs}
use Rattle.ds_refinement.proofs.Words.{word_follows}
use Rattle.ds_refinement.proofs.Quieter.{user_status_of}
use Rattle.ds_refinement.proofs.Stages.{step_follows}
use Rattle.ds_monitor.specs.Inner.Coming.{next_due}
use Rattle.ds_monitor.specs.Inner.Kept.{kept_of}
use Rattle.ds_monitor.specs.declared.monitor.Monitor.{Monitor}
use Rattle.ds_monitor.specs.Inner.Room.{HasBoundaryRoom, HasTurnRoom}
use Rattle.ds_monitor.proofs.Lawful.{turn_orderly}
use Rattle.ds_kernel.proofs.Rooms.{turn_room_still, boundary_room}
use Rattle.ds_kernel.specs.declared.parts.Parts.{Parts}
use Rattle.ds_kernel.specs.Inner.Parts.{held, own_of, with_counts_of}
use Rattle.ds_kernel.specs.Inner.Good.{IsOrderly, IsGood}
use Rattle.ds_kernel.specs.Inner.Ended.{DoesStep}
use Rattle.ds_kernel.proofs.Doing.{owed_small}

pub none_is_not_some : (o : Option Turn) → o ≡ None → IsSome o → ⊥
none_is_not_some o none some = let no : false ≡ true = sym (ap is_some none) ∙ some in absurd (cc)

pub sound_after : (kind : Step) (h new : Held) → IsSound h → Follows kind h new → IsSound new
sound_after kind h new s f = let t = f.follows s.state s.stands in record { state = t.0; stands = t.2 }

-- a failure leaves the station as it should be
pub failed_good : {L : Type 0} (old new : Parts L) → IsGood old → old.monitor.owed ≡ None → held new ≡ with_failure (held old)
    → new.monitor.quiet_until ≡ old.monitor.quiet_until → (0 < new.spent → HasTurnRoom new.monitor) → IsGood new
failed_good old new good unowed is until room =
    let o = good.orderly in
    let marks : IsOrderly (with_failure (held old)) = record {
      begun = λ some. unowed;
      failed = λ failed. unowed;
      raised = o.raised;
      running = o.running;
      spent = o.spent;
      fresh = o.fresh;
      lines = o.lines;
      ticked = o.ticked;
      kept = o.kept;
      early = o.early;
      rate = o.rate;
    } in record {
      sound = subst IsSound (sym is) (record { state = good.sound.state; stands = failure_stands (held old) good.sound.state good.sound.stands });
      orderly = subst IsOrderly (sym is) marks;
      room = room;
      owed = λ some. absurd (none_is_not_some new.monitor.owed (ap (λ (h : Held). h.kept.state.owed) is ∙ unowed) some);
      next = until ∙ (good.next ∙ sym (ap (λ (h : Held). next_due h.kept) is));
    }

-- where nothing but instructions is counted, so it is after one more
pub fresh_more : (own : Own) → IsFresh own → IsFresh (with_one_spent own)
fresh_more own f = ap one_more f

-- one instruction more, of a unit that has taken no more than its branch then, is its first
pub fresh_first : (own : Own) (slot then_slot : Bool) → (own.spent ≤ owed_tick slot → IsFresh own) → own.spent + 1 ≤ owed_tick then_slot → IsFresh (with_one_spent own)
fresh_first own slot then_slot f first = let small = owed_small then_slot in fresh_more own (f (omega (arith, first, small)))

-- and of one that has begun there is none
pub never_first : (slot : Bool) (before spent : ℕ) → 0 < before → spent ≡ before + 1 → spent ≤ owed_tick slot → ⊥
never_first slot before spent begun one first = let small = owed_small slot in omega (arith, begun, one, first, small)

-- A step of the processor in a unit, with no boundary owed, after which an instruction more is counted.
pub inside_orderly : (h : Held) (c : CoreState) (b : BusState) (own : Own) → IsOrderly h → h.kept.state.owed ≡ None → h.kept.state.ready ≢ [] → h.own.spent < 64 → own.spent ≡ h.own.spent + 1 → (own.spent ≤ owed_tick c.slot → IsFresh own)
    → IsOrderly (record h { core = c; bus = b; own = own })
inside_orderly h c b own orderly unowed ready few one fresh = record {
  begun = λ some. unowed;
  failed = λ failed. unowed;
  raised = λ kernel. omega (arith, one);
  running = λ some. ready;
  spent = omega (arith, few, one);
  fresh = fresh;
  lines = orderly.lines;
  ticked = orderly.ticked;
  kept = orderly.kept;
  early = orderly.early;
  rate = orderly.rate;
}

-- in user mode no service is to be done
pub user_unserved : (c : CoreState) → is_user c.system ≡ true → is_served c ≡ false
user_unserved c user = ap (λ (u : Bool). not u && is_general c) user

-- One instruction of the process that runs, in user mode.
module _ (h : Held) (sound : IsSound h) (orderly : IsOrderly h) (working : h.own.failed ≡ false) (unowed : h.kept.state.owed ≡ None) (ready : h.kept.state.ready ≢ [])
    (user : is_user h.core.system ≡ true) (word : h.core.pc < 2 ^ 32) (few : h.own.spent < 64) (soon : h.kept.state.time < 1000000000)
    (whole : is_raised (step h.core h.bus).event ≡ true → IsWhole (step h.core h.bus).core) where
  abbrev s : core.Step
  s = step h.core h.bus

  abbrev afterwards : Event → Held
  afterwards e = after_event e h s

  follows : Follows (step_of s.event) h (afterwards s.event)
  follows = step_follows h s refl unowed ready user word whole

  two_ticks : (b : Bool) → ticks_of b ≤ 2
  two_ticks true = omega arith
  two_ticks false = omega arith

  some_tick : (b : Bool) → 1 ≤ ticks_of b
  some_tick true = omega arith
  some_tick false = omega arith

  unserved : is_served h.core ≡ false
  unserved = user_unserved h.core user

  -- the machine follows, and it is real
  pub instruction_does : DoesStep (step_of s.event) h (afterwards s.event)
  instruction_does = record {
    follows = follows;
    moves = event_moves s.event h s unowed user (omega (arith, few));
    real = instruction_real s.event h s (unowed, ready) unserved refl;
  }

  stays_user : s.event ≡ Retired → is_user s.core.system ≡ true
  stays_user at =
      let same : s.core.system ≡ h.core.system = keeps_system h.core h.bus (barred h.core 0 (user_status_of h sound user)) (ap is_raised at) in
      ap is_user same ∙ user

  marks : (e : Event) → s.event ≡ e → IsOrderly (afterwards e)
  marks Retired at =
      let tick : 1 ≤ ticks_of h.core.slot = some_tick h.core.slot in
      let lines : h.kept.lines + length h.kept.state.commands ≤ h.kept.state.time + 4096 = orderly.lines in
      let ticked : h.kept.ticked ≤ h.kept.state.time = orderly.ticked in
      record {
        begun = λ some. (let no : 0 < 0 = some in absurd (omega (arith, no)));
        failed = λ failed. (let no : false ≡ true = sym working ∙ failed in absurd (cc));
        raised = λ kernel. (let no : true ≡ false = sym (stays_user at) ∙ kernel in absurd (cc));
        running = λ some. (let no : 0 < 0 = some in absurd (omega (arith, no)));
        spent = omega arith;
        fresh = λ few. refl;
        lines = omega (arith, lines, tick);
        ticked = omega (arith, ticked, tick);
        kept = turn_orderly h.kept (afterwards Retired).kept.state.time (afterwards Retired).kept.state.owed orderly.kept;
        early = (let most : ticks_of h.core.slot ≤ 2 = two_ticks h.core.slot in omega (arith, soon, most));
        rate = orderly.rate;
      }
  marks Branched at = inside_orderly h s.core s.bus (with_one_spent h.own) orderly unowed ready few refl (fresh_first h.own h.core.slot s.core.slot orderly.fresh)
  marks (Raised code) at = inside_orderly h s.core s.bus (with_one_spent h.own) orderly unowed ready few refl (fresh_first h.own h.core.slot s.core.slot orderly.fresh)

  pub instruction_orderly : IsOrderly (afterwards s.event)
  instruction_orderly = marks s.event refl

  pub instruction_sound : IsSound (afterwards s.event)
  instruction_sound = sound_after (step_of s.event) h (afterwards s.event) sound follows

-- nothing is left to do
pub over_does : {L : Type 0} (old : Parts L) → old.monitor.owed ≡ None → old.monitor.ready ≡ [] → is_over (kept_of old.monitor).state ≡ true → DoesStep Over (held old) (held old)
over_does old unowed nobody over = record {
  follows = rests (held old) unowed over;
  moves = refl;
  real = record {
    instruction = λ unit other. absurd (unit.1 nobody);
    service = λ unit served. absurd (unit.1 nobody);
    random = λ all. refl;
    pairs = λ all. same_pairs old.core.entries;
  };
}

-- inside of a unit no tick is over
inside_time : (e : Event) (h : Held) (s : core.Step) → 0 < (after_event e h s).own.spent → (after_event e h s).kept.state.time ≡ h.kept.state.time
inside_time Retired h s some = (let no : 0 < 0 = some in absurd (omega (arith, no)))
inside_time Branched h s some = refl
inside_time (Raised code) h s some = refl

ticks_few : (slot : Bool) → ticks_of slot ≤ 2
ticks_few true = omega arith
ticks_few false = omega arith

event_time : (e : Event) (h : Held) (s : core.Step) → (after_event e h s).kept.state.time ≤ h.kept.state.time + 2
event_time Retired h s = (let few : ticks_of h.core.slot ≤ 2 = ticks_few h.core.slot in omega (arith, few))
event_time Branched h s = omega arith
event_time (Raised code) h s = omega arith

-- An instruction of the process that runs, counted and done.
module _ {L : Type 0} (old between new : Parts L) (kind : Step) (good : IsGood old) (working : old.failed ≡ false) (unowed : old.monitor.owed ≡ None) (ready : old.monitor.ready ≢ [])
    (user : is_user old.core.system ≡ true) (word : old.core.pc < 2 ^ 32) (few : old.spent < 64) (soon : old.monitor.time < 1000000000) (begun : held between ≡ held old) (until : between.monitor.quiet_until ≡ old.monitor.quiet_until) (room : HasTurnRoom between.monitor)
    (done : (s : core.Step) → s ≡ step between.core between.bus → (held new ≡ after_event s.event (held between) s) × (kind ≡ step_of s.event))
    (rest : new ≡ record (with_counts_of new between) { core = new.core; bus = new.bus; monitor = record between.monitor { time = new.monitor.time; owed = new.monitor.owed } })
    (all : IsWhole new.core) where
  abbrev stepped : core.Step
  stepped = step old.core old.bus

  -- what is done by the processor as it was before
  same_step : stepped ≡ step between.core between.bus
  same_step = ap₂ step (sym (ap (λ (x : Held). x.core) begun)) (sym (ap (λ (x : Held). x.bus) begun))

  new_is : held new ≡ after_event stepped.event (held old) stepped
  new_is = (done stepped same_step).0 ∙ ap (λ (x : Held). after_event stepped.event x stepped) begun

  core_after : (e : Event) → (after_event e (held old) stepped).core ≡ stepped.core
  core_after Retired = refl
  core_after Branched = refl
  core_after (Raised code) = refl

  -- the processor after an exception has all that every processor has
  whole : is_raised stepped.event ≡ true → IsWhole stepped.core
  whole raised = subst IsWhole (ap (λ (x : Held). x.core) new_is ∙ core_after stepped.event) all

  pub attempt_does : DoesStep kind (held old) (held new)
  attempt_does =
      subst (λ (k : Step). DoesStep k (held old) (held new)) (sym (done stepped same_step).1)
      (subst (DoesStep (step_of stepped.event) (held old)) (sym new_is)
      (instruction_does (held old) good.sound good.orderly working unowed ready user word few soon whole))

  monitor_after : new.monitor ≡ record between.monitor { time = new.monitor.time; owed = new.monitor.owed }
  monitor_after = ap (λ (x : Parts L). x.monitor) rest

  between_time : between.monitor.time ≡ old.monitor.time
  between_time = ap (λ (x : Held). x.kept.state.time) begun

  time_after : new.monitor.time ≡ (after_event stepped.event (held old) stepped).kept.state.time
  time_after = ap (λ (x : Held). x.kept.state.time) new_is

  -- where a unit goes on no tick is over
  unit_room_after : 0 < new.spent → HasTurnRoom new.monitor
  unit_room_after some =
      let same : new.monitor.time ≡ between.monitor.time = time_after ∙ (inside_time stepped.event (held old) stepped (subst (λ (n : ℕ). 0 < n) (ap (λ (x : Held). x.own.spent) new_is) some) ∙ sym between_time) in
      subst HasTurnRoom (sym monitor_after) (turn_room_still between.monitor new.monitor.time new.monitor.owed same room)

  boundary_room_then : HasBoundaryRoom new.monitor
  boundary_room_then =
      let most : (after_event stepped.event (held old) stepped).kept.state.time ≤ old.monitor.time + 2 = event_time stepped.event (held old) stepped in
      let time = time_after in
      let before = between_time in
      subst HasBoundaryRoom (sym monitor_after) (boundary_room between.monitor new.monitor.time new.monitor.owed (omega (arith, most, time, before)) room)

  pub attempt_good : IsGood new
  attempt_good = record {
    sound = subst IsSound (sym new_is) (instruction_sound (held old) good.sound good.orderly working unowed ready user word few soon whole);
    orderly = subst IsOrderly (sym new_is) (instruction_orderly (held old) good.sound good.orderly working unowed ready user word few soon whole);
    room = unit_room_after;
    owed = λ some. boundary_room_then;
    next =
        ap (λ (x : Parts L). x.monitor.quiet_until) rest
        ∙ (until ∙ (good.next ∙ sym (ap (λ (x : Parts L). next_due (kept_of x.monitor)) rest ∙ ap (λ (x : Held). next_due x.kept) begun)));
  }

pub at_seventh : (pc : ℕ) → (pc == handler_address 6) ≡ true → pc ≡ handler_address 6
at_seventh pc is = grind (arith, nat_tests)

-- A word of the refill handler, counted and done.
module _ {L : Type 0} (old between new : Parts L) (good : IsGood old) (unowed : old.monitor.owed ≡ None) (ready : old.monitor.ready ≢ [])
    (kernel : is_user old.core.system ≡ false) (unserved : is_served old.core ≡ false) (few : old.spent < 64) (begun : held between ≡ held old) (until : between.monitor.quiet_until ≡ old.monitor.quiet_until) (room : HasTurnRoom between.monitor)
    (done : held new ≡ after_word (held between) (step between.core between.bus))
    (rest : new ≡ record (with_counts_of new between) { core = new.core; bus = new.bus }) where
  abbrev worded : core.Step
  worded = step old.core old.bus

  word_is : held new ≡ after_word (held old) worded
  word_is = done ∙ ap (λ (x : Held). after_word x (step x.core x.bus)) begun

  word_joins : Follows Inside (held old) (after_word (held old) worded)
  word_joins = word_follows (held old) ready kernel unserved

  pub word_does : DoesStep Inside (held old) (held new)
  word_does = subst (DoesStep Inside (held old)) (sym word_is) (record {
    follows = word_joins;
    moves = word_moves (held old) worded unowed kernel unserved (omega (arith, few));
    real = word_real (held old) (unowed, ready) unserved;
  })

  monitor_then : new.monitor ≡ between.monitor
  monitor_then = ap (λ (x : Parts L). x.monitor) rest

  none_owed : new.monitor.owed ≡ None
  none_owed = ap (λ (x : Held). x.kept.state.owed) word_is ∙ unowed

  pub word_good : IsGood new
  word_good = record {
    sound = subst IsSound (sym word_is) (sound_after Inside (held old) (after_word (held old) worded) good.sound word_joins);
    orderly = subst IsOrderly (sym word_is) (inside_orderly (held old) worded.core worded.bus (after_word (held old) worded).own good.orderly unowed ready few (word_spent (touches old.core) old.core.random (counts_of (own_of old)))
        (λ first. absurd (never_first worded.core.slot old.spent _ (good.orderly.raised kernel) (word_spent (touches old.core) old.core.random (counts_of (own_of old))) first)));
    room = λ some. subst HasTurnRoom (sym monitor_then) room;
    owed = λ some. absurd (none_is_not_some new.monitor.owed none_owed some);
    next = ap (λ (m : Monitor). m.quiet_until) monitor_then ∙ (until ∙ (good.next ∙ sym (ap (λ (x : Held). next_due x.kept) word_is)));
  }
