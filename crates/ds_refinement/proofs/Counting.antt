-- How the counts and the clock move inside a unit, and where a service ends it.
use Rattle.std.proofs.Common.{◌≡◌, ℕ, ◌+◌, ◌-◌, ◌*◌, ◌<◌, ◌≤◌, Bool, true, false, cond, List, [], ◌∷◌, refl, sym, ap, ap₂, subst, ◌∙◌, arith}
use Rattle.std.specs.Prelude.{◌&&◌, not, Option, None, IsSome, is_some, Result, Ok, Err}
use Rattle.ds_word.specs.Word.{word, truth}
use Rattle.ds_procs.specs.declared.call.Call.{Call}
use Rattle.ds_procs.specs.declared.call.Call.TheVariants as call
use Rattle.ds_procs.specs.Calls.{call_of}
use Rattle.ds_policy.specs.Grants.{PageState, give, take, drop_own}
use Rattle.ds_cp0.specs.System.{is_user}
use Rattle.ds_core.specs.Core as core
use Rattle.ds_core.specs.Core.{CoreState}
use Rattle.ds_grants.proofs.OwnFrames.{truth_small}
use Rattle.ds_pagemap.specs.declared.turn.Turn.{Turn}
use Rattle.ds_pagemap.specs.Machine.{State, lives, process_of}
use Rattle.ds_pagemap.specs.Calls.{answered, or_number, or_denied, queue_of, after_get, after_wait, served}
use Rattle.ds_pagemap.specs.Unit.{Stop, at_pc, settle, after_call}
use Rattle.ds_core.specs.declared.event.Event.{Event}
use Rattle.ds_core.specs.declared.event.Event.TheVariants.{Retired, Branched, Raised}
use Rattle.ds_refinement.specs.declared.step.Step.TheVariants.{Inside, Unit, Boundary}
use Rattle.ds_refinement.specs.Held.{Held, Own}
use Rattle.ds_refinement.specs.Inner.Held.{whole}
use Rattle.ds_refinement.specs.Units.{has_left_user, is_general, is_served, ends_in_stop, ends_in_call}
use Rattle.ds_refinement.specs.Told.{own_in}
use Rattle.ds_dev.specs.Bus.{BusState}
use Rattle.ds_refinement.specs.Handling.{touches}
use Rattle.ds_refinement.specs.Counts.{Counts, HasNone, counts_of, one_more, one_word, one_served}
use Rattle.ds_refinement.specs.Inner.Counts.{with_counts}
use Rattle.ds_refinement.specs.Steps.{Moves, counts_after, ticks_of}
use Rattle.ds_refinement.specs.Inner.Services.{EndsUnitBy, seated, with_first_seated, with_none_spent, with_one_spent, after_event, after_word, step_of, with_boundary, with_idle_turn}
use Rattle.ds_refinement.specs.Inner.Ends.{EndsInStop, EndsInCall}

-- Inside a unit.

-- a step that ends no unit and serves nothing counts one instruction
pub inside_moves : (h : Held) (c : CoreState) (b : BusState) (n : Counts) → h.kept.state.owed ≡ None → is_served h.core ≡ false → h.own.spent + 1 ≤ 64 → n.spent ≡ h.own.spent + 1 → n ≡ counts_after h
    → Moves Inside h (record h { core = c; bus = b; own = with_counts h.own n })
inside_moves h c b n owed served few one is =
    let small : truth (is_served c) ≤ 1 = truth_small (is_served c) in
    let counted : n.spent ≡ h.own.spent + truth (not (is_served h.core)) = one ∙ ap (λ (b : Bool). h.own.spent + truth (not b)) (sym served) in
    let most : n.spent ≤ 64 = omega (arith, one, few) in
    let left : 2 * (64 - n.spent) + truth (is_served c) < 2 * (64 - h.own.spent) + truth (is_served h.core) = omega (arith, one, small, few) in
    (owed, owed, refl, counted, most, left, refl, is)

-- an instruction of the program
pub user_moves : (h : Held) (s : core.Step) → h.kept.state.owed ≡ None → is_user h.core.system ≡ true → h.own.spent + 1 ≤ 64 → Moves Inside h (record h { core = s.core; bus = s.bus; own = with_one_spent h.own })
user_moves h s owed user few =
    let served : is_served h.core ≡ false = ap (λ (u : Bool). not u && is_general h.core) user in
    inside_moves h s.core s.bus (one_more (counts_of h.own)) owed served few refl
    (sym (ap₂ (λ (a b : Bool). cond a (one_served (has_left_user h.core) (counts_of h.own)) (cond b (one_more (counts_of h.own)) (one_word (touches h.core) h.core.random (counts_of h.own)))) served user))

-- by what the processor told of it
pub event_moves : (e : Event) (h : Held) (s : core.Step) → h.kept.state.owed ≡ None → is_user h.core.system ≡ true → h.own.spent + 1 ≤ 64 → Moves (step_of e) h (after_event e h s)
event_moves Retired h s owed user few = (owed, refl, refl, refl, refl, refl)
event_moves Branched h s owed user few = user_moves h s owed user few
event_moves (Raised code) h s owed user few = user_moves h s owed user few

-- a word of the handler
pub word_spent : (b : Bool) (random : ℕ) (n : Counts) → (one_word b random n).spent ≡ n.spent + 1
word_spent true random n = refl
word_spent false random n = refl

pub word_moves : (h : Held) (s : core.Step) → h.kept.state.owed ≡ None → is_user h.core.system ≡ false → is_served h.core ≡ false → h.own.spent + 1 ≤ 64 → Moves Inside h (after_word h s)
word_moves h s owed user served few =
    inside_moves h s.core s.bus (one_word (touches h.core) h.core.random (counts_of h.own)) owed served few (word_spent (touches h.core) h.core.random (counts_of h.own))
    (sym (ap₂ (λ (a b : Bool). cond a (one_served (has_left_user h.core) (counts_of h.own)) (cond b (one_more (counts_of h.own)) (one_word (touches h.core) h.core.random (counts_of h.own)))) served user))

-- a service that goes back counts no instruction
served_spent : (left : Bool) (n : Counts) → (one_served left n).spent ≡ n.spent
served_spent true n = refl
served_spent false n = refl

pub back_moves : (h new : Held) → h.kept.state.owed ≡ None → is_served h.core ≡ true → h.own.spent ≤ 64 → new.kept.state ≡ h.kept.state → is_user new.core.system ≡ true
    → counts_of new.own ≡ one_served (has_left_user h.core) (counts_of h.own) → new.own.failed ≡ h.own.failed → Moves Inside h new
back_moves h new owed served few kept user counts failed =
    let spent : new.own.spent ≡ h.own.spent = ap (λ (n : Counts). n.spent) counts ∙ served_spent (has_left_user h.core) (counts_of h.own) in
    let none : truth (is_served new.core) ≡ 0 = ap (λ (u : Bool). truth (not u && is_general new.core)) user in
    let one : truth (is_served h.core) ≡ 1 = ap truth served in
    let nothing : truth (not (is_served h.core)) ≡ 0 = ap (λ (b : Bool). truth (not b)) served in
    let counted : new.own.spent ≡ h.own.spent + truth (not (is_served h.core)) = omega (arith, spent, nothing) in
    let small : new.own.spent ≤ 64 = omega (arith, spent, few) in
    let left : 2 * (64 - new.own.spent) + truth (is_served new.core) < 2 * (64 - h.own.spent) + truth (is_served h.core) = omega (arith, spent, none, one) in
    let is : counts_of new.own ≡ counts_after h =
    counts ∙ sym (ap (λ (a : Bool). cond a (one_served (has_left_user h.core) (counts_of h.own)) (cond (is_user h.core.system) (one_more (counts_of h.own)) (one_word (touches h.core) h.core.random (counts_of h.own)))) served) in
    (owed, ap (λ (s : State). s.owed) kept ∙ owed, ap (λ (s : State). s.time) kept, counted, small, left, failed, is)

-- Where a service ends its unit.

-- the seat of the process that ran tells no time
pub seated_time : (queue : List ℕ) (c : CoreState) (m : State) → (with_first_seated c m queue).time ≡ m.time
seated_time [] c m = refl
seated_time (p ∷ rest) c m = refl

-- what a service does takes a tick, and leaves a boundary owed
record TakesATick (f : State → State) : Type 0 where
  time : (s : State) → (f s).time ≡ s.time + 1
  owed : (s : State) → IsSome (f s).owed

ended_moves : (f : State → State) (h new : Held) → TakesATick f → h.kept.state.owed ≡ None → h.core.slot ≡ false → new.own ≡ with_none_spent h.own → EndsUnitBy f h new → Moves Unit h new
ended_moves f h new t owed first own ends =
    let before : State = whole (seated h.core h.kept) h.bus.memory [] in
    let is = ends.serves.state [] in
    let time : new.kept.state.time ≡ h.kept.state.time + ticks_of h.core.slot =
    sym (ap (λ (s : State). s.time) is)
    ∙ (t.time before
    ∙ (ap (λ (n : ℕ). n + 1) (seated_time h.kept.state.ready h.core h.kept.state)
    ∙ ap (λ (b : Bool). h.kept.state.time + ticks_of b) (sym first))) in (
      owed,
      subst (λ (o : Option Turn). IsSome o) (ap (λ (s : State). s.owed) is) (t.owed before),
      time,
      ap (λ (o : Own). o.spent) own,
      ap (λ (o : Own). o.failed) own,
      ap counts_of own,
    )

pub stop_moves : (p : ℕ) (stop : Stop) (h new : Held) → h.kept.state.owed ≡ None → h.core.slot ≡ false → new.own ≡ with_none_spent h.own → EndsInStop p stop h new → Moves Unit h new
stop_moves p stop h new = ended_moves (ends_in_stop p h.core.system.epc (own_in h.core.system) stop) h new (record { time = λ s. refl; owed = λ s. refl })

-- no call tells another time
get_time : (m : State) (p : ℕ) (queue : List ℕ) → (after_get m p queue).time ≡ m.time
get_time m p [] = refl
get_time m p (byte ∷ rest) = refl

wait_time : (m : State) (p : ℕ) (queue : List ℕ) → (after_wait m p queue).time ≡ m.time
wait_time m p [] = refl
wait_time m p (byte ∷ rest) = refl

number_time : (m : State) (p : ℕ) (r : Result PageState ℕ) → (or_number m p r).time ≡ m.time
number_time m p (Ok s) = refl
number_time m p (Err number) = refl

denied_time : (m : State) (p pc address : ℕ) (r : Result PageState ℕ) → (or_denied m p pc address r).time ≡ m.time
denied_time m p pc address (Ok s) = refl
denied_time m p pc address (Err number) = refl

served_time : (m : State) (p pc : ℕ) (c : Call) → (served m p pc c).time ≡ m.time
served_time m p pc call.Exit = refl
served_time m p pc (call.Put byte) = refl
served_time m p pc call.Get = get_time m p (queue_of m p)
served_time m p pc call.Yield = refl
served_time m p pc call.Time = refl
served_time m p pc call.Own = refl
served_time m p pc (call.Give address receiver to mode) = denied_time m p pc address (give (lives m) m.memory p address receiver to mode)
served_time m p pc (call.Take process address) = number_time m p (take (lives m) m.memory p process address)
served_time m p pc (call.Drop address) = number_time m p (drop_own m.memory p address)
served_time m p pc call.Wait = wait_time (answered m p 0) p (queue_of m p)
served_time m p pc call.Unknown = refl

call_time : (m : State) (p pc : ℕ) → (after_call m p pc).time ≡ m.time + 1
call_time m p pc =
    let afterwards = at_pc (settle m p) p (word (pc + 4)) in
    ap (λ (n : ℕ). n + 1) (served_time afterwards p pc (call_of (process_of afterwards p).registers.general))

pub call_moves : (p : ℕ) (h new : Held) → h.kept.state.owed ≡ None → h.core.slot ≡ false → new.own ≡ with_none_spent h.own → EndsInCall p h new → Moves Unit h new
call_moves p h new = ended_moves (ends_in_call p h.core.system.epc) h new (record { time = λ s. call_time s p h.core.system.epc; owed = λ s. refl })

-- Boundaries, before which nothing is counted.

pub boundary_moves : (h : Held) → IsSome h.kept.state.owed → HasNone h.own → Moves Boundary h (with_boundary h)
boundary_moves h some none =
    let same : h.kept.state.time ≡ h.kept.state.time + 0 = omega arith in
    (refl, ap (λ (n : Counts). n.spent) none, same ∙ ap (λ (b : Bool). h.kept.state.time + truth (not b)) (sym some), refl, none)

pub idle_moves : (h : Held) → h.kept.state.owed ≡ None → HasNone h.own → Moves Boundary h (with_boundary (with_idle_turn h))
idle_moves h owed none = (refl, ap (λ (n : Counts). n.spent) none, ap (λ (o : Option Turn). h.kept.state.time + truth (not (is_some o))) (sym owed), refl, none)
