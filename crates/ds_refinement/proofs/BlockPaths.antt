-- A block of instructions is a path of real steps.
use Rattle.std.proofs.Common.{◌≡◌, ◌≢◌, ℕ, zero, suc, ◌+◌, ◌<◌, ◌≤◌, ◌^◌, Bool, true, false, List, [], ◌∷◌, refl, sym, ap, ap₂, subst, ◌∙◌, inl, inr, arith}
use Rattle.std.specs.Prelude.{◌==◌, ◌&&◌, not, is_some, IsSome, Option, Some, None}
use Rattle.ds_word.specs.Word.{bits}
use Rattle.ds_cp0.specs.declared.exception.ExceptionCode.{ExceptionCode}
use Rattle.ds_cp0.specs.System.{System, is_user}
use Rattle.ds_core.specs.declared.event.Event.{Event}
use Rattle.ds_core.specs.declared.event.Event.TheVariants.{Retired, Branched, Raised}
use Rattle.ds_core.specs.Core as core
use Rattle.ds_core.specs.Core.{CoreState}
use Rattle.ds_core.specs.Inner.Core.{is_raised}
use Rattle.ds_core.specs.Effect as whole
use Rattle.ds_ahead.specs.Inner.Ahead as ahead
use Rattle.ds_ahead.specs.Inner.Ahead.{Hardware, hardware_of, left_by, after_steps, Advances, AdvancesTo, ComesByWords, owed_tick, ticks_after, ticks}
use Rattle.ds_ahead.specs.Inner.Stops.{ComesClear}
use Rattle.ds_ahead.proofs.Slots.{Slots, step_slots, ticks_of_advance}
use Rattle.ds_core.proofs.Users.{keeps_system}
use Rattle.ds_pagemap.specs.declared.turn.Turn.{Turn}
use Rattle.ds_pagemap.specs.Machine.{first}
use Rattle.ds_refinement.specs.declared.step.Step.{Step}
use Rattle.ds_refinement.specs.declared.step.Step.TheVariants.{Inside, Unit, Boundary}
use Rattle.ds_refinement.specs.Told.{is_delayed}
use Rattle.ds_refinement.specs.Held.{Held, Kept, Own}
use Rattle.ds_refinement.specs.Units.{user_status, is_general, is_served}
use Rattle.ds_refinement.specs.Handling.{IsWhole}
use Rattle.ds_refinement.specs.Counts.{Counts, counts_of, fresh_counts, one_more}
use Rattle.ds_refinement.specs.Steps.{Follows, Moves, ticks_of}
use Rattle.ds_refinement.specs.Inner.Services.{after_event, step_of, with_one_spent, with_boundary}
use Rattle.ds_refinement.specs.Real.{IsReal, RealPath}
use Rattle.ds_refinement.specs.Inner.Clear.{ClearPath, IsMet}
use Rattle.ds_refinement.specs.Inner.Quiet.{IsUndisturbed}
use Rattle.ds_refinement.specs.Inner.Blocks.{moved, more_counted, counts_beyond, time_after, with_block, with_exception, at_time, IsQuietUntil, MayRunAhead}
use Rattle.ds_refinement.proofs.Boundaries.{quiet}
use Rattle.ds_refinement.proofs.Counting.{user_moves}
use Rattle.ds_refinement.proofs.Meets.{barred}
use Rattle.ds_refinement.proofs.Raising.{slot_of_raised}
use Rattle.ds_refinement.proofs.Stages.{step_follows}
use Rattle.ds_refinement.proofs.Joined.{one_step, path_join, instruction_real}
use Rattle.ds_refinement.specs.Inner.Runs.{RunsWithin}
use Rattle.ds_refinement.proofs.RunSteps.{BeginsBefore, within_before}

-- Small numbers.

owed_small : (slot : Bool) → owed_tick slot ≤ 1
owed_small true = omega arith
owed_small false = omega arith

ticks_of_slot : (slot : Bool) → ticks_of slot ≡ 1 + owed_tick slot
ticks_of_slot true = refl
ticks_of_slot false = refl

some_is_not_none : (turn : Turn) → Some turn ≡ None → ⊥
some_is_not_none turn e = cc

-- The counts after a block.

-- whose turn it is among the first slots is no matter of instructions
more_wired : (n : ℕ) (c : Counts) → (more_counted n c).wired ≡ c.wired
more_wired zero c = refl
more_wired (suc n) c = more_wired n c

counts_wired : (n t : ℕ) (slot : Bool) (own : Own) → (counts_beyond n t slot own).wired ≡ own.wired
counts_wired n zero slot own = more_wired n (counts_of own)
counts_wired n (suc t) slot own = refl

-- once time has passed, a unit has begun anew
counts_past : (n t : ℕ) (slot : Bool) (own : Own) → 0 < t → counts_beyond n t slot own ≡ record (fresh_counts own.wired) { spent = owed_tick slot }
counts_past n zero slot own some = absurd (omega (arith, some))
counts_past n (suc t) slot own some = refl

-- a branch more is an instruction more of the unit
counts_branched : (n t : ℕ) (was is : Bool) (own : Own) → was ≡ false → is ≡ true → one_more (counts_beyond n t was own) ≡ counts_beyond (suc n) t is own
counts_branched n zero was is own none some = refl
counts_branched n (suc t) false true own none some = refl
counts_branched n (suc t) true is own none some = absurd (cc)
counts_branched n (suc t) false false own none some = absurd (cc)

-- few are counted where few were, and no more than one of them since
pub counts_few : (n t : ℕ) (slot : Bool) (own : Own) → own.spent ≤ 61 → (t ≡ 0 → n ≤ 1) → (counts_beyond n t slot own).spent ≤ 62
counts_few zero zero slot own few one = omega (arith, few)
counts_few (suc zero) zero slot own few one = omega (arith, few)
counts_few (suc (suc n)) zero slot own few one = absurd (let most = one refl in omega (arith, most))
counts_few n (suc t) slot own few one = (let small = owed_small slot in omega (arith, small))

-- a step, with its event named
abbrev told_as : Event → core.Step → core.Step
told_as e s = record { event = e; core = s.core; bus = s.bus }

-- What is kept by each real step of a run, if it begins before the run's end, and from where Q holds, as it does where a boundary is owed.
record Carries (end : ℕ) (Q P : Held → Type 0) : Type 0 where
  more : (b c : Held) (kind : Step) → P b → Q b → BeginsBefore end b → Follows kind b c → Moves kind b c → IsReal b c → P c
  owing : (b : Held) → IsSome b.kept.state.owed → Q b

-- One instruction of the process that runs, in user mode and with no boundary owed.
module _ (b : Held) (s : core.Step) (is : s ≡ whole.step b.core b.bus) (owed : b.kept.state.owed ≡ None) (ready : b.kept.state.ready ≢ []) (user : is_user b.core.system ≡ true) (within : b.core.pc < 2 ^ 32) (complete : is_raised s.event ≡ true → IsWhole s.core) where
  -- the machine follows it
  follows : (e : Event) → s.event ≡ e → Follows (step_of e) b (after_event e b s)
  follows e at = subst (λ (x : Event). Follows (step_of x) b (after_event x b s)) at (step_follows b s is owed ready user within complete)

  no_service : is_served b.core ≡ false
  no_service = ap (λ (u : Bool). not u && is_general b.core) user

  -- and it is a real one
  real : (e : Event) → s.event ≡ e → IsReal b (after_event e b s)
  real e at = instruction_real e b s (owed, ready) no_service (sym is ∙ ap (λ (x : Event). told_as x s) at)

  -- after the instruction that ends the unit
  abbrev afterwards : Held
  afterwards = after_event Retired b s

  boundary_real : IsReal afterwards (with_boundary afterwards)
  boundary_real = record {
    instruction = λ unit other. absurd (some_is_not_none _ unit.0);
    service = λ unit served. absurd (some_is_not_none _ unit.0);
    random = λ all. refl;
    pairs = λ all. record { each = λ slot e is low. (slot, e, is, refl, refl) };
  }

  boundary_moves : Moves Boundary afterwards (with_boundary afterwards)
  boundary_moves = let e : afterwards.kept.state.time ≡ afterwards.kept.state.time + 0 = omega arith in (refl, refl, e, refl, refl)

  -- with its boundary, which has nothing to do
  unit_carries : (end : ℕ) (Q P : Held → Type 0) → Carries end Q P → P b → Q b → b.kept.state.time < end → s.event ≡ Retired → b.kept.ticked ≤ afterwards.kept.state.time → IsUndisturbed afterwards.kept → P (with_boundary afterwards)
  unit_carries end Q P carries p met before at ticked q =
      carries.more afterwards (with_boundary afterwards) Boundary
      (carries.more b afterwards Unit p met (inr (ready, before)) (follows Retired at) (owed, refl, refl, refl, refl, refl) (real Retired at))
      (carries.owing afterwards refl) (inl refl) (quiet afterwards refl refl ticked q) boundary_moves boundary_real

  -- a branch, or an exception: the unit isn't at its end
  inside_carries : (end : ℕ) (Q P : Held → Type 0) (e : Event) → Carries end Q P → P b → Q b → b.kept.state.time < end → s.event ≡ e → step_of e ≡ Inside → b.own.spent ≤ 63
      → P (record b { core = s.core; bus = s.bus; own = with_one_spent b.own })
  inside_carries end Q P e carries p met before at inside few = by e at inside
    where
      new : Held
      new = record b { core = s.core; bus = s.bus; own = with_one_spent b.own }

      moves : Moves Inside b new
      moves = user_moves b s owed user (omega (arith, few))

      by : (e : Event) → s.event ≡ e → step_of e ≡ Inside → P new
      by Retired at other = absurd (cc)
      by Branched at inside = carries.more b new Inside p met (inr (ready, before)) (follows Branched at) moves (real Branched at)
      by (Raised code) at inside = carries.more b new Inside p met (inr (ready, before)) (follows (Raised code) at) moves (real (Raised code) at)

-- the slot that Cause tells after an exception
slot_told_by : (s : core.Step) (at : Hardware) (code : ExceptionCode) → s ≡ ahead.step_of at → s.event ≡ Raised code → is_delayed s.core.system ≡ at.core.slot
slot_told_by s at code is event =
    ap (λ (x : core.Step). is_delayed x.core.system) is ∙ slot_of_raised at.core at.bus (ap (λ (x : core.Step). is_raised x.event) (sym is) ∙ ap is_raised event)

-- what is quiet is so with a boundary owed too
quiet_owed : (k : Kept) (owed : Option Turn) → IsUndisturbed k → IsUndisturbed (record k { state = record k.state { owed = owed } })
quiet_owed k owed q = record { commands = q.commands; characters = q.characters; asleep = q.asleep; period = q.period; ends = q.ends }

-- Many instructions, from h on.
module _ (h : Held) (owed : h.kept.state.owed ≡ None) (ready : h.kept.state.ready ≢ []) (mode : h.core.system.status ≡ user_status) (few : h.own.spent ≤ 61) (last : ℕ) (calm_until : IsQuietUntil last h.kept) (end : ℕ) (Q P : Held → Type 0) (carries : Carries end Q P) (begun : P h) where
  abbrev start : Hardware
  start = hardware_of h.core h.bus

  abbrev IsCalm : ℕ → Type 0
  IsCalm n = (k : ℕ) → k < n → is_raised (ahead.step_of (after_steps k start)).event ≡ false

  abbrev at : ℕ → Hardware
  at n = after_steps n start

  -- Q holds where each of so many steps begins
  abbrev AreMetAt : ℕ → Type 0
  AreMetAt n = (k : ℕ) → k < n → Q (with_block k h (at k))

  -- the processor stays in user mode
  system_kept : (n : ℕ) → IsCalm n → (at n).core.system ≡ h.core.system
  system_kept zero calm = refl
  system_kept (suc n) calm =
      let before : (at n).core.system ≡ h.core.system = system_kept n (λ k below. calm k (omega (arith, below))) in
      keeps_system (at n).core (at n).bus (barred (at n).core 0 (ap (λ (s : System). s.status) before ∙ mode)) (calm n (omega arith)) ∙ before

  user_kept : (n : ℕ) → IsCalm n → is_user (at n).core.system ≡ true
  user_kept n calm = ap is_user (system_kept n calm) ∙ ap (λ (w : ℕ). (bits w 1 1 == 1)) mode

  -- no step leaves h
  none : P (with_block 0 h start)
  none = subst P
      (let same : h.kept.state.time ≡ h.kept.state.time + 0 = omega arith in
      ap (λ (o : Option Turn). moved h start h.kept.state.time o (counts_of h.own)) owed
      ∙ ap (λ (t : ℕ). moved h start t None (counts_of h.own)) same)
      begun

  -- where no time has passed, no more than a branch is done
  few_counted : (n : ℕ) → IsCalm n → (with_block n h (at n)).own.spent ≤ 62
  few_counted n calm =
      let all : ticks n start + owed_tick (at n).core.slot ≡ n + owed_tick h.core.slot = ticks_of_advance n start (at n) (record { state = refl; calm = calm }) in
      let small : owed_tick (at n).core.slot ≤ 1 = owed_small (at n).core.slot in
      counts_few n (ticks n start) (at n).core.slot h.own few (λ none. omega (arith, all, small, none))

  -- a unit among so many steps begins before the end
  begins : (n : ℕ) → IsCalm n → h.kept.state.time + suc n + owed_tick h.core.slot ≤ end → time_after n h < end
  begins n calm soon =
      let all : ticks n start + owed_tick (at n).core.slot ≡ n + owed_tick h.core.slot = ticks_of_advance n start (at n) (record { state = refl; calm = calm }) in
      let before : h.kept.state.time + ticks n start < end = omega (arith, all, soon) in
      before

  -- One step more.
  module _ (n : ℕ) (calm : IsCalm (suc n)) (words : (at n).core.pc < 2 ^ 32) (early : h.kept.state.time + suc n + owed_tick h.core.slot ≤ last) (soon : h.kept.state.time + suc n + owed_tick h.core.slot ≤ end) (path : P (with_block n h (at n))) (met : Q (with_block n h (at n))) where
    abbrev b : Held
    b = with_block n h (at n)

    abbrev s : core.Step
    s = ahead.step_of (at n)

    user : is_user (at n).core.system ≡ true
    user = user_kept n (λ k below. calm k (omega (arith, below)))

    -- it enters no exception
    complete : is_raised s.event ≡ true → IsWhole s.core
    complete raised = let no : false ≡ true = sym (calm n (omega arith)) ∙ raised in absurd (cc)

    before_end : time_after n h < end
    before_end = begins n (λ k below. calm k (omega (arith, below))) soon

    slots : (e : Event) → s.event ≡ e → Slots e (at n).core.slot s.core.slot
    slots e is = subst (λ (x : Event). Slots x (at n).core.slot s.core.slot) is (step_slots (at n).core (at n).bus)

    all_ticks : ticks (suc n) start + owed_tick s.core.slot ≡ suc n + owed_tick h.core.slot
    all_ticks = ticks_of_advance (suc n) start (at (suc n)) (record { state = refl; calm = calm })

    more_ticks : (e : Event) → s.event ≡ e → ticks (suc n) start ≡ ticks n start + ticks_after e (at n).core.slot
    more_ticks e is = ap (λ (x : Event). ticks n start + ticks_after x (at n).core.slot) is

    by : (e : Event) → s.event ≡ e → is_raised e ≡ false → P (with_block (suc n) h (left_by s))
    by Retired is quiet_step =
        let more : ticks (suc n) start ≡ ticks n start + (1 + owed_tick (at n).core.slot) = more_ticks Retired is in
        let unit : ticks_of (at n).core.slot ≡ 1 + owed_tick (at n).core.slot = ticks_of_slot (at n).core.slot in
        let all : ticks (suc n) start + owed_tick s.core.slot ≡ suc n + owed_tick h.core.slot = all_ticks in
        let time : ℕ = h.kept.state.time + ticks n start + ticks_of (at n).core.slot in
        let time_is : time ≡ h.kept.state.time + ticks (suc n) start = omega (arith, more, unit) in
        let some : 0 < ticks (suc n) start = omega (arith, more) in
        let wired : (counts_beyond n (ticks n start) (at n).core.slot h.own).wired ≡ h.own.wired = counts_wired n (ticks n start) (at n).core.slot h.own in
        let counts : fresh_counts (counts_beyond n (ticks n start) (at n).core.slot h.own).wired ≡ counts_beyond (suc n) (ticks (suc n) start) s.core.slot h.own =
        ap fresh_counts wired ∙ (ap (λ (slot : Bool). record (fresh_counts h.own.wired) { spent = owed_tick slot }) (sym (slots Retired is)) ∙ sym (counts_past (suc n) (ticks (suc n) start) s.core.slot h.own some)) in
        let upto : time ≤ last = omega (arith, time_is, all, early) in
        let later : h.kept.state.time ≤ time = omega (arith, time_is) in
        let q : IsUndisturbed (at_time time h.kept) = calm_until.quiet time later upto in
        let since : h.kept.ticked ≤ time = (let before : h.kept.ticked ≤ h.kept.state.time = calm_until.ticked in omega (arith, before, later)) in
        let turn : Option Turn = Some (record { began = h.kept.state.time + ticks n start; runner = first h.kept.state.ready }) in
        subst P
        (ap₂ (λ (t : ℕ) (k : Counts). moved h (left_by s) t None k) time_is counts)
        (unit_carries b s refl refl ready user words complete end Q P carries path met before_end is since (quiet_owed (at_time time h.kept) turn q))
    by Branched is quiet_step =
        let more : ticks (suc n) start ≡ ticks n start + 0 = more_ticks Branched is in
        let time_is : h.kept.state.time + ticks n start ≡ h.kept.state.time + ticks (suc n) start = omega (arith, more) in
        let none : ticks (suc n) start ≡ ticks n start = omega (arith, more) in
        let counts : one_more (counts_beyond n (ticks n start) (at n).core.slot h.own) ≡ counts_beyond (suc n) (ticks (suc n) start) s.core.slot h.own =
        counts_branched n (ticks n start) (at n).core.slot s.core.slot h.own (slots Branched is).0 (slots Branched is).1
        ∙ ap (λ (t : ℕ). counts_beyond (suc n) t s.core.slot h.own) (sym none) in
        let most = few_counted n (λ k below. calm k (omega (arith, below))) in
        subst P
        (ap₂ (λ (t : ℕ) (k : Counts). moved h (left_by s) t None k) time_is counts)
        (inside_carries b s refl refl ready user words complete end Q P Branched carries path met before_end is refl (omega (arith, most)))
    by (Raised code) is quiet_step = absurd (cc)

  -- steps that enter no exception
  block : (n : ℕ) → IsCalm n → ComesByWords n start → h.kept.state.time + n + owed_tick h.core.slot ≤ last → h.kept.state.time + n + owed_tick h.core.slot ≤ end → AreMetAt n → P (with_block n h (at n))
  block zero calm words early soon met = none
  block (suc n) calm words early soon met =
      by n calm (words n (omega arith)) early soon
      (block n (λ k below. calm k (omega (arith, below))) (λ k upto. words k (omega (arith, upto))) (omega (arith, early)) (omega (arith, soon)) (λ k below. met k (omega (arith, below))))
      (met n (omega arith)) (ahead.step_of (at n)).event refl (calm n (omega arith))

  -- and after them one that does
  raised : (n : ℕ) (hw : Hardware) (code : ExceptionCode) → IsCalm n → ComesByWords n start → h.kept.state.time + n + owed_tick h.core.slot ≤ last → h.kept.state.time + suc n + owed_tick h.core.slot ≤ end
      → IsWhole hw.core → record { event = Raised code; core = hw.core; bus = hw.bus } ≡ ahead.step_of (at n) → AreMetAt (suc n) → P (with_exception n h hw)
  raised n hw code calm words early soon all is met =
      let s : core.Step = record { event = Raised code; core = hw.core; bus = hw.bus } in
      let user : is_user (at n).core.system ≡ true = user_kept n calm in
      let most = few_counted n calm in
      let told : is_delayed hw.core.system ≡ (at n).core.slot = slot_told_by s (at n) code is refl in
      let here : (at n).core.pc < 2 ^ 32 = words n (omega arith) in
      subst P
      (ap (λ (slot : Bool). moved h hw (time_after n h) None (one_more (counts_beyond n (ticks n start) slot h.own))) (sym told))
      (inside_carries (with_block n h (at n)) s is refl ready user here (λ raised. all) end Q P (Raised code) carries
      (block n calm words early (omega (arith, soon)) (λ k below. met k (omega (arith, below)))) (met n (omega arith)) (begins n calm soon) refl refl (omega (arith, most)))

-- The laws.

module _ (n limit : ℕ) (h : Held) (hw : Hardware) (g : MayRunAhead limit h) (words : ComesByWords n (hardware_of h.core h.bus)) (within : n ≤ limit) (end : ℕ) (Q P : Held → Type 0) (carries : Carries end Q P) (begun : P h) where
  abbrev MetAt : ℕ → Type 0
  MetAt m = (k : ℕ) → k < m → Q (with_block k h (after_steps k (hardware_of h.core h.bus)))

  -- steps that enter no exception
  block_carries : Advances n (hardware_of h.core h.bus) hw → h.kept.state.time + n + owed_tick h.core.slot ≤ end → MetAt n → P (with_block n h hw)
  block_carries advances soon met =
      subst (λ (x : Hardware). P (with_block n h x)) (sym advances.state)
      (block h g.owed g.ready g.mode g.few (h.kept.state.time + limit + owed_tick h.core.slot) g.quiet end Q P carries begun n advances.calm words (omega (arith, within)) soon met)

  -- such steps and one that enters an exception
  raised_carries : (code : ExceptionCode) → AdvancesTo n (Some code) (hardware_of h.core h.bus) hw → IsWhole hw.core → h.kept.state.time + suc n + owed_tick h.core.slot ≤ end → MetAt (suc n) → P (with_exception n h hw)
  raised_carries code leads all soon met =
      raised h g.owed g.ready g.mode g.few (h.kept.state.time + limit + owed_tick h.core.slot) g.quiet end Q P carries begun n hw code leads.1.calm words (omega (arith, within)) soon all
      (leads.2 ∙ ap ahead.step_of leads.1.state) met

-- They are paths.

-- each state will do
abbrev Anywhere : Held → Type 0
Anywhere h = h ≡ h

paths_carry : (end : ℕ) (h : Held) → Carries end Anywhere (RealPath h)
paths_carry end h = record { more = λ b c kind p met begins f m r. path_join h b c p (one_step kind b c f m r); owing = λ b owed. refl }

no_path : (h : Held) → RealPath h h
no_path h = record { path = []; through = refl }

pub block_is_path : (n limit : ℕ) (h : Held) (hw : Hardware) → n ≤ limit → MayRunAhead limit h → Advances n (hardware_of h.core h.bus) hw → ComesByWords n (hardware_of h.core h.bus)
    → RealPath h (with_block n h hw)
block_is_path n limit h hw within g advances words =
    let end : ℕ = h.kept.state.time + n + owed_tick h.core.slot in
    block_carries n limit h hw g words within end Anywhere (RealPath h) (paths_carry end h) (no_path h) advances (omega arith) (λ k below. refl)

pub raised_is_path : (n limit : ℕ) (h : Held) (hw : Hardware) (code : ExceptionCode) → n ≤ limit → MayRunAhead limit h → AdvancesTo n (Some code) (hardware_of h.core h.bus) hw
    → ComesByWords n (hardware_of h.core h.bus) → IsWhole hw.core → RealPath h (with_exception n h hw)
raised_is_path n limit h hw code within g leads words all =
    let end : ℕ = h.kept.state.time + suc n + owed_tick h.core.slot in
    raised_carries n limit h hw g words within end Anywhere (RealPath h) (paths_carry end h) (no_path h) code leads all (omega arith) (λ k below. refl)

-- And clear ones, where the program is clear at each of the steps but the first.

clear_carries : (marks : List Bool) (end : ℕ) (h : Held) → Carries end (IsMet marks h) (ClearPath marks h)
clear_carries marks end h = record {
  more = λ b c kind p met begins f m r. record { path = b ∷ p.path; through = ((kind, f, m, r), p.through); met = (met, p.met) };
  owing = λ b owed. inr (λ none. let no : false ≡ true = sym (ap is_some none) ∙ owed in absurd (cc));
}

pub no_clear_path : (marks : List Bool) (h : Held) → ClearPath marks h h
no_clear_path marks h = record { path = []; through = refl; met = tt }

met_at : (marks : List Bool) (n : ℕ) (h : Held) → h.kept.state.owed ≡ None → ComesClear marks n (hardware_of h.core h.bus)
    → (k : ℕ) → k < n → IsMet marks h (with_block k h (after_steps k (hardware_of h.core h.bus)))
met_at marks n h owed clear zero below = inl (
    let same : h.kept.state.time + 0 ≡ h.kept.state.time = omega arith in
    ap (λ (t : ℕ). moved h (hardware_of h.core h.bus) t None (counts_of h.own)) same
    ∙ ap (λ (o : Option Turn). moved h (hardware_of h.core h.bus) h.kept.state.time o (counts_of h.own)) (sym owed))
met_at marks n h owed clear (suc k) below = inr (λ none rests some. clear (suc k) (omega arith) below)

pub block_is_clear : (marks : List Bool) (n limit : ℕ) (h : Held) (hw : Hardware) → n ≤ limit → MayRunAhead limit h → Advances n (hardware_of h.core h.bus) hw → ComesByWords n (hardware_of h.core h.bus)
    → ComesClear marks n (hardware_of h.core h.bus) → ClearPath marks h (with_block n h hw)
block_is_clear marks n limit h hw within g advances words clear =
    let end : ℕ = h.kept.state.time + n + owed_tick h.core.slot in
    block_carries n limit h hw g words within end (IsMet marks h) (ClearPath marks h) (clear_carries marks end h) (no_clear_path marks h) advances (omega arith) (met_at marks n h g.owed clear)

pub raised_is_clear : (marks : List Bool) (n limit : ℕ) (h : Held) (hw : Hardware) (code : ExceptionCode) → n ≤ limit → MayRunAhead limit h → AdvancesTo n (Some code) (hardware_of h.core h.bus) hw
    → ComesByWords n (hardware_of h.core h.bus) → IsWhole hw.core → ComesClear marks (n + 1) (hardware_of h.core h.bus) → ClearPath marks h (with_exception n h hw)
raised_is_clear marks n limit h hw code within g leads words all clear =
    let end : ℕ = h.kept.state.time + suc n + owed_tick h.core.slot in
    raised_carries n limit h hw g words within end (IsMet marks h) (ClearPath marks h) (clear_carries marks end h) (no_clear_path marks h) code leads all (omega arith)
    (λ k below. met_at marks (n + 1) h g.owed clear k (omega (arith, below)))

-- And they are within a run whose end comes no earlier than theirs.

runs_carry : (end : ℕ) (old : Held) → Carries end Anywhere (RunsWithin end old)
runs_carry end old = record { more = λ b c kind w met begins f m r. within_before kind end old b c w begins f; owing = λ b owed. refl }

pub block_runs : (n limit end : ℕ) (old h : Held) (hw : Hardware) → n ≤ limit → MayRunAhead limit h → h.kept.state.time + n + owed_tick h.core.slot ≤ end
    → Advances n (hardware_of h.core h.bus) hw → ComesByWords n (hardware_of h.core h.bus) → RunsWithin end old h → RunsWithin end old (with_block n h hw)
block_runs n limit end old h hw within g soon advances words begun =
    block_carries n limit h hw g words within end Anywhere (RunsWithin end old) (runs_carry end old) begun advances soon (λ k below. refl)

pub raised_runs : (n limit end : ℕ) (old h : Held) (hw : Hardware) (code : ExceptionCode) → n ≤ limit → MayRunAhead limit h → h.kept.state.time + n + owed_tick h.core.slot < end
    → AdvancesTo n (Some code) (hardware_of h.core h.bus) hw → ComesByWords n (hardware_of h.core h.bus) → IsWhole hw.core → RunsWithin end old h → RunsWithin end old (with_exception n h hw)
raised_runs n limit end old h hw code within g soon leads words all begun =
    raised_carries n limit h hw g words within end Anywhere (RunsWithin end old) (runs_carry end old) begun code leads all (omega (arith, soon)) (λ k below. refl)

-- the ticks of steps that an exception ended, by the slot that Cause tells
pub raised_ticks : (n : ℕ) (code : ExceptionCode) (old new : Hardware) → AdvancesTo n (Some code) old new → ticks n old + owed_tick (is_delayed new.core.system) ≡ n + owed_tick old.core.slot
raised_ticks n code old new leads =
    let s : core.Step = record { event = Raised code; core = new.core; bus = new.bus } in
    ap (λ (slot : Bool). ticks n old + owed_tick slot) (slot_told_by s leads.0 code leads.2 refl) ∙ ticks_of_advance n old leads.0 leads.1
