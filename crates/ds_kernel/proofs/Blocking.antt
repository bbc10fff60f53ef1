-- A block of instructions of a process goes on in a run.
use Rattle.std.proofs.Common.{◌≡◌, ◌≢◌, ℕ, zero, suc, ◌+◌, ◌-◌, ◌*◌, ◌<◌, ◌≤◌, Bool, true, false, cond, List, [], ◌∷◌, Option, Some, None, refl, sym, ap, ap₂, subst, ◌∙◌, length, arith}
use Rattle.std.specs.Prelude.{is_some, not, ◌==◌, ◌&&◌}
use Rattle.ds_word.specs.Word.{truth, bits}
use Rattle.ds_cp0.specs.System.{is_user}
use Rattle.ds_cp0.specs.declared.exception.ExceptionCode.{ExceptionCode}
use Rattle.ds_cp0.specs.declared.exception.Exception.{Exception}
use Rattle.ds_cp0.specs.declared.exception.ExceptionCode.TheVariants.{SystemCall}
use Rattle.ds_cp0.specs.System.{System, is_user, entered, pushed}
use Rattle.ds_ahead.specs.Inner.Ahead as ahead
use Rattle.ds_ahead.specs.Inner.Ahead.{Hardware, hardware_of, after_steps, Advances, AdvancesTo, ComesByWords, owed_tick, ticks}
use Rattle.ds_dev.specs.Bus.{BusState}
use Rattle.ds_core.specs.declared.event.Event.TheVariants.{Raised}
use Rattle.ds_core.specs.Core.{CoreState, Step, exception}
use Rattle.ds_core.specs.Inner.Core.{is_raised}
use Rattle.ds_core.proofs.Users.{keeps_system}
use Rattle.ds_pagemap.specs.declared.turn.Turn.{Turn}
use Rattle.ds_refinement.specs.Told.{code_in, is_delayed}
use Rattle.ds_refinement.specs.Held.{Held, Own}
use Rattle.ds_refinement.specs.Units.{user_status, is_served}
use Rattle.ds_refinement.specs.Inner.Services.{with_one_spent}
use Rattle.ds_refinement.specs.CourseSteps.{later}
use Rattle.ds_grants.proofs.OwnFrames.{truth_small}
use Rattle.ds_refinement.specs.Handling.{IsWhole}
use Rattle.ds_refinement.specs.Inner.Stands.{IsSound}
use Rattle.ds_refinement.specs.Steps.{steps_left}
use Rattle.ds_refinement.specs.Inner.Blocks.{moved, more_counted, counts_beyond, time_after, with_block, with_exception, MayRunAhead}
use Rattle.ds_refinement.proofs.Exceptions.{code_told, status_told}
use Rattle.ds_refinement.proofs.Meets.{barred}
use Rattle.ds_refinement.proofs.Joined.{path_join, path_sound}
use Rattle.ds_refinement.proofs.BlockPaths.{counts_few, block_is_path, raised_is_path, block_runs, raised_runs}
use Rattle.ds_monitor.specs.declared.monitor.Monitor.{Monitor}
use Rattle.ds_monitor.specs.Inner.Room.{HasRoom}
use Rattle.ds_monitor.specs.Inner.Kept.{kept_of}
use Rattle.ds_kernel.specs.declared.parts.Parts.{Parts}
use Rattle.ds_kernel.specs.Inner.Parts.{held, own_of, with_counts_of}
use Rattle.ds_refinement.specs.Counts.{Counts, counts_of, one_more}
use Rattle.ds_refinement.specs.Inner.Counts.{IsFresh, with_counts}
use Rattle.ds_monitor.specs.Inner.Coming.{next_due}
use Rattle.ds_kernel.specs.Inner.Good.{IsRate, IsGood}
use Rattle.ds_kernel.specs.Inner.AtOnce.{IsCalled}
use Rattle.ds_kernel.specs.Inner.Ran.{HasRun}
use Rattle.ds_kernel.proofs.Doing.{owed_small}
use Rattle.ds_kernel.specs.Inner.Going.{rank, GoesOn}
use Rattle.ds_monitor.proofs.Lawful.{turn_orderly}
use Rattle.ds_monitor.specs.Inner.Orderly as state
use Rattle.ds_kernel.proofs.Rooms.{room_later, turn_room}
use Rattle.ds_kernel.proofs.Called.{call_told}
use Rattle.ds_kernel.proofs.Stepping.{none_is_not_some}

-- Ranks.

pub rank_of : (n : ℕ) (h : Held) → h.kept.state.owed ≡ None → rank n h ≡ 131 * (n - h.kept.state.time) + steps_left h
rank_of n h owed = ap (λ (o : Option Turn). 131 * (n - h.kept.state.time) + cond (is_some o) 130 (steps_left h)) owed

-- the left of a unit with more instructions taken is less
fewer_left : (s t k l : ℕ) → s < t → t ≤ 64 → l ≤ 1 → 2 * (64 - t) + l < 2 * (64 - s) + k
fewer_left s t k l more few small = omega (arith, more, few, small)

pub few_left : (t l : ℕ) → l ≤ 1 → 2 * (64 - t) + l ≤ 129
few_left t l small = omega (arith, small)

-- Either time passes, or the unit has taken more instructions.
falls : (n t ticks old new : ℕ) → t < n → new ≤ 129 → (ticks ≡ 0 → new < old) → 131 * (n - (t + ticks)) + new < 131 * (n - t) + old
falls n t zero old new early few less = (let e : new < old = less refl in omega (arith, e))
falls n t (suc more) old new early few less = omega (arith, early, few)

-- So a block of so many ticks, which began before the end, is nearer to it.
nearer : (n ticks : ℕ) (old new : Held) → old.kept.state.owed ≡ None → new.kept.state.owed ≡ None → new.kept.state.time ≡ old.kept.state.time + ticks
    → (ticks ≡ 0 → old.own.spent < new.own.spent) → new.own.spent ≤ 64 → old.kept.state.time < n → rank n new < rank n old
nearer n ticks old new unowed same time more few early =
    let most : steps_left new ≤ 129 = few_left new.own.spent (truth (is_served new.core)) (truth_small (is_served new.core)) in
    let f = falls n old.kept.state.time ticks (steps_left old) (steps_left new) early most
    (λ none. fewer_left old.own.spent new.own.spent (truth (is_served old.core)) (truth (is_served new.core)) (more none) few (truth_small (is_served new.core))) in
    rw (rank_of n old unowed, rank_of n new same, time) f

-- What is counted after a block.

more_spent : (n : ℕ) (c : Counts) → (more_counted n c).spent ≡ c.spent + n
more_spent zero c = omega arith
more_spent (suc n) c = (let before = more_spent n c in omega (arith, before))

-- more instructions, while no time has passed
counts_more : (n t : ℕ) (slot : Bool) (own : Own) → t ≡ 0 → (counts_beyond n t slot own).spent ≡ own.spent + n
counts_more n zero slot own none = more_spent n (counts_of own)
counts_more n (suc t) slot own none = absurd (omega (arith, none))

-- where nothing but a unit's branch was counted, so it is after the block
pub whole_counts : (n t before : ℕ) (slot : Bool) (own : Own) → IsFresh own → own.spent ≡ before → t + owed_tick slot ≡ n + before → with_counts own (counts_beyond n t slot own) ≡ record own { spent = owed_tick slot }
whole_counts n (suc t) before slot own fresh is sum = sym (ap (λ (c : Counts). with_counts own (record c { spent = owed_tick slot })) fresh)
whole_counts zero zero before slot own fresh is sum = ap (λ (s : ℕ). record own { spent = s }) (omega (arith, is, sum))
whole_counts (suc zero) zero before slot own fresh is sum =
    ap (λ (c : Counts). with_counts own (one_more c)) fresh
    ∙ (sym (ap (λ (c : Counts). with_counts own (record c { spent = own.spent + 1 })) fresh)
    ∙ ap (λ (s : ℕ). record own { spent = s }) (omega (arith, is, sum)))
whole_counts (suc (suc n)) zero before slot own fresh is sum = absurd (let small = owed_small slot in omega (arith, small, sum))

-- and with an instruction more
pub whole_raised : (n t before : ℕ) (slot : Bool) (own : Own) → IsFresh own → own.spent ≡ before → t + owed_tick slot ≡ n + before → with_counts own (one_more (counts_beyond n t slot own)) ≡ record own { spent = owed_tick slot + 1 }
whole_raised n t before slot own fresh is sum =
    ap with_one_spent (whole_counts n t before slot own fresh is sum)
    ∙ (ap (λ (c : Counts). with_counts own (one_more (record c { spent = owed_tick slot }))) fresh
    ∙ sym (ap (λ (c : Counts). with_counts own (record c { spent = owed_tick slot + 1 })) fresh))

-- Random has gone no more than a step on since the first refill of the unit
later_small : (written : List ℕ) (since : ℕ) → later written since ≤ since + 1
later_small [] since = omega arith
later_small (slot ∷ more) since = omega arith

counts_since : (n t : ℕ) (slot : Bool) (own : Own) → own.since < 56 → (t ≡ 0 → n ≤ 1) → (counts_beyond n t slot own).since ≤ 56
counts_since zero zero slot own early one = omega (arith, early)
counts_since (suc zero) zero slot own early one = (let small = later_small own.written own.since in omega (arith, early, small))
counts_since (suc (suc n)) zero slot own early one = absurd (let most = one refl in omega (arith, most))
counts_since n (suc t) slot own early one = omega arith

-- So what is counted after a block leaves room for one more, which its exception takes.
pub counts_leave_room : (n t : ℕ) (slot : Bool) (own : Own) → (t ≡ 0 → n ≤ 1) → own.spent ≤ 61 → own.since < 56
    → ((counts_beyond n t slot own).spent ≤ 62) × ((counts_beyond n t slot own).since ≤ 56)
counts_leave_room n t slot own one few early = (counts_few n t slot own few one, counts_since n t slot own early one)

-- after some steps a unit is begun where the next stands in a slot
begun_in_slot : (n t : ℕ) (slot : Bool) (own : Own) → (t ≡ 0 → owed_tick slot ≡ 1) → 0 < (counts_beyond n t slot own).spent → owed_tick slot ≡ 1
begun_in_slot n zero slot own one some = one refl
begun_in_slot n (suc t) slot own one some = (let small = owed_small slot in omega (arith, small, some))

-- a unit's branch is all that is counted of it: was a slot left before or not
counts_fresh : (n t : ℕ) (was slot : Bool) (own : Own) → (own.spent ≤ owed_tick was → IsFresh own) → (t ≡ 0 → n + owed_tick was ≡ owed_tick slot)
    → (counts_beyond n t slot own).spent ≤ owed_tick slot → IsFresh (with_counts own (counts_beyond n t slot own))
counts_fresh zero zero was slot own fresh sum few = (let same = sum refl in fresh (omega (arith, few, same)))
counts_fresh (suc zero) zero was slot own fresh sum few = (let same = sum refl in let small = owed_small slot in ap one_more (fresh (omega (arith, few, same, small))))
counts_fresh (suc (suc n)) zero was slot own fresh sum few = absurd (let same = sum refl in let small = owed_small slot in omega (arith, same, small))
counts_fresh n (suc t) was slot own fresh sum few = refl

-- after an exception in the first step of a unit, or in its slot, one more is counted
raised_fresh : (n t limit : ℕ) (was slot : Bool) (own : Own) → (own.spent ≤ owed_tick was → IsFresh own) → limit ≤ 1 → (one_more (counts_beyond n t slot own)).spent ≤ limit → IsFresh (with_counts own (one_more (counts_beyond n t slot own)))
raised_fresh zero zero limit was slot own fresh small few = ap one_more (fresh (omega (arith, small, few)))
raised_fresh (suc n) zero limit was slot own fresh small few = absurd (let more = more_spent n (counts_of own) in omega (arith, small, few, more))
raised_fresh n (suc t) limit was slot own fresh small few = refl

-- What is left in the parts.

-- the station is as it should be at a later time
later_good : {L : Type 0} (old new : Parts L) → IsGood old → IsSound (held new) → old.monitor.owed ≡ None → old.monitor.ready ≢ [] → new.monitor ≡ record old.monitor { time = new.monitor.time }
    → old.monitor.time ≤ new.monitor.time → (is_user new.core.system ≡ false → 0 < new.spent) → new.spent ≤ 64 → (new.spent ≤ owed_tick new.core.slot → IsFresh (own_of new)) → HasRoom 1 old.monitor
    → (0 < new.spent → new.monitor.time + 2 ≤ old.monitor.quiet_until) → new.monitor.time ≤ 1000000001 → IsGood new
later_good old new good sound unowed ready monitor later raised few fresh room quiet early =
    let owed : new.monitor.owed ≡ None = ap (λ (m : Monitor). m.owed) monitor ∙ unowed in
    let lines : new.monitor.lines ≡ old.monitor.lines = ap (λ (m : Monitor). m.lines) monitor in
    let ticked : new.monitor.ticked ≡ old.monitor.ticked = ap (λ (m : Monitor). m.ticked) monitor in
    let few_lines : old.monitor.lines + length old.monitor.due.commands ≤ old.monitor.time + 4096 = good.orderly.lines in
    let commands : length new.monitor.due.commands ≡ length old.monitor.due.commands = ap (λ (m : Monitor). length m.due.commands) monitor in
    let until : new.monitor.quiet_until ≡ old.monitor.quiet_until = ap (λ (m : Monitor). m.quiet_until) monitor in
    let next : new.monitor.quiet_until ≡ next_due (kept_of new.monitor) = until ∙ (good.next ∙ sym (ap (λ (m : Monitor). next_due (kept_of m)) monitor)) in
    let before : old.monitor.ticked ≤ old.monitor.time = good.orderly.ticked in
    let still_room : HasRoom 1 new.monitor = subst (λ (m : Monitor). HasRoom 1 m) (sym monitor) (room_later 1 old.monitor new.monitor.time old.monitor.owed room) in record {
      sound = sound;
      orderly = record {
        begun = λ some. owed;
        failed = λ is. owed;
        raised = raised;
        running = λ some. subst (λ (m : Monitor). m.ready ≢ []) (sym monitor) ready;
        spent = few;
        fresh = fresh;
        lines = omega (arith, lines, few_lines, later, commands);
        ticked = omega (arith, ticked, before, later);
        early = early;
        rate = subst (λ (m : Monitor). IsRate m.rate) (sym monitor) good.orderly.rate;
        kept = subst (λ (m : Monitor). state.IsOrderly (kept_of m)) (sym monitor) (turn_orderly (kept_of old.monitor) new.monitor.time old.monitor.owed good.orderly.kept);
      };
      room = λ some. turn_room new.monitor still_room next (let before = quiet some in omega (arith, before, until));
      owed = λ some. absurd (none_is_not_some new.monitor.owed owed some);
      next = next;
    }

-- what the coprocessor has stays, where no exception is entered
pub system_kept : (start : Hardware) (n : ℕ) → start.core.system.status ≡ user_status → ((k : ℕ) → k < n → is_raised (ahead.step_of (after_steps k start)).event ≡ false) → (after_steps n start).core.system ≡ start.core.system
system_kept start zero mode calm = refl
system_kept start (suc n) mode calm =
    let before : (after_steps n start).core.system ≡ start.core.system = system_kept start n mode (λ k below. calm k (omega (arith, below))) in
    keeps_system (after_steps n start).core (after_steps n start).bus (barred (after_steps n start).core 0 (ap (λ (s : System). s.status) before ∙ mode)) (calm n (omega arith)) ∙ before

-- The parts after a block have another processor and bus, so many ticks are over, and what is counted of the unit differs.
abbrev pub IsMoved : {L : Type 0} → Parts L → Parts L → CoreState → BusState → ℕ → Type 0
IsMoved old new c b passed = new ≡ record (with_counts_of new old) { core = c; bus = b; monitor = record old.monitor { time = old.monitor.time + passed } }

pub counted_is : {L : Type 0} (old mid new : Parts L) (passed : ℕ) → mid ≡ record old { core = mid.core; bus = mid.bus }
    → new ≡ record (with_counts_of new mid) { monitor = record mid.monitor { time = mid.monitor.time + passed } } → IsMoved old new mid.core mid.bus passed
counted_is {L = L} old mid new passed rest by = by ∙ ap (λ (x : Parts L). record (with_counts_of new x) { monitor = record x.monitor { time = x.monitor.time + passed } }) rest

-- A block of at most so many instructions from the old parts.
module _ {L : Type 0} (limit n : ℕ) (old new : Parts L) (c : CoreState) (b : BusState) (passed : ℕ) (good : IsGood old) (goes : MayRunAhead limit (held old)) (room : HasRoom 1 old.monitor) (in_time : old.monitor.time + limit + 1 ≤ 1000000001)
    (soon : old.monitor.time + limit + 1 + owed_tick old.core.slot ≤ old.monitor.quiet_until) (words : ComesByWords n (hardware_of old.core old.bus)) (rest : IsMoved old new c b passed) where
  abbrev hw : Hardware
  hw = hardware_of c b

  abbrev start : Hardware
  start = hardware_of old.core old.bus

  time_is : new.monitor.time ≡ old.monitor.time + passed
  time_is = ap (λ (x : Parts L). x.monitor.time) rest

  core_is : new.core ≡ c
  core_is = ap (λ (x : Parts L). x.core) rest

  monitor_is : new.monitor ≡ record old.monitor { time = new.monitor.time }
  monitor_is = ap (λ (x : Parts L). x.monitor) rest ∙ ap (λ (t : ℕ). record old.monitor { time = t }) (sym time_is)

  -- with these counts of the unit
  moved_is : (counts : Counts) → own_of new ≡ with_counts (own_of old) counts → passed ≡ ticks n start → held new ≡ moved (held old) hw (time_after n (held old)) None counts
  moved_is counts own time =
      ap (λ (x : Parts L). record { core = x.core; bus = x.bus; kept = kept_of x.monitor; own = own_of new }) rest
      ∙ (ap (λ (o : Own). record { core = c; bus = b; kept = kept_of (record old.monitor { time = old.monitor.time + passed }); own = o }) own
      ∙ (ap (λ (t : ℕ). moved (held old) hw (old.monitor.time + t) old.monitor.owed counts) time
      ∙ ap (λ (o : Option Turn). moved (held old) hw (time_after n (held old)) o counts) goes.owed))

  -- no instruction raised an exception
  module _ (within : n ≤ limit) (advances : Advances n start hw) (all : ticks n start + owed_tick c.slot ≡ n + owed_tick old.core.slot) (time : passed ≡ n + owed_tick old.core.slot - owed_tick c.slot)
      (own : own_of new ≡ with_counts (own_of old) (counts_beyond n passed c.slot (own_of old))) where
    abbrev counts : Counts
    counts = counts_beyond n passed c.slot (own_of old)

    passed_is : passed ≡ ticks n start
    passed_is = omega (arith, all, time)

    sum : passed + owed_tick c.slot ≡ n + owed_tick old.core.slot
    sum = omega (arith, all, time)

    spent_is : new.spent ≡ counts.spent
    spent_is = ap (λ (o : Own). o.spent) own

    pub calm_is : held new ≡ with_block n (held old) hw
    calm_is = moved_is counts own passed_is ∙ ap (λ (t : ℕ). moved (held old) hw (time_after n (held old)) None (counts_beyond n t c.slot (own_of old))) passed_is

    user : is_user new.core.system ≡ true
    user =
        let system : c.system ≡ old.core.system = ap (λ (x : Hardware). x.core.system) advances.state ∙ system_kept start n goes.mode advances.calm in
        ap (λ (x : CoreState). is_user x.system) core_is ∙ ap (λ (w : ℕ). bits w 1 1 == 1) (ap (λ (s : System). s.status) system ∙ goes.mode)

    few : new.spent ≤ 62
    few =
        let small : owed_tick c.slot ≤ 1 = owed_small c.slot in
        let of : counts.spent ≤ 62 = counts_few n passed c.slot (own_of old) goes.few (λ none. omega (arith, sum, small, none)) in
        omega (arith, of, spent_is)

    pub calm_good : 1 ≤ n → IsGood new
    calm_good some =
        let small : owed_tick c.slot ≤ 1 = owed_small c.slot in
        let one : owed_tick old.core.slot ≤ 1 = owed_small old.core.slot in
        let at : owed_tick new.core.slot ≡ owed_tick c.slot = ap (λ (x : CoreState). owed_tick x.slot) core_is in
        later_good old new good
        (subst IsSound (sym calm_is) (path_sound (held old) (with_block n (held old) hw) good.sound (block_is_path n limit (held old) hw within goes advances words)))
        goes.owed goes.ready monitor_is (omega (arith, time_is)) (λ is. (let no : true ≡ false = sym user ∙ is in absurd (cc))) (omega (arith, few))
        (λ first. subst IsFresh (sym own) (counts_fresh n passed old.core.slot c.slot (own_of old) good.orderly.fresh (λ none. omega (arith, sum, none)) (omega (arith, first, at, spent_is)))) room
        (λ begun.
        let slot : owed_tick c.slot ≡ 1 = begun_in_slot n passed c.slot (own_of old) (λ none. omega (arith, sum, small, some, none)) (omega (arith, begun, spent_is)) in
        omega (arith, soon, within, time_is, sum, slot))
        (omega (arith, in_time, within, time_is, sum, one))

    pub calm_goes : (end : ℕ) → 1 ≤ n → old.monitor.time + limit + owed_tick old.core.slot ≤ end → GoesOn end (held old) (held new)
    calm_goes end some upto_end =
        let small : owed_tick c.slot ≤ 1 = owed_small c.slot in
        let upto : old.monitor.time + n + owed_tick old.core.slot ≤ end = omega (arith, within, upto_end) in
        let unowed : new.monitor.owed ≡ None = ap (λ (x : Parts L). x.monitor.owed) rest ∙ goes.owed in record {
          runs = λ first h. subst (HasRun end first) (sym calm_is) (record {
            path = path_join first (held old) (with_block n (held old) hw) h.path (block_is_path n limit (held old) hw within goes advances words);
            within = block_runs n limit end first (held old) hw within goes upto advances words h.within;
          });
          nearer = nearer end passed (held old) (held new) goes.owed unowed time_is
              (λ none. let more : counts.spent ≡ old.spent + n = counts_more n passed c.slot (own_of old) none in omega (arith, more, spent_is, some)) (omega (arith, few)) (omega (arith, some, upto));
          working = ap (λ (o : Own). o.failed) own;
          begun = λ begun.
              let slot : owed_tick c.slot ≡ 1 = begun_in_slot n passed c.slot (own_of old) (λ none. omega (arith, sum, small, some, none)) (omega (arith, begun, spent_is)) in
              omega (arith, time_is, sum, slot, upto);
        }

  -- the one after them did
  module _ (code : ExceptionCode) (fewer : n < limit) (leads : AdvancesTo n (Some code) start hw) (whole : IsWhole c) (all : ticks n start + owed_tick (is_delayed c.system) ≡ n + owed_tick old.core.slot)
      (time : passed ≡ n + owed_tick old.core.slot - owed_tick (is_delayed c.system)) (own : own_of new ≡ with_counts (own_of old) (one_more (counts_beyond n passed (is_delayed c.system) (own_of old)))) where
    abbrev delayed : Bool
    delayed = is_delayed c.system

    passed_so : passed ≡ ticks n start
    passed_so = omega (arith, all, time)

    ticks_sum : passed + owed_tick delayed ≡ n + owed_tick old.core.slot
    ticks_sum = omega (arith, all, time)

    spent_so : new.spent ≡ (counts_beyond n passed delayed (own_of old)).spent + 1
    spent_so = ap (λ (o : Own). o.spent) own

    within : n ≤ limit
    within = omega (arith, fewer)

    pub raised_is : held new ≡ with_exception n (held old) hw
    raised_is =
        moved_is (one_more (counts_beyond n passed delayed (own_of old))) own passed_so
        ∙ ap (λ (t : ℕ). moved (held old) hw (time_after n (held old)) None (one_more (counts_beyond n t delayed (own_of old)))) passed_so

    most : new.spent ≤ 63
    most =
        let small : owed_tick delayed ≤ 1 = owed_small delayed in
        let of : (counts_beyond n passed delayed (own_of old)).spent ≤ 62 = counts_few n passed delayed (own_of old) goes.few (λ none. omega (arith, ticks_sum, small, none)) in
        omega (arith, of, spent_so)

    pub raised_good : IsGood new
    raised_good =
        let one : owed_tick old.core.slot ≤ 1 = owed_small old.core.slot in
        later_good old new good
        (subst IsSound (sym raised_is) (path_sound (held old) (with_exception n (held old) hw) good.sound (raised_is_path n limit (held old) hw code within goes leads words whole)))
        goes.owed goes.ready monitor_is (omega (arith, time_is)) (λ is. omega (arith, spent_so)) (omega (arith, most))
        (λ first. subst IsFresh (sym own) (raised_fresh n passed (owed_tick new.core.slot) old.core.slot delayed (own_of old) good.orderly.fresh (owed_small new.core.slot) (omega (arith, first, spent_so)))) room
        (λ begun. omega (arith, soon, fewer, time_is, ticks_sum))
        (omega (arith, in_time, within, time_is, ticks_sum, one))

    pub raised_goes : (end : ℕ) → old.monitor.time + limit + owed_tick old.core.slot ≤ end → GoesOn end (held old) (held new)
    raised_goes end upto_end =
        let upto : old.monitor.time + n + owed_tick old.core.slot < end = omega (arith, fewer, upto_end) in
        let unowed : new.monitor.owed ≡ None = ap (λ (x : Parts L). x.monitor.owed) rest ∙ goes.owed in record {
          runs = λ first h. subst (HasRun end first) (sym raised_is) (record {
            path = path_join first (held old) (with_exception n (held old) hw) h.path (raised_is_path n limit (held old) hw code within goes leads words whole);
            within = raised_runs n limit end first (held old) hw code within goes upto leads words whole h.within;
          });
          nearer = nearer end passed (held old) (held new) goes.owed unowed time_is
              (λ none. let more : (counts_beyond n passed delayed (own_of old)).spent ≡ old.spent + n = counts_more n passed delayed (own_of old) none in omega (arith, more, spent_so)) (omega (arith, most)) (omega (arith, upto));
          working = ap (λ (o : Own). o.failed) own;
          begun = λ begun. omega (arith, time_is, ticks_sum, upto);
        }

    -- the exception came before the block's last tick
    pub raised_soon : new.monitor.time + 1 < old.monitor.quiet_until
    raised_soon = omega (arith, soon, fewer, time_is, ticks_sum)

    -- where it was a call, the processor tells that
    pub raised_call : code ≡ SystemCall → IsCalled new.core
    raised_call is =
        let last : Hardware = leads.0 in
        let e : Exception = exception last.core SystemCall in
        let there : last.core.system.status ≡ user_status =
        ap (λ (x : Hardware). x.core.system.status) leads.1.state ∙ (ap (λ (s : System). s.status) (system_kept start n goes.mode leads.1.calm) ∙ goes.mode) in
        let told = call_told last.core last.bus (ap (λ (s : Step). s.event) (sym leads.2) ∙ ap Raised is) in
        let system : c.system ≡ entered last.core.system e = ap (λ (s : Step). s.core.system) leads.2 ∙ told.0 in
        let at : c.pc ≡ 0x80000080 = ap (λ (s : Step). s.core.pc) leads.2 ∙ told.1 in
        let status : c.system.status ≡ pushed user_status = ap (λ (s : System). s.status) system ∙ (status_told last.core.system e ∙ ap pushed there) in
        subst IsCalled (sym core_is) (record {
          served = ap₂ (λ (w pc : ℕ). not (bits w 1 1 == 1) && (pc == 0x80000080)) status at;
          left = ap (λ (w : ℕ). bits w 3 1 == 1) status;
          code = ap code_in system ∙ code_told last.core.system e;
        })
