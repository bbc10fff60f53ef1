-- A block up to a stop.
use Rattle.std.proofs.Common.{◌≡◌, ℕ, ◌+◌, ◌-◌, ◌<◌, ◌≤◌, ◌^◌, Bool, false, List, Some, sym, ap, subst, ◌∙◌, arith}
use Rattle.ds_cp0.specs.declared.exception.ExceptionCode.{ExceptionCode}
use Rattle.ds_cp0.specs.System.{is_user}
use Rattle.ds_ahead.specs.Inner.Ahead.{Hardware, hardware_of, Advances, AdvancesTo, ComesByWords, owed_tick, ticks}
use Rattle.ds_ahead.specs.Inner.Stops.{ComesClear}
use Rattle.ds_ahead.proofs.Slots.{ticks_of_advance}
use Rattle.ds_refinement.specs.Counts.{one_more}
use Rattle.ds_refinement.specs.Held.{Own}
use Rattle.ds_refinement.specs.Handling.{IsWhole}
use Rattle.ds_refinement.specs.Told.{is_delayed}
use Rattle.ds_refinement.specs.Inner.Blocks.{counts_beyond, MayRunAhead}
use Rattle.ds_refinement.specs.Inner.Clear.{ClearPath}
use Rattle.ds_refinement.specs.Inner.Counts.{IsFresh, with_counts}
use Rattle.ds_refinement.proofs.BlockPaths.{block_is_clear, raised_is_clear, raised_ticks}
use Rattle.ds_refinement.proofs.ClearPaths.{clear_inside}
use Rattle.ds_refinement.proofs.Tallied.{few_of}
use Rattle.ds_monitor.specs.Inner.Room.{HasRoom}
use Rattle.ds_kernel.specs.declared.parts.Parts.{Parts}
use Rattle.ds_kernel.specs.Inner.Parts.{held, own_of, with_counts_of}
use Rattle.ds_kernel.specs.Inner.Going.{GoesOn}
use Rattle.ds_kernel.specs.Inner.Good.{IsGood}
use Rattle.ds_kernel.proofs.Blocking.{IsMoved, calm_good, calm_goes, calm_is, counted_is, raised_good, raised_goes, raised_is}
use Rattle.ds_kernel.proofs.Doing.{owed_small}
use Rattle.ds_kernel.proofs.Running.{no_run}

-- So many steps of a block of at most `limit` were taken, and are to be counted.
module _ {L : Type 0} (marks : List Bool) (n limit steps before : ℕ) (old mid : Parts L) (good : IsGood old) (early : n ≤ 1000000000) (ahead : MayRunAhead limit (held old)) (end : old.monitor.time + limit + 1 ≤ n)
    (soon : old.monitor.time + limit + 1 + owed_tick old.core.slot ≤ old.monitor.quiet_until) (room : HasRoom 1 old.monitor) (tick : before ≡ owed_tick old.core.slot) (still : mid ≡ record old { core = mid.core; bus = mid.bus }) (within : steps ≤ limit)
    (words : ComesByWords steps (hardware_of old.core old.bus)) where
  abbrev start : Hardware
  start = hardware_of old.core old.bus

  abbrev hw : Hardware
  hw = hardware_of mid.core mid.bus

  own_still : own_of mid ≡ own_of old
  own_still = ap (λ (x : Parts L). own_of x) still

  small : before ≤ 1
  small = (let most = owed_small old.core.slot in omega (arith, most, tick))

  in_time : old.monitor.time + limit + 1 ≤ 1000000001
  in_time = omega (arith, end, early)

  to_end : old.monitor.time + limit + owed_tick old.core.slot ≤ n
  to_end = (let most = owed_small old.core.slot in omega (arith, most, end))

  pub until_fresh : mid.spent ≡ before → IsFresh (own_of mid)
  until_fresh is =
      let same : mid.spent ≡ old.spent = ap (λ (o : Own). o.spent) own_still in
      subst IsFresh (sym own_still) (good.orderly.fresh (omega (arith, is, same, tick)))

  pub until_early : mid.monitor.time ≤ 1000000000
  until_early = (let same : mid.monitor.time ≡ old.monitor.time = ap (λ (x : Parts L). x.monitor.time) still in omega (arith, same, end, early))

  pub until_spent : mid.spent ≤ 61
  until_spent = (let same : mid.spent ≡ old.spent = ap (λ (o : Own). o.spent) own_still in let few = ahead.few in omega (arith, same, few))

  pub until_since : mid.since < 56
  until_since = subst (λ (x : Parts L). x.since < 56) (sym still) (few_of (held old) good.sound.state good.sound.stands).since

  pub until_fits : steps + before < 2 ^ 32
  until_fits = omega (arith, small, within, in_time)

  -- None of them entered an exception.
  module _ (advances : Advances steps start hw) (some : 0 < steps) (clear : ComesClear marks steps start) (slot : Bool) (at : slot ≡ mid.core.slot) where
    all : ticks steps start + owed_tick mid.core.slot ≡ steps + owed_tick old.core.slot
    all = ticks_of_advance steps start hw advances

    at_tick : owed_tick slot ≡ owed_tick mid.core.slot
    at_tick = ap owed_tick at

    pub until_some : owed_tick slot ≤ steps + before
    until_some = (let a = all in let t = at_tick in omega (arith, a, t, tick))

    abbrev passed : ℕ
    passed = steps + before - owed_tick slot

    time_is : passed ≡ steps + owed_tick old.core.slot - owed_tick mid.core.slot
    time_is = (let t = at_tick in omega (arith, t, tick))

    module _ (new : Parts L) (own : own_of new ≡ with_counts (own_of mid) (counts_beyond steps passed slot (own_of mid))) (by : new ≡ record (with_counts_of new mid) { monitor = record mid.monitor { time = mid.monitor.time + passed } }) where
      own_is : own_of new ≡ with_counts (own_of old) (counts_beyond steps passed mid.core.slot (own_of old))
      own_is = own ∙ (ap (λ (o : Own). with_counts o (counts_beyond steps passed slot o)) own_still ∙ ap (λ (b : Bool). with_counts (own_of old) (counts_beyond steps passed b (own_of old))) at)

      moved : IsMoved old new mid.core mid.bus passed
      moved = counted_is old mid new passed still by

      pub until_good : IsGood new
      until_good = calm_good limit steps old new mid.core mid.bus passed good ahead room in_time soon words moved within advances all time_is own_is some

      pub until_goes : GoesOn n (held old) (held new)
      until_goes = calm_goes limit steps old new mid.core mid.bus passed good ahead room in_time soon words moved within advances all time_is own_is n some to_end

      pub until_clear : ClearPath marks (held old) (held new)
      until_clear = subst (ClearPath marks (held old)) (sym (calm_is limit steps old new mid.core mid.bus passed good ahead room in_time soon words moved within advances all time_is own_is))
          (block_is_clear marks steps limit (held old) hw within ahead advances words clear)

  -- The step after them entered one.
  module _ (code : ExceptionCode) (fewer : steps < limit) (leads : AdvancesTo steps (Some code) start hw) (whole : IsWhole mid.core) (clear : ComesClear marks (steps + 1) start) (slot : Bool) (told : slot ≡ is_delayed mid.core.system) where
    all_so : ticks steps start + owed_tick (is_delayed mid.core.system) ≡ steps + owed_tick old.core.slot
    all_so = raised_ticks steps code start hw leads

    told_tick : owed_tick slot ≡ owed_tick (is_delayed mid.core.system)
    told_tick = ap owed_tick told

    pub until_some_raised : owed_tick slot ≤ steps + before
    until_some_raised = (let a = all_so in let t = told_tick in omega (arith, a, t, tick))

    abbrev passed_so : ℕ
    passed_so = steps + before - owed_tick slot

    time_so : passed_so ≡ steps + owed_tick old.core.slot - owed_tick (is_delayed mid.core.system)
    time_so = (let t = told_tick in omega (arith, t, tick))

    module _ (new : Parts L) (own : own_of new ≡ with_counts (own_of mid) (one_more (counts_beyond steps passed_so slot (own_of mid)))) (by : new ≡ record (with_counts_of new mid) { monitor = record mid.monitor { time = mid.monitor.time + passed_so } }) where
      own_so : own_of new ≡ with_counts (own_of old) (one_more (counts_beyond steps passed_so (is_delayed mid.core.system) (own_of old)))
      own_so = own ∙ (ap (λ (o : Own). with_counts o (one_more (counts_beyond steps passed_so slot o))) own_still ∙ ap (λ (b : Bool). with_counts (own_of old) (one_more (counts_beyond steps passed_so b (own_of old)))) told)

      moved_so : IsMoved old new mid.core mid.bus passed_so
      moved_so = counted_is old mid new passed_so still by

      pub until_raised_good : IsGood new
      until_raised_good = raised_good limit steps old new mid.core mid.bus passed_so good ahead room in_time soon words moved_so code fewer leads whole all_so time_so own_so

      pub until_raised_goes : GoesOn n (held old) (held new)
      until_raised_goes = raised_goes limit steps old new mid.core mid.bus passed_so good ahead room in_time soon words moved_so code fewer leads whole all_so time_so own_so n to_end

      pub until_raised_clear : ClearPath marks (held old) (held new)
      until_raised_clear = subst (ClearPath marks (held old)) (sym (raised_is limit steps old new mid.core mid.bus passed_so good ahead room in_time soon words moved_so code fewer leads whole all_so time_so own_so))
          (raised_is_clear marks steps limit (held old) hw code within ahead leads words whole clear)

-- a refill is inside its unit
pub refilled_clear : {L : Type 0} (marks : List Bool) (n : ℕ) (old new : Parts L) → IsGood old → is_user old.core.system ≡ false → GoesOn n (held old) (held new) → new.monitor.time ≡ old.monitor.time → ClearPath marks (held old) (held new)
refilled_clear marks n old new good kernel goes same =
    let some : 0 < old.spent = good.orderly.raised kernel in
    clear_inside marks (held old) (held new) (good.orderly.begun some) some (omega (arith, same)) (goes.runs (held old) (no_run n (held old))).path
