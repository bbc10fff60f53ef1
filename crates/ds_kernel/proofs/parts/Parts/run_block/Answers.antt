use Rattle.std.proofs.Common.{◌≡◌, ◌≤◌, ◌<◌, ◌+◌, ◌-◌, ◌^◌, ℕ, Option, refl, subst, inl, arith}
use Rattle.std.specs.Prelude.{IfSome}
use Rattle.ds_cp0.specs.declared.exception.ExceptionCode.{ExceptionCode}
use Rattle.ds_ahead.specs.Inner.Ahead.{hardware_of, after_steps, Advances, AdvancesTo, owed_tick}
use Rattle.ds_kernel.specs.Inner.Parts.{held}
use Rattle.ds_kernel.proofs.OnRides.{block_begun, block_on, owed_most, mid_fresh, mid_early, mid_spent, mid_since, mark_holds, counted_fits, raised_some, ends_raised_good, ends_raised_goes, ends_raised_early, ends_raised_call, ends_raised_quiet, ends_raised_log, ends_good, ends_goes}
use Rattle.ds_kernel.proofs.parts.Parts.run_block.Goals as goal

-- The block begins.

pub loop-left-init : goal.loop-left-init
loop-left-init g c =
    let p = c.args.self.now in
    let tick : c.slot_tick-before.result ≡ owed_tick p.core.slot = c.slot_tick-before.ensures in
    let wide : c.from.result ≡ c.slot_tick-before.result = c.from.ensures in
    let small : owed_tick p.core.slot ≤ 1 = owed_most p.core.slot in
    let ends : p.monitor.time + c.args.limit + 1 ≡ c.args.end = c.requires.end in
    let within : c.args.end ≤ c.args.n = c.requires.within in
    let quiet : c.args.end + owed_tick p.core.slot ≤ p.monitor.quiet_until = c.requires.before in record {
      block = block_begun (held p) c.args.n (c.args.end + c.from.result) c.args.limit p (inl refl) c.requires.good c.requires.working c.requires.ahead c.requires.room c.requires.some
          (omega (arith, tick, wide, ends)) (omega (arith, tick, wide, small, within)) c.requires.few (omega (arith, tick, wide, quiet)) (c.args.limit + c.slot_tick-before.result) c.slot_tick-before.result tick refl;
    }

-- A call was answered, and the block is over.

pub returns-in_default-clause-good : goal.returns-in_default-clause-good
returns-in_default-clause-good g c =
    let afterwards = c.in_default.ensures.over refl (held c.args.self.now) c.loop-left.invariant.block in
    afterwards.good

pub returns-in_default-clause-goes : goal.returns-in_default-clause-goes
returns-in_default-clause-goes g c =
    let afterwards = c.in_default.ensures.over refl (held c.args.self.now) c.loop-left.invariant.block in
    afterwards.goes

pub returns-in_default-clause-log : goal.returns-in_default-clause-log
returns-in_default-clause-log g c =
    let afterwards = c.in_default.ensures.over refl (held c.args.self.now) c.loop-left.invariant.block in
    afterwards.log

pub returns-in_default-clause-quiet : goal.returns-in_default-clause-quiet
returns-in_default-clause-quiet g c =
    let afterwards = c.in_default.ensures.over refl (held c.args.self.now) c.loop-left.invariant.block in
    let quiet : c.args.end + c.from.result ≤ c.ride.new.self.monitor.quiet_until = afterwards.quiet in
    omega (arith, quiet)

-- An instruction raised an exception.

pub overflow_sub-mark : goal.overflow_sub-mark
overflow_sub-mark g c =
    let k = c.in-Some.ensures.block (held c.args.self.now) c.loop-left.invariant.block in
    (mark_holds (held c.args.self.now) c.args.n (c.args.end + c.from.result) c.ride.new.mark c.ride.new.left c.ride.new.before c.ride.new.self k c.go_past_ride-went.new.self c.go_past_ride-went.ensures.rest c.go_past_ride-went.result.steps c.go_past_ride-went.ensures.within).0

pub overflow_sub-mark-in-Some-raised : goal.overflow_sub-mark-in-Some-raised
overflow_sub-mark-in-Some-raised g c =
    let k = c.in-Some.ensures.block (held c.args.self.now) c.loop-left.invariant.block in
    (mark_holds (held c.args.self.now) c.args.n (c.args.end + c.from.result) c.ride.new.mark c.ride.new.left c.ride.new.before c.ride.new.self k c.go_past_ride-went.new.self c.go_past_ride-went.ensures.rest c.go_past_ride-went.result.steps c.go_past_ride-went.ensures.within).1

pub count_raised-requires-clause-fresh : goal.count_raised-requires-clause-fresh
count_raised-requires-clause-fresh g c =
    let k = c.in-Some.ensures.block (held c.args.self.now) c.loop-left.invariant.block in
    mid_fresh (held c.args.self.now) c.args.n (c.args.end + c.from.result) c.ride.new.mark c.ride.new.left c.ride.new.before c.ride.new.self k c.go_past_ride-went.new.self c.go_past_ride-went.ensures.rest

pub count_raised-requires-clause-early : goal.count_raised-requires-clause-early
count_raised-requires-clause-early g c =
    let k = c.in-Some.ensures.block (held c.args.self.now) c.loop-left.invariant.block in
    mid_early (held c.args.self.now) c.args.n (c.args.end + c.from.result) c.ride.new.mark c.ride.new.left c.ride.new.before c.ride.new.self k c.go_past_ride-went.new.self c.go_past_ride-went.ensures.rest

pub count_raised-requires-clause-fits : goal.count_raised-requires-clause-fits
count_raised-requires-clause-fits g c =
    let k = c.in-Some.ensures.block (held c.args.self.now) c.loop-left.invariant.block in
    counted_fits (held c.args.self.now) c.args.n (c.args.end + c.from.result) c.ride.new.mark c.ride.new.left c.ride.new.before c.ride.new.self k c.go_past_ride-went.new.self c.go_past_ride-went.ensures.rest c.go_past_ride-went.result.steps c.go_past_ride-went.ensures.within

pub count_raised-requires-clause-spent : goal.count_raised-requires-clause-spent
count_raised-requires-clause-spent g c =
    let k = c.in-Some.ensures.block (held c.args.self.now) c.loop-left.invariant.block in
    mid_spent (held c.args.self.now) c.args.n (c.args.end + c.from.result) c.ride.new.mark c.ride.new.left c.ride.new.before c.ride.new.self k c.go_past_ride-went.new.self c.go_past_ride-went.ensures.rest

pub count_raised-requires-clause-since : goal.count_raised-requires-clause-since
count_raised-requires-clause-since g c =
    let k = c.in-Some.ensures.block (held c.args.self.now) c.loop-left.invariant.block in
    mid_since (held c.args.self.now) c.args.n (c.args.end + c.from.result) c.ride.new.mark c.ride.new.left c.ride.new.before c.ride.new.self k c.go_past_ride-went.new.self c.go_past_ride-went.ensures.rest

pub count_raised-requires-clause-some : goal.count_raised-requires-clause-some
count_raised-requires-clause-some g c =
    let k = c.in-Some.ensures.block (held c.args.self.now) c.loop-left.invariant.block in
    let leads = subst (λ (o : Option ExceptionCode). AdvancesTo c.go_past_ride-went.result.steps o (hardware_of c.ride.new.self.core c.ride.new.self.bus) (hardware_of c.go_past_ride-went.new.self.core c.go_past_ride-went.new.self.bus)) c.in-Some-raised.is c.go_past_ride-went.ensures.steps in
    let fewer = subst (λ (o : Option ExceptionCode). IfSome o (λ (code : ExceptionCode). c.go_past_ride-went.result.steps < c.ride.new.left)) c.in-Some-raised.is c.go_past_ride-went.ensures.fewer in
    let at = subst (λ (o : Option ExceptionCode). IfSome o (λ (code : ExceptionCode). (after_steps c.go_past_ride-went.result.steps (hardware_of c.ride.new.self.core c.ride.new.self.bus)).core.pc < 2 ^ 32)) c.in-Some-raised.is c.go_past_ride-went.ensures.raised in
    raised_some (held c.args.self.now) c.args.n (c.args.end + c.from.result) c.ride.new.mark c.ride.new.left c.ride.new.before c.ride.new.self k c.go_past_ride-went.new.self c.go_past_ride-went.ensures.rest c.go_past_ride-went.result.steps c.go_past_ride-went.ensures.within c.in-Some-raised.code fewer leads c.go_past_ride-went.ensures.words at c.is_delayed-slot.result c.is_delayed-slot.ensures

pub returns-in-Some-raised-clause-good : goal.returns-in-Some-raised-clause-good
returns-in-Some-raised-clause-good g c =
    let k = c.in-Some.ensures.block (held c.args.self.now) c.loop-left.invariant.block in
    let leads = subst (λ (o : Option ExceptionCode). AdvancesTo c.go_past_ride-went.result.steps o (hardware_of c.ride.new.self.core c.ride.new.self.bus) (hardware_of c.go_past_ride-went.new.self.core c.go_past_ride-went.new.self.bus)) c.in-Some-raised.is c.go_past_ride-went.ensures.steps in
    let fewer = subst (λ (o : Option ExceptionCode). IfSome o (λ (code : ExceptionCode). c.go_past_ride-went.result.steps < c.ride.new.left)) c.in-Some-raised.is c.go_past_ride-went.ensures.fewer in
    let at = subst (λ (o : Option ExceptionCode). IfSome o (λ (code : ExceptionCode). (after_steps c.go_past_ride-went.result.steps (hardware_of c.ride.new.self.core c.ride.new.self.bus)).core.pc < 2 ^ 32)) c.in-Some-raised.is c.go_past_ride-went.ensures.raised in
    ends_raised_good (held c.args.self.now) c.args.n (c.args.end + c.from.result) c.ride.new.mark c.ride.new.left c.ride.new.before c.ride.new.self k c.go_past_ride-went.new.self c.go_past_ride-went.ensures.rest c.go_past_ride-went.result.steps c.go_past_ride-went.ensures.within c.in-Some-raised.code fewer leads c.go_past_ride-went.ensures.words at c.is_delayed-slot.result c.is_delayed-slot.ensures c.show_whole_processor.ensures.whole c.count_raised.new.self c.count_raised.ensures.own c.count_raised.ensures.rest

pub returns-in-Some-raised-clause-goes : goal.returns-in-Some-raised-clause-goes
returns-in-Some-raised-clause-goes g c =
    let k = c.in-Some.ensures.block (held c.args.self.now) c.loop-left.invariant.block in
    let leads = subst (λ (o : Option ExceptionCode). AdvancesTo c.go_past_ride-went.result.steps o (hardware_of c.ride.new.self.core c.ride.new.self.bus) (hardware_of c.go_past_ride-went.new.self.core c.go_past_ride-went.new.self.bus)) c.in-Some-raised.is c.go_past_ride-went.ensures.steps in
    let fewer = subst (λ (o : Option ExceptionCode). IfSome o (λ (code : ExceptionCode). c.go_past_ride-went.result.steps < c.ride.new.left)) c.in-Some-raised.is c.go_past_ride-went.ensures.fewer in
    let at = subst (λ (o : Option ExceptionCode). IfSome o (λ (code : ExceptionCode). (after_steps c.go_past_ride-went.result.steps (hardware_of c.ride.new.self.core c.ride.new.self.bus)).core.pc < 2 ^ 32)) c.in-Some-raised.is c.go_past_ride-went.ensures.raised in
    ends_raised_goes (held c.args.self.now) c.args.n (c.args.end + c.from.result) c.ride.new.mark c.ride.new.left c.ride.new.before c.ride.new.self k c.go_past_ride-went.new.self c.go_past_ride-went.ensures.rest c.go_past_ride-went.result.steps c.go_past_ride-went.ensures.within c.in-Some-raised.code fewer leads c.go_past_ride-went.ensures.words at c.is_delayed-slot.result c.is_delayed-slot.ensures c.show_whole_processor.ensures.whole c.count_raised.new.self c.count_raised.ensures.own c.count_raised.ensures.rest

pub returns-in-Some-raised-clause-log : goal.returns-in-Some-raised-clause-log
returns-in-Some-raised-clause-log g c =
    let k = c.in-Some.ensures.block (held c.args.self.now) c.loop-left.invariant.block in
    let leads = subst (λ (o : Option ExceptionCode). AdvancesTo c.go_past_ride-went.result.steps o (hardware_of c.ride.new.self.core c.ride.new.self.bus) (hardware_of c.go_past_ride-went.new.self.core c.go_past_ride-went.new.self.bus)) c.in-Some-raised.is c.go_past_ride-went.ensures.steps in
    let fewer = subst (λ (o : Option ExceptionCode). IfSome o (λ (code : ExceptionCode). c.go_past_ride-went.result.steps < c.ride.new.left)) c.in-Some-raised.is c.go_past_ride-went.ensures.fewer in
    let at = subst (λ (o : Option ExceptionCode). IfSome o (λ (code : ExceptionCode). (after_steps c.go_past_ride-went.result.steps (hardware_of c.ride.new.self.core c.ride.new.self.bus)).core.pc < 2 ^ 32)) c.in-Some-raised.is c.go_past_ride-went.ensures.raised in
    ends_raised_log (held c.args.self.now) c.args.n (c.args.end + c.from.result) c.ride.new.mark c.ride.new.left c.ride.new.before c.ride.new.self k c.go_past_ride-went.new.self c.go_past_ride-went.ensures.rest c.go_past_ride-went.result.steps c.go_past_ride-went.ensures.within c.in-Some-raised.code fewer leads c.go_past_ride-went.ensures.words at c.is_delayed-slot.result c.is_delayed-slot.ensures c.show_whole_processor.ensures.whole c.count_raised.new.self c.count_raised.ensures.own c.count_raised.ensures.rest

pub returns-in-Some-raised-clause-called : goal.returns-in-Some-raised-clause-called
returns-in-Some-raised-clause-called g c = λ is.
    let k = c.in-Some.ensures.block (held c.args.self.now) c.loop-left.invariant.block in
    let leads = subst (λ (o : Option ExceptionCode). AdvancesTo c.go_past_ride-went.result.steps o (hardware_of c.ride.new.self.core c.ride.new.self.bus) (hardware_of c.go_past_ride-went.new.self.core c.go_past_ride-went.new.self.bus)) c.in-Some-raised.is c.go_past_ride-went.ensures.steps in
    let fewer = subst (λ (o : Option ExceptionCode). IfSome o (λ (code : ExceptionCode). c.go_past_ride-went.result.steps < c.ride.new.left)) c.in-Some-raised.is c.go_past_ride-went.ensures.fewer in
    let at = subst (λ (o : Option ExceptionCode). IfSome o (λ (code : ExceptionCode). (after_steps c.go_past_ride-went.result.steps (hardware_of c.ride.new.self.core c.ride.new.self.bus)).core.pc < 2 ^ 32)) c.in-Some-raised.is c.go_past_ride-went.ensures.raised in
    ends_raised_call (held c.args.self.now) c.args.n (c.args.end + c.from.result) c.ride.new.mark c.ride.new.left c.ride.new.before c.ride.new.self k c.go_past_ride-went.new.self c.go_past_ride-went.ensures.rest c.go_past_ride-went.result.steps c.go_past_ride-went.ensures.within c.in-Some-raised.code fewer leads c.go_past_ride-went.ensures.words at c.is_delayed-slot.result c.is_delayed-slot.ensures c.show_whole_processor.ensures.whole c.count_raised.new.self c.count_raised.ensures.own c.count_raised.ensures.rest (c.is_call.ensures is)

pub returns-in-Some-raised-clause-early : goal.returns-in-Some-raised-clause-early
returns-in-Some-raised-clause-early g c = λ is.
    let k = c.in-Some.ensures.block (held c.args.self.now) c.loop-left.invariant.block in
    let leads = subst (λ (o : Option ExceptionCode). AdvancesTo c.go_past_ride-went.result.steps o (hardware_of c.ride.new.self.core c.ride.new.self.bus) (hardware_of c.go_past_ride-went.new.self.core c.go_past_ride-went.new.self.bus)) c.in-Some-raised.is c.go_past_ride-went.ensures.steps in
    let fewer = subst (λ (o : Option ExceptionCode). IfSome o (λ (code : ExceptionCode). c.go_past_ride-went.result.steps < c.ride.new.left)) c.in-Some-raised.is c.go_past_ride-went.ensures.fewer in
    let at = subst (λ (o : Option ExceptionCode). IfSome o (λ (code : ExceptionCode). (after_steps c.go_past_ride-went.result.steps (hardware_of c.ride.new.self.core c.ride.new.self.bus)).core.pc < 2 ^ 32)) c.in-Some-raised.is c.go_past_ride-went.ensures.raised in
    ends_raised_early (held c.args.self.now) c.args.n (c.args.end + c.from.result) c.ride.new.mark c.ride.new.left c.ride.new.before c.ride.new.self k c.go_past_ride-went.new.self c.go_past_ride-went.ensures.rest c.go_past_ride-went.result.steps c.go_past_ride-went.ensures.within c.in-Some-raised.code fewer leads c.go_past_ride-went.ensures.words at c.is_delayed-slot.result c.is_delayed-slot.ensures c.show_whole_processor.ensures.whole c.count_raised.new.self c.count_raised.ensures.own c.count_raised.ensures.rest

pub returns-in-Some-raised-clause-quiet : goal.returns-in-Some-raised-clause-quiet
returns-in-Some-raised-clause-quiet g c =
    let k = c.in-Some.ensures.block (held c.args.self.now) c.loop-left.invariant.block in
    let leads = subst (λ (o : Option ExceptionCode). AdvancesTo c.go_past_ride-went.result.steps o (hardware_of c.ride.new.self.core c.ride.new.self.bus) (hardware_of c.go_past_ride-went.new.self.core c.go_past_ride-went.new.self.bus)) c.in-Some-raised.is c.go_past_ride-went.ensures.steps in
    let fewer = subst (λ (o : Option ExceptionCode). IfSome o (λ (code : ExceptionCode). c.go_past_ride-went.result.steps < c.ride.new.left)) c.in-Some-raised.is c.go_past_ride-went.ensures.fewer in
    let at = subst (λ (o : Option ExceptionCode). IfSome o (λ (code : ExceptionCode). (after_steps c.go_past_ride-went.result.steps (hardware_of c.ride.new.self.core c.ride.new.self.bus)).core.pc < 2 ^ 32)) c.in-Some-raised.is c.go_past_ride-went.ensures.raised in
    let quiet : c.args.end + c.from.result ≤ c.count_raised.new.self.monitor.quiet_until = ends_raised_quiet (held c.args.self.now) c.args.n (c.args.end + c.from.result) c.ride.new.mark c.ride.new.left c.ride.new.before c.ride.new.self k c.go_past_ride-went.new.self c.go_past_ride-went.ensures.rest c.go_past_ride-went.result.steps c.go_past_ride-went.ensures.within c.in-Some-raised.code fewer leads c.go_past_ride-went.ensures.words at c.is_delayed-slot.result c.is_delayed-slot.ensures c.show_whole_processor.ensures.whole c.count_raised.new.self c.count_raised.ensures.own c.count_raised.ensures.rest in
    omega (arith, quiet)

-- None did, and more are left.

pub loop-left-preserved : goal.loop-left-preserved
loop-left-preserved g c =
    let k = c.in-Some.ensures.block (held c.args.self.now) c.loop-left.invariant.block in
    let steps = c.go_past_ride-went.result.steps in
    let left = c.ride.new.left in
    let before = hardware_of c.ride.new.self.core c.ride.new.self.bus in
    let after = hardware_of c.go_past_ride-went.new.self.core c.go_past_ride-went.new.self.bus in
    let within : steps ≤ left = c.go_past_ride-went.ensures.within in
    let done : steps ≡ left - (left - steps) = omega (arith, within) in
    let advances = subst (λ (o : Option ExceptionCode). AdvancesTo steps o before after) c.in_default-raised.is c.go_past_ride-went.ensures.steps in record {
      block = block_on (held c.args.self.now) c.args.n (c.args.end + c.from.result) c.ride.new.mark left c.ride.new.before c.ride.new.self.core c.ride.new.self k (left - steps) c.go_past_ride-went.new.self.core c.go_past_ride-went.new.self c.go_past_ride-went.ensures.rest
          (omega (arith, within)) (subst (λ (m : ℕ). Advances m before after) done advances)
          (subst (λ (m : ℕ). (j : ℕ) → j < m → (after_steps j before).core.pc < 2 ^ 32) done c.go_past_ride-went.ensures.words);
    }

-- All were taken.

pub count_block-requires-clause-since : goal.count_block-requires-clause-since
count_block-requires-clause-since g c =
    mid_since (held c.args.self.now) c.args.n (c.args.end + c.from.result) c.loop-left.mark c.loop-left.left c.loop-left.before c.loop-left.self c.loop-left.invariant.block c.loop-left.self refl

pub returns-clause-good : goal.returns-clause-good
returns-clause-good g c = ends_good (held c.args.self.now) c.args.n (c.args.end + c.from.result) c.loop-left.mark c.loop-left.left c.loop-left.before c.loop-left.self c.loop-left.invariant.block (omega (arith, c.loop-left-test.false)) c.show_pc_has_32_bits.ensures c.count_block.new.self c.is_in_slot-slot.result c.is_in_slot-slot.ensures c.count_block.ensures.own c.count_block.ensures.rest

pub returns-clause-goes : goal.returns-clause-goes
returns-clause-goes g c = ends_goes (held c.args.self.now) c.args.n (c.args.end + c.from.result) c.loop-left.mark c.loop-left.left c.loop-left.before c.loop-left.self c.loop-left.invariant.block (omega (arith, c.loop-left-test.false)) c.show_pc_has_32_bits.ensures c.count_block.new.self c.is_in_slot-slot.result c.is_in_slot-slot.ensures c.count_block.ensures.own c.count_block.ensures.rest
