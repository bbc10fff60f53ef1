use Rattle.std.proofs.Common.{◌≡◌, ◌≤◌, ◌+◌, ℕ, sym, subst, arith}
use Rattle.ds_ahead.specs.Inner.Ride.{ridden}
use Rattle.ds_kernel.specs.Inner.InBlock.{InBlock, IsBehindCall, riding}
use Rattle.ds_kernel.proofs.OnRides.{block_on, block_same, block_anew, call_same}
use Rattle.ds_kernel.proofs.parts.Parts.ride_on.Goals as goal

pub returns-in_default-clause-block : goal.returns-in_default-clause-block
returns-in_default-clause-block g c = λ begun k.
    let was = c.loop-self in
    let is = c.run_ride-next in
    block_on begun c.args.n c.args.end was.mark was.ride.left was.before (ridden was.ride was.self.core) was.self (was.invariant.block begun k) is.new.ride.left (ridden is.new.ride is.new.self.core) is.new.self is.ensures.rest is.ensures.within is.ensures.steps is.ensures.words

pub answer_in_ride-requires-clause-block : goal.answer_in_ride-requires-clause-block
answer_in_ride-requires-clause-block g c =
    let was = c.loop-self in
    let is = c.run_ride-next in
    let k = c.requires.block in (
      k.0,
      block_on k.0 c.args.n c.args.end was.mark was.ride.left was.before (ridden was.ride was.self.core) was.self (was.invariant.block k.0 k.1) is.new.ride.left (ridden is.new.ride is.new.self.core) is.new.self is.ensures.rest is.ensures.within is.ensures.steps is.ensures.words,
    )

pub answer_in_ride-requires-clause-call : goal.answer_in_ride-requires-clause-call
answer_in_ride-requires-clause-call g c = c.run_ride-next.ensures.calls c.in-Call.is

pub returns-then-not-answer_in_ride-clause-within : goal.returns-then-not-answer_in_ride-clause-within
returns-then-not-answer_in_ride-clause-within g c =
    let still = c.answer_in_ride.ensures.still c.if-not-answer_in_ride.true in
    let within : c.run_ride-next.new.ride.left ≤ c.loop-self.ride.left = c.run_ride-next.ensures.within in
    let upto : c.loop-self.ride.left ≤ c.args.ride.now.left = c.loop-self.invariant.within in
    rw still.1 (omega (arith, within, upto))

pub returns-then-not-answer_in_ride-clause-some : goal.returns-then-not-answer_in_ride-clause-some
returns-then-not-answer_in_ride-clause-some g c =
    let still = c.answer_in_ride.ensures.still c.if-not-answer_in_ride.true in
    λ call. rw still.1 (c.run_ride-next.ensures.some call)

pub returns-then-not-answer_in_ride-clause-block : goal.returns-then-not-answer_in_ride-clause-block
returns-then-not-answer_in_ride-clause-block g c = λ begun k.
    let was = c.loop-self in
    let is = c.run_ride-next in
    let still = c.answer_in_ride.ensures.still c.if-not-answer_in_ride.true in
    block_same begun c.args.n c.args.end was.mark was.before is.new.ride is.new.self
    (block_on begun c.args.n c.args.end was.mark was.ride.left was.before (ridden was.ride was.self.core) was.self (was.invariant.block begun k) is.new.ride.left (ridden is.new.ride is.new.self.core) is.new.self is.ensures.rest is.ensures.within is.ensures.steps is.ensures.words)
    c.answer_in_ride.new.self c.answer_in_ride.new.ride c.answer_in_ride.new.mark c.answer_in_ride.new.before still.0 still.1 still.2 still.3

pub returns-then-not-answer_in_ride-clause-calls : goal.returns-then-not-answer_in_ride-clause-calls
returns-then-not-answer_in_ride-clause-calls g c = λ call.
    let is = c.run_ride-next in
    let still = c.answer_in_ride.ensures.still c.if-not-answer_in_ride.true in
    call_same is.new.ride is.new.self (is.ensures.calls call) c.answer_in_ride.new.self c.answer_in_ride.new.ride still.0 still.1

pub returns-then-not-goes_on_after-clause-over : goal.returns-then-not-goes_on_after-clause-over
returns-then-not-goes_on_after-clause-over g c = λ _ begun k.
    let was = c.loop-self in
    let is = c.run_ride-next in
    c.answer_in_ride.ensures.afterwards c.if-not-answer_in_ride.false begun
    (block_on begun c.args.n c.args.end was.mark was.ride.left was.before (ridden was.ride was.self.core) was.self (was.invariant.block begun k) is.new.ride.left (ridden is.new.ride is.new.self.core) is.new.self is.ensures.rest is.ensures.within is.ensures.steps is.ensures.words)

pub loop-self-preserved : goal.loop-self-preserved
loop-self-preserved g c =
    let was = c.loop-self in
    let is = c.run_ride-next in
    let answered = c.answer_in_ride in
    let one : answered.new.ride.left + 1 ≡ is.new.ride.left = answered.ensures.left c.if-not-answer_in_ride.false in
    let within : is.new.ride.left ≤ was.ride.left = is.ensures.within in
    let upto : was.ride.left ≤ c.args.ride.now.left = was.invariant.within in record {
      rides = answered.ensures.rides;
      placed = answered.ensures.placed c.if-not-answer_in_ride.false;
      within = omega (arith, one, within, upto);
      block = λ begun k.
          let afterwards : IsBehindCall begun c.args.n c.args.end answered.new.ride.left (riding answered.new.ride answered.new.self) = answered.ensures.afterwards c.if-not-answer_in_ride.false begun
          (block_on begun c.args.n c.args.end was.mark was.ride.left was.before (ridden was.ride was.self.core) was.self (was.invariant.block begun k) is.new.ride.left (ridden is.new.ride is.new.self.core) is.new.self is.ensures.rest is.ensures.within is.ensures.steps is.ensures.words) in
          subst (λ (m : ℕ). InBlock begun c.args.n c.args.end m answered.new.ride.left answered.new.before (ridden answered.new.ride answered.new.self.core) answered.new.self) (sym (answered.ensures.mark c.if-not-answer_in_ride.false))
          (subst (λ (b : ℕ). InBlock begun c.args.n c.args.end answered.new.ride.left answered.new.ride.left b (ridden answered.new.ride answered.new.self.core) answered.new.self) (sym (answered.ensures.before c.if-not-answer_in_ride.false))
          (block_anew begun c.args.n c.args.end answered.new.ride.left answered.new.ride answered.new.self afterwards (c.goes_on_after.ensures.some c.if-not-goes_on_after.false) (c.goes_on_after.ensures.room c.if-not-goes_on_after.false) c.goes_on_after.ensures.commands c.goes_on_after.ensures.order));
    }
