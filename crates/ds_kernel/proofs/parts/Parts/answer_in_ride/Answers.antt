use Rattle.std.proofs.Common.{◌∙◌, sym}
use Rattle.ds_ahead.specs.Inner.Ride.{ridden}
use Rattle.ds_kernel.specs.Inner.InBlock.{riding}
use Rattle.ds_kernel.proofs.OnRides.{called_whole, word_there, call_waits, mode_there, scanned, answered_after}
use Rattle.ds_kernel.proofs.parts.Parts.answer_in_ride.Goals as goal

pub put_in_ride-requires-clause-waits : goal.put_in_ride-requires-clause-waits
put_in_ride-requires-clause-waits g c =
    let k = c.requires.block in
    let may = c.may_go_on.ensures c.if-not-may_go_on.false in
    call_waits k.0 c.args.n c.args.end c.args.mark.now c.args.ride.now.left c.args.before.now (ridden c.args.ride.now c.args.self.now.core) c.args.self.now k.1 c.requires.call c.requires.some may.outside
    (word_there c.args.ride.now c.requires.rides.low may) (called_whole c.args.ride.now c.args.self.now.core c.args.self.now.bus c.show_whole_processor.ensures.whole) c.in-Some.process (sym c.rider.ensures ∙ c.in-Some.is)

pub put_in_ride-requires-clause-mode : goal.put_in_ride-requires-clause-mode
put_in_ride-requires-clause-mode g c =
    let k = c.requires.block in
    let may = c.may_go_on.ensures c.if-not-may_go_on.false in
    mode_there k.0 c.args.n c.args.end c.args.mark.now c.args.ride.now.left c.args.before.now (ridden c.args.ride.now c.args.self.now.core) c.args.self.now k.1 c.requires.call c.requires.some may.outside
    (word_there c.args.ride.now c.requires.rides.low may) (called_whole c.args.ride.now c.args.self.now.core c.args.self.now.bus c.show_whole_processor.ensures.whole)

pub returns-in-1-clause-afterwards : goal.returns-in-1-clause-afterwards
returns-in-1-clause-afterwards g c = λ _ begun k.
    let may = c.may_go_on.ensures c.if-not-may_go_on.false in
    answered_after begun c.args.n c.args.end c.args.mark.now c.args.ride.now.left c.args.before.now (ridden c.args.ride.now c.args.self.now.core) c.args.self.now k c.requires.call c.requires.some may.outside
    (word_there c.args.ride.now c.requires.rides.low may) (called_whole c.args.ride.now c.args.self.now.core c.args.self.now.bus c.show_whole_processor.ensures.whole)
    c.put_in_ride.new.ride.left (riding c.put_in_ride.new.ride c.put_in_ride.new.self) c.put_in_ride.ensures.left c.put_in_ride.ensures.time c.put_in_ride.ensures.answered

pub put_in_ride-requires-clause-on : goal.put_in_ride-requires-clause-on
put_in_ride-requires-clause-on g c =
    let k = c.requires.block in
    let may = c.may_go_on.ensures c.if-not-may_go_on.false in
    scanned k.0 c.args.n c.args.end c.args.mark.now c.args.ride.now.left c.args.before.now (ridden c.args.ride.now c.args.self.now.core) c.args.self.now k.1 c.requires.call c.requires.some may.outside
    (word_there c.args.ride.now c.requires.rides.low may) (called_whole c.args.ride.now c.args.self.now.core c.args.self.now.bus c.show_whole_processor.ensures.whole)

pub get_in_ride-requires-clause-waits : goal.get_in_ride-requires-clause-waits
get_in_ride-requires-clause-waits g c =
    let k = c.requires.block in
    let may = c.may_go_on.ensures c.if-not-may_go_on.false in
    call_waits k.0 c.args.n c.args.end c.args.mark.now c.args.ride.now.left c.args.before.now (ridden c.args.ride.now c.args.self.now.core) c.args.self.now k.1 c.requires.call c.requires.some may.outside
    (word_there c.args.ride.now c.requires.rides.low may) (called_whole c.args.ride.now c.args.self.now.core c.args.self.now.bus c.show_whole_processor.ensures.whole) c.in-Some.process (sym c.rider.ensures ∙ c.in-Some.is)

pub get_in_ride-requires-clause-mode : goal.get_in_ride-requires-clause-mode
get_in_ride-requires-clause-mode g c =
    let k = c.requires.block in
    let may = c.may_go_on.ensures c.if-not-may_go_on.false in
    mode_there k.0 c.args.n c.args.end c.args.mark.now c.args.ride.now.left c.args.before.now (ridden c.args.ride.now c.args.self.now.core) c.args.self.now k.1 c.requires.call c.requires.some may.outside
    (word_there c.args.ride.now c.requires.rides.low may) (called_whole c.args.ride.now c.args.self.now.core c.args.self.now.bus c.show_whole_processor.ensures.whole)

pub returns-in-2-clause-afterwards : goal.returns-in-2-clause-afterwards
returns-in-2-clause-afterwards g c = λ _ begun k.
    let may = c.may_go_on.ensures c.if-not-may_go_on.false in
    answered_after begun c.args.n c.args.end c.args.mark.now c.args.ride.now.left c.args.before.now (ridden c.args.ride.now c.args.self.now.core) c.args.self.now k c.requires.call c.requires.some may.outside
    (word_there c.args.ride.now c.requires.rides.low may) (called_whole c.args.ride.now c.args.self.now.core c.args.self.now.bus c.show_whole_processor.ensures.whole)
    c.get_in_ride.new.ride.left (riding c.get_in_ride.new.ride c.get_in_ride.new.self) c.get_in_ride.ensures.left c.get_in_ride.ensures.time c.get_in_ride.ensures.answered
