use Rattle.std.proofs.Common.{◌+◌, ◌<◌, refl, subst}
use Rattle.std.specs.Prelude.{Option, IfSome, IsNone}
use Rattle.ds_cp0.specs.declared.exception.ExceptionCode.{ExceptionCode}
use Rattle.ds_ahead.specs.Inner.Ahead.{hardware_of, AdvancesTo}
use Rattle.ds_ahead.specs.Inner.Stops.{ComesClear}
use Rattle.ds_kernel.proofs.Untils.{until_clear, until_goes, until_good, until_raised_clear, until_raised_goes, until_raised_good, until_since, until_some_raised}
use Rattle.ds_kernel.proofs.parts.Parts.run_block_until.Goals as goal

pub count_raised-requires-clause-some : goal.count_raised-requires-clause-some
count_raised-requires-clause-some g c =
    let leads = subst (λ (o : Option ExceptionCode). AdvancesTo c.go_until-went.result.steps o (hardware_of c.args.self.now.core c.args.self.now.bus) (hardware_of c.go_until-went.new.self.core c.go_until-went.new.self.bus)) c.in-Some.is c.go_until-went.ensures.steps in
    let fewer = subst (λ (o : Option ExceptionCode). IfSome o (λ (code : ExceptionCode). c.go_until-went.result.steps < c.args.limit)) c.in-Some.is c.go_until-went.ensures.fewer in
    let clear = subst (λ (o : Option ExceptionCode). IfSome o (λ (code : ExceptionCode). ComesClear c.args.stops.now (c.go_until-went.result.steps + 1) (hardware_of c.args.self.now.core c.args.self.now.bus))) c.in-Some.is c.go_until-went.ensures.raised in
    until_some_raised c.args.stops.now c.args.n c.args.limit c.go_until-went.result.steps c.slot_tick-before.result c.args.self.now c.go_until-went.new.self c.requires.good c.requires.few c.requires.ahead c.requires.end c.requires.before c.requires.room c.slot_tick-before.ensures c.go_until-went.ensures.rest c.go_until-went.ensures.within c.go_until-went.ensures.words c.in-Some.field-0 fewer leads c.show_whole_processor.ensures.whole clear c.is_delayed-slot.result c.is_delayed-slot.ensures

pub count_raised-requires-clause-since : goal.count_raised-requires-clause-since
count_raised-requires-clause-since g c = until_since c.args.stops.now c.args.n c.args.limit c.go_until-went.result.steps c.slot_tick-before.result c.args.self.now c.go_until-went.new.self c.requires.good c.requires.few c.requires.ahead c.requires.end c.requires.before c.requires.room c.slot_tick-before.ensures c.go_until-went.ensures.rest c.go_until-went.ensures.within c.go_until-went.ensures.words

pub count_block-requires-clause-since : goal.count_block-requires-clause-since
count_block-requires-clause-since g c = until_since c.args.stops.now c.args.n c.args.limit c.go_until-went.result.steps c.slot_tick-before.result c.args.self.now c.go_until-went.new.self c.requires.good c.requires.few c.requires.ahead c.requires.end c.requires.before c.requires.room c.slot_tick-before.ensures c.go_until-went.ensures.rest c.go_until-went.ensures.within c.go_until-went.ensures.words

pub returns-in-Some-clause-good : goal.returns-in-Some-clause-good
returns-in-Some-clause-good g c =
    let leads = subst (λ (o : Option ExceptionCode). AdvancesTo c.go_until-went.result.steps o (hardware_of c.args.self.now.core c.args.self.now.bus) (hardware_of c.go_until-went.new.self.core c.go_until-went.new.self.bus)) c.in-Some.is c.go_until-went.ensures.steps in
    let fewer = subst (λ (o : Option ExceptionCode). IfSome o (λ (code : ExceptionCode). c.go_until-went.result.steps < c.args.limit)) c.in-Some.is c.go_until-went.ensures.fewer in
    let clear = subst (λ (o : Option ExceptionCode). IfSome o (λ (code : ExceptionCode). ComesClear c.args.stops.now (c.go_until-went.result.steps + 1) (hardware_of c.args.self.now.core c.args.self.now.bus))) c.in-Some.is c.go_until-went.ensures.raised in
    until_raised_good c.args.stops.now c.args.n c.args.limit c.go_until-went.result.steps c.slot_tick-before.result c.args.self.now c.go_until-went.new.self c.requires.good c.requires.few c.requires.ahead c.requires.end c.requires.before c.requires.room c.slot_tick-before.ensures c.go_until-went.ensures.rest c.go_until-went.ensures.within c.go_until-went.ensures.words c.in-Some.field-0 fewer leads c.show_whole_processor.ensures.whole clear c.is_delayed-slot.result c.is_delayed-slot.ensures c.count_raised.new.self c.count_raised.ensures.own c.count_raised.ensures.rest

pub returns-in-Some-clause-goes : goal.returns-in-Some-clause-goes
returns-in-Some-clause-goes g c =
    let leads = subst (λ (o : Option ExceptionCode). AdvancesTo c.go_until-went.result.steps o (hardware_of c.args.self.now.core c.args.self.now.bus) (hardware_of c.go_until-went.new.self.core c.go_until-went.new.self.bus)) c.in-Some.is c.go_until-went.ensures.steps in
    let fewer = subst (λ (o : Option ExceptionCode). IfSome o (λ (code : ExceptionCode). c.go_until-went.result.steps < c.args.limit)) c.in-Some.is c.go_until-went.ensures.fewer in
    let clear = subst (λ (o : Option ExceptionCode). IfSome o (λ (code : ExceptionCode). ComesClear c.args.stops.now (c.go_until-went.result.steps + 1) (hardware_of c.args.self.now.core c.args.self.now.bus))) c.in-Some.is c.go_until-went.ensures.raised in
    until_raised_goes c.args.stops.now c.args.n c.args.limit c.go_until-went.result.steps c.slot_tick-before.result c.args.self.now c.go_until-went.new.self c.requires.good c.requires.few c.requires.ahead c.requires.end c.requires.before c.requires.room c.slot_tick-before.ensures c.go_until-went.ensures.rest c.go_until-went.ensures.within c.go_until-went.ensures.words c.in-Some.field-0 fewer leads c.show_whole_processor.ensures.whole clear c.is_delayed-slot.result c.is_delayed-slot.ensures c.count_raised.new.self c.count_raised.ensures.own c.count_raised.ensures.rest

pub returns-in-Some-clause-clear : goal.returns-in-Some-clause-clear
returns-in-Some-clause-clear g c =
    let leads = subst (λ (o : Option ExceptionCode). AdvancesTo c.go_until-went.result.steps o (hardware_of c.args.self.now.core c.args.self.now.bus) (hardware_of c.go_until-went.new.self.core c.go_until-went.new.self.bus)) c.in-Some.is c.go_until-went.ensures.steps in
    let fewer = subst (λ (o : Option ExceptionCode). IfSome o (λ (code : ExceptionCode). c.go_until-went.result.steps < c.args.limit)) c.in-Some.is c.go_until-went.ensures.fewer in
    let clear = subst (λ (o : Option ExceptionCode). IfSome o (λ (code : ExceptionCode). ComesClear c.args.stops.now (c.go_until-went.result.steps + 1) (hardware_of c.args.self.now.core c.args.self.now.bus))) c.in-Some.is c.go_until-went.ensures.raised in
    until_raised_clear c.args.stops.now c.args.n c.args.limit c.go_until-went.result.steps c.slot_tick-before.result c.args.self.now c.go_until-went.new.self c.requires.good c.requires.few c.requires.ahead c.requires.end c.requires.before c.requires.room c.slot_tick-before.ensures c.go_until-went.ensures.rest c.go_until-went.ensures.within c.go_until-went.ensures.words c.in-Some.field-0 fewer leads c.show_whole_processor.ensures.whole clear c.is_delayed-slot.result c.is_delayed-slot.ensures c.count_raised.new.self c.count_raised.ensures.own c.count_raised.ensures.rest

pub returns-in-None-clause-good : goal.returns-in-None-clause-good
returns-in-None-clause-good g c =
    let advances = subst (λ (o : Option ExceptionCode). AdvancesTo c.go_until-went.result.steps o (hardware_of c.args.self.now.core c.args.self.now.bus) (hardware_of c.go_until-went.new.self.core c.go_until-went.new.self.bus)) c.in-None.is c.go_until-went.ensures.steps in
    let some = subst (λ (o : Option ExceptionCode). IsNone o → 0 < c.go_until-went.result.steps) c.in-None.is c.go_until-went.ensures.on refl in
    until_good c.args.stops.now c.args.n c.args.limit c.go_until-went.result.steps c.slot_tick-before.result c.args.self.now c.go_until-went.new.self c.requires.good c.requires.few c.requires.ahead c.requires.end c.requires.before c.requires.room c.slot_tick-before.ensures c.go_until-went.ensures.rest c.go_until-went.ensures.within c.go_until-went.ensures.words advances some c.go_until-went.ensures.clear c.is_in_slot-slot.result c.is_in_slot-slot.ensures c.count_block.new.self c.count_block.ensures.own c.count_block.ensures.rest

pub returns-in-None-clause-goes : goal.returns-in-None-clause-goes
returns-in-None-clause-goes g c =
    let advances = subst (λ (o : Option ExceptionCode). AdvancesTo c.go_until-went.result.steps o (hardware_of c.args.self.now.core c.args.self.now.bus) (hardware_of c.go_until-went.new.self.core c.go_until-went.new.self.bus)) c.in-None.is c.go_until-went.ensures.steps in
    let some = subst (λ (o : Option ExceptionCode). IsNone o → 0 < c.go_until-went.result.steps) c.in-None.is c.go_until-went.ensures.on refl in
    until_goes c.args.stops.now c.args.n c.args.limit c.go_until-went.result.steps c.slot_tick-before.result c.args.self.now c.go_until-went.new.self c.requires.good c.requires.few c.requires.ahead c.requires.end c.requires.before c.requires.room c.slot_tick-before.ensures c.go_until-went.ensures.rest c.go_until-went.ensures.within c.go_until-went.ensures.words advances some c.go_until-went.ensures.clear c.is_in_slot-slot.result c.is_in_slot-slot.ensures c.count_block.new.self c.count_block.ensures.own c.count_block.ensures.rest

pub returns-in-None-clause-clear : goal.returns-in-None-clause-clear
returns-in-None-clause-clear g c =
    let advances = subst (λ (o : Option ExceptionCode). AdvancesTo c.go_until-went.result.steps o (hardware_of c.args.self.now.core c.args.self.now.bus) (hardware_of c.go_until-went.new.self.core c.go_until-went.new.self.bus)) c.in-None.is c.go_until-went.ensures.steps in
    let some = subst (λ (o : Option ExceptionCode). IsNone o → 0 < c.go_until-went.result.steps) c.in-None.is c.go_until-went.ensures.on refl in
    until_clear c.args.stops.now c.args.n c.args.limit c.go_until-went.result.steps c.slot_tick-before.result c.args.self.now c.go_until-went.new.self c.requires.good c.requires.few c.requires.ahead c.requires.end c.requires.before c.requires.room c.slot_tick-before.ensures c.go_until-went.ensures.rest c.go_until-went.ensures.within c.go_until-went.ensures.words advances some c.go_until-went.ensures.clear c.is_in_slot-slot.result c.is_in_slot-slot.ensures c.count_block.new.self c.count_block.ensures.own c.count_block.ensures.rest
