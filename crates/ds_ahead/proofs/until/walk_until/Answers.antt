use Rattle.ds_ahead.proofs.Stretches.{advances_placed, words_placed}
use Rattle.ds_ahead.proofs.Untils.{clear_placed}
use Rattle.ds_ahead.proofs.until.walk_until.Goals as goal

pub returns-clause-steps : goal.returns-clause-steps
returns-clause-steps g c = advances_placed _ c.args.core.now c.position_of-at.result c.args.bus.now c.operate_until.new.core c.operate_until.new.at c.operate_until.new.bus c.settle.new.core
    c.operate_until.ensures.leads c.position_of-at.ensures c.settle.ensures

pub returns-clause-words : goal.returns-clause-words
returns-clause-words g c = words_placed _ c.args.core.now c.position_of-at.result c.args.bus.now c.operate_until.new.core c.operate_until.new.at c.operate_until.new.bus
    c.operate_until.ensures.leads c.position_of-at.ensures

pub returns-clause-clear : goal.returns-clause-clear
returns-clause-clear g c = clear_placed c.args.stops.now _ c.args.core.now c.position_of-at.result c.args.bus.now c.operate_until.ensures.clear c.position_of-at.ensures
