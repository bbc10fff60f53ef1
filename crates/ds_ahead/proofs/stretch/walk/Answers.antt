use Rattle.ds_ahead.proofs.Stretches.{advances_placed, words_placed}
use Rattle.ds_ahead.proofs.stretch.walk.Goals as goal

pub returns-clause-steps : goal.returns-clause-steps
returns-clause-steps g c = advances_placed _ c.args.core.now c.position_of-at.result c.args.bus.now c.do_operations-calls.new.core c.do_operations-calls.new.at c.do_operations-calls.new.bus c.settle.new.core
    c.do_operations-calls.ensures.leads c.position_of-at.ensures c.settle.ensures

pub returns-clause-words : goal.returns-clause-words
returns-clause-words g c = words_placed _ c.args.core.now c.position_of-at.result c.args.bus.now c.do_operations-calls.new.core c.do_operations-calls.new.at c.do_operations-calls.new.bus
    c.do_operations-calls.ensures.leads c.position_of-at.ensures
