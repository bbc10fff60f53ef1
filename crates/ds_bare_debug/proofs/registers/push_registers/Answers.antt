use Rattle.ds_bare_debug.specs.Looks.{register_text}
use Rattle.ds_gdb.proofs.Pieces.{each_end, each_more, each_start}
use Rattle.ds_bare_debug.proofs.registers.push_registers.Goals as goal

pub loop-number-init : goal.loop-number-init
loop-number-init c = each_start (register_text c.args.machine.now) 38 _

pub loop-number-preserved : goal.loop-number-preserved
loop-number-preserved c = each_more (register_text c.args.machine.now) c.loop-number.number 38 _ _ _ c.loop-number-test.true c.in_ok-push_register.ensures c.loop-number.invariant

pub returns : goal.returns
returns c = each_end (register_text c.args.machine.now) c.loop-number.number 38 _ _ c.loop-number-test.false c.loop-number.invariant
