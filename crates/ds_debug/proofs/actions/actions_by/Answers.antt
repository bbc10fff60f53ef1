use Rattle.std.proofs.Common.{List, Option, ◌++◌, ap}
use Rattle.ds_packets.specs.declared.packet.Action.{Action}
use Rattle.ds_debug.specs.Resumes.{actions_from}
use Rattle.ds_debug.proofs.Acting.{actions_end, actions_more}
use Rattle.ds_debug.proofs.actions.actions_by.Goals as goal

pub loop-process-init : goal.loop-process-init
loop-process-init c = ap (λ (x : List (Option Action)). x ++ actions_from c.args.action c.args.going c.args.words.now 0 101) c.new-actions.ensures.items

pub loop-process-preserved : goal.loop-process-preserved
loop-process-preserved c =
    rw c.in_ok-push.ensures.items (actions_more c.args.action c.args.going c.args.words.now c.loop-process.process 101 c.loop-process.actions.items _ c.action_by.result c.loop-process-test.true c.action_by.ensures c.loop-process.invariant)

pub returns : goal.returns
returns c = actions_end c.args.action c.args.going c.args.words.now c.loop-process.process 101 _ _ c.loop-process-test.false c.loop-process.invariant
