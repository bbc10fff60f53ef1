use Rattle.std.proofs.Common.{◌∙◌, ◌+◌, if◌then◌else◌, sym, arith}
use Rattle.ds_trace.proofs.Due.{due_all, due_more, due_none}
use Rattle.ds_trace.proofs.before.push_due.Goals as goal

pub loop-command-preserved : goal.loop-command-preserved
loop-command-preserved c =
    due_more (if c.args.owed then c.args.time else c.args.time + 1) c.args.commands.now c.loop-command.command-index c.loop-command.due.items _ c.loop-command.invariant _ (omega (arith, c.loop-command-test.true)) c.push.new.self.items
    (sym c.is_due.ensures ∙ c.if-is_due.true) c.in_ok-push.ensures.items

pub returns-else-is_due : goal.returns-else-is_due
returns-else-is_due c =
    due_none (if c.args.owed then c.args.time else c.args.time + 1) c.args.commands.now c.loop-command.command-index c.loop-command.due.items _ c.loop-command.invariant _
    (omega (arith, c.loop-command-test.true)) (sym c.is_due.ensures ∙ c.if-is_due.false)

pub returns : goal.returns
returns c =
    due_all (if c.args.owed then c.args.time else c.args.time + 1) c.args.commands.now c.loop-command.command-index c.loop-command.due.items _ c.loop-command.invariant
    (omega (arith, c.loop-command-test.false))
