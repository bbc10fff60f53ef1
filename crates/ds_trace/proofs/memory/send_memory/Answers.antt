use Rattle.std.proofs.Common.{rules, sym, subst}
use Rattle.std.specs.Io.KnownBytes.{Appends}
use Rattle.ds_text.proofs.Sends.{at_err}
use Rattle.ds_policy.specs.Grants.{PageState}
use Rattle.ds_trace.specs.Memory.{memory_text}
use Rattle.ds_trace.proofs.Following.{part_none}
use Rattle.ds_trace.proofs.memory.send_memory.Goals as goal

pub returns-in_err-push_memory-clause-err : goal.returns-in_err-push_memory-clause-err
returns-in_err-push_memory-clause-err g c = at_err c.from_residual.result (part_none _ _)

pub returns-in-Ok-clause-ok : goal.returns-in-Ok-clause-ok
returns-in-Ok-clause-ok g c = search rules

pub returns-in-Ok-clause-stands : goal.returns-in-Ok-clause-stands
returns-in-Ok-clause-stands g c = λ m k.
    subst (λ (s : PageState). Appends (g.O.Output.contents c.args.out.now) (g.O.Output.contents c.send.new.out) (memory_text s c.args.process c.args.address c.args.count)) (sym k.agrees.kept.pages) (returns-in-Ok-clause-ok g c)
