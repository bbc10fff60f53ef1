use Rattle.std.proofs.Common.{sym, ap, subst, ◌∙◌}
use Rattle.ds_core.specs.Core.{CoreState}
use Rattle.ds_refill.specs.Inner.Refill.{handler_events}
use Rattle.ds_refill.specs.Inner.Refills.{after_refill, RunsInside}
use Rattle.ds_refill.proofs.Once.{at_once_runs}
use Rattle.ds_refill.proofs.refill.refill_at_once.Goals as goal

pub returns-clause-done : goal.returns-clause-done
returns-clause-done g c = λ done.
    subst (λ (d : CoreState). RunsInside 0 handler_events c.args.core.now c.args.bus.now d) (sym (c.put.ensures.core ∙ ap (λ (d : CoreState). after_refill d c.in_ok-word.word) c.table_word.ensures.same))
    (at_once_runs c.args.core.now c.args.bus.now c.in_ok-word.word c.requires.words c.requires.kernel c.requires.pc c.requires.next c.requires.slot c.requires.late
    c.show_register_zero.ensures.size c.show_register_zero.ensures.nought c.in_ok-word.ensures.word)
