use Rattle.std.proofs.Common.{◌∙◌, sym, subst}
use Rattle.ds_kernel.specs.declared.parts.Parts.{Parts}
use Rattle.ds_kernel.specs.Inner.Parts.{held}
use Rattle.ds_kernel.specs.Inner.Good.{IsBusy}
use Rattle.ds_kernel.specs.Inner.Going.{GoesOn}
use Rattle.ds_kernel.proofs.Doing.{kernel_of, busy_served}
use Rattle.ds_kernel.proofs.Running.{goes_join}
use Rattle.ds_kernel.proofs.Refilling.{missed_kernel}
use Rattle.ds_kernel.proofs.parts.Parts.serve_raised.Goals as goal

pub returns-then-answer_at_once-clause-nearer : goal.returns-then-answer_at_once-clause-nearer
returns-then-answer_at_once-clause-nearer g c = λ _.
    let kernel = kernel_of c.args.self.now.core (c.requires.called c.if-called.true).served in
    (c.answer_at_once.ensures.answered c.if-answer_at_once.true).goes c.args.n (c.requires.begun (c.requires.good.orderly.raised kernel))

pub returns-then-answer_at_once-clause-goes : goal.returns-then-answer_at_once-clause-goes
returns-then-answer_at_once-clause-goes g c = λ start before.
    let kernel = kernel_of c.args.self.now.core (c.requires.called c.if-called.true).served in
    goes_join c.args.n start (held c.args.self.now) (held c.answer_at_once.new.self) before
    ((c.answer_at_once.ensures.answered c.if-answer_at_once.true).goes c.args.n (c.requires.begun (c.requires.good.orderly.raised kernel)))

pub returns-else-answer_at_once-clause-goes : goal.returns-else-answer_at_once-clause-goes
returns-else-answer_at_once-clause-goes g c = λ start before.
    let same = c.answer_at_once.ensures.still c.if-answer_at_once.false in
    c.serve_waiting.ensures.goes start (subst (λ (p : Parts g.row.L.Denot). GoesOn c.args.n start (held p)) (sym same) before)

pub returns-then-refill_missed-clause-goes : goal.returns-then-refill_missed-clause-goes
returns-then-refill_missed-clause-goes g c = λ start before. c.refill_missed.ensures.goes c.args.n start c.requires.begun before

pub returns-then-refill_missed-clause-nearer : goal.returns-then-refill_missed-clause-nearer
returns-then-refill_missed-clause-nearer g c = λ _.
    let done = c.if-refill_missed.true in
    let kernel = missed_kernel c.args.self.now.core (c.refill_missed.ensures.missed done) in
    c.refill_missed.ensures.nearer done c.args.n (c.requires.begun (c.requires.good.orderly.raised kernel))

pub answer_at_once-requires-clause-busy : goal.answer_at_once-requires-clause-busy
answer_at_once-requires-clause-busy g c =
    busy_served c.in-Some.process c.args.n c.args.self.now c.requires.good c.requires.working c.requires.few c.requires.begun
    (sym c.first_ready.ensures ∙ c.in-Some.is) (c.requires.called c.if-called.true).served

pub serve_waiting-requires-clause-busy : goal.serve_waiting-requires-clause-busy
serve_waiting-requires-clause-busy g c =
    subst (IsBusy c.in-Some.process) (sym (c.answer_at_once.ensures.still c.if-answer_at_once.false))
    (busy_served c.in-Some.process c.args.n c.args.self.now c.requires.good c.requires.working c.requires.few c.requires.begun
    (sym c.first_ready.ensures ∙ c.in-Some.is) (c.requires.called c.if-called.true).served)

pub serve_waiting-requires-in-Some-2-clause-busy : goal.serve_waiting-requires-in-Some-2-clause-busy
serve_waiting-requires-in-Some-2-clause-busy g c =
    busy_served c.in-Some.process c.args.n c.args.self.now c.requires.good c.requires.working c.requires.few c.requires.begun
    (sym c.first_ready.ensures ∙ c.in-Some.is) (sym c.is_served.ensures ∙ c.if-is_served.true)
