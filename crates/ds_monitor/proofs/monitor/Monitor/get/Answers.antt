use Rattle.std.proofs.Common.{◌∙◌, ℕ, ap, refl}
use Rattle.ds_pagemap.specs.Machine.{State}
use Rattle.ds_pagemap.specs.Calls.{answered, queue_of}
use Rattle.ds_refinement.specs.Held.{Kept}
use Rattle.ds_monitor.specs.Inner.Taking.{with_taken}
use Rattle.ds_monitor.specs.Inner.Kept.{kept_of, kept_after}
use Rattle.ds_monitor.proofs.Gets.{taken_answered}
use Rattle.ds_monitor.proofs.monitor.Monitor.get.Goals as goal

pub returns-clause-kept : goal.returns-clause-kept
returns-clause-kept c =
    let k = kept_of c.args.self.now in
    let p = c.args.process in
    c.answer.ensures.kept
    ∙ (ap (λ (x : Kept). kept_after (λ (m : State). answered m p c.take_answer-answer.result) x) c.take_answer-answer.ensures.kept
    ∙ (ap (λ (v : ℕ). record k { state = answered (with_taken p k.state) p v }) c.take_answer-answer.ensures.value
    ∙ ap (λ (s : State). record k { state = s }) (taken_answered k.state p (queue_of k.state p) refl)))
