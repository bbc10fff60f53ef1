use Rattle.std.proofs.Common.{◌<◌, ◌+◌, ◌-◌, ◌∙◌, sym, ap, subst, refl, arith, List, ℕ, length}
use Rattle.std.specs.Prelude.{All}
use Rattle.ds_pagemap.specs.Machine.{State}
use Rattle.ds_pagemap.specs.Boundary.{woken}
use Rattle.ds_refinement.specs.Held.{Kept}
use Rattle.ds_monitor.specs.Inner.Kept.{kept_of, kept_after}
use Rattle.ds_monitor.proofs.Waking.{line_there, wakes_on, wakes_end, none_wakes}
use Rattle.ds_monitor.proofs.monitor.Monitor.wake.Goals as goal

pub wake_one-requires-clause-line : goal.wake_one-requires-clause-line
wake_one-requires-clause-line c =
    let i = c.loop-process.invariant in
    rw i.queues (line_there c.loop-process.self.seats.items (c.loop-process.process - 1) (omega (arith, i.above, i.seats, c.loop-process-test.true)) i.lines)

pub loop-process-preserved : goal.loop-process-preserved
loop-process-preserved c =
    let i = c.loop-process.invariant in
    let count = c.len-count.result in
    let p = c.loop-process.process in
    let k = kept_of c.loop-process.self in
    record {
      same =
          ap (λ (x : Kept). kept_after (λ (m : State). woken m (p + 1) (count + 1 - (p + 1))) x) c.wake_one.ensures.kept
          ∙ (ap (λ (s : State). record k { state = s }) (sym (wakes_on k.state p count (omega (arith, c.loop-process-test.true)))) ∙ i.same);
      counted = i.counted;
      seats = c.wake_one.ensures.seats ∙ i.seats;
      lines = subst (λ (ls : List ℕ). All (λ x. x < 4) ls) (sym c.wake_one.ensures.lines) i.lines;
      above = omega arith;
      within = omega (arith, c.loop-process-test.true);
      queues = rw c.wake_one.ensures.rest i.queues;
      few = i.few;
      rest = rw (c.wake_one.ensures.rest, i.rest) refl;
    }

pub returns-clause-kept : goal.returns-clause-kept
returns-clause-kept c =
    let i = c.loop-process.invariant in
    let k = kept_of c.loop-process.self in
    ap (λ (s : State). record k { state = s }) (sym (wakes_end k.state c.loop-process.process c.len-count.result c.loop-process-test.false))
    ∙ (i.same ∙ ap (λ (n : ℕ). kept_after (λ (m : State). woken m 1 n) (kept_of c.args.self.now)) i.counted)

pub returns-then-not-has_characters-clause-kept : goal.returns-then-not-has_characters-clause-kept
returns-then-not-has_characters-clause-kept c =
    let k = kept_of c.args.self.now in
    ap (λ (s : State). record k { state = s }) (sym (none_wakes k.state 1 (length k.state.processes) (sym c.has_characters.ensures ∙ c.if-not-has_characters.true)))
