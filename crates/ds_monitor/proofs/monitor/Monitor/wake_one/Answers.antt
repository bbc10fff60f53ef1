use Rattle.std.proofs.Common.{◌∙◌, sym, ap, true, false, refl, map}
use Rattle.ds_procs.specs.declared.process.Standing.TheVariants.{Ready}
use Rattle.ds_pagemap.specs.Machine.{Process, no_process}
use Rattle.ds_refinement.specs.Held.{Kept}
use Rattle.ds_monitor.specs.Inner.Kept.{kept_of}
use Rattle.ds_monitor.proofs.Waking.{woken_by, lines_same}
use Rattle.ds_monitor.proofs.monitor.Monitor.wake_one.Goals as goal

pub returns-then-wakes-clause-kept : goal.returns-then-wakes-clause-kept
returns-then-wakes-clause-kept c = woken_by true (kept_of c.args.self.now) _ c.args.process (sym c.wakes.ensures ∙ c.if-wakes.true) c.make_ready.ensures.kept

pub returns-else-wakes-clause-kept : goal.returns-else-wakes-clause-kept
returns-else-wakes-clause-kept c = woken_by false (kept_of c.args.self.now) _ c.args.process (sym c.wakes.ensures ∙ c.if-wakes.false) refl

pub returns-then-wakes-clause-lines : goal.returns-then-wakes-clause-lines
returns-then-wakes-clause-lines c =
    ap (λ (k : Kept). map (λ (q : Process). q.line) k.state.processes) c.make_ready.ensures.kept
    ∙ lines_same c.args.self.now.seats.items _ no_process Ready
