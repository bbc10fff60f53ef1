use Rattle.std.proofs.Common.{◌∙◌, sym, ap, refl}
use Rattle.ds_procs.specs.declared.process.Standing.TheVariants.{Ready}
use Rattle.ds_pagemap.specs.Machine.{process_of}
use Rattle.ds_refinement.specs.Held.{Kept}
use Rattle.ds_monitor.specs.Inner.Kept.{kept_of}
use Rattle.ds_monitor.specs.Inner.Ended.{marks_of}
use Rattle.ds_monitor.proofs.Lawful.{marks_put}
use Rattle.ds_monitor.proofs.Living.{lives_alive}
use Rattle.ds_monitor.proofs.monitor.Monitor.resume.Goals as goal

pub returns-in-Parked-clause-marks : goal.returns-in-Parked-clause-marks
returns-in-Parked-clause-marks c =
    let k = kept_of c.args.self.now in
    ap (λ (x : Kept). marks_of x.state) c.make_ready.ensures.kept
    ∙ marks_put k.state c.args.process (record (process_of k.state c.args.process) { standing = Ready }) (lives_alive k.state c.args.process (sym c.lives.ensures ∙ c.if-not-lives.false)) refl
