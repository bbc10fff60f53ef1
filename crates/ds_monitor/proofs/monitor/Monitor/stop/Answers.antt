use Rattle.std.proofs.Common.{◌∙◌, ◌-◌, sym, ap, true, List, []}
use Rattle.std.specs.Prelude.{Bool, slice_set}
use Rattle.std.proofs.lemmas.List.{map-set}
use Rattle.ds_pagemap.specs.Machine.{State, Process, has_ended}
use Rattle.ds_monitor.specs.Inner.Kept.{kept_of}
use Rattle.ds_monitor.specs.Inner.Ended.{marks_of}
use Rattle.ds_monitor.proofs.monitor.Monitor.stop.Goals as goal

pub returns-clause-marks : goal.returns-clause-marks
returns-clause-marks g c =
    let k = kept_of c.args.self.now in
    let p = c.args.process in
    sym (ap (λ (m : State). marks_of m) (c.exit.ensures.serves.state []))
    ∙ (map-set (λ (x : Process). has_ended x.standing) k.state.processes (p - 1) _
    ∙ (ap (λ (bs : List Bool). slice_set bs (p - 1) true) c.requires.marks
    ∙ sym c.exit.ensures.ended))
