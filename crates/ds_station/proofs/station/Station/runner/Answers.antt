use Rattle.std.proofs.Common.{◌≡◌, ◌<◌, ◌≤◌, [], length, IfSome, subst}
use Rattle.ds_procs.specs.declared.process.Standing.TheVariants.{Ready}
use Rattle.ds_pagemap.specs.Machine.{process_of}
use Rattle.ds_refinement.specs.Inner.Held.{whole}
use Rattle.ds_monitor.specs.Inner.Kept.{kept_of}
use Rattle.ds_station.specs.Inner.Station.{StationValue}
use Rattle.ds_station.proofs.Reading.{first_seat, first_stands}
use Rattle.ds_station.proofs.station.Station.runner.Goals as goal

pub returns-clause-seat : goal.returns-clause-seat
returns-clause-seat g c =
    let k = kept_of c.self.inside.parts.monitor in
    subst (λ (s : StationValue). IfSome c.first_ready.result (λ p. (0 < p) × (p ≤ length s.held.kept.state.processes))) c.self.view_is
    (first_seat (whole k [] []) k.state.ready c.first_ready.result c.self.invariant.good.orderly.kept.lawful.formed.ready c.first_ready.ensures)

pub returns-clause-ready : goal.returns-clause-ready
returns-clause-ready g c =
    let k = kept_of c.self.inside.parts.monitor in
    subst (λ (s : StationValue). IfSome c.first_ready.result (λ p. (process_of s.held.kept.state p).standing ≡ Ready)) c.self.view_is
    (first_stands (whole k [] []) k.state.ready c.first_ready.result c.self.invariant.good.orderly.kept.lawful.formed.ready c.first_ready.ensures)
