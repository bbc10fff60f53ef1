use Rattle.std.proofs.Common.{sym, subst}
use Rattle.ds_refinement.specs.Inner.Stands.{IsSound}
use Rattle.ds_station.specs.Inner.Station.{StationValue}
use Rattle.ds_station.proofs.Reading.{all_slots}
use Rattle.ds_station.proofs.station.Station.slots.Goals as goal

pub returns-clause-all : goal.returns-clause-all
returns-clause-all g c = sym (all_slots c.args.self.now.held (subst (λ (s : StationValue). IsSound s.held) c.self.view_is c.self.invariant.good.sound))
