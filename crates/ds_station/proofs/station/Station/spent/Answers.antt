use Rattle.std.proofs.Common.{subst}
use Rattle.ds_refinement.specs.Inner.Stands.{IsSound}
use Rattle.ds_station.specs.Inner.Station.{StationValue}
use Rattle.ds_station.proofs.Runs.{sound_few}
use Rattle.ds_station.proofs.station.Station.spent.Goals as goal

pub returns-clause-few : goal.returns-clause-few
returns-clause-few g c = (sound_few c.args.self.now.held (subst (λ (s : StationValue). IsSound s.held) c.self.view_is c.self.invariant.good.sound)).spent
