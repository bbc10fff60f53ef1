use Rattle.std.proofs.Common.{sym, subst}
use Rattle.ds_refinement.specs.Stands.{Stands}
use Rattle.ds_station.specs.Inner.Station.{StationValue}
use Rattle.ds_station.proofs.Quiet.{run_shows}
use Rattle.ds_station.proofs.station.Station.run.Goals as goal

pub returns-clause-quiet : goal.returns-clause-quiet
returns-clause-quiet g c = λ m k r q. run_shows c.args.n m _ _ c.in_ok-run.ensures.ran c.in_ok-run.ensures.over (subst (λ (s : StationValue). Stands s.held m) (sym c.self.view_is) k) r q
