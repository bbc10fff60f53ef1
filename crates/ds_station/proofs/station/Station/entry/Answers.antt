use Rattle.std.proofs.Common.{◌<◌, ◌∙◌, ℕ, sym, subst}
use Rattle.ds_refinement.specs.Inner.Stands.{IsSound}
use Rattle.ds_station.specs.Inner.Station.{StationValue}
use Rattle.ds_station.proofs.Reading.{all_slots}
use Rattle.ds_station.proofs.station.Station.entry.Goals as goal

pub read-requires : goal.read-requires
read-requires g c =
    subst (λ (slots : ℕ). c.args.slot < slots)
    (all_slots c.args.self.now.held (subst (λ (s : StationValue). IsSound s.held) c.self.view_is c.self.invariant.good.sound) ∙ sym c.self.invariant.slots)
    c.requires
