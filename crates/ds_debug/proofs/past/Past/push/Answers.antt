use Rattle.std.proofs.Common.{sym, subst}
use Rattle.std.specs.List.{All}
use Rattle.std.specs.Prelude.{is_ok}
use Rattle.ds_station.specs.Inner.Station.{StationValue}
use Rattle.ds_debug.specs.Inner.Inputs.{inputs_seen}
use Rattle.ds_debug.specs.Inner.Past.{IsKept, PastState}
use Rattle.ds_debug.proofs.Keeping.{kept_more}
use Rattle.ds_debug.proofs.past.Past.push.Goals as goal

pub invariant_of-self : goal.invariant_of-self
invariant_of-self c =
    let inside = c.self.inside in
    let held : IsKept (inputs_seen inside.inputs) inside.limit c.args.station.held = subst (λ (p : PastState). IsKept p.inputs p.limit c.args.station.held) (sym c.self.view_is) c.requires in
    record {
      limit = c.self.invariant.limit;
      begins = c.self.invariant.begins;
      first = c.self.invariant.first;
      kept = subst (All (λ (s : StationValue). IsKept (inputs_seen inside.inputs) inside.limit s.held)) (sym c.push.ensures.items)
          (kept_more (inputs_seen inside.inputs) inside.limit (is_ok c.push.result) inside.kept.items c.args.station c.self.invariant.kept held);
    }
