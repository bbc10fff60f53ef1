use Rattle.std.proofs.lemmas.List.Elements.{All-nil}
use Rattle.ds_station.specs.Inner.Station.{StationValue}
use Rattle.ds_debug.specs.Inner.Inputs.{inputs_seen}
use Rattle.ds_debug.specs.Inner.Past.{IsKept}
use Rattle.ds_debug.proofs.Keeping.{begins_kept}
use Rattle.ds_debug.proofs.past.Past.new.Goals as goal

pub invariant_of-result : goal.invariant_of-result
invariant_of-result c = record {
  limit = c.in-Ok.ensures.limit;
  begins = c.in-Ok.ensures.begins;
  first = begins_kept (inputs_seen c.args.inputs) c.args.limit c.in-Ok.first.held c.in-Ok.ensures.begins c.in-Ok.ensures.working;
  kept = rw c.new.ensures.items (All-nil (λ (s : StationValue). IsKept (inputs_seen c.args.inputs) c.args.limit s.held));
}
