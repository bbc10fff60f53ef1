use Rattle.std.proofs.lemmas.List.Elements.{All-pop}
use Rattle.ds_station.specs.Inner.Station.{StationValue}
use Rattle.ds_debug.specs.Inner.Inputs.{inputs_seen}
use Rattle.ds_debug.specs.Inner.Past.{IsKept}
use Rattle.ds_debug.proofs.past.Past.drop_needless.Goals as goal

pub loop-self-preserved-in-loop-self : goal.loop-self-preserved-in-loop-self
loop-self-preserved-in-loop-self c =
    let inside = c.loop-self.self-inside in
    let past = c.loop-self.invariant.past in
    record {
      past = record {
        limit = past.limit;
        begins = past.begins;
        first = past.first;
        kept = (All-pop (λ (s : StationValue). IsKept (inputs_seen inside.inputs) inside.limit s.held) inside.kept.items c.pop.new.self.items c.pop.result c.pop.ensures.items past.kept).0;
      };
      inputs = c.loop-self.invariant.inputs;
      limit = c.loop-self.invariant.limit;
    }
