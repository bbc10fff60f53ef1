use Rattle.std.proofs.Common.{Bool, Result, subst}
use Rattle.ds_text.specs.Sent.{IsAskedOnce}
use Rattle.ds_station.specs.Inner.Station.{StationValue}
use Rattle.ds_station.specs.Faults.{is_unwritten}
use Rattle.ds_station.specs.declared.fault.Fault.{Fault}
use Rattle.ds_station.proofs.Outcomes.{unwritten_alike, writes_of}
use Rattle.ds_station.proofs.files.run_policy.Goals as goal

pub returns-clause-ok : goal.returns-clause-ok
returns-clause-ok g c = writes_of _ _ c.args.n _ _ c.in-Ok.ensures.ok

pub returns-in-Err-clause-once : goal.returns-in-Err-clause-once
returns-in-Err-clause-once g c =
    subst (λ (b : Bool). IsAskedOnce (g.O.Output.answers c.args.out.now) (g.O.Output.answers c.run_station.new.out) b) (unwritten_alike StationValue (Unit {0}) c.in-Err.fault)
    (subst (λ (r : Result StationValue Fault). IsAskedOnce (g.O.Output.answers c.args.out.now) (g.O.Output.answers c.run_station.new.out) (is_unwritten r)) c.in-Err.is c.run_station.ensures.once)
