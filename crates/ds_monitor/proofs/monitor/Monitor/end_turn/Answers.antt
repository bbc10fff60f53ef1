use Rattle.ds_monitor.specs.Inner.Kept.{kept_of}
use Rattle.ds_monitor.proofs.Lawful.{turn_orderly}
use Rattle.ds_monitor.proofs.monitor.Monitor.end_turn.Goals as goal

pub returns-clause-orderly : goal.returns-clause-orderly
returns-clause-orderly c = turn_orderly (kept_of c.args.self.now) _ _
