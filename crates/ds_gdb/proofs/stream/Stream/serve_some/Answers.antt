use Rattle.ds_gdb.proofs.Served.{none_served}
use Rattle.ds_gdb.proofs.stream.Stream.serve_some.Goals as goal

pub returns-in-Err-clause-ok : goal.returns-in-Err-clause-ok
returns-in-Err-clause-ok g c = none_served g.T.Target.answers c.args.self.now (g.R.Read.remaining c.args.reader.now) (g.R.Read.remaining c.read.new.self) (g.W.Write.contents c.args.out.now) c.in-Err.ensures.bytes

pub returns-in-Err-2-clause-ok : goal.returns-in-Err-2-clause-ok
returns-in-Err-2-clause-ok g c = none_served g.T.Target.answers c.args.self.now (g.R.Read.remaining c.args.reader.now) (g.R.Read.remaining c.read.new.self) (g.W.Write.contents c.args.out.now) c.in-Err-2.ensures.bytes
