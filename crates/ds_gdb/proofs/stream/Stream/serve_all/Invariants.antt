use Rattle.ds_gdb.specs.Serving.{Serves, pipes}
use Rattle.ds_gdb.proofs.stream.Stream.serve_all.Given as goal

-- what was read so far is answered
abbrev pub invariant-loop : goal.invariant-loop
invariant-loop g l = Serves g.T.Target.answers l.fn.self l.self (pipes (g.R.Read.remaining l.fn.reader) (g.R.Read.remaining l.reader) (g.W.Write.contents l.fn.out) (g.W.Write.contents l.out))
