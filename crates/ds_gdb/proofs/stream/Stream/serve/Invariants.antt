use Rattle.std.proofs.Common.{[], take}
use Rattle.ds_gdb.specs.Serving.{WritesSo}
use Rattle.ds_gdb.specs.Streams.{Hears}
use Rattle.ds_gdb.proofs.stream.Stream.serve.Given as goal

-- what is heard so far is answered
abbrev pub invariant-loop-byte : goal.invariant-loop-byte
invariant-loop-byte g l = WritesSo (Hears g.T.Target.answers (take l.byte-index l.bytes) l.fn.self (record { scan = l.self-inside.scanner; exchange = l.self-inside.exchange }) []) (g.W.Write.contents l.fn.out) (g.W.Write.contents l.out)
