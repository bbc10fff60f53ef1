use Rattle.std.proofs.Common.{[], Option, Result, List, ℕ, sym, subst}
use Rattle.std.specs.Prelude.{OnErr, OnOk}
use Rattle.ds_packets.specs.Streams.{as_list}
use Rattle.ds_packets.specs.declared.scan.PacketFault.{PacketFault}
use Rattle.ds_gdb.specs.Serving.{WritesSo}
use Rattle.ds_gdb.specs.Inner.Serving.{IsCutIn}
use Rattle.ds_gdb.specs.Streams.{HearsAll}
use Rattle.ds_gdb.proofs.Served.{none_written}
use Rattle.ds_gdb.proofs.stream.Exchange.serve_came.Goals as goal

pub returns-in-Some-clause-ok : goal.returns-in-Some-clause-ok
returns-in-Some-clause-ok g c =
    subst (λ (o : Option (Result (List ℕ) PacketFault)). OnOk c.serve_item.result (WritesSo (HearsAll g.T.Target.answers (as_list o) c.args.self.now c.serve_item.new.self []) (g.W.Write.contents c.args.out.now) (g.W.Write.contents c.serve_item.new.out)))
    (sym c.in-Some.is) c.serve_item.ensures.ok

pub returns-in-Some-clause-err : goal.returns-in-Some-clause-err
returns-in-Some-clause-err g c =
    subst (λ (o : Option (Result (List ℕ) PacketFault)). OnErr c.serve_item.result (IsCutIn g.T.Target.answers (as_list o) c.args.self.now (g.W.Write.contents c.args.out.now) (g.W.Write.contents c.serve_item.new.out)))
    (sym c.in-Some.is) c.serve_item.ensures.err

pub returns-in-None-clause-ok : goal.returns-in-None-clause-ok
returns-in-None-clause-ok g c =
    subst (λ (o : Option (Result (List ℕ) PacketFault)). WritesSo (HearsAll g.T.Target.answers (as_list o) c.args.self.now c.args.self.now []) (g.W.Write.contents c.args.out.now) (g.W.Write.contents c.args.out.now))
    (sym c.in-None.is) (none_written g.T.Target.answers c.args.self.now (g.W.Write.contents c.args.out.now))
