use Rattle.ds_gdb.specs.Serving.{pipes}
use Rattle.ds_station.specs.declared.fault.Fault.TheVariants.{Memory, WriteFault}
use Rattle.ds_debug.specs.Inner.Inputs.{inputs_seen}
use Rattle.ds_debug.proofs.Served.{session_cut}
use Rattle.ds_debug.proofs.serving.debug.Goals as goal

pub returns-in-Err-WriteFault-clause-err : goal.returns-in-Err-WriteFault-clause-err
returns-in-Err-WriteFault-clause-err g c =
    session_cut (inputs_seen c.args.inputs) c.args.limit c.in-Ok.session c.new-stream.result
    (pipes (g.R.Read.remaining c.args.reader.now) (g.R.Read.remaining c.serve_all.new.reader) (g.W.Write.contents c.args.out.now) (g.W.Write.contents c.serve_all.new.out))
    c.in-Ok.ensures.begins c.in-Ok.ensures.begun c.new-stream.ensures WriteFault tt c.in-Err-WriteFault.ensures.err

pub returns-clause-err : goal.returns-clause-err
returns-clause-err g c =
    session_cut (inputs_seen c.args.inputs) c.args.limit c.in-Ok.session c.new-stream.result
    (pipes (g.R.Read.remaining c.args.reader.now) (g.R.Read.remaining c.serve_all.new.reader) (g.W.Write.contents c.args.out.now) (g.W.Write.contents c.serve_all.new.out))
    c.in-Ok.ensures.begins c.in-Ok.ensures.begun c.new-stream.ensures Memory tt c.in-Err-Memory.ensures.err
