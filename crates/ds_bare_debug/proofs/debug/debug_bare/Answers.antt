use Rattle.std.proofs.Common.{inr}
use Rattle.ds_bare_debug.specs.Runs.{run_seen}
use Rattle.ds_bare_debug.proofs.Served.{bare_cut, bare_held, bare_refused}
use Rattle.ds_bare_debug.proofs.debug.debug_bare.Goals as goal

pub returns-in-Err-clause-err : goal.returns-in-Err-clause-err
returns-in-Err-clause-err g c = bare_refused (run_seen c.args.run) c.in-Err.refused (g.R.Read.remaining c.args.reader.now) (g.W.Write.contents c.args.out.now) c.in-Err.ensures.refused

pub returns-in-Ok-serve_all-clause-ok : goal.returns-in-Ok-serve_all-clause-ok
returns-in-Ok-serve_all-clause-ok g c =
    bare_held (run_seen c.args.run) c.in-Ok.session c.new-stream.result _ c.in-Ok.ensures.started c.in-Ok.ensures.begun c.new-stream.ensures c.in-Ok-serve_all.ending c.serve_all.new.self c.in-Ok-serve_all.ensures.ok
    c.in-Ok-serve_all.ensures.ending

pub returns-in-Err-WriteFault-clause-err : goal.returns-in-Err-WriteFault-clause-err
returns-in-Err-WriteFault-clause-err g c = bare_cut (run_seen c.args.run) c.in-Ok.session c.new-stream.result _ c.in-Ok.ensures.started c.in-Ok.ensures.begun c.new-stream.ensures c.in-Err-WriteFault.ensures.err

pub returns-clause-err : goal.returns-clause-err
returns-clause-err g c = inr (bare_cut (run_seen c.args.run) c.in-Ok.session c.new-stream.result _ c.in-Ok.ensures.started c.in-Ok.ensures.begun c.new-stream.ensures c.in-Err-Memory.ensures.err)
