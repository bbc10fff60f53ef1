-- What a run of the bare machine begins with, as code has it.
use Rattle.ds_bare_debug.specs.Positions.{BareRun}
use Rattle.ds_bare_debug.specs.declared.runner.BareRun.{BareRun as Given}

-- the one that the code is given
abbrev pub run_seen : Given → BareRun
run_seen r = record { image = r.image.now; random = r.random; keys = r.keys.now; limit = r.limit }
