use Rattle.std.proofs.Common.{Option, subst}
use Rattle.ds_station.specs.declared.fault.Fault.{Fault}
use Rattle.ds_trace.specs.Inner.Summed.{CountsAll}
use Rattle.ds_trace.proofs.summed.sum_up.Goals as goal

pub returns-in-None-clause-ok : goal.returns-in-None-clause-ok
returns-in-None-clause-ok g c =
    let came = c.count_all.new in record {
      counts = came.progress.counts;
      all = subst (λ (cut : Option Fault). CountsAll cut c.args.n c.args.station.now.held came.station.held came.progress.counts) c.in-None.is c.in-Ok.ensures;
      told = c.in-Ok-summary.ensures;
      written = c.in-Ok-deliver.ensures.ok;
    }

pub returns-in-Err-deliver-clause-err : goal.returns-in-Err-deliver-clause-err
returns-in-Err-deliver-clause-err g c = record {
  cut = c.in-Ok.cut;
  counts = c.count_all.new.progress.counts;
  all = c.in-Ok.ensures;
  written = c.in-Err-deliver.ensures.err;
}
