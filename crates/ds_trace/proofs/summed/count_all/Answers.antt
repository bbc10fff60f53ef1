use Rattle.std.specs.String.{string_bytes}
use Rattle.std.proofs.Common.{None}
use Rattle.ds_trace.proofs.Summing.{counts_of}
use Rattle.ds_trace.proofs.summed.count_all.Goals as goal

pub returns-in-Ok : goal.returns-in-Ok
returns-in-Ok g c =
    let came = c.follow.new in
    counts_of c.counting-view.result c.in-Ok.cut c.args.n c.args.station.now.held came.station.held None None came.sheet.text.items came.progress.counts came.counts (string_bytes came.window.lines) c.counting-view.ensures c.in-Ok.ensures.ok c.in-Ok.ensures.counted c.in-Ok.ensures.cut
