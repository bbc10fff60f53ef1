use Rattle.std.proofs.Common.{◌∙◌, map, ap}
use Rattle.ds_station.specs.Headline.{sources_seen}
use Rattle.ds_debug.specs.Serving.{Debugs}
use Rattle.ds_gdb.specs.Serving.{pipes}
use Rattle.ds_drive.specs.declared.run.SourceText.{SourceText}
use Rattle.ds_drive.proofs.Debugging.{debug_ends, of_run_inputs}
use Rattle.ds_drive.proofs.debug.debug_files.Goals as goal

pub returns-in-Ok-clause-ok : goal.returns-in-Ok-clause-ok
returns-in-Ok-clause-ok g c =
    let request = c.args.request.now in
    of_run_inputs (g.F.Files.holds c.args.files.now) request c.in_ok-read.read.policy _ _ _ _ c.in_ok-read.ensures.ok
    (ap sources_seen c.as_slice-2.ensures.value ∙ (c.in_ok-sources.ensures ∙ ap (map (λ (s : SourceText). (s.name, s.text.items))) c.as_slice.ensures.value))
    c.as_slice-3.ensures.value
    (λ of. Debugs c.in-Ok.ending of request.most_time (pipes (g.R.Read.remaining c.args.input.now) (g.R.Read.remaining c.debug.new.reader) (g.W.Write.contents c.args.out.now) (g.W.Write.contents c.debug.new.out)))
    c.in-Ok.ensures.ok

pub returns-clause-err : goal.returns-clause-err
returns-clause-err g c =
    let request = c.args.request.now in
    debug_ends (g.F.Files.holds c.args.files.now) request c.in_ok-read.read.policy _ _ _ _ c.in_ok-read.ensures.ok
    (ap sources_seen c.as_slice-2.ensures.value ∙ (c.in_ok-sources.ensures ∙ ap (map (λ (s : SourceText). (s.name, s.text.items))) c.as_slice.ensures.value))
    c.as_slice-3.ensures.value (g.F.Files.lacks c.args.files.now)
    (pipes (g.R.Read.remaining c.args.input.now) (g.R.Read.remaining c.debug.new.reader) (g.W.Write.contents c.args.out.now) (g.W.Write.contents c.debug.new.out))
    c.in-Err.fault c.in-Err.ensures.err
