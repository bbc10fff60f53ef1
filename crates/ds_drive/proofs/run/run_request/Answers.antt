use Rattle.std.proofs.Common.{◌∙◌, map, ap, inr}
use Rattle.ds_station.specs.Headline.{sources_seen}
use Rattle.ds_drive.specs.declared.run.SourceText.{SourceText}
use Rattle.ds_drive.specs.Failures.{EndsThenBy}
use Rattle.ds_drive.proofs.HeldFiles.{come_files, of_held}
use Rattle.ds_drive.proofs.run.run_request.Goals as goal

pub returns-in-Ok-clause-ok : goal.returns-in-Ok-clause-ok
returns-in-Ok-clause-ok g c =
    come_files (g.F.Files.holds c.args.files.now) c.args.request.now c.in-Ok.outcome (g.W.Write.contents c.args.out.now) (g.W.Write.contents c.run_inputs.new.out)
    c.in_ok-inputs.inputs.policy _ _ _ _ c.in_ok-inputs.ensures.ok
    (ap sources_seen c.as_slice-2.ensures.value ∙ (c.in_ok-sources.ensures ∙ ap (map (λ (s : SourceText). (s.name, s.text.items))) c.as_slice.ensures.value))
    c.as_slice-3.ensures.value c.in-Ok.ensures.ok

pub returns-clause-err : goal.returns-clause-err
returns-clause-err g c = inr
    (of_held (g.F.Files.holds c.args.files.now) c.args.request.now.run (λ read. EndsThenBy c.in-Err.fault c.args.request.now read (g.W.Write.contents c.args.out.now) (g.W.Write.contents c.run_inputs.new.out))
    c.in_ok-inputs.inputs.policy _ _ _ _ c.in_ok-inputs.ensures.ok
    (ap sources_seen c.as_slice-2.ensures.value ∙ (c.in_ok-sources.ensures ∙ ap (map (λ (s : SourceText). (s.name, s.text.items))) c.as_slice.ensures.value))
    c.as_slice-3.ensures.value c.in-Err.ensures.err)
