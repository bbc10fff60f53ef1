use Rattle.std.proofs.Common.{◌∙◌, map, ap, inr}
use Rattle.ds_station.specs.Headline.{sources_seen}
use Rattle.ds_drive.specs.Placed.{OfPlaced}
use Rattle.ds_drive.specs.Ran.{IsTraced}
use Rattle.ds_drive.specs.TraceRuns.{FilesTraceEnds}
use Rattle.ds_drive.specs.declared.run.SourceText.{SourceText}
use Rattle.ds_drive.proofs.HeldFiles.{of_held, of_held_both}
use Rattle.ds_drive.proofs.TraceLemmas.{files_end, of_placed}
use Rattle.ds_drive.proofs.trace.trace_request.Goals as goal

pub returns-in-Ok-clause-ok : goal.returns-in-Ok-clause-ok
returns-in-Ok-clause-ok g c =
    let request = c.args.request.now in
    let holds = g.F.Files.holds c.args.files.now in
    let old = g.W.Write.contents c.args.out.now in
    let new = g.W.Write.contents c.trace_placed.new.out in
    let same = ap sources_seen c.as_slice-2.ensures.value ∙ (c.in_ok-sources.ensures ∙ ap (map (λ (s : SourceText). (s.name, s.text.items))) c.as_slice.ensures.value) in
    of_held_both holds request.run (λ read begun. OfPlaced holds request (λ told. IsTraced told c.in-Ok.outcome old new read begun))
    c.in_ok-inputs.inputs.policy _ _ _ _ c.in_ok-inputs.ensures.ok same c.as_slice-3.ensures.value
    (of_placed holds request (λ told. IsTraced told c.in-Ok.outcome old new _ _) c.in_ok-inputs.inputs.policy _ _ _ c.in_ok-inputs.ensures.ok same c.in-Ok.ensures.ok)

pub returns-clause-err : goal.returns-clause-err
returns-clause-err g c = inr (
    let request = c.args.request.now in
    let holds = g.F.Files.holds c.args.files.now in
    let old = g.W.Write.contents c.args.out.now in
    let new = g.W.Write.contents c.trace_placed.new.out in
    let same = ap sources_seen c.as_slice-2.ensures.value ∙ (c.in_ok-sources.ensures ∙ ap (map (λ (s : SourceText). (s.name, s.text.items))) c.as_slice.ensures.value) in
    of_held holds request.run (λ read. FilesTraceEnds holds request old new c.in-Err.fault read)
    c.in_ok-inputs.inputs.policy _ _ _ _ c.in_ok-inputs.ensures.ok same c.as_slice-3.ensures.value
    (files_end holds request c.in_ok-inputs.inputs.policy _ _ _ old new c.in-Err.fault _ c.in_ok-inputs.ensures.ok same c.in-Err.ensures.err))
