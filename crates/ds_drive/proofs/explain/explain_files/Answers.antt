use Rattle.std.proofs.Common.{◌∙◌, List, map, ap}
use Rattle.ds_station.specs.Headline.{sources_seen}
use Rattle.ds_drive.specs.declared.run.SourceText.{SourceText}
use Rattle.ds_drive.specs.Inner.AtFault.{texts_seen}
use Rattle.ds_drive.specs.Noted.{images_of}
use Rattle.ds_drive.proofs.ExplainLemmas.{explain_ends, has_explained}
use Rattle.ds_drive.proofs.explain.explain_files.Goals as goal

pub returns-in-Ok-clause-ok : goal.returns-in-Ok-clause-ok
returns-in-Ok-clause-ok g c =
    has_explained (g.F.Files.holds c.args.files.now) c.args.request.now c.in_ok-read.read.policy _ _ _ _ _ _ _ c.in_ok-read.ensures.texts
    c.as_slice-3.ensures.value
    (ap sources_seen c.as_slice-4.ensures.value ∙ (c.in_ok-sources.ensures ∙ ap (map (λ (s : SourceText). (s.name, s.text.items))) c.as_slice.ensures.value))
    (c.as_slice-5.ensures.value ∙ (c.in_ok-images.ensures ∙ ap (λ (texts : List SourceText). images_of (texts_seen texts)) c.as_slice-2.ensures.value))
    c.as_slice-6.ensures.value
    c.chosen_by.result (g.W.Write.contents c.args.out.now) (g.W.Write.contents c.explain_log.new.out) c.chosen_by.ensures c.in-Ok.ensures.ok

pub returns-clause-err : goal.returns-clause-err
returns-clause-err g c =
    explain_ends (g.F.Files.holds c.args.files.now) c.args.request.now c.in_ok-read.read.policy _ _ _ _ _ _ _ c.in_ok-read.ensures.texts
    c.as_slice-3.ensures.value
    (ap sources_seen c.as_slice-4.ensures.value ∙ (c.in_ok-sources.ensures ∙ ap (map (λ (s : SourceText). (s.name, s.text.items))) c.as_slice.ensures.value))
    (c.as_slice-5.ensures.value ∙ (c.in_ok-images.ensures ∙ ap (λ (texts : List SourceText). images_of (texts_seen texts)) c.as_slice-2.ensures.value))
    c.as_slice-6.ensures.value
    (g.F.Files.lacks c.args.files.now) c.chosen_by.result (g.W.Write.contents c.args.out.now) (g.W.Write.contents c.explain_log.new.out)
    c.in-Err.fault c.chosen_by.ensures c.in-Err.ensures.err
