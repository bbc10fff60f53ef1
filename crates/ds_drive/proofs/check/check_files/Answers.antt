use Rattle.std.proofs.Common.{◌∙◌, ◌++◌, ap, ap₂, rules, ℕ, List}
use Rattle.ds_drive.specs.Inner.AtFault.{texts_seen}
use Rattle.ds_drive.specs.Checked.{with_notes, with_ties}
use Rattle.ds_drive.specs.Noted.{guest_notes, starts_of}
use Rattle.ds_drive.specs.declared.run.SourceText.{SourceText}
use Rattle.ds_drive.proofs.Noting.{check_cut_off}
use Rattle.ds_drive.proofs.check.check_files.Goals as goal

pub returns-clause-err : goal.returns-clause-err
returns-clause-err g c =
    let value = c.in_ok-policy.field-0.policy in
    let events = c.in_ok-policy.field-0.events in
    check_cut_off (g.F.Files.holds c.args.files.now) (g.F.Files.lacks c.args.files.now) c.args.request.now value (texts_seen c.in_ok-policy.field-0.texts.items) c.in_ok-policy.field-0.input.items events
    c.from.result c.in_ok-found.found.notes.items c.in_ok-found.found.starts.items c.in_ok-ties.ties.items c.in_ok-text.text.items c.deref-6.result.now (g.W.Write.contents c.args.out.now) (g.W.Write.contents c.send.new.out)
    (search rules)
    (c.in_ok-found.ensures.notes ∙ ap₂ (λ (t : List SourceText) (n : List ℕ). guest_notes value (texts_seen t) ++ n) c.deref.ensures.value (c.deref-2.ensures.value ∙ c.in_ok-policy.ensures.notes))
    (c.in_ok-found.ensures.starts ∙ ap (λ (t : List SourceText). starts_of value (texts_seen t)) c.deref.ensures.value)
    c.in_ok-ties.ensures
    (search rules)
    (search rules)
    (search rules)
    (c.deref-6.ensures.value ∙ (c.in_ok-push_findings.ensures ∙ ap (λ (t : List ℕ). with_notes (c.in_ok-text.text.items ++ with_ties c.in_ok-found.found.starts.items t) c.in_ok-found.found.notes.items) c.deref-5.ensures.value))
    (search rules)
