use Rattle.std.proofs.Common.{◌≡◌, ◌∙◌, ℕ, List, ◌∷◌, [], ap, refl, rules, sym, subst}
use Rattle.std.specs.Prelude.{None}
use Rattle.ds_drive.specs.declared.failure.Failure.{Failure}
use Rattle.ds_drive.specs.declared.failure.Failure.TheVariants as failure
use Rattle.ds_drive.specs.Inner.Failures.{IsUnreadRun}
use Rattle.ds_drive.proofs.HeldFiles.{are_held}
use Rattle.ds_drive.specs.Inside.{outside_of}
use Rattle.ds_drive.specs.Inner.Reading.{TellsOfRun}
use Rattle.ds_drive.proofs.Readings.{both_read_until, input_unread_until, policy_unread_until, source_unread_until}
use Rattle.ds_drive.proofs.Stops.{if_err_is, policy_unsound, source_unread}
use Rattle.ds_drive.proofs.run.read_inputs.Goals as goal

pub returns-clause-ok : goal.returns-clause-ok
returns-clause-ok g c = record {
  policy = c.in_ok-text.text.items;
  read = search rules;
  held = are_held (g.F.Files.holds c.args.files.now) (g.F.Files.holds c.named_file-2.new.files) c.args.request.now _ _ c.in_ok-texts.texts.items _ c.in-Ok.policy
      c.in_ok-text.ensures.found
      (c.in_ok-text.ensures.kept _ _ c.in_ok-input.ensures.found)
      (λ file bytes h. c.in_ok-text.ensures.kept file bytes (c.in_ok-input.ensures.kept file bytes h))
      c.in_ok-texts.ensures.found
      (c.in_ok-texts.ensures.names ∙ c.sources.ensures.all)
      (subst (λ (names : List (List ℕ)). outside_of c.args.request.now.inside names ≡ None) c.sources.ensures.all c.in_ok-texts.ensures.inside)
      (search rules)
      refl;
}

pub returns-clause-texts : goal.returns-clause-texts
returns-clause-texts g c = record {
  read = search rules;
  held = are_held (g.F.Files.holds c.args.files.now) (g.F.Files.holds c.named_file-2.new.files) c.args.request.now _ _ c.in_ok-texts.texts.items _ c.in-Ok.policy
      c.in_ok-text.ensures.found
      (c.in_ok-text.ensures.kept _ _ c.in_ok-input.ensures.found)
      (λ file bytes h. c.in_ok-text.ensures.kept file bytes (c.in_ok-input.ensures.kept file bytes h))
      c.in_ok-texts.ensures.found
      (c.in_ok-texts.ensures.names ∙ c.sources.ensures.all)
      (subst (λ (names : List (List ℕ)). outside_of c.args.request.now.inside names ≡ None) c.sources.ensures.all c.in_ok-texts.ensures.inside)
      (search rules)
      refl;
}

pub returns-in-Err-clause-err : goal.returns-in-Err-clause-err
returns-in-Err-clause-err g c =
    let holds = g.F.Files.holds c.args.files.now in
    let lacks = g.F.Files.lacks c.args.files.now in
    subst (λ (f : Failure). IsUnreadRun f holds lacks c.args.request.now) (sym (ap failure.Fault c.from.ensures))
    (policy_unsound holds lacks c.in-Err.fault c.args.request.now c.in_ok-text.text.items c.in_ok-input.input.items c.in_ok-text.ensures.found
    (c.in_ok-text.ensures.kept _ _ c.in_ok-input.ensures.found) (search rules))

pub returns-in_err-texts-clause-err : goal.returns-in_err-texts-clause-err
returns-in_err-texts-clause-err g c =
    if_err_is c.from_residual-in_err-texts.result c.in_err-texts.field-0.0 _ (search rules)
    (source_unread (g.F.Files.holds c.args.files.now) (g.F.Files.holds c.named_file.new.files) (g.F.Files.holds c.named_file-2.new.files) (g.F.Files.lacks c.args.files.now) (g.F.Files.lacks c.named_file-2.new.files)
    c.args.request.now c.in_ok-text.text.items c.in_ok-input.input.items c.in-Ok.policy _ _
    (search rules) c.in_ok-text.ensures.kept c.in_ok-input.ensures.kept c.in_ok-text.ensures.found c.in_ok-input.ensures.found (search rules) c.sources.ensures.all
    c.in_err-texts.ensures.unread)

pub returns-in_err-input-clause-reads_until : goal.returns-in_err-input-clause-reads_until
returns-in_err-input-clause-reads_until g c =
    if_err_is c.from_residual-in_err-input.result c.in_err-input.field-0.0 _ (search rules)
    (input_unread_until (g.F.Files.holds c.args.files.now) c.args.request.now.policy.now (c.args.request.now.input.now ∷ []) c.args.request.now.inside c.in_err-input.field-0.0 c.in_ok-text.text.items _ _ _
    c.in_ok-text.ensures.found c.in_ok-text.ensures.reads c.in_err-input.ensures.reads_until)

pub returns-in-Err-clause-reads_until : goal.returns-in-Err-clause-reads_until
returns-in-Err-clause-reads_until g c =
    both_read_until (g.F.Files.holds c.args.files.now) c.args.request.now.policy.now (c.args.request.now.input.now ∷ []) (TellsOfRun c.args.request.now.inside (failure.Fault c.from.result)) c.in_ok-text.text.items _ _ _
    c.in_ok-text.ensures.found c.in_ok-text.ensures.reads c.in_ok-input.ensures.reads tt

pub returns-in_err-text-clause-reads_until : goal.returns-in_err-text-clause-reads_until
returns-in_err-text-clause-reads_until g c =
    if_err_is c.from_residual.result c.in_err-text.field-0.0 _ (search rules)
    (policy_unread_until (g.F.Files.holds c.args.files.now) c.args.request.now.policy.now (c.args.request.now.input.now ∷ []) c.args.request.now.inside c.in_err-text.field-0.0 _ _ c.in_err-text.ensures.reads_until)

pub returns-in_err-texts-clause-reads_until : goal.returns-in_err-texts-clause-reads_until
returns-in_err-texts-clause-reads_until g c =
    if_err_is c.from_residual-in_err-texts.result c.in_err-texts.field-0.0 _ (search rules)
    (source_unread_until (g.F.Files.holds c.args.files.now) c.args.request.now.policy.now (c.args.request.now.input.now ∷ []) c.args.request.now.inside c.in_err-texts.field-0.0 c.in_ok-text.text.items c.in-Ok.policy _ _ _ _ _
    c.in_ok-text.ensures.found (search rules) c.sources.ensures.all c.in_ok-text.ensures.reads c.in_ok-input.ensures.reads c.in_err-texts.ensures.reads_until)
