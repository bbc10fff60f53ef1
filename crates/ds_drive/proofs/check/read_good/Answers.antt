use Rattle.std.proofs.Common.{◌≡◌, ◌∙◌, ℕ, List, map, ap, refl, subst, sym, rules}
use Rattle.std.specs.Prelude.{None}
use Rattle.ds_policy_reasons.specs.Reasons.{policy_reason}
use Rattle.ds_station.specs.Headline.{sources_seen}
use Rattle.ds_drive.specs.declared.run.SourceText.{SourceText}
use Rattle.ds_drive.specs.AtFault.{IsPlaceAt, IsReasonAt, place_told, plain}
use Rattle.ds_drive.specs.Inner.AtFault.{texts_seen}
use Rattle.ds_station.specs.declared.fault.Fault.{Fault}
use Rattle.ds_drive.specs.declared.failure.Failure.{Failure}
use Rattle.ds_drive.specs.declared.failure.Failure.TheVariants as failure
use Rattle.ds_drive.proofs.HeldFiles.{all_held, names_held, input_kept, begins_over}
use Rattle.ds_drive.specs.Failures.{memory_failure}
use Rattle.ds_drive.specs.Inside.{outside_of}
use Rattle.ds_drive.specs.Reading.{ReadsRunUntil, input_names}
use Rattle.ds_drive.specs.Inner.Reading.{TellsOfRun}
use Rattle.ds_drive.proofs.Readings.{all_read_until, both_read_until, input_unread_until, policy_unread_until, source_unread_until}
use Rattle.ds_drive.proofs.Stops.{if_err_is, refuses_policy, run_refuses}
use Rattle.ds_drive.proofs.check.read_good.Goals as goal

pub returns-in-Ok-read-clause-good : goal.returns-in-Ok-read-clause-good
returns-in-Ok-read-clause-good g c =
    let lent = c.in_ok-sources.ensures ∙ ap (map (λ (s : SourceText). (s.name, s.text.items))) c.as_slice.ensures.value in
    let begun = begins_over c.in-Ok.policy c.in_ok-text.text.items _ (texts_seen c.in_ok-texts.texts.items) _ _
    (search rules) (ap sources_seen c.as_slice-2.ensures.value ∙ lent) c.as_slice-3.ensures.value c.in-Ok-run_policy.ensures.ok in
    record {
      policy = c.in_ok-text.text.items;
      policy_held = c.in_ok-text.ensures.found;
      input_held = input_kept (g.F.Files.holds c.args.files.now) (g.F.Files.holds c.named_file.new.files) c.args.request.now.input c.in_ok-input.input.items c.in_ok-text.ensures.kept c.in_ok-input.ensures.found;
      sources_held = all_held (g.F.Files.holds c.args.files.now) (g.F.Files.holds c.input_of.new.files) c.in_ok-texts.texts.items _
          (λ file bytes h. c.in_ok-text.ensures.kept file bytes (c.in_ok-input.ensures.kept file bytes h)) c.in_ok-texts.ensures.found refl;
      sources_named = names_held c.in_ok-texts.texts.items _ _ refl (c.in_ok-texts.ensures.names ∙ c.sources.ensures.all);
      sources_inside = subst (λ (names : List (List ℕ)). outside_of c.args.request.now.inside names ≡ None) c.sources.ensures.all c.in_ok-texts.ensures.inside;
      policy_read = search rules;
      input_read = search rules;
      first = begun.0;
      begins = begun.1;
    }

pub returns-in-Err-clause-refused : goal.returns-in-Err-clause-refused
returns-in-Err-clause-refused g c =
    let holds = g.F.Files.holds c.args.files.now in
    let lacks = g.F.Files.lacks c.args.files.now in
    let told = c.in_ok-refused-in-Err.refused in
    let known = c.in_ok-reason-in-Err.ensures ∙ ap policy_reason c.deref-in-Err.ensures.value in
    refuses_policy holds lacks c.in-Err.fault told c.args.request.now c.in_ok-text.text.items c.in_ok-input.input.items c.in_ok-text.ensures.found
    (input_kept holds (g.F.Files.holds c.named_file.new.files) c.args.request.now.input c.in_ok-input.input.items c.in_ok-text.ensures.kept c.in_ok-input.ensures.found)
    (search rules)
    (c.in_ok-refused-in-Err.ensures.failure ∙ ap failure.Fault c.from.ensures)
    c.in_ok-refused-in-Err.ensures.policy
    (subst (λ (f : Fault). IsPlaceAt f c.in_ok-text.text.items (place_told told.policy)) c.from.ensures (c.in_ok-refused-in-Err.ensures.place known))
    (subst (λ (f : Fault). IsReasonAt f c.in_ok-text.text.items told.reason) c.from.ensures (c.in_ok-refused-in-Err.ensures.reason known))
    c.in_ok-refused-in-Err.ensures.others.0 c.in_ok-refused-in-Err.ensures.others.1

pub returns-in-Err-run_policy-clause-refused : goal.returns-in-Err-run_policy-clause-refused
returns-in-Err-run_policy-clause-refused g c =
    let holds = g.F.Files.holds c.args.files.now in
    let lacks = g.F.Files.lacks c.args.files.now in
    let lent = c.in_ok-sources.ensures ∙ ap (map (λ (s : SourceText). (s.name, s.text.items))) c.as_slice.ensures.value in
    run_refuses holds lacks (g.F.Files.holds c.input_of.new.files) c.in_ok-refused-in-Err-run_policy.refused c.args.request.now c.in_ok-text.text.items c.in_ok-input.input.items c.in_ok-texts.texts.items _ _ _ c.in-Ok.policy c.in-Err-run_policy.fault c.in_ok-cause-in-Err-run_policy.cause _ _
    c.in_ok-text.ensures.found
    (input_kept holds (g.F.Files.holds c.named_file.new.files) c.args.request.now.input c.in_ok-input.input.items c.in_ok-text.ensures.kept c.in_ok-input.ensures.found)
    (λ file bytes h. c.in_ok-text.ensures.kept file bytes (c.in_ok-input.ensures.kept file bytes h))
    c.in_ok-texts.ensures.found
    (c.in_ok-texts.ensures.names ∙ c.sources.ensures.all)
    (subst (λ (names : List (List ℕ)). outside_of c.args.request.now.inside names ≡ None) c.sources.ensures.all c.in_ok-texts.ensures.inside)
    (search rules) lent (ap sources_seen c.as_slice-2.ensures.value) c.as_slice-3.ensures.value c.in-Err-run_policy.ensures.err
    c.in_ok-refused-in-Err-run_policy.ensures.failure c.in_ok-refused-in-Err-run_policy.ensures.source c.in_ok-refused-in-Err-run_policy.ensures.input c.in_ok-refused-in-Err-run_policy.ensures.cause (search rules) c.in_ok-refused-in-Err-run_policy.ensures.others.0 c.in_ok-refused-in-Err-run_policy.ensures.others.1

pub returns-in_err-input-clause-reads_until : goal.returns-in_err-input-clause-reads_until
returns-in_err-input-clause-reads_until g c =
    if_err_is c.from_residual-in_err-input.result (plain c.in_err-input.field-0.0) _ (search rules)
    (input_unread_until (g.F.Files.holds c.args.files.now) c.args.request.now.policy.now (input_names c.args.request.now.input) c.args.request.now.inside c.in_err-input.field-0.0 c.in_ok-text.text.items _ _ _
    c.in_ok-text.ensures.found c.in_ok-text.ensures.reads c.in_err-input.ensures.reads_until)

pub returns-in_err-reason-in-Err-clause-reads_until : goal.returns-in_err-reason-in-Err-clause-reads_until
returns-in_err-reason-in-Err-clause-reads_until g c =
    if_err_is c.from_residual-in_err-reason-in-Err.result (plain memory_failure) _ (search rules)
    (both_read_until (g.F.Files.holds c.args.files.now) c.args.request.now.policy.now (input_names c.args.request.now.input) (TellsOfRun c.args.request.now.inside memory_failure) c.in_ok-text.text.items _ _ _
    c.in_ok-text.ensures.found c.in_ok-text.ensures.reads c.in_ok-input.ensures.reads tt)

pub returns-in_err-refused-in-Err-clause-reads_until : goal.returns-in_err-refused-in-Err-clause-reads_until
returns-in_err-refused-in-Err-clause-reads_until g c =
    if_err_is c.from_residual-in_err-refused-in-Err.result (plain memory_failure) _ (search rules)
    (both_read_until (g.F.Files.holds c.args.files.now) c.args.request.now.policy.now (input_names c.args.request.now.input) (TellsOfRun c.args.request.now.inside memory_failure) c.in_ok-text.text.items _ _ _
    c.in_ok-text.ensures.found c.in_ok-text.ensures.reads c.in_ok-input.ensures.reads tt)

pub returns-in-Err-clause-reads_until : goal.returns-in-Err-clause-reads_until
returns-in-Err-clause-reads_until g c =
    subst (λ (f : Failure). ReadsRunUntil (TellsOfRun c.args.request.now.inside f) (g.F.Files.holds c.args.files.now) c.args.request.now.policy.now (input_names c.args.request.now.input) (g.F.Files.asked c.args.files.now) (g.F.Files.asked c.input_of.new.files)) (sym c.in_ok-refused-in-Err.ensures.failure)
    (both_read_until (g.F.Files.holds c.args.files.now) c.args.request.now.policy.now (input_names c.args.request.now.input) (TellsOfRun c.args.request.now.inside (failure.Fault c.from.result)) c.in_ok-text.text.items _ _ _
    c.in_ok-text.ensures.found c.in_ok-text.ensures.reads c.in_ok-input.ensures.reads tt)

pub returns-in-Err-run_policy-clause-reads_until : goal.returns-in-Err-run_policy-clause-reads_until
returns-in-Err-run_policy-clause-reads_until g c =
    subst (λ (f : Failure). ReadsRunUntil (TellsOfRun c.args.request.now.inside f) (g.F.Files.holds c.args.files.now) c.args.request.now.policy.now (input_names c.args.request.now.input) (g.F.Files.asked c.args.files.now) (g.F.Files.asked c.source_texts.new.files)) (sym c.in_ok-refused-in-Err-run_policy.ensures.failure)
    (all_read_until (g.F.Files.holds c.args.files.now) c.args.request.now.policy.now (input_names c.args.request.now.input) (TellsOfRun c.args.request.now.inside (failure.Fault c.in-Err-run_policy.fault)) c.in_ok-text.text.items c.in-Ok.policy _ _ _ _ _
    c.in_ok-text.ensures.found (search rules) c.sources.ensures.all c.in_ok-text.ensures.reads c.in_ok-input.ensures.reads c.in_ok-texts.ensures.reads tt)

pub returns-in_err-notes-clause-reads_until : goal.returns-in_err-notes-clause-reads_until
returns-in_err-notes-clause-reads_until g c =
    if_err_is c.from_residual-in_err-notes.result (plain memory_failure) _ (search rules)
    (all_read_until (g.F.Files.holds c.args.files.now) c.args.request.now.policy.now (input_names c.args.request.now.input) (TellsOfRun c.args.request.now.inside memory_failure) c.in_ok-text.text.items c.in-Ok.policy _ _ _ _ _
    c.in_ok-text.ensures.found (search rules) c.sources.ensures.all c.in_ok-text.ensures.reads c.in_ok-input.ensures.reads c.in_ok-texts.ensures.reads tt)

pub returns-in_err-text-clause-reads_until : goal.returns-in_err-text-clause-reads_until
returns-in_err-text-clause-reads_until g c =
    if_err_is c.from_residual.result (plain c.in_err-text.field-0.0) _ (search rules)
    (policy_unread_until (g.F.Files.holds c.args.files.now) c.args.request.now.policy.now (input_names c.args.request.now.input) c.args.request.now.inside c.in_err-text.field-0.0 _ _ c.in_err-text.ensures.reads_until)

pub returns-in_err-texts-clause-reads_until : goal.returns-in_err-texts-clause-reads_until
returns-in_err-texts-clause-reads_until g c =
    if_err_is c.from_residual-in_err-texts.result (plain c.in_err-texts.field-0.0) _ (search rules)
    (source_unread_until (g.F.Files.holds c.args.files.now) c.args.request.now.policy.now (input_names c.args.request.now.input) c.args.request.now.inside c.in_err-texts.field-0.0 c.in_ok-text.text.items c.in-Ok.policy _ _ _ _ _
    c.in_ok-text.ensures.found (search rules) c.sources.ensures.all c.in_ok-text.ensures.reads c.in_ok-input.ensures.reads c.in_err-texts.ensures.reads_until)
