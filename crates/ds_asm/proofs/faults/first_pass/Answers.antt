use Rattle.std.proofs.Common.{◌≡◌, ◌+◌, ◌∙◌, sym, ap, refl, length, arith, [], ◌∷◌, ◌++◌, rules}
use Rattle.ds_asm.specs.Assembly.{fault_at}
use Rattle.ds_asm.specs.Faults.{labels_past}
use Rattle.ds_asm.specs.Lines.{line_of}
use Rattle.ds_asm.proofs.SourceLines.{lines_of-first, after_within, layout_good, layout_end}
use Rattle.ds_asm.proofs.AllFaults.{one_more, none_with, first_good, first_bad}
use Rattle.ds_asm.proofs.faults.first_pass.Goals as goal

pub loop-rest-preserved-in-Ok : goal.loop-rest-preserved-in-Ok
loop-rest-preserved-in-Ok c =
    let (m, laid, same, good) = c.loop-rest.invariant.same in
    let (next, said, laid_next) = c.in-Ok.ensures.said m laid in
    let first = lines_of-first c.loop-rest.rest.now c.first_line.result.0.now c.first_line.result.1.now (sym c.loop-rest-test.ensures) c.first_line.ensures.line c.first_line.ensures.after in
    let step = first_good (c.loop-rest.number + 1) m next c.loop-rest.rest.now c.first_line.result.0.now c.first_line.result.1.now first said in
    record {
      same = (
        next,
        laid_next,
        ap (λ more. c.loop-rest.faults.items ++ more) (sym step) ∙ same,
        (λ none. sym (layout_good (c.loop-rest.number + 1) m next c.loop-rest.rest.now c.first_line.result.0.now c.first_line.result.1.now first said) ∙ good none),
      );
      fits = c.in-Ok.ensures.fits;
      within = after_within c.loop-rest.number (length c.args.text.now) c.loop-rest.rest.now c.first_line.result.1.now c.first_line.ensures.after (sym c.loop-rest-test.ensures) c.loop-rest.invariant.within;
    }

pub loop-rest-preserved : goal.loop-rest-preserved
loop-rest-preserved c =
    let (m, laid, same, good) = c.loop-rest.invariant.same in
    let said = rw c.in-Err-Refused.field-0-is at (c.in-Err-Refused.ensures.said m laid) in
    let held = rw c.in-Err-Refused.field-0-is at c.in-Err-Refused.ensures.left in
    let fault = fault_at (c.loop-rest.number + 1) c.in-Err-Refused.cause in
    let added : c.push.new.self.items ≡ c.loop-rest.faults.items ++ fault ∷ [] = c.in_ok-push-in-Err-Refused.ensures.items ∙ ap (λ f. c.loop-rest.faults.items ++ f ∷ []) c.fault.ensures in
    let first = lines_of-first c.loop-rest.rest.now c.first_line.result.0.now c.first_line.result.1.now (sym c.loop-rest-test.ensures) c.first_line.ensures.line c.first_line.ensures.after in
    let step = first_bad (c.loop-rest.number + 1) m c.in-Err-Refused.cause c.loop-rest.rest.now c.first_line.result.0.now c.first_line.result.1.now first said in
    record {
      same = (
        record { labels = labels_past (line_of c.first_line.result.0.now) m; size = 0 },
        record { labels = held (λ e. cc) m laid; size = refl },
        rw added (one_more c.loop-rest.faults.items (fault ∷ []) _ _ _ step same),
        (λ none. absurd (none_with c.loop-rest.faults.items fault (sym added ∙ none))),
      );
      fits = omega arith;
      within = after_within c.loop-rest.number (length c.args.text.now) c.loop-rest.rest.now c.first_line.result.1.now c.first_line.ensures.after (sym c.loop-rest-test.ensures) c.loop-rest.invariant.within;
    }

pub returns-clause-laid : goal.returns-clause-laid
returns-clause-laid c = λ none.
    let (m, laid, same, good) = c.loop-rest.invariant.same in
    (m, sym (good none) ∙ layout_end (c.loop-rest.number + 1) m c.loop-rest.rest.now (search rules), laid)
