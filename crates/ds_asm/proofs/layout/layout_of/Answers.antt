use Rattle.std.proofs.Common.{◌+◌, ◌∙◌, sym, subst, length, rules}
use Rattle.ds_asm.specs.Assembly.{empty_layout, laid_lines, lines_of}
use Rattle.ds_asm.specs.Inner.Assembling.{Fails, stopped_at}
use Rattle.ds_asm.proofs.SourceLines.{lines_of-first, after_within, layout_good, layout_bad, layout_end}
use Rattle.ds_asm.proofs.layout.layout_of.Goals as goal

pub returns-in-Err : goal.returns-in-Err
returns-in-Err c =
    let (m, laid, same) = c.loop-rest.invariant.same in
    let first = lines_of-first c.loop-rest.rest.now c.first_line.result.0.now c.first_line.result.1.now (sym c.loop-rest-test.ensures) c.first_line.ensures.line c.first_line.ensures.after in
    subst (λ e. Fails e (laid_lines 1 empty_layout (lines_of c.args.text.now))) (sym c.fault.ensures)
    (subst (Fails (stopped_at (c.loop-rest.number + 1) c.in-Err.stop)) same (layout_bad c.in-Err.stop (c.loop-rest.number + 1) m c.loop-rest.rest.now c.first_line.result.0.now c.first_line.result.1.now first (c.in-Err.ensures.said m laid)))

pub loop-rest-preserved : goal.loop-rest-preserved
loop-rest-preserved c =
    let (m, laid, same) = c.loop-rest.invariant.same in
    let (next, said, laid_next) = c.in-Ok.ensures.said m laid in
    let first = lines_of-first c.loop-rest.rest.now c.first_line.result.0.now c.first_line.result.1.now (sym c.loop-rest-test.ensures) c.first_line.ensures.line c.first_line.ensures.after in
    record {
      same = (next, laid_next, sym (layout_good (c.loop-rest.number + 1) m next c.loop-rest.rest.now c.first_line.result.0.now c.first_line.result.1.now first said) ∙ same);
      fits = c.in-Ok.ensures.fits;
      within = after_within c.loop-rest.number (length c.args.text.now) c.loop-rest.rest.now c.first_line.result.1.now c.first_line.ensures.after (sym c.loop-rest-test.ensures) c.loop-rest.invariant.within;
    }

pub returns : goal.returns
returns c =
    let (m, laid, same) = c.loop-rest.invariant.same in
    (m, sym same ∙ layout_end (c.loop-rest.number + 1) m c.loop-rest.rest.now (search rules), laid)
