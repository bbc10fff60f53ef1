use Rattle.std.proofs.Common.{[], ◌+◌, ◌∙◌, sym, subst, length, rules}
use Rattle.ds_asm.specs.Assembly.{bytes_from, lines_of}
use Rattle.ds_asm.specs.Inner.Assembling.{Fails, held_address, stopped_at}
use Rattle.ds_asm.proofs.SourceLines.{lines_of-first, after_within, bytes_good, bytes_bad, bytes_end}
use Rattle.ds_asm.proofs.second_pass.bytes_of.Goals as goal

pub returns-in-Err : goal.returns-in-Err
returns-in-Err c =
    let first = lines_of-first c.loop-rest.rest.now c.first_line.result.0.now c.first_line.result.1.now (sym c.loop-rest-test.ensures) c.first_line.ensures.line c.first_line.ensures.after in
    subst (λ e. Fails e (bytes_from 1 (held_address c.args.labels.now) [] (lines_of c.args.text.now))) (sym c.fault.ensures)
    (subst (Fails (stopped_at (c.loop-rest.number + 1) c.in-Err.stop)) c.loop-rest.invariant.same (bytes_bad c.in-Err.stop (c.loop-rest.number + 1) (held_address c.args.labels.now) c.loop-rest.bytes.items c.loop-rest.rest.now c.first_line.result.0.now c.first_line.result.1.now first c.in-Err.ensures))

pub loop-rest-preserved : goal.loop-rest-preserved
loop-rest-preserved c =
    let (more, said, added) = c.in-Ok.ensures in
    let first = lines_of-first c.loop-rest.rest.now c.first_line.result.0.now c.first_line.result.1.now (sym c.loop-rest-test.ensures) c.first_line.ensures.line c.first_line.ensures.after in
    record {
      same = rw added (sym (bytes_good (c.loop-rest.number + 1) (held_address c.args.labels.now) c.loop-rest.bytes.items more c.loop-rest.rest.now c.first_line.result.0.now c.first_line.result.1.now first said) ∙ c.loop-rest.invariant.same);
      within = after_within c.loop-rest.number (length c.args.text.now) c.loop-rest.rest.now c.first_line.result.1.now c.first_line.ensures.after (sym c.loop-rest-test.ensures) c.loop-rest.invariant.within;
    }

pub returns : goal.returns
returns c = sym c.loop-rest.invariant.same ∙ bytes_end (c.loop-rest.number + 1) (held_address c.args.labels.now) c.loop-rest.bytes.items c.loop-rest.rest.now (search rules)
