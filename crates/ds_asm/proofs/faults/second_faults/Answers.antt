use Rattle.std.proofs.Common.{◌≡◌, ◌+◌, sym, subst, length, ◌++◌, Ok, arith}
use Rattle.std.specs.Prelude.{option_map}
use Rattle.std.specs.Option.{option_to_list}
use Rattle.ds_word.proofs.ResultBinding.{bind_ok}
use Rattle.ds_asm.specs.Assembly.{at_line, fault_at, laid_line, laid_lines, lines_of}
use Rattle.ds_asm.specs.Inner.Assembling.{held_address}
use Rattle.ds_asm.specs.Lines.{line_of}
use Rattle.ds_asm.proofs.SourceLines.{lines_of-first, after_within}
use Rattle.ds_asm.proofs.AllFaults.{one_more, second_step}
use Rattle.ds_asm.proofs.ImageSizes.{laid_size, line_good}
use Rattle.ds_asm.proofs.faults.second_faults.Goals as goal

pub overflow_add-place : goal.overflow_add-place
overflow_add-place c =
    let (m, last, size, said) = c.loop-rest.invariant.laid in
    let first = lines_of-first c.loop-rest.rest.now c.first_line.result.0.now c.first_line.result.1.now (sym c.loop-rest-test.ensures) c.first_line.ensures.line c.first_line.ensures.after in
    let (next, a, b) = bind_ok (at_line (c.loop-rest.number + 1) (laid_line (line_of c.first_line.result.0.now) m)) (λ more. laid_lines (c.loop-rest.number + 1 + 1) more (lines_of c.first_line.result.1.now)) last (subst (λ ls. laid_lines (c.loop-rest.number + 1) m ls ≡ Ok last) first said) in
    let (grown, room) = laid_size m next (line_of c.first_line.result.0.now) (omega (arith, c.loop-rest.invariant.fits)) (line_good (c.loop-rest.number + 1) _ a) in
    omega (arith, c.source_line.ensures.size, c.loop-rest.invariant.fits)

pub loop-rest-preserved : goal.loop-rest-preserved
loop-rest-preserved c =
    let (m, last, size, said) = c.loop-rest.invariant.laid in
    let first = lines_of-first c.loop-rest.rest.now c.first_line.result.0.now c.first_line.result.1.now (sym c.loop-rest-test.ensures) c.first_line.ensures.line c.first_line.ensures.after in
    let (next, a, b) = bind_ok (at_line (c.loop-rest.number + 1) (laid_line (line_of c.first_line.result.0.now) m)) (λ more. laid_lines (c.loop-rest.number + 1 + 1) more (lines_of c.first_line.result.1.now)) last (subst (λ ls. laid_lines (c.loop-rest.number + 1) m ls ≡ Ok last) first said) in
    let (grown, room) = laid_size m next (line_of c.first_line.result.0.now) (omega (arith, c.loop-rest.invariant.fits)) (line_good (c.loop-rest.number + 1) _ a) in
    let added : c.push_fault.new.faults.items ≡ c.loop-rest.faults.items ++ option_to_list (option_map (fault_at (c.loop-rest.number + 1)) c.second_cause.result) = c.in_ok-push_fault.ensures in
    let step = second_step (c.loop-rest.number + 1) (held_address c.args.labels.now) c.loop-rest.place c.loop-rest.rest.now c.first_line.result.0.now c.first_line.result.1.now first in
    record {
      same = rw (added, c.second_cause.ensures, c.source_line.ensures.size) (one_more c.loop-rest.faults.items _ _ _ _ step c.loop-rest.invariant.same);
      laid = (next, last, omega (arith, c.source_line.ensures.size), b);
      fits = omega (arith, c.source_line.ensures.size, c.loop-rest.invariant.fits);
      within = after_within c.loop-rest.number (length c.args.text.now) c.loop-rest.rest.now c.first_line.result.1.now c.first_line.ensures.after (sym c.loop-rest-test.ensures) c.loop-rest.invariant.within;
    }
