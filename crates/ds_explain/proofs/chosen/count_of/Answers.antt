use Rattle.std.proofs.Common.{List, ℕ, suc, ◌≡◌, ap, sym, arith, length}
use Rattle.ds_asm.specs.Assembly.{lines_of}
use Rattle.ds_asm.proofs.SourceLines.{after_within, lines_of-first}
use Rattle.ds_explain.proofs.chosen.count_of.Goals as goal

pub loop-rest-preserved : goal.loop-rest-preserved
loop-rest-preserved c =
    let first = lines_of-first c.loop-rest.rest.now c.first_line.result.0.now c.first_line.result.1.now (sym c.loop-rest-test.ensures) c.first_line.ensures.line c.first_line.ensures.after in
    let longer : length (lines_of c.loop-rest.rest.now) ≡ suc (length (lines_of c.first_line.result.1.now)) = ap (λ (ls : List (List ℕ)). length ls) first in
    record {
      count = omega (arith, longer, c.loop-rest.invariant.count);
      within = after_within c.loop-rest.count (length c.args.text.now) c.loop-rest.rest.now c.first_line.result.1.now c.first_line.ensures.after (sym c.loop-rest-test.ensures) c.loop-rest.invariant.within;
    }
