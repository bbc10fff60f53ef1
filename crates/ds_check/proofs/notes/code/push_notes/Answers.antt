use Rattle.std.proofs.Common.{◌+◌, ◌∙◌, sym, ap, refl, length, take, drop, arith}
use Rattle.ds_asm.specs.Lines.{line_of}
use Rattle.ds_asm.specs.Faults.{size_in}
use Rattle.ds_asm.proofs.SourceLines.{lines_of-first, after_within}
use Rattle.ds_listing.proofs.Listings.{cut_length}
use Rattle.ds_check.proofs.CodeLines.{line_more}
use Rattle.ds_check.proofs.notes.code.push_notes.Goals as goal

pub loop-rest-preserved : goal.loop-rest-preserved
loop-rest-preserved c =
    let first = lines_of-first c.loop-rest.rest.now c.first_line.result.0.now c.first_line.result.1.now (sym c.loop-rest-test.ensures) c.first_line.ensures.line c.first_line.ensures.after in
    let b = c.cut.ensures.front ∙ ap (λ k. take k c.loop-rest.left.now) c.source_line.ensures.size in
    let d = c.cut.ensures.afterwards ∙ ap (λ k. drop k c.loop-rest.left.now) c.source_line.ensures.size in
    let cuts = cut_length (size_in (line_of c.first_line.result.0.now)) c.loop-rest.left.now c.cut.result.0.now c.cut.result.1.now b d in
    record {
      notes = line_more (c.loop-rest.line_count + 1) c.loop-rest.offset _ c.loop-rest.before _ c.loop-rest.left.now c.cut.result.0.now c.cut.result.1.now c.loop-rest.rest.now c.first_line.result.0.now c.first_line.result.1.now
          c.loop-rest.notes.items c.push_line.new.notes.items _ first b d refl c.in_ok-push_line.ensures c.last_done-before.ensures c.loop-rest.invariant.notes;
      offset = omega (arith, cuts, c.loop-rest.invariant.offset);
      within = after_within c.loop-rest.line_count (length c.args.text.now) c.loop-rest.rest.now c.first_line.result.1.now c.first_line.ensures.after (sym c.loop-rest-test.ensures) c.loop-rest.invariant.within;
    }
