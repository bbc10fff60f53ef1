use Rattle.std.proofs.Common.{◌+◌, ◌∙◌, sym, ap, refl, length, take, drop, arith}
use Rattle.ds_asm.specs.Lines.{line_of}
use Rattle.ds_asm.specs.Faults.{size_in}
use Rattle.ds_asm.proofs.SourceLines.{lines_of-first, after_within}
use Rattle.ds_listing.specs.Listing.{row_text, label_line_text}
use Rattle.ds_listing.proofs.Listings.{line_more, cut_length}
use Rattle.ds_listing.proofs.annotated.sheet_of.Goals as goal

pub loop-rest-preserved : goal.loop-rest-preserved
loop-rest-preserved c =
    let first = lines_of-first c.loop-rest.rest.now c.first_line.result.0.now c.first_line.result.1.now (sym c.loop-rest-test.ensures) c.first_line.ensures.line c.first_line.ensures.after in
    let b = c.cut.ensures.front ∙ ap (λ k. take k c.loop-rest.left.now) c.source_line-said.ensures.size in
    let d = c.cut.ensures.afterwards ∙ ap (λ k. drop k c.loop-rest.left.now) c.source_line-said.ensures.size in
    let cuts = cut_length (size_in (line_of c.first_line.result.0.now)) c.loop-rest.left.now c.cut.result.0.now c.cut.result.1.now b d in
    record {
      lines = line_more row_text (c.loop-rest.number + 1) c.loop-rest.place _ c.loop-rest.left.now c.cut.result.0.now c.cut.result.1.now c.loop-rest.rest.now c.first_line.result.0.now c.first_line.result.1.now
          c.loop-rest.lines.items c.push.new.sheet.items _ _ first b d c.source_line-said.ensures.label refl c.in_ok-push.ensures c.loop-rest.invariant.lines;
      labels = line_more (λ r. label_line_text r.place r.label) (c.loop-rest.number + 1) c.loop-rest.place _ c.loop-rest.left.now c.cut.result.0.now c.cut.result.1.now c.loop-rest.rest.now c.first_line.result.0.now c.first_line.result.1.now
          c.loop-rest.labels.items c.push_label.new.sheet.items _ _ first b d c.source_line-said.ensures.label refl c.in_ok-push_label.ensures c.loop-rest.invariant.labels;
      place = omega (arith, cuts, c.loop-rest.invariant.place);
      within = after_within c.loop-rest.number (length c.args.text.now) c.loop-rest.rest.now c.first_line.result.1.now c.first_line.ensures.after (sym c.loop-rest-test.ensures) c.loop-rest.invariant.within;
    }
