use Rattle.std.proofs.Common.{◌+◌, ◌∙◌, sym, ap, length, take, drop, rules, arith}
use Rattle.ds_asm.specs.Lines.{line_of}
use Rattle.ds_asm.specs.Faults.{size_in}
use Rattle.ds_asm.proofs.SourceLines.{lines_of-first, after_within}
use Rattle.ds_listing.proofs.Listings.{cut_length}
use Rattle.ds_check.proofs.SpotSteps.{spot_here, spot_later}
use Rattle.ds_check.proofs.spots.spot_between.Goals as goal

pub returns-then-byte-place : goal.returns-then-byte-place
returns-then-byte-place c =
    let first = lines_of-first c.loop-label.rest.now c.first_line.result.0.now c.first_line.result.1.now (sym c.loop-label-test.ensures) c.first_line.ensures.line c.first_line.ensures.after in
    let b = c.cut.ensures.front ∙ ap (λ k. take k c.loop-label.left.now) c.source_line-said.ensures.size in
    let d = c.cut.ensures.afterwards ∙ ap (λ k. drop k c.loop-label.left.now) c.source_line-said.ensures.size in
    sym (spot_here (c.loop-label.line + 1) c.loop-label.place c.args.byte _ _ _ c.loop-label.left.now c.cut.result.0.now c.cut.result.1.now c.loop-label.rest.now c.first_line.result.0.now c.first_line.result.1.now
    first b d c.source_line-said.ensures.label c.label_after-label.ensures (search rules))
    ∙ c.loop-label.invariant.spot

pub loop-label-preserved : goal.loop-label-preserved
loop-label-preserved c =
    let first = lines_of-first c.loop-label.rest.now c.first_line.result.0.now c.first_line.result.1.now (sym c.loop-label-test.ensures) c.first_line.ensures.line c.first_line.ensures.after in
    let b = c.cut.ensures.front ∙ ap (λ k. take k c.loop-label.left.now) c.source_line-said.ensures.size in
    let d = c.cut.ensures.afterwards ∙ ap (λ k. drop k c.loop-label.left.now) c.source_line-said.ensures.size in
    let cuts = cut_length (size_in (line_of c.first_line.result.0.now)) c.loop-label.left.now c.cut.result.0.now c.cut.result.1.now b d in
    record {
      spot = sym (spot_later (c.loop-label.line + 1) c.loop-label.place c.args.byte _ _ _ c.loop-label.left.now c.cut.result.0.now c.cut.result.1.now c.loop-label.rest.now c.first_line.result.0.now c.first_line.result.1.now
          first b d c.source_line-said.ensures.label c.label_after-label.ensures (search rules))
          ∙ c.loop-label.invariant.spot;
      place = omega (arith, cuts, c.loop-label.invariant.place);
      within = after_within c.loop-label.line (length c.args.text.now) c.loop-label.rest.now c.first_line.result.1.now c.first_line.ensures.after (sym c.loop-label-test.ensures) c.loop-label.invariant.within;
    }
