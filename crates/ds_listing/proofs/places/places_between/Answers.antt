use Rattle.std.proofs.Common.{◌+◌, ◌∙◌, sym, ap, refl, length, map, option_map, take, drop, arith}
use Rattle.std.proofs.lemmas.List.{map-append}
use Rattle.ds_asm.specs.Lines.{line_of}
use Rattle.ds_asm.specs.Faults.{size_in}
use Rattle.ds_asm.proofs.SourceLines.{lines_of-first, after_within}
use Rattle.ds_listing.specs.Places.{plain_label, plain_line_place}
use Rattle.ds_listing.proofs.Listings.{cut_length}
use Rattle.ds_listing.proofs.PlacedLines.{line_placed}
use Rattle.ds_listing.proofs.places.places_between.Goals as goal

pub loop-label-preserved : goal.loop-label-preserved
loop-label-preserved c =
    let first = lines_of-first c.loop-label.rest.now c.first_line.result.0.now c.first_line.result.1.now (sym c.loop-label-test.ensures) c.first_line.ensures.line c.first_line.ensures.after in
    let b = c.cut.ensures.front ∙ ap (λ k. take k c.loop-label.left.now) c.source_line-said.ensures.size in
    let d = c.cut.ensures.afterwards ∙ ap (λ k. drop k c.loop-label.left.now) c.source_line-said.ensures.size in
    let cuts = cut_length (size_in (line_of c.first_line.result.0.now)) c.loop-label.left.now c.cut.result.0.now c.cut.result.1.now b d in
    record {
      places = line_placed (c.loop-label.number + 1) c.loop-label.place _ c.loop-label.left.now c.cut.result.0.now c.cut.result.1.now c.loop-label.rest.now c.first_line.result.0.now c.first_line.result.1.now
          (option_map plain_label c.loop-label.label) _ _ (map plain_line_place c.loop-label.places.items) (map plain_line_place c.push.new.self.items) _
          first b d c.source_line-said.ensures.label refl c.label_past-label.ensures
          (ap (map plain_line_place) c.in_ok-push.ensures.items ∙ map-append plain_line_place c.loop-label.places.items _) c.loop-label.invariant.places;
      place = omega (arith, cuts, c.loop-label.invariant.place);
      within = after_within c.loop-label.number (length c.args.text.now) c.loop-label.rest.now c.first_line.result.1.now c.first_line.ensures.after (sym c.loop-label-test.ensures) c.loop-label.invariant.within;
    }
