use Rattle.std.proofs.Common.{◌∙◌, ◌<◌, ap, ℕ, List, length, replicate, arith}
use Rattle.ds_asm.specs.Images.{page_of_image}
use Rattle.ds_grants.proofs.Images.{image_found, part_missed}
use Rattle.ds_grants.proofs.first.fill_part.Goals as goal

pub returns-in-Some : goal.returns-in-Some
returns-in-Some c =
    let at = rw c.as_str.ensures.value at c.in-Some.ensures.exact in
    let within : c.in-Some.place < length c.args.images.now = (let w = c.in-Some.ensures.within in omega arith) in
    c.page.ensures ∙ ap (λ (image : List ℕ). page_of_image image c.args.source.now.part) (image_found c.args.names.now c.args.images.now c.args.source.now.name c.index-images-place.result c.in-Some.place at c.index-images-place.is within)

pub returns-in-None : goal.returns-in-None
returns-in-None c =
    let at = rw c.as_str.ensures.value at c.in-None.ensures.exact in
    c.fill.ensures.after (λ y e. e) ∙ ap (λ (n : ℕ). replicate n 0) c.requires.whole ∙ part_missed c.args.names.now c.args.images.now c.args.source.now.name c.args.source.now.part at
