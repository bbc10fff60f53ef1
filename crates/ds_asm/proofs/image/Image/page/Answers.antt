use Rattle.std.proofs.Common.{◌≡◌, ◌∙◌, sym, ap, length, replicate, min, ◌*◌, List, ℕ, arith, vec_len}
use Rattle.ds_asm.specs.Images.{page_of_image}
use Rattle.ds_asm.proofs.Pages.{part_of-filled}
use Rattle.ds_asm.proofs.image.Image.page.Goals as goal

pub returns : goal.returns
returns c =
    let bytes : c.deref.result.now ≡ c.args.self.now = c.deref.ensures.value ∙ c.self.view_is in
    let size : vec_len c.self.inside.bytes ≡ length c.self.inside.bytes.items = omega (arith, c.self.inside.bytes.ok.0) in
    let start : c.min-start.result ≡ min (4096 * c.args.part) (length c.deref.result.now) = c.min-start.ensures ∙ ap (min (4096 * c.args.part)) (c.len.ensures ∙ (size ∙ ap length (sym c.deref.ensures.value))) in
    part_of-filled c.deref.result.now c.args.part c.min-start.result c.min-count.result c.fill.new.self c.copy_from_slice.new.self start c.min-count.ensures c.copy_from_slice.ensures.after
    (c.fill.ensures.after (λ y e. e) ∙ ap (λ (n : ℕ). replicate n 0) c.requires)
    ∙ ap (λ (xs : List ℕ). page_of_image xs c.args.part) bytes
