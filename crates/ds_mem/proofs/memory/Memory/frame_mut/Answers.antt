use Rattle.std.proofs.Common.{◌≡◌, ◌∙◌, ◌*◌, ◌≤◌, length, drop, refl, ap, arith, rules}
use Rattle.std.proofs.lemmas.List.{length-drop, length-take-le}
use Rattle.ds_mem.specs.Memory.{frame_of, with_frame}
use Rattle.ds_mem.proofs.Frames.{overwritten-lent, part_is_frame}
use Rattle.ds_mem.proofs.memory.Memory.frame_mut.Goals as goal

pub returns : goal.returns
returns c =
    let bytes = c.self.inside.bytes in
    let size : length bytes.items ≡ 8388608 = search rules in
    let within : c.args.f * 4096 ≤ length bytes.items = omega (arith, size, c.requires) in
    let value : c.slice_mut.result.now ≡ frame_of bytes.items c.args.f = c.slice_mut.ensures.value ∙ part_is_frame bytes.items c.args.f in (
      (refl, λ w. overwritten-lent bytes.items w bytes.len (c.args.f * 4096) bytes.ok.0 within ∙ ap (λ m. with_frame m c.args.f w) c.self.view_is),
      record {
        writes_back = tt;
        value = value ∙ ap (λ m. frame_of m c.args.f) c.self.view_is;
        size = ap length value ∙ length-take-le 4096 (drop (c.args.f * 4096) bytes.items) (omega (arith, size, c.requires, length-drop (c.args.f * 4096) bytes.items));
      },
    )
