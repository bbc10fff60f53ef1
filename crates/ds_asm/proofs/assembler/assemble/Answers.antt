use Rattle.std.proofs.Common.{◌∙◌, sym, ap, subst, refl, [], Ok, arith}
use Rattle.ds_asm.specs.Assembly.{empty_layout, lines_of, laid_lines, bytes_from, label_address}
use Rattle.ds_asm.specs.Inner.Assembling.{Fails, held_address}
use Rattle.ds_asm.proofs.SourceLines.{fails_bind}
use Rattle.ds_asm.proofs.ImageSizes.{bytes_fit, assembled_by}
use Rattle.ds_asm.proofs.assembler.assemble.Goals as goal

pub of-requires : goal.of-requires
of-requires c =
    let (l, said, laid) = c.in-Ok.ensures in
    bytes_fit 1 (held_address c.in-Ok.layout.labels) empty_layout l [] c.in-Ok-bytes_of.bytes.items (lines_of c.args.text.now) refl (omega arith) said c.in-Ok-bytes_of.ensures

pub returns-in-Ok-bytes_of : goal.returns-in-Ok-bytes_of
returns-in-Ok-bytes_of c =
    let (l, said, laid) = c.in-Ok.ensures in
    assembled_by c.args.text.now l (held_address c.in-Ok.layout.labels) said laid.labels ∙ (c.in-Ok-bytes_of.ensures ∙ ap (λ bytes. Ok bytes) (sym c.of.ensures))

pub returns-in-Ok : goal.returns-in-Ok
returns-in-Ok c =
    let (l, said, laid) = c.in-Ok.ensures in
    subst (Fails c.in-Err-bytes_of.fault) (sym (assembled_by c.args.text.now l (held_address c.in-Ok.layout.labels) said laid.labels)) c.in-Err-bytes_of.ensures

pub returns : goal.returns
returns c = fails_bind c.in-Err.first (laid_lines 1 empty_layout (lines_of c.args.text.now)) (λ layout. bytes_from 1 (label_address layout.labels) [] (lines_of c.args.text.now)) c.in-Err.ensures
