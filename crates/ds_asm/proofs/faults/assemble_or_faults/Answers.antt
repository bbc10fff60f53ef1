use Rattle.std.proofs.Common.{◌≡◌, ◌∙◌, sym, ap, refl, [], Ok, ◌==◌, false, length, arith, rules}
use Rattle.ds_asm.specs.Assembly.{empty_layout, lines_of, label_address}
use Rattle.ds_asm.specs.Inner.Assembling.{held_address}
use Rattle.ds_asm.specs.Faults.{faults_by}
use Rattle.ds_asm.proofs.ImageSizes.{bytes_fit, assembled_by, line_alike}
use Rattle.ds_asm.proofs.AllFaults.{no_fault, refused_first, second_alike}
use Rattle.ds_asm.proofs.faults.assemble_or_faults.Goals as goal

pub returns-then-not-is_empty : goal.returns-then-not-is_empty
returns-then-not-is_empty c =
    let some : (length c.in_ok-layout.field-0.faults.items == 0) ≡ false = search rules in
    refused_first c.args.text.now c.in_ok-layout.field-0.faults.items c.in_ok-layout.ensures.faults (λ none. let k = rw none at some in cc)

pub of-requires : goal.of-requires
of-requires c =
    let none : c.in_ok-layout.field-0.faults.items ≡ [] = no_fault c.in_ok-layout.field-0.faults.items (search rules) in
    let (l, said, laid) = c.in_ok-layout.ensures.laid none in
    bytes_fit 1 (held_address c.in_ok-layout.field-0.layout.labels) empty_layout l [] c.in-Ok.bytes.items (lines_of c.args.text.now) refl (omega arith) said c.in-Ok.ensures

pub returns-in-Ok : goal.returns-in-Ok
returns-in-Ok c =
    let none : c.in_ok-layout.field-0.faults.items ≡ [] = no_fault c.in_ok-layout.field-0.faults.items (search rules) in
    let (l, said, laid) = c.in_ok-layout.ensures.laid none in
    assembled_by c.args.text.now l (held_address c.in_ok-layout.field-0.layout.labels) said laid.labels ∙ (c.in-Ok.ensures ∙ ap (λ bytes. Ok bytes) (sym c.of.ensures))

pub returns-in-Err-Source : goal.returns-in-Err-Source
returns-in-Err-Source c =
    let none : c.in_ok-layout.field-0.faults.items ≡ [] = no_fault c.in_ok-layout.field-0.faults.items (search rules) in
    let (l, said, laid) = c.in_ok-layout.ensures.laid none in
    let find = held_address c.in_ok-layout.field-0.layout.labels in (
      c.in-Err-Source.field-0-0,
      assembled_by c.args.text.now l find said laid.labels ∙ (rw c.in-Err-Source.field-0-is at c.in-Err-Source.ensures),
      c.in_ok-faults-in-Err-Source.ensures
          ∙ (second_alike find (label_address l.labels) (line_alike find (label_address l.labels) laid.labels) 1 0 (lines_of c.args.text.now)
          ∙ ap (λ r. faults_by r (lines_of c.args.text.now)) (sym said)),
    )
