use Rattle.std.proofs.Common.{◌∙◌, sym, refl}
use Rattle.ds_asm.specs.Faults.{all_faults}
use Rattle.ds_asm.proofs.AllFaults.{first_of_all, none_of_all}
use Rattle.ds_asm.proofs.faults.all_faults.Goals as goal

pub returns-in-Image-clause-all : goal.returns-in-Image-clause-all
returns-in-Image-clause-all c = c.new.ensures.items ∙ sym (none_of_all c.args.text.now (all_faults c.args.text.now) c.in-Image.field-0 refl (rw c.in-Image.is at c.in_ok-assemble_or_faults.ensures))

pub returns-clause-first : goal.returns-clause-first
returns-clause-first c = λ fault h.
    let (first, is, all) = rw c.in-Faults.is at c.in_ok-assemble_or_faults.ensures in
    first_of_all c.args.text.now c.in-Faults.faults.items fault all h
