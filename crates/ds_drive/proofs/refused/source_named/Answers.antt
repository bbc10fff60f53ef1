use Rattle.std.proofs.Common.{◌∙◌, ap, rules}
use Rattle.ds_asm.specs.Faults.{all_faults}
use Rattle.ds_drive.proofs.Faulty.{source_found, source_nowhere}
use Rattle.ds_drive.proofs.refused.source_named.Goals as goal

pub returns-in_default : goal.returns-in_default
returns-in_default c = source_nowhere c.args.name.now c.args.texts.items c.deref.result.now c.deref.ensures.value (search rules)

pub returns : goal.returns
returns c =
    source_found c.args.name.now c.args.texts.items c.deref.result.now c.in-Some.index c.swap_remove.result c.in_ok-faults.faults.items
    c.deref.ensures.value (search rules) c.swap_remove.ensures.value (c.in_ok-faults.ensures.all ∙ ap all_faults c.deref-2.ensures.value)
