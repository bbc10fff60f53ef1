use Rattle.ds_asm.proofs.WrittenForms.{nothing_named, seen_with}
use Rattle.ds_asm.proofs.form.form_named.Goals as goal

pub returns-in-empty : goal.returns-in-empty
returns-in-empty c = nothing_named c.args.name.now c.in-empty.len_below

pub returns-in-len1-up : goal.returns-in-len1-up
returns-in-len1-up c = seen_with c.find_form.result c.args.name.now c.forms_with.result.now c.in-len1-up.len_at_least c.find_form.ensures c.forms_with.ensures
