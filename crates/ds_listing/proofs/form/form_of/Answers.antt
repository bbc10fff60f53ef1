use Rattle.std.proofs.Common.{◌∙◌, ap}
use Rattle.ds_isa.specs.Inner.Encoding.{entry}
use Rattle.ds_listing.specs.Inner.Texts.{form_in}
use Rattle.ds_listing.proofs.Forms.{form_of_entry}
use Rattle.ds_listing.proofs.form.form_of.Goals as goal

pub returns : goal.returns
returns c = c.form_of_instruction.ensures ∙ (ap (λ i. form_in (entry i)) c.decode.ensures.value ∙ form_of_entry c.args.word)
