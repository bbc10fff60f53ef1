use Rattle.std.proofs.Common.{◌∙◌, ◌++◌, ap, sym}
use Rattle.std.specs.String.{string_bytes}
use Rattle.std.proofs.lemmas.Result.{on_ok_weaker}
use Rattle.ds_listing.proofs.ByteSources.{few_said}
use Rattle.ds_listing.proofs.NamedTexts.{few_lines_as}
use Rattle.ds_listing.proofs.bytes.push_source.Goals as goal

pub returns-clause-text : goal.returns-clause-text
returns-clause-text c = on_ok_weaker c.push_byte_lines.result
    (λ added. added ∙ (ap (λ bs. string_bytes c.loop-left.text ++ bs) (sym (few_lines_as c.args.names c.loop-left.left.now c.in_default.len_below)) ∙ c.loop-left.invariant.text))
    c.push_byte_lines.ensures.text

pub returns-clause-said : goal.returns-clause-said
returns-clause-said c = on_ok_weaker c.push_byte_lines.result
    (λ small. c.loop-left.invariant.said (few_said c.loop-left.left.now c.in_default.len_below small))
    c.push_byte_lines.ensures.small
