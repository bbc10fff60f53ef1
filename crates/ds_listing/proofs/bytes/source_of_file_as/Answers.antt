use Rattle.std.proofs.Common.{◌≡◌, ◌∙◌, ap, rules}
use Rattle.std.specs.String.{string_bytes}
use Rattle.ds_asm.specs.Assembly.{assembled}
use Rattle.ds_listing.specs.NamedTexts.{file_as}
use Rattle.ds_listing.specs.declared.names.RegisterNames.{RegisterNames}
use Rattle.ds_listing.proofs.ByteSources.{file_read}
use Rattle.ds_listing.proofs.NamedTexts.{plain_file}
use Rattle.ds_listing.proofs.bytes.source_of_file_as.Goals as goal

pub returns-clause-back : goal.returns-clause-back
returns-clause-back c by_number few =
    let text : string_bytes c.push_source.new.text ≡ file_as c.args.names c.args.bytes.now = search rules in
    ap assembled (text ∙ (ap (λ (names : RegisterNames). file_as names c.args.bytes.now) by_number ∙ plain_file c.args.bytes.now)) ∙ file_read c.args.bytes.now c.in_ok-push_source.ensures.said few
