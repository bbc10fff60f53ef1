use Rattle.std.proofs.Common.{◌∙◌, ap}
use Rattle.ds_policy.specs.Pages.{Table, entries_of}
use Rattle.ds_policy.specs.Inner.Ends.{first_expired}
use Rattle.ds_grants.proofs.Sizes.{good_row}
use Rattle.ds_grants.proofs.Expired.{expired_no_page, expired_there}
use Rattle.ds_grants.proofs.grants.Grants.first_expired.Goals as goal

pub returns-clause-value : goal.returns-clause-value
returns-clause-value c = c.first_expired.ensures ∙ ap (λ (t : Table). first_expired c.args.now (entries_of t c.args.holder)) c.table.ensures.value

pub returns-clause-row : goal.returns-clause-row
returns-clause-row c = good_row c.args.self.now.table c.args.holder c.requires.low c.requires.high c.table.ensures.sound.rows

pub returns-clause-page : goal.returns-clause-page
returns-clause-page c =
    expired_no_page c.args.self.now.table c.args.now c.args.holder c.first_expired.result
    (good_row c.args.self.now.table c.args.holder c.requires.low c.requires.high c.table.ensures.sound.rows)
    (c.first_expired.ensures ∙ ap (λ (t : Table). first_expired c.args.now (entries_of t c.args.holder)) c.table.ensures.value)

pub returns-clause-there : goal.returns-clause-there
returns-clause-there c =
    expired_there c.args.self.now.table c.args.now c.args.holder c.first_expired.result
    (c.first_expired.ensures ∙ ap (λ (t : Table). first_expired c.args.now (entries_of t c.args.holder)) c.table.ensures.value)
