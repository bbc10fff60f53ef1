use Rattle.std.proofs.Common.{◌≡◌, ℕ, true, ◌∙◌, sym, subst}
use Rattle.std.specs.Prelude.{slice_index}
use Rattle.ds_pages.specs.Inner.Places.{fields_at}
use Rattle.ds_pages.specs.Inner.Page.{KnownPageState, knows}
use Rattle.ds_pages.proofs.Pages.{page_put, decoded_means, fields_kept}
use Rattle.ds_pages.proofs.page.Page.know.Goals as goal

pub invariant_of-self : goal.invariant_of-self
invariant_of-self c = page_put c.self.inside.words c.self.inside.places c.put.new.self c.args.i c.requires c.self.invariant
    c.put.ensures.fits c.put.ensures.fields c.put.ensures.others
    (decoded_means c.of-operation.result c.decode.result (slice_index c.self.inside.words c.args.i) (fields_at c.put.new.self c.args.i)
    c.of-operation.ensures c.decode.ensures.value (c.put.ensures.put ∙ c.of.ensures.fields))
    (λ unknown. absurd (cc (c.put.ensures.known, c.of.ensures.known, unknown)))

pub returns-then-not-is_known-clause-fields : goal.returns-then-not-is_known-clause-fields
returns-then-not-is_known-clause-fields c =
    subst (λ (s : KnownPageState). (k : ℕ) → knows s k ≡ true → fields_at c.put.new.self k ≡ fields_at s.places k) c.self.view_is
    (fields_kept c.self.inside.places c.put.new.self c.args.i (sym c.is_known.ensures ∙ c.if-not-is_known.true) c.put.ensures.fields)
