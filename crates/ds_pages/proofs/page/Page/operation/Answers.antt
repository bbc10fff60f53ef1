use Rattle.std.proofs.Common.{arith, ◌∙◌, sym, ap, subst}
use Rattle.ds_isa.specs.Instruction.{instruction_of}
use Rattle.ds_pages.specs.Inner.Places.{Fields, fields_at}
use Rattle.ds_pages.specs.Inner.Page.{KnownPageState, IsPage, Means, word_at}
use Rattle.ds_pages.proofs.Known.{kind_at_place, with_own_kind}
use Rattle.ds_pages.proofs.page.Page.operation.Goals as goal

pub returns-clause-fields : goal.returns-clause-fields
returns-clause-fields c =
    let page : IsPage c.args.self.now = subst (λ (s : KnownPageState). IsPage s) c.self.view_is c.self.invariant in
    c.operation.ensures ∙ (ap (λ (s : KnownPageState). record (fields_at s.places c.args.i) { kind = c.args.kind }) c.self.view_is
    ∙ with_own_kind (fields_at c.args.self.now.places c.args.i) c.args.kind
    (kind_at_place c.args.self.now.places c.args.i c.args.kind (page.fits c.args.i (omega arith)) c.requires.done c.requires.some))

pub returns-clause-means : goal.returns-clause-means
returns-clause-means c =
    let page : IsPage c.args.self.now = subst (λ (s : KnownPageState). IsPage s) c.self.view_is c.self.invariant in
    subst (λ (f : Fields). Means f (instruction_of (word_at c.args.self.now c.args.i))) (sym (returns-clause-fields c)) (page.means c.args.i c.requires.inside)
