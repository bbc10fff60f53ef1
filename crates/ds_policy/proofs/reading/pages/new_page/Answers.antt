use Rattle.std.proofs.Common.{◌≡◌, ◌∙◌, sym, ap, is_some, Ok}
use Rattle.std.specs.Result.{result_map_both}
use Rattle.toml.specs.View.{view}
use Rattle.ds_policy.specs.Inner.Names.{held_number}
use Rattle.ds_policy.specs.PolicyParts.{page_of}
use Rattle.ds_policy.proofs.NamedPages.{page_taken, page_free}
use Rattle.ds_policy.proofs.reading.pages.new_page.Goals as goal

pub returns-then-is_some-clause-page : goal.returns-then-is_some-clause-page
returns-then-is_some-clause-page c = λ before held.
    let page : page_of (view c.args.value.now) ≡ Ok c.in_ok-found.found.1 = sym c.page_of.ensures.page ∙ ap (result_map_both (λ p. p.1) (λ e. e)) c.in_ok-found.was in
    let name : c.in_ok-found.found.0.now ≡ c.in_ok-found.found.1.name = rw c.in_ok-found.was at c.page_of.ensures.name in
    let taken = ap (λ n. is_some (held_number c.args.names.now n)) (sym name) ∙ (ap is_some (sym c.number_named.ensures) ∙ (sym c.is_some.ensures ∙ c.if-is_some.true)) in
    sym (page_taken c.args.names.now before (view c.args.value.now) c.in_ok-found.found.1 held page taken)

pub returns-clause-page : goal.returns-clause-page
returns-clause-page c = λ before held.
    let page : page_of (view c.args.value.now) ≡ Ok c.in_ok-found.found.1 = sym c.page_of.ensures.page ∙ ap (result_map_both (λ p. p.1) (λ e. e)) c.in_ok-found.was in
    let name : c.in_ok-found.found.0.now ≡ c.in_ok-found.found.1.name = rw c.in_ok-found.was at c.page_of.ensures.name in
    let free = ap (λ n. is_some (held_number c.args.names.now n)) (sym name) ∙ (ap is_some (sym c.number_named.ensures) ∙ (sym c.is_some.ensures ∙ c.if-is_some.false)) in
    sym (page_free c.args.names.now before (view c.args.value.now) c.in_ok-found.found.1 held page free)
