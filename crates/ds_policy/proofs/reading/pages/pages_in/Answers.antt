use Rattle.std.proofs.Common.{◌≡◌, ◌∙◌, sym, ap, arith, is_some, None, length, vec_len}
use Rattle.ds_policy.specs.declared.cause.PolicyReason.TheVariants as reason
use Rattle.std.specs.Result.{result_map_both}
use Rattle.ds_policy.specs.PolicyParts.{new_page}
use Rattle.ds_policy.specs.Inner.Names.{held_number}
use Rattle.ds_policy.proofs.NamedPages.{names_new}
use Rattle.ds_policy.proofs.Steps.{each_more, each_refused, each_end}
use Rattle.ds_policy.proofs.reading.pages.pages_in.Goals as goal

pub returns-in-Err-clause-exact : goal.returns-in-Err-clause-exact
returns-in-Err-clause-exact c =
    let same_len : vec_len c.loop-value.pages ≡ length c.loop-value.pages.items = omega (arith, c.loop-value.pages.ok.0) in
    rw (c.len-number.ensures, same_len) (sym c.loop-value.invariant.same
    ∙ each_refused new_page (λ n cause. reason.Page n cause) c.loop-value.pages.items c.args.values.now c.loop-value.value-index c.value-item.result c.in-Err.cause (omega arith) c.value-item.is (sym (c.new_page.ensures.page c.loop-value.pages.items c.loop-value.invariant.held) ∙ ap (result_map_both (λ p. p.1) (λ e. e)) c.in-Err.is))

pub loop-value-preserved : goal.loop-value-preserved
loop-value-preserved c =
    let step = each_more new_page (λ n cause. reason.Page n cause) c.loop-value.pages.items c.args.values.now c.loop-value.value-index c.value-item.result c.in-Ok.page (omega arith) c.value-item.is (sym (c.new_page.ensures.page c.loop-value.pages.items c.loop-value.invariant.held) ∙ ap (result_map_both (λ p. p.1) (λ e. e)) c.in-Ok.is) in
    let name : c.in-Ok.name.now ≡ c.in-Ok.page.name = rw c.in-Ok.is at c.new_page.ensures.name in
    let absent : held_number c.loop-value.names c.in-Ok.name.now ≡ None = rw c.in-Ok.is at c.new_page.ensures.absent in
    let number : c.len-number.result ≡ length c.loop-value.pages.items = c.len-number.ensures ∙ omega (arith, c.loop-value.pages.ok.0) in
    record {
      same = rw c.in_ok-push-in-Ok.ensures.items (sym step ∙ c.loop-value.invariant.same);
      counted = omega (arith, c.in_ok-push-in-Ok.ensures.len);
      held = rw c.in_ok-push-in-Ok.ensures.items (names_new c.loop-value.names c.insert.new.self c.loop-value.pages.items c.in-Ok.page c.in-Ok.name.now c.len-number.result name number c.loop-value.invariant.held (ap is_some absent) c.in_ok-insert-in-Ok.ensures);
    }

pub returns-clause-exact : goal.returns-clause-exact
returns-clause-exact c =
    sym c.loop-value.invariant.same
    ∙ each_end new_page (λ n cause. reason.Page n cause) c.loop-value.pages.items c.args.values.now c.loop-value.value-index (omega arith)
