use Rattle.std.proofs.Common.{◌≡◌, ◌∙◌, sym, ap, subst, false, List, Bool, ℕ, length, arith, slice_index}
use Rattle.std.specs.List.{All}
use Rattle.std.proofs.lemmas.List.{length-replicate}
use Rattle.ds_policy.specs.Pages.{Table}
use Rattle.ds_policy.proofs.Filling.{whole}
use Rattle.ds_grants.specs.Inner.Counts.{holders_of}
use Rattle.ds_grants.specs.Inner.Sound.{IsGoodRow}
use Rattle.ds_grants.proofs.FirstGrants.{first_good, none_of}
use Rattle.ds_grants.proofs.Laying.{laid_first}
use Rattle.ds_grants.proofs.grants.Grants.first.Goals as goal

pub hold_table-requires-clause-within : goal.hold_table-requires-clause-within
hold_table-requires-clause-within c = λ page past.
    let size : length c.deref_mut.result.now ≡ c.args.policy.now.frames = ap (λ (xs : List ℕ). length xs) (c.deref_mut.ensures.value ∙ c.in_ok-holders.ensures) ∙ length-replicate c.frames.result 0 ∙ c.frames.ensures.all in
    let few = c.pages.ensures.few in
    rw (c.as_table.ensures.value, c.in-Ok.ensures.exact) (none_of c.args.policy.now page c.rules.ensures.good (omega arith))

pub hold_table-requires-clause-rows : goal.hold_table-requires-clause-rows
hold_table-requires-clause-rows c = subst (All IsGoodRow) (sym (c.as_table.ensures.value ∙ c.in-Ok.ensures.exact)) (first_good c.args.policy.now c.rules.ensures.good c.rules.ensures.few)

pub hold_table-requires-clause-processes : goal.hold_table-requires-clause-processes
hold_table-requires-clause-processes c = rw c.as_table.ensures.value (omega (arith, c.in-Ok.ensures.processes, c.processes.ensures.few))

pub invariant_of-result : goal.invariant_of-result
invariant_of-result c =
    let same : length c.hold_table.new.holders ≡ length c.in_ok-holders.holders.items = c.hold_table.ensures.size ∙ ap (λ (xs : List ℕ). length xs) c.deref_mut.ensures.value in
    let counts : c.of.result ≡ c.hold_table.new.holders = c.of.ensures ∙ whole c.in_ok-holders.holders.len c.hold_table.new.holders c.in_ok-holders.holders.items (omega (arith, c.in_ok-holders.holders.ok.0, same)) same in
    let size : length c.of.result ≡ c.args.policy.now.frames = ap (λ (xs : List ℕ). length xs) counts ∙ same ∙ ap (λ (xs : List ℕ). length xs) c.in_ok-holders.ensures ∙ length-replicate c.frames.result 0 ∙ c.frames.ensures.all in
    let named : length c.pages.result.now ≡ length c.args.policy.now.pages = ap length c.pages.ensures.all in
    let ended : length c.none_ended-ended.result.items ≡ length c.processes.result.now = ap (λ (xs : List Bool). length xs) c.none_ended-ended.ensures ∙ length-replicate (length c.processes.result.now) false in
    let processes : length c.processes.result.now ≡ length c.args.policy.now.processes = ap length c.processes.ensures.all in (
      λ page. ap (λ (xs : List ℕ). slice_index xs page) counts ∙ c.hold_table.ensures.all page ∙ ap (λ (t : Table). holders_of t page) c.as_table.ensures.value,
      record {
        rows = subst (All IsGoodRow) (sym c.in-Ok.ensures.exact) (first_good c.args.policy.now c.rules.ensures.good c.rules.ensures.few);
        processes = omega (arith, c.in-Ok.ensures.processes, c.processes.ensures.few);
        ended = omega (arith, ended, processes, c.in-Ok.ensures.processes);
        named = omega (arith, named, size, c.pages.ensures.few);
        frames = omega (arith, size, c.frames.ensures.high);
      },
      rw (c.in_ok-layout.ensures, size, c.frames-2.ensures.all) (laid_first _ _ _ _),
    )
