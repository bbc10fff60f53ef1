use Rattle.std.proofs.Common.{rules, ◌≡◌, ◌<◌, ◌∙◌, List, length, get_or, sym, ap, subst}
use Rattle.std.specs.Prelude.{slice_set}
use Rattle.ds_policy.proofs.Rows.{other_default}
use Rattle.ds_grants.specs.Inner.Origins.{OriginsState, Has, receivers_of, receivers_at, unknown, KeepsOthers}
use Rattle.ds_grants.proofs.Receivers.{set_keeps_others}
use Rattle.ds_grants.proofs.sharing.Sharing.take.Goals as goal

pub returns-then-place-len-clause-receivers : goal.returns-then-place-len-clause-receivers
returns-then-place-len-clause-receivers c =
    let within : c.args.process < length c.self.inside.origins.items = search rules in
    let now : get_or c.self.inside.origins.items c.args.process unknown ≡ c.index_mut.result.now =
    other_default c.self.inside.origins.items c.args.process unknown c.index_mut.result.now within ∙ sym c.index_mut.ensures.value in
    c.take.ensures.receivers ∙ ap (λ (o : OriginsState). receivers_of o c.args.addr) (sym now)
    ∙ ap (λ (origins : List OriginsState). receivers_at origins c.args.process c.args.addr) c.self.view_is

pub returns-then-place-len-clause-others : goal.returns-then-place-len-clause-others
returns-then-place-len-clause-others c =
    let within : c.args.process < length c.self.inside.origins.items = search rules in
    let now : get_or c.self.inside.origins.items c.args.process unknown ≡ c.index_mut.result.now =
    other_default c.self.inside.origins.items c.args.process unknown c.index_mut.result.now within ∙ sym c.index_mut.ensures.value in
    subst (λ (origins : List OriginsState). KeepsOthers c.args.process c.args.addr origins (slice_set c.self.inside.origins.items c.args.process c.take.new.self)) c.self.view_is
    (set_keeps_others c.self.inside.origins.items c.args.process c.args.addr c.take.new.self (λ a q other h.
    c.take.ensures.others a q other (subst (λ (o : OriginsState). Has (receivers_of o a) q) now h)))
