use Rattle.std.proofs.Common.{◌≡◌, subst}
use Rattle.ds_grants.specs.Inner.Origins.{OriginsState, receivers_of}
use Rattle.ds_grants.proofs.Known.{nothing_known}
use Rattle.ds_grants.proofs.origins.Origins.are_any.Goals as goal

pub returns : goal.returns
returns c = λ none a.
    subst (λ (o : OriginsState). receivers_of o a ≡ 0) c.self.view_is
    (nothing_known c.self.inside.known.items c.self.inside.overflowed c.is_empty.result a c.is_empty.ensures none c.if-self.false)
