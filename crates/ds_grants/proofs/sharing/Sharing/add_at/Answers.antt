use Rattle.std.proofs.Common.{rules, ◌≤◌, List, length, subst}
use Rattle.ds_grants.specs.Inner.Origins.{OriginsState, Has, receivers_at}
use Rattle.ds_grants.proofs.Receivers.{outside}
use Rattle.ds_grants.proofs.sharing.Sharing.add_at.Goals as goal

pub returns-else-place-len-clause-added : goal.returns-else-place-len-clause-added
returns-else-place-len-clause-added c = λ q h.
    let past : length c.self.inside.origins.items ≤ c.args.process = search rules in
    subst (λ (origins : List OriginsState). Has (receivers_at origins c.args.process c.args.addr) q) c.self.view_is
    (outside c.self.inside.origins.items c.args.process c.args.addr c.args.receivers q past c.ranges.receivers.fits h)
