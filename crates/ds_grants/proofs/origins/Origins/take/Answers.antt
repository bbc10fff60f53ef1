use Rattle.std.proofs.Common.{◌≡◌, ◌∙◌, position, Some, sym, ap, subst}
use Rattle.ds_grants.specs.Inner.Origins.{OriginsState, receivers_of}
use Rattle.ds_grants.proofs.Known.{is_at, unknown_at}
use Rattle.ds_grants.proofs.origins.Origins.take.Goals as goal

pub remove_at-requires : goal.remove_at-requires
remove_at-requires c =
    let is = rw c.as_slice.ensures.value at (sym c.find.ensures ∙ c.in-Some.is) in
    subst (λ (o : OriginsState). position (is_at c.args.addr) o.known ≡ Some c.in-Some.i) c.self.view_is is

pub returns-in-None-clause-receivers : goal.returns-in-None-clause-receivers
returns-in-None-clause-receivers c =
    let is = rw c.as_slice.ensures.value at (sym c.find.ensures ∙ c.in-None.is) in
    c.of_others.ensures
    ∙ sym (unknown_at c.self.inside.known.items c.self.inside.overflowed c.args.addr is)
    ∙ ap (λ (o : OriginsState). receivers_of o c.args.addr) c.self.view_is

pub find-requires-clause-seen : goal.find-requires-clause-seen
find-requires-clause-seen c = rw c.as_slice.ensures.value c.self.invariant.0

pub find-requires-clause-apart : goal.find-requires-clause-apart
find-requires-clause-apart c = rw c.as_slice.ensures.value c.self.invariant.1
