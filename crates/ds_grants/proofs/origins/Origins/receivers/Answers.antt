use Rattle.std.proofs.Common.{◌∙◌, sym, ap}
use Rattle.std.proofs.lemmas.List.Quantifiers.{position-Some}
use Rattle.ds_grants.specs.Inner.Origins.{OriginsState, receivers_of}
use Rattle.ds_grants.proofs.Known.{is_at, known_at, unknown_at}
use Rattle.ds_grants.proofs.origins.Origins.receivers.Goals as goal

pub returns-in-Some : goal.returns-in-Some
returns-in-Some c =
    let is = rw c.as_slice.ensures.value at (sym c.find.ensures ∙ c.in-Some.is) in
    let found = position-Some (is_at c.args.addr) c.self.inside.known.items c.in-Some.i (record { address = 0; receivers = 0 }) is in
    rw c.deref.ensures.0
    (sym (known_at c.self.inside.known.items c.self.inside.overflowed c.args.addr c.in-Some.i (record { address = 0; receivers = 0 }) found.0 found.1 found.2)
    ∙ ap (λ (o : OriginsState). receivers_of o c.args.addr) c.self.view_is)

pub returns-in-None : goal.returns-in-None
returns-in-None c =
    let is = rw c.as_slice.ensures.value at (sym c.find.ensures ∙ c.in-None.is) in
    c.of_others.ensures
    ∙ sym (unknown_at c.self.inside.known.items c.self.inside.overflowed c.args.addr is)
    ∙ ap (λ (o : OriginsState). receivers_of o c.args.addr) c.self.view_is

pub find-requires-clause-seen : goal.find-requires-clause-seen
find-requires-clause-seen c = rw c.as_slice.ensures.value c.self.invariant.0

pub find-requires-clause-apart : goal.find-requires-clause-apart
find-requires-clause-apart c = rw c.as_slice.ensures.value c.self.invariant.1
