use Rattle.std.proofs.Common.{◌∙◌, get_or, sym, subst, refl}
use Rattle.std.specs.Int.RustNames.{bit_or}
use Rattle.std.proofs.lemmas.List.Quantifiers.{position-Some}
use Rattle.ds_grants.specs.declared.origins.Origin.{Origin}
use Rattle.ds_grants.specs.Inner.Origins.{OriginsState, Has, receivers_of}
use Rattle.ds_policy.proofs.Entries.{refill_set}
use Rattle.ds_grants.proofs.Known.{is_at, in_either, in_other, set_at, kept_set}
use Rattle.ds_grants.proofs.Seen.{seen_set, apart_set}
use Rattle.ds_grants.proofs.origins.Origins.add.Goals as goal

pub returns-in-Some-clause-added : goal.returns-in-Some-clause-added
returns-in-Some-clause-added c = λ q h.
    let is = rw c.as_slice.ensures.value at (sym c.find.ensures ∙ c.in-Some.is) in
    let found = position-Some (is_at c.args.addr) c.self.inside.known.items c.in-Some.i (record { address = 0; receivers = 0 }) is in
    let old : Origin = get_or c.self.inside.known.items c.in-Some.i (record { address = 0; receivers = 0 }) in
    let new : Origin = record { address = old.address; receivers = bit_or old.receivers c.args.receivers } in
    rw (
      c.deref_mut.ensures.value,
      refill_set c.self.inside.known.items c.in-Some.i new,
      set_at c.self.inside.known.items c.self.inside.overflowed c.args.addr c.in-Some.i (record { address = 0; receivers = 0 }) new found.0 found.1 found.2,
    )
    (in_other old.receivers c.args.receivers q h)

pub returns-in-Some-clause-kept : goal.returns-in-Some-clause-kept
returns-in-Some-clause-kept c = λ a q h.
    let old : Origin = get_or c.self.inside.known.items c.in-Some.i (record { address = 0; receivers = 0 }) in
    let new : Origin = record { address = old.address; receivers = bit_or old.receivers c.args.receivers } in
    let before = subst (λ (o : OriginsState). Has (receivers_of o a) q) (sym c.self.view_is) h in
    rw (c.deref_mut.ensures.value, refill_set c.self.inside.known.items c.in-Some.i new)
    (kept_set c.self.inside.known.items c.self.inside.overflowed c.in-Some.i (record { address = 0; receivers = 0 }) new refl (λ r in_it. in_either old.receivers c.args.receivers r in_it) a q before)

pub find-requires-clause-seen : goal.find-requires-clause-seen
find-requires-clause-seen c = rw c.as_slice.ensures.value c.self.invariant.0

pub find-requires-clause-apart : goal.find-requires-clause-apart
find-requires-clause-apart c = rw c.as_slice.ensures.value c.self.invariant.1

pub invariant_of-self : goal.invariant_of-self
invariant_of-self c =
    let is = rw c.as_slice.ensures.value at (sym c.find.ensures ∙ c.in-Some.is) in
    let found = position-Some (is_at c.args.addr) c.self.inside.known.items c.in-Some.i (record { address = 0; receivers = 0 }) is in
    let old : Origin = get_or c.self.inside.known.items c.in-Some.i (record { address = 0; receivers = 0 }) in
    let new : Origin = record { address = old.address; receivers = bit_or old.receivers c.args.receivers } in
    rw (c.deref_mut.ensures.value, refill_set c.self.inside.known.items c.in-Some.i new) (
      seen_set c.self.inside.places c.self.inside.known.items c.in-Some.i (record { address = 0; receivers = 0 }) new found.0 refl c.self.invariant.0,
      apart_set c.self.inside.known.items c.in-Some.i (record { address = 0; receivers = 0 }) new refl c.self.invariant.1,
    )
