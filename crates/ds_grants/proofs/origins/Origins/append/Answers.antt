use Rattle.std.proofs.Common.{arith, ◌≡◌, true, None, position, sym, subst}
use Rattle.ds_grants.specs.Inner.Origins.{OriginsState, Has, receivers_of}
use Rattle.ds_grants.proofs.Known.{is_at, in_everyone, unknown_at, appended_at, kept_appended, kept_overflowed}
use Rattle.ds_grants.proofs.Seen.{seen_more, apart_more}
use Rattle.ds_grants.proofs.origins.Origins.append.Goals as goal

pub returns-then-self-clause-added : goal.returns-then-self-clause-added
returns-then-self-clause-added c = λ q h.
    let unknown = subst (λ (o : OriginsState). position (is_at c.args.addr) o.known ≡ None) (sym c.self.view_is) c.requires.unknown in
    subst (λ (o : OriginsState). Has (receivers_of o c.args.addr) q) c.self.view_is
    (rw (c.if-self.true, unknown_at c.self.inside.known.items true c.args.addr unknown) (in_everyone c.args.receivers q c.ranges.receivers.fits h))

pub returns-then-is_full-clause-added : goal.returns-then-is_full-clause-added
returns-then-is_full-clause-added c = λ q h.
    let unknown = subst (λ (o : OriginsState). position (is_at c.args.addr) o.known ≡ None) (sym c.self.view_is) c.requires.unknown in
    rw (unknown_at c.self.inside.known.items true c.args.addr unknown) (in_everyone c.args.receivers q c.ranges.receivers.fits h)

pub returns-then-is_full-clause-kept : goal.returns-then-is_full-clause-kept
returns-then-is_full-clause-kept c = λ a q h.
    let before = subst (λ (o : OriginsState). Has (receivers_of o a) q) (sym c.self.view_is) h in
    kept_overflowed c.self.inside.known.items a q (rw c.if-self.false at before)

pub returns-else-is_full-clause-added : goal.returns-else-is_full-clause-added
returns-else-is_full-clause-added c = λ q h.
    let unknown = subst (λ (o : OriginsState). position (is_at c.args.addr) o.known ≡ None) (sym c.self.view_is) c.requires.unknown in
    rw (c.push.ensures.items, c.if-self.false, appended_at c.self.inside.known.items c.args.addr c.args.receivers unknown) h

pub returns-else-is_full-clause-kept : goal.returns-else-is_full-clause-kept
returns-else-is_full-clause-kept c = λ a q h.
    let before = subst (λ (o : OriginsState). Has (receivers_of o a) q) (sym c.self.view_is) h in
    rw (c.push.ensures.items, c.if-self.false)
    (kept_appended c.self.inside.known.items (record { address = c.args.addr; receivers = c.args.receivers }) a q (rw c.if-self.false at before))

pub invariant_of-self-else-is_full : goal.invariant_of-self-else-is_full
invariant_of-self-else-is_full c =
    let unknown = subst (λ (o : OriginsState). position (is_at c.args.addr) o.known ≡ None) (sym c.self.view_is) c.requires.unknown in
    rw (c.push.ensures.items, c.slot_of.ensures.value) (
      seen_more c.self.inside.places c.self.inside.known.items (record { address = c.args.addr; receivers = c.args.receivers }) _ (omega arith) c.self.invariant.0,
      apart_more c.self.inside.known.items (record { address = c.args.addr; receivers = c.args.receivers }) unknown c.self.invariant.1,
    )
