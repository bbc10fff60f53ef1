use Rattle.std.proofs.Common.{◌≡◌, ◌∙◌, ℕ, get_or, position, Some, sym, ap, subst, arith}
use Rattle.std.proofs.lemmas.List.Quantifiers.{position-Some}
use Rattle.ds_grants.specs.declared.origins.Origin.{Origin}
use Rattle.ds_grants.specs.Inner.Origins.{OriginsState, Has, receivers_of}
use Rattle.ds_grants.proofs.FifthRegion.{same_number}
use Rattle.ds_grants.proofs.Known.{is_at, known_at}
use Rattle.ds_grants.proofs.Seen.{seen_moved}
use Rattle.ds_grants.proofs.Swapped.{others_left, apart_left, seen_left}
use Rattle.ds_grants.proofs.origins.Origins.remove_at.Goals as goal

pub returns-clause-receivers : goal.returns-clause-receivers
returns-clause-receivers c =
    let is = subst (λ (o : OriginsState). position (is_at c.args.addr) o.known ≡ Some c.args.place) (sym c.self.view_is) c.requires in
    let found = position-Some (is_at c.args.addr) c.self.inside.known.items c.args.place c.swap_remove.result is in
    ap (λ (o : Origin). o.receivers) c.swap_remove.ensures.value
    ∙ sym (known_at c.self.inside.known.items c.self.inside.overflowed c.args.addr c.args.place c.swap_remove.result found.0 found.1 found.2)
    ∙ ap (λ (o : OriginsState). receivers_of o c.args.addr) c.self.view_is

pub returns-clause-others : goal.returns-clause-others
returns-clause-others c = λ a q other h.
    let is = subst (λ (o : OriginsState). position (is_at c.args.addr) o.known ≡ Some c.args.place) (sym c.self.view_is) c.requires in
    let found = position-Some (is_at c.args.addr) c.self.inside.known.items c.args.place c.swap_remove.result is in
    let before = subst (λ (o : OriginsState). Has (receivers_of o a) q) (sym c.self.view_is) h in
    rw c.swap_remove.ensures.items
    (subst (λ (set : ℕ). Has set q)
    (sym (others_left c.self.inside.known.items c.args.place c.swap_remove.result found.0 c.self.inside.overflowed c.args.addr a c.self.invariant.1 (same_number (get_or c.self.inside.known.items c.args.place c.swap_remove.result).address c.args.addr found.1) other)) before)

pub invariant_of-self : goal.invariant_of-self
invariant_of-self c =
    let is = subst (λ (o : OriginsState). position (is_at c.args.addr) o.known ≡ Some c.args.place) (sym c.self.view_is) c.requires in
    let found = position-Some (is_at c.args.addr) c.self.inside.known.items c.args.place c.swap_remove.result is in
    rw c.swap_remove.ensures.items (
      seen_left c.self.inside.known.items c.args.place c.swap_remove.result found.0 _ (seen_moved c.self.inside.places c.self.inside.known.items _ _ (omega arith) c.self.invariant.0),
      apart_left c.self.inside.known.items c.args.place c.swap_remove.result found.0 c.self.invariant.1,
    )
