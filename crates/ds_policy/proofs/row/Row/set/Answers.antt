use Rattle.std.proofs.Common.{◌∙◌, sym, refl, IsNone}
use Rattle.ds_policy.specs.Pages.{found}
use Rattle.ds_policy.proofs.Entries.{unplaced}
use Rattle.ds_policy.proofs.row.Row.set.Goals as goal

pub append-requires-clause-new : goal.append-requires-clause-new
append-requires-clause-new c =
    let none = unplaced c.self.inside.entries.items c.args.address c.args.grant (rw c.as_slice.ensures.value at (sym c.place.ensures ∙ c.in-None.is)) in
    rw (← c.self.view_is, none.0) refl

pub append-requires-clause-room : goal.append-requires-clause-room
append-requires-clause-room c =
    let none = unplaced c.self.inside.entries.items c.args.address c.args.grant (rw c.as_slice.ensures.value at (sym c.place.ensures ∙ c.in-None.is)) in
    c.requires (let absent : IsNone (found c.args.self.now c.args.address) = rw (← c.self.view_is, none.0) refl in absent)
