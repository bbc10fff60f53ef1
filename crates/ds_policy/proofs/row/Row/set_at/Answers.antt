use Rattle.std.proofs.Common.{sym}
use Rattle.ds_policy.proofs.Entries.{placed, entry, refill_set}
use Rattle.ds_policy.proofs.row.Row.set_at.Goals as goal

pub returns : goal.returns
returns c =
    let at = placed c.self.inside.entries.items c.args.address c.args.place c.args.grant (entry c.args.address c.args.grant) (rw (← c.self.view_is) at c.requires) in
    rw (c.deref_mut.ensures.value, refill_set c.self.inside.entries.items c.args.place (entry c.args.address c.args.grant), ← c.self.view_is) (sym at.1)
