use Rattle.std.proofs.Common.{◌≡◌, length, arith}
use Rattle.ds_grants.proofs.HeldByAll.{named_within}
use Rattle.ds_grants.proofs.holders.hold_all.Goals as goal

pub hold-requires-clause-within : goal.hold-requires-clause-within
hold-requires-clause-within c =
    let size : length c.loop-entry.holders ≡ length c.args.holders.now = c.loop-entry.invariant.size in
    named_within c.args.entries.now c.loop-entry.entry-index (length c.loop-entry.holders) _ (omega arith) (λ page past. c.requires.within page (omega arith))
