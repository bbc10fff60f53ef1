use Rattle.std.proofs.Common.{◌≡◌, length, arith}
use Rattle.ds_grants.proofs.HeldByAll.{row_within, row_fits}
use Rattle.ds_grants.proofs.holders.hold_table.Goals as goal

pub hold_all-requires-clause-within : goal.hold_all-requires-clause-within
hold_all-requires-clause-within c = λ page past.
    let size : length c.loop-place.holders ≡ length c.args.holders.now = c.loop-place.invariant.size in
    row_within c.args.table.now c.loop-place.place page c.entries.result.now c.args.holders.now c.loop-place.holders (omega arith) c.entries.ensures.all c.loop-place.invariant (c.requires.within page (omega arith))

pub hold_all-requires-clause-few : goal.hold_all-requires-clause-few
hold_all-requires-clause-few c = λ page. row_fits c.args.table.now c.loop-place.place page c.entries.result.now c.args.holders.now c.loop-place.holders c.requires.processes c.requires.rows c.entries.ensures.few c.loop-place.invariant
