use Rattle.std.proofs.Common.{refl}
use Rattle.ds_grants.proofs.HolderCounts.{release_all_asks, release_all_step, release_all_end}
use Rattle.ds_grants.proofs.holders.release_all.Goals as goal

pub loop-entry-init : goal.loop-entry-init
loop-entry-init c = λ q. refl

pub release-requires : goal.release-requires
release-requires c = release_all_asks c.args.holders.now c.loop-entry.holders c.args.entries.now c.loop-entry.entry-index _ c.loop-entry-test.true c.requires c.loop-entry.invariant

pub loop-entry-preserved : goal.loop-entry-preserved
loop-entry-preserved c = release_all_step c.args.holders.now c.loop-entry.holders c.release.new.holders c.args.entries.now c.loop-entry.entry-index _ c.loop-entry-test.true c.loop-entry.invariant c.release.ensures

pub returns-clause-fewer : goal.returns-clause-fewer
returns-clause-fewer c = release_all_end c.args.holders.now c.loop-entry.holders c.args.entries.now c.loop-entry.entry-index c.loop-entry-test.false c.loop-entry.invariant
