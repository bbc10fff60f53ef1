use Rattle.std.proofs.Common.{◌∙◌, ◌+◌, ap, refl, sym, drop}
use Rattle.ds_tables.specs.Places.{Places}
use Rattle.ds_tables.specs.Inner.Places.{closed}
use Rattle.ds_grants.specs.Inner.Changes.{all_closed}
use Rattle.ds_grants.proofs.Endings.{close_step, close_end}
use Rattle.ds_grants.proofs.page_tables.close_all.Goals as goal

pub loop-entry-init : goal.loop-entry-init
loop-entry-init c = refl

pub loop-entry-preserved : goal.loop-entry-preserved
loop-entry-preserved c =
    ap (λ (t : Places). all_closed t c.args.process (drop (c.loop-entry.entry-index + 1) c.args.entries.now)) (c.close.ensures.value ∙ ap (closed c.loop-entry.tables c.args.process) c.region_of.ensures)
    ∙ sym (close_step c.loop-entry.tables c.args.process c.args.entries.now c.loop-entry.entry-index _ c.loop-entry-test.true)
    ∙ c.loop-entry.invariant

pub returns : goal.returns
returns c =
    sym (close_end c.loop-entry.tables c.args.process c.args.entries.now c.loop-entry.entry-index c.loop-entry-test.false)
    ∙ c.loop-entry.invariant
