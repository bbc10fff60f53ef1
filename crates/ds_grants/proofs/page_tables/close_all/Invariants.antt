use Rattle.std.proofs.Common.{◌≡◌, drop}
use Rattle.ds_grants.specs.Inner.Changes.{all_closed}
use Rattle.ds_grants.proofs.page_tables.close_all.Given as goal

abbrev pub invariant-loop-entry : goal.invariant-loop-entry
invariant-loop-entry l = all_closed l.tables l.process (drop l.entry-index l.entries) ≡ all_closed l.fn.tables l.process l.entries
