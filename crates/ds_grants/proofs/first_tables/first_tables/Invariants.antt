use Rattle.std.proofs.Common.{◌≡◌, ◌⊎◌, ◌<◌, ◌≤◌, ℕ, replicate, [], take}
use Rattle.ds_mem.specs.Memory.{frame_of}
use Rattle.ds_policy.specs.FirstTable.{with_rules}
use Rattle.ds_tables.specs.Tables.{HasEmptyTable}
use Rattle.ds_grants.specs.Represented.{TablesHaveWords}
use Rattle.ds_grants.proofs.RuleWords.{over}
use Rattle.ds_grants.proofs.first_tables.first_tables.Given as goal

abbrev pub invariant-loop-rule : goal.invariant-loop-rule
invariant-loop-rule l = record {
  words : HasEmptyTable l.fn.memory → TablesHaveWords l.memory l.tables (over (with_rules (replicate l.processes []) 1 (take l.rule-index l.rules)));
  elsewhere : (f : ℕ) → (f < 2) ⊎ (402 ≤ f) → frame_of l.memory f ≡ frame_of l.fn.memory f;
}
