use Rattle.std.proofs.Common.{◌≡◌, ◌+◌, ◌++◌, drop}
use Rattle.ds_check.specs.Permissions.{processes_text}
use Rattle.ds_check.proofs.permissions.push_table.Given as goal

-- what is written, and what the processes that are left will add, is what all say
abbrev pub invariant-loop-index : goal.invariant-loop-index
invariant-loop-index l = l.sheet.items ++ processes_text l.pages (l.index + 1) (drop l.index l.table) ≡ l.fn.sheet.items ++ processes_text l.pages 1 l.table
