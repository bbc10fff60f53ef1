use Rattle.std.proofs.Common.{◌≡◌, ◌++◌, take}
use Rattle.std.specs.List.{flat_map}
use Rattle.ds_check.specs.Permissions.{entry_text}
use Rattle.ds_check.proofs.permissions.push_entries.Given as goal

abbrev pub invariant-loop-entry : goal.invariant-loop-entry
invariant-loop-entry l = l.sheet.items ≡ l.fn.sheet.items ++ flat_map (entry_text l.pages) (take l.entry-index l.entries)
