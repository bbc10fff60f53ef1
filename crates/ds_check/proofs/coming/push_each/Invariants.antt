use Rattle.std.proofs.Common.{◌≡◌, ◌++◌, take}
use Rattle.std.specs.List.{flat_map}
use Rattle.ds_check.specs.Coming.{due_text}
use Rattle.ds_check.proofs.coming.push_each.Given as goal

abbrev pub invariant-loop-one : goal.invariant-loop-one
invariant-loop-one l = l.sheet.items ≡ l.fn.sheet.items ++ flat_map (due_text l.pages) (take l.one-index l.due)
