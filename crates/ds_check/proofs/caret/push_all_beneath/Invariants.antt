use Rattle.std.proofs.Common.{◌≡◌, ◌++◌, take}
use Rattle.std.specs.Prelude.{flat_map}
use Rattle.ds_check.specs.Carets.{beneath}
use Rattle.ds_check.proofs.caret.push_all_beneath.Given as goal

abbrev pub invariant-loop-c : goal.invariant-loop-c
invariant-loop-c l = l.sheet.items ≡ l.fn.sheet.items ++ flat_map beneath (take l.c-index l.front)
