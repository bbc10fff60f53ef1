use Rattle.std.proofs.Common.{◌≡◌, ◌++◌, map, take}
use Rattle.ds_source_reasons.specs.Texts.{visible}
use Rattle.ds_source_reasons.proofs.told.push_shown.Given as goal

abbrev pub invariant-loop-c : goal.invariant-loop-c
invariant-loop-c l = l.sheet.items ≡ l.fn.sheet.items ++ map visible (take l.c-index l.front)
