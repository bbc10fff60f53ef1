use Rattle.std.proofs.Common.{◌≡◌, ◌≤◌, map, take}
use Rattle.std.specs.List.{AllZip}
use Rattle.ds_words.specs.Windows.{WritesWindow, windows_in}
use Rattle.ds_words.proofs.windows.windows_of.Given as goal

abbrev pub invariant-loop-text : goal.invariant-loop-text
invariant-loop-text l = record {
  each : AllZip WritesWindow (map (λ t. t.now) (take l.text-index l.texts)) (windows_in l.windows);
  counted : l.windows.count ≡ l.text-index;
  few : l.windows.count ≤ 8;
}
