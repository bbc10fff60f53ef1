use Rattle.std.proofs.Common.{◌≡◌, ◌++◌, take}
use Rattle.std.specs.Prelude.{flat_map}
use Rattle.ds_bare_debug.specs.Looks.{byte_of_line}
use Rattle.ds_bare_debug.proofs.reports.push_line.Given as goal

-- what is written so far
abbrev pub invariant-loop-character : goal.invariant-loop-character
invariant-loop-character l = l.text.items ≡ l.fn.text.items ++ flat_map (byte_of_line l.line) (take l.character-index l.sent)
