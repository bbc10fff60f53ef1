use Rattle.std.proofs.Common.{◌≡◌, ◌++◌, map, take}
use Rattle.ds_bare_debug.proofs.reports.push_characters.Given as goal

-- what is written so far
abbrev pub invariant-loop-character : goal.invariant-loop-character
invariant-loop-character l = l.text.items ≡ l.fn.text.items ++ map (λ c. c.1) (take l.character-index l.sent)
