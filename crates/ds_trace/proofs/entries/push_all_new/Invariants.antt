use Rattle.std.proofs.Common.{◌≡◌, ◌++◌, drop}
use Rattle.std.specs.String.{string_bytes}
use Rattle.ds_trace.specs.Entries.{new_text}
use Rattle.ds_trace.proofs.entries.push_all_new.Given as goal

-- what is written, and what the entries that are left will add, is what all say
abbrev pub invariant-loop-entry : goal.invariant-loop-entry
invariant-loop-entry l =
    string_bytes l.line ++ new_text l.time l.process l.before (drop l.entry-index l.after)
    ≡ string_bytes l.fn.line ++ new_text l.time l.process l.before l.after
