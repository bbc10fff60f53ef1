use Rattle.std.proofs.Common.{◌≡◌, ◌++◌, ◌-◌}
use Rattle.std.specs.String.{string_bytes}
use Rattle.ds_bare.specs.Looks.{pieces_text, span_text}
use Rattle.ds_bare.proofs.looks.push_span.Given as goal

-- what is written, and what the words that are left will add, is what all say
abbrev pub invariant-loop-index : goal.invariant-loop-index
invariant-loop-index l =
    string_bytes l.text ++ pieces_text l.bus l.place l.span.count l.index (l.span.count - l.index) ≡ string_bytes l.fn.text ++ span_text l.bus l.span
