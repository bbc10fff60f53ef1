use Rattle.std.proofs.Common.{◌≡◌, ◌++◌, take}
use Rattle.std.specs.List.{flat_map}
use Rattle.std.specs.String.{string_bytes}
use Rattle.ds_bare.specs.Looks.{span_text}
use Rattle.ds_bare.proofs.looks.push_spans.Given as goal

-- the spans so far are written
abbrev pub invariant-loop-span : goal.invariant-loop-span
invariant-loop-span l = string_bytes l.text ≡ string_bytes l.fn.text ++ flat_map (span_text l.bus) (take l.span-index l.spans)
