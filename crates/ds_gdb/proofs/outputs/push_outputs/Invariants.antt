use Rattle.std.proofs.Common.{◌≡◌, ◌+◌, ◌-◌, ◌/◌, ◌++◌, length}
use Rattle.ds_gdb.specs.Each.{each}
use Rattle.ds_gdb.specs.Outputs.{output_frame, outputs_text, piece_of}
use Rattle.ds_gdb.proofs.outputs.push_outputs.Given as goal

-- what is written, and the pieces that are left
abbrev pub invariant-loop-index : goal.invariant-loop-index
invariant-loop-index l =
    l.out.items ++ each (λ i. output_frame (piece_of l.text i)) l.index ((length l.text + 999) / 1000 - l.index)
    ≡ l.fn.out.items ++ outputs_text l.text
