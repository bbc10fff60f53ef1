use Rattle.std.proofs.Common.{◌≡◌, ◌+◌, ◌≤◌, map, length}
use Rattle.std.specs.Prelude.{option_map}
use Rattle.ds_asm.specs.Inner.Forms.{operand_of}
use Rattle.ds_asm.specs.Inner.Plain.{plain_instruction}
use Rattle.ds_asm.specs.Operands.{with_operands}
use Rattle.ds_asm.proofs.instruction.Instruction.with_operands.Given as goal

abbrev pub invariant-loop-rest : goal.invariant-loop-rest
invariant-loop-rest l = record {
  same : with_operands l.number (map operand_of l.rest) (option_map (λ t. t.now) l.left) (plain_instruction l.next)
      ≡ with_operands 1 (map operand_of l.fn.operands) (option_map (λ t. t.now) l.fn.left) (plain_instruction l.fn.self);
  counted : l.number + length l.rest ≤ length l.fn.operands + 1;
}

abbrev pub decreases-loop-rest : goal.decreases-loop-rest
decreases-loop-rest l = length l.rest
