-- The parts of a line as the code holds them, with their names as lists of bytes.
use Rattle.std.specs.Prelude.{option_map}
use Rattle.ds_asm.specs.declared.instruction.Target.{Target}
use Rattle.ds_asm.specs.declared.instruction.Target.TheVariants as target
use Rattle.ds_asm.specs.declared.instruction.Instruction.{Instruction}
use Rattle.ds_asm.specs.declared.line.Statement.{Statement}
use Rattle.ds_asm.specs.declared.line.Statement.TheVariants as statement
use Rattle.ds_asm.specs.declared.line.Line.{Line}
use Rattle.ds_asm.specs.Operands as operands
use Rattle.ds_asm.specs.Lines as lines

-- the target of an instruction, with its name as a list
abbrev pub plain_target : Target → operands.TargetLabel
plain_target target.Nowhere = operands.Nowhere
plain_target (target.Branch name) = operands.BranchTo name.now
plain_target (target.Jump name) = operands.JumpTo name.now

-- an instruction, with the name of its target as a list
abbrev pub plain_instruction : Instruction → operands.Instruction
plain_instruction i = record { word = i.word; out_of_range = i.out_of_range; target = plain_target i.target }

-- a statement, with its names as lists
abbrev pub plain_statement : Statement → lines.Statement
plain_statement (statement.Instruction i) = lines.Encoded (plain_instruction i)
plain_statement (statement.Word n) = lines.WordNumber n
plain_statement (statement.WordOf name) = lines.WordLabel name.now
plain_statement (statement.Byte n) = lines.Byte n
plain_statement (statement.Space n) = lines.Space n

-- a line, with its label and statement as lists
abbrev pub plain_line : Line → lines.Line
plain_line l = record { label = option_map (λ t. t.now) l.label; statement = option_map plain_statement l.statement }
