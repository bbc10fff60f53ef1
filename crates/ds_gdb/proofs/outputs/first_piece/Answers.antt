use Rattle.std.proofs.Common.{sym, arith}
use Rattle.std.proofs.lemmas.List.{take_all}
use Rattle.ds_gdb.proofs.Pieces.{length_taken}
use Rattle.ds_gdb.proofs.outputs.first_piece.Goals as goal

pub slice_bounds-result-end : goal.slice_bounds-result-end
slice_bounds-result-end c = length_taken 1000 c.args.left.now (omega arith)

pub returns-then-left-le-PIECE : goal.returns-then-left-le-PIECE
returns-then-left-le-PIECE c = sym (take_all 1000 c.args.left.now (omega arith))
