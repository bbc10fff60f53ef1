use Rattle.std.proofs.Common.{◌+◌, ◌/◌, ◌++◌, List, ℕ, length, ap, ◌∙◌}
use Rattle.ds_gdb.specs.Outputs.{output_frame, piece_of}
use Rattle.ds_gdb.proofs.Pieces.{each_end, each_more, each_start}
use Rattle.ds_gdb.proofs.outputs.push_outputs.Goals as goal

pub loop-index-init : goal.loop-index-init
loop-index-init c = each_start (λ i. output_frame (piece_of c.args.text.now i)) ((length c.args.text.now + 999) / 1000) _

pub loop-index-preserved : goal.loop-index-preserved
loop-index-preserved c =
    each_more (λ i. output_frame (piece_of c.args.text.now i)) c.loop-index.index ((length c.args.text.now + 999) / 1000) c.loop-index.out.items _ _ c.loop-index-test.true
    (c.in_ok-push_output.ensures ∙ ap (λ (piece : List ℕ). c.loop-index.out.items ++ output_frame piece) c.piece_of.ensures) c.loop-index.invariant

pub returns : goal.returns
returns c = each_end (λ i. output_frame (piece_of c.args.text.now i)) c.loop-index.index ((length c.args.text.now + 999) / 1000) _ _ c.loop-index-test.false c.loop-index.invariant
