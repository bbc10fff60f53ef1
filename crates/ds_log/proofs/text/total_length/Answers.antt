use Rattle.std.proofs.Common.{arith, []}
use Rattle.std.proofs.lemmas.List.Folds.{length-flat_map-take}
use Rattle.ds_log.proofs.text.total_length.Goals as goal

pub overflow_add-total : goal.overflow_add-total
overflow_add-total c =
    let so_far = length-flat_map-take (λ piece. piece.now) c.args.pieces.now c.loop-piece.piece-index (record { ref_ptr = (0, 0); now = [] }) c.loop-piece-test.true in
    omega (arith, so_far, c.loop-piece.invariant, c.requires)
