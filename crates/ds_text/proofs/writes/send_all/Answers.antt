use Rattle.std.proofs.Common.{take, drop, suc, subst}
use Rattle.std.specs.Prelude.{flat_map}
use Rattle.ds_text.specs.Sent.{AppendsPart}
use Rattle.ds_text.proofs.Sends.{at_err, part_after, part_before, flat_map_at}
use Rattle.ds_text.proofs.writes.send_all.Goals as goal

pub returns-in_err-send-clause-err : goal.returns-in_err-send-clause-err
returns-in_err-send-clause-err g c = at_err c.from_residual.result
    (subst (AppendsPart _ _) (flat_map_at (λ p. p.now) c.args.pieces.now c.loop-piece.piece-index _ c.loop-piece-test.true)
    (part_after _ _ _ (flat_map (λ p. p.now) (take c.loop-piece.piece-index c.args.pieces.now)) _ c.loop-piece.invariant.written
    (part_before _ _ _ (flat_map (λ p. p.now) (drop (suc c.loop-piece.piece-index) c.args.pieces.now)) c.in_err-send.ensures.err)))
