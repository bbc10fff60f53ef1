use Rattle.std.proofs.Common.{take, drop, suc, subst}
use Rattle.std.specs.Prelude.{flat_map}
use Rattle.ds_text.specs.Sent.{AppendsPart}
use Rattle.ds_text.proofs.Sends.{at_err, part_after, part_before, flat_map_at}
use Rattle.ds_drive.specs.Names.{shown_byte, shown_name}
use Rattle.ds_drive.proofs.names.send_name.Goals as goal

pub returns-in_err-send_byte-clause-err : goal.returns-in_err-send_byte-clause-err
unfolding shown_name
returns-in_err-send_byte-clause-err g c = at_err c.from_residual.result
    (subst (AppendsPart _ _) (flat_map_at shown_byte c.args.name.now c.loop-byte.byte-index _ c.loop-byte-test.true)
    (part_after _ _ _ (flat_map shown_byte (take c.loop-byte.byte-index c.args.name.now)) _ c.loop-byte.invariant.shown
    (part_before _ _ _ (flat_map shown_byte (drop (suc c.loop-byte.byte-index) c.args.name.now)) c.in_err-send_byte.ensures.err)))
