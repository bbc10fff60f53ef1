use Rattle.std.specs.Prelude.{codes, flat_map}
use Rattle.ds_text.proofs.Sends.{at_err, part_after, part_before}
use Rattle.ds_drive.proofs.told.send_line.Goals as goal

pub returns-in_err-send-clause-front : goal.returns-in_err-send-clause-front
returns-in_err-send-clause-front g c = at_err c.from_residual.result (part_before _ _ (codes "dsmon: ") _ c.in_err-send.ensures.err)

pub returns-in_err-send_all-clause-front : goal.returns-in_err-send_all-clause-front
returns-in_err-send_all-clause-front g c = at_err c.from_residual-in_err-send_all.result
    (part_after _ _ _ (codes "dsmon: ") _ c.in_ok-send.ensures.ok
    (part_before _ _ _ _ c.in_err-send_all.ensures.err))

pub returns-in_err-send_all-2-clause-front : goal.returns-in_err-send_all-2-clause-front
returns-in_err-send_all-2-clause-front g c = at_err c.from_residual-in_err-send_all-2.result
    (part_after _ _ _ (codes "dsmon: ") _ c.in_ok-send.ensures.ok
    (part_after _ _ _ (flat_map (λ w. w.now) c.args.words.now) _ c.in_ok-send_all.ensures.ok
    (part_before _ _ _ (codes "\n") c.in_err-send_all-2.ensures.err)))

pub returns-in_err-send-2-clause-front : goal.returns-in_err-send-2-clause-front
returns-in_err-send-2-clause-front g c = at_err c.from_residual-in_err-send-2.result
    (part_after _ _ _ (codes "dsmon: ") _ c.in_ok-send.ensures.ok
    (part_after _ _ _ (flat_map (λ w. w.now) c.args.words.now) _ c.in_ok-send_all.ensures.ok
    (part_after _ _ _ (flat_map (λ w. w.now) c.args.carried.now) _ c.in_ok-send_all-2.ensures.ok c.in_err-send-2.ensures.err)))
