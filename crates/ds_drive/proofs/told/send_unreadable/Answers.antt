use Rattle.std.specs.Prelude.{codes}
use Rattle.ds_text.proofs.Sends.{appends_both, at_err, part_after, part_before}
use Rattle.ds_drive.specs.Names.{shown_name}
use Rattle.ds_drive.proofs.told.send_unreadable.Goals as goal

pub returns-in_err-send-clause-front : goal.returns-in_err-send-clause-front
returns-in_err-send-clause-front g c = at_err c.from_residual.result (part_before _ _ (codes "dsmon: 26 Unreadable ") _ c.in_err-send.ensures.err)

pub returns-in_err-send_name-clause-front : goal.returns-in_err-send_name-clause-front
returns-in_err-send_name-clause-front g c = at_err c.from_residual-in_err-send_name.result
    (part_after _ _ _ (codes "dsmon: 26 Unreadable ") _ c.in_ok-send.ensures.ok
    (part_before _ _ (shown_name c.args.name.now) (codes "\n") c.in_err-send_name.ensures.err))

pub returns-in_err-send-2-clause-front : goal.returns-in_err-send-2-clause-front
returns-in_err-send-2-clause-front g c = at_err c.from_residual-in_err-send-2.result
    (part_after _ _ _ (codes "dsmon: 26 Unreadable ") _ c.in_ok-send.ensures.ok
    (part_after _ _ _ (shown_name c.args.name.now) (codes "\n") c.in_ok-send_name.ensures.ok c.in_err-send-2.ensures.err))

pub returns-clause-all : goal.returns-clause-all
returns-clause-all g c =
    appends_both _ _ _ (codes "dsmon: 26 Unreadable ") _ c.in_ok-send.ensures.ok
    (appends_both _ _ _ (shown_name c.args.name.now) (codes "\n") c.in_ok-send_name.ensures.ok c.in_ok-send-2.ensures.ok)
