use Rattle.ds_drive.specs.Told.{below_text, failure_line}
use Rattle.ds_drive.proofs.Heard.{told_after}
use Rattle.ds_drive.proofs.told.send_refused.Goals as goal

pub returns-in-Ok : goal.returns-in-Ok
returns-in-Ok g c = told_after c.send_below.result _ _ _ _ _ _ (failure_line c.args.refused.now.failure) (below_text c.args.refused.now)
    c.in-Ok.ensures.all c.in-Ok.ensures.once c.send_below.ensures.all c.send_below.ensures.front c.send_below.ensures.once
