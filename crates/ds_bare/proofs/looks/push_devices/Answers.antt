use Rattle.std.specs.Prelude.{codes}
use Rattle.ds_text.proofs.Sends.{ok_gives}
use Rattle.ds_bare.specs.Looks.{count_text, devices_counted}
use Rattle.ds_bare.proofs.Pieces.{three_pieces}
use Rattle.ds_bare.proofs.looks.push_devices.Goals as goal

pub returns : goal.returns
unfolding devices_counted
returns c = ok_gives c.push_count-3.result
    (λ e. three_pieces _ (count_text (codes "interrupts of the lines ") c.args.counts.now.lines) (count_text (codes "interrupts of the clock ") c.args.counts.now.clock) (count_text (codes "characters in ") c.args.counts.now.came) _ _ _ c.in_ok-push_count.ensures c.in_ok-push_count-2.ensures e)
    c.push_count-3.ensures
