use Rattle.std.proofs.Common.{rules}
use Rattle.ds_words.specs.Windows.{windows_in}
use Rattle.ds_text.proofs.Sends.{at_err}
use Rattle.ds_drive.proofs.Following.{all_follows, nothing_follows, windows_part, windows_whole}
use Rattle.ds_drive.proofs.outcome.finish.Goals as goal

pub returns-then-not-is_more-clause-ok : goal.returns-then-not-is_more-clause-ok
returns-then-not-is_more-clause-ok g c = λ m k. nothing_follows c.args.extras.now c.args.extent c.args.summary.items _ _ c.args.station.now.held m (search rules) (search rules) (search rules)

pub returns-clause-ok : goal.returns-clause-ok
returns-clause-ok g c = all_follows c.args.extras.now c.args.extent c.args.summary.items _ _ _ c.args.station.now.held (search rules) (search rules) (search rules)

pub returns-in_err-send_windows-clause-err : goal.returns-in_err-send_windows-clause-err
returns-in_err-send_windows-clause-err g c = at_err c.from_residual.result (windows_part c.args.station.now.held (windows_in c.args.extras.now.memory) _ _ (search rules))

pub returns-in_err-came-clause-err : goal.returns-in_err-came-clause-err
returns-in_err-came-clause-err g c = at_err c.from_residual-in_err-came.result (windows_whole c.args.station.now.held (windows_in c.args.extras.now.memory) _ _ (search rules))
