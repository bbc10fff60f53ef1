use Rattle.std.proofs.Common.{rules}
use Rattle.ds_drive.proofs.Stops.{next_lacking}
use Rattle.ds_drive.proofs.run.texts_of.Goals as goal

pub returns-in-Err-Unreadable-clause-unread : goal.returns-in-Err-Unreadable-clause-unread
returns-in-Err-Unreadable-clause-unread g c =
    next_lacking (g.F.Files.holds c.args.files.now) (g.F.Files.lacks c.args.files.now) c.args.names.now c.loop-name.name-index c.name-item.result c.of-name.result c.loop-name.texts.items c.loop-name-test.true
    (search rules) c.loop-name.invariant.names c.loop-name.invariant.found (search rules)
