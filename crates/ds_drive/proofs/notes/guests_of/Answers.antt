use Rattle.std.proofs.Common.{rules}
use Rattle.ds_drive.proofs.Noting.{images_all, notes_all}
use Rattle.ds_drive.proofs.notes.guests_of.Goals as goal

pub returns-clause-images : goal.returns-clause-images
returns-clause-images c = images_all c.args.texts.now c.loop-source.source-index c.loop-source.images.items (search (rules, c.loop-source-test.false)) c.loop-source.invariant.images

pub returns-clause-notes : goal.returns-clause-notes
returns-clause-notes c = notes_all c.args.texts.now c.loop-source.source-index c.loop-source.notes.items (search (rules, c.loop-source-test.false)) c.loop-source.invariant.notes
