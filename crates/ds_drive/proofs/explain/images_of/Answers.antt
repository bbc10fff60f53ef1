use Rattle.std.proofs.Common.{rules}
use Rattle.ds_drive.proofs.Noting.{images_all}
use Rattle.ds_drive.proofs.explain.images_of.Goals as goal

pub returns : goal.returns
returns c = images_all c.args.texts.now c.loop-source.source-index c.loop-source.images.items (search (rules, c.loop-source-test.false)) c.loop-source.invariant.images
