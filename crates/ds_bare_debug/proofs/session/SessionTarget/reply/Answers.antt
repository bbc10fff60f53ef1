use Rattle.ds_bare_debug.proofs.Moving.{replied}
use Rattle.ds_bare_debug.proofs.session.SessionTarget.reply.Goals as goal

pub returns : goal.returns
returns c = replied c.args.words.now c.args.self.now c.answer.new.self c.args.out.now.items c.answer.new.out.items c.answer.result c.answer.ensures.changed c.answer.ensures.told
