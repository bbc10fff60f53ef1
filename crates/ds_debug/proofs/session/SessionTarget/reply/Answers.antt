use Rattle.ds_debug.proofs.Served.{answer_alone}
use Rattle.ds_debug.proofs.session.SessionTarget.reply.Goals as goal

pub returns-in-Ok : goal.returns-in-Ok
returns-in-Ok c = answer_alone c.args.words.now c.args.self.now c.answer.new.self c.args.out.now.items c.answer.new.out.items c.in-Ok.ensures.answers
