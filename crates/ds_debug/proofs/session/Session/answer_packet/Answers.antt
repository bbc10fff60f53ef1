use Rattle.std.proofs.Common.{sym, subst, ◌∙◌}
use Rattle.std.specs.Prelude.{OnOk}
use Rattle.ds_debug.specs.Answering.{AnswersWhere, course_by}
use Rattle.ds_debug.specs.declared.session.Course.{Course}
use Rattle.ds_debug.proofs.Going.{back_is_back, still_real, still_within}
use Rattle.ds_debug.proofs.session.Session.answer_packet.Goals as goal

pub returns-in-Forward-clause-answers : goal.returns-in-Forward-clause-answers
returns-in-Forward-clause-answers c =
    subst (λ (by : Course). OnOk c.resume.result (AnswersWhere by c.args.words.now c.args.packet c.args.self.now c.resume.new.self c.args.out.now.items c.resume.new.out.items)) (sym c.in-Forward.is ∙ c.course_by.ensures)
    c.resume.ensures.resumes

pub returns-in-Forward-clause-within : goal.returns-in-Forward-clause-within
returns-in-Forward-clause-within c = λ onward. c.resume.ensures.within

pub returns-in-Forward-clause-real : goal.returns-in-Forward-clause-real
returns-in-Forward-clause-real c = λ onward. c.resume.ensures.real

pub returns-in-Backward-clause-answers : goal.returns-in-Backward-clause-answers
returns-in-Backward-clause-answers c =
    subst (λ (by : Course). OnOk c.go_back.result (AnswersWhere by c.args.words.now c.args.packet c.args.self.now c.go_back.new.self c.args.out.now.items c.go_back.new.out.items)) (sym c.in-Backward.is ∙ c.course_by.ensures)
    c.go_back.ensures.returns

pub returns-in-Backward-clause-within : goal.returns-in-Backward-clause-within
returns-in-Backward-clause-within c = λ onward. absurd (back_is_back (course_by c.args.packet) c.in-Backward.action (sym c.course_by.ensures ∙ c.in-Backward.is) onward)

pub returns-in-Backward-clause-real : goal.returns-in-Backward-clause-real
returns-in-Backward-clause-real c = λ onward. absurd (back_is_back (course_by c.args.packet) c.in-Backward.action (sym c.course_by.ensures ∙ c.in-Backward.is) onward)

pub returns-in_ok-answer_plain-in-Nowhere-clause-within : goal.returns-in_ok-answer_plain-in-Nowhere-clause-within
returns-in_ok-answer_plain-in-Nowhere-clause-within c = λ onward. still_within c.args.self.now.limit c.args.self.now.held c.answer_plain.new.self.held c.answer_plain.ensures.still.held

pub returns-in_ok-answer_plain-in-Nowhere-clause-real : goal.returns-in_ok-answer_plain-in-Nowhere-clause-real
returns-in_ok-answer_plain-in-Nowhere-clause-real c = λ onward. still_real c.args.self.now.held c.answer_plain.new.self.held c.answer_plain.ensures.still.held

pub returns-in_err-answer_plain-in-Nowhere-clause-within : goal.returns-in_err-answer_plain-in-Nowhere-clause-within
returns-in_err-answer_plain-in-Nowhere-clause-within c = λ onward. still_within c.args.self.now.limit c.args.self.now.held c.answer_plain.new.self.held c.answer_plain.ensures.still.held

pub returns-in_ok-answer_plain-in-Nowhere-clause-answers : goal.returns-in_ok-answer_plain-in-Nowhere-clause-answers
returns-in_ok-answer_plain-in-Nowhere-clause-answers c =
    subst (λ (by : Course). AnswersWhere by c.args.words.now c.args.packet c.args.self.now c.answer_plain.new.self c.args.out.now.items c.answer_plain.new.out.items) (sym c.in-Nowhere.is ∙ c.course_by.ensures)
    (record { now = c.in_ok-answer_plain-in-Nowhere.ensures.changed; told = c.in_ok-answer_plain-in-Nowhere.ensures.told })
