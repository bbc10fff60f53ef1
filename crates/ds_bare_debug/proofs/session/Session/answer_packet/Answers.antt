use Rattle.std.proofs.Common.{◌≡◌, ◌++◌, ◌∙◌, sym, subst}
use Rattle.std.specs.Prelude.{OnOk}
use Rattle.ds_bare_debug.specs.Sessions.{after_by, came_along, text_by}
use Rattle.ds_bare_debug.specs.declared.session.Course.{Course}
use Rattle.ds_bare_debug.proofs.session.Session.answer_packet.Goals as goal

pub returns-in-Forward-clause-changed : goal.returns-in-Forward-clause-changed
returns-in-Forward-clause-changed c =
    subst (λ (by : Course). OnOk c.go_forward.result (c.go_forward.new.self ≡ after_by (came_along by c.args.self.now) c.args.packet c.args.self.now)) (sym c.in-Forward.is ∙ c.course_asked.ensures) c.go_forward.ensures.changed

pub returns-in-Forward-clause-told : goal.returns-in-Forward-clause-told
returns-in-Forward-clause-told c =
    subst (λ (by : Course). OnOk c.go_forward.result (c.go_forward.new.out.items ≡ c.args.out.now.items ++ text_by (came_along by c.args.self.now) c.args.packet c.args.self.now)) (sym c.in-Forward.is ∙ c.course_asked.ensures)
    c.go_forward.ensures.told

pub returns-in-Back-clause-changed : goal.returns-in-Back-clause-changed
returns-in-Back-clause-changed c =
    subst (λ (by : Course). OnOk c.go_back.result (c.go_back.new.self ≡ after_by (came_along by c.args.self.now) c.args.packet c.args.self.now)) (sym c.in-Back.is ∙ c.course_asked.ensures) c.go_back.ensures.changed

pub returns-in-Back-clause-told : goal.returns-in-Back-clause-told
returns-in-Back-clause-told c =
    subst (λ (by : Course). OnOk c.go_back.result (c.go_back.new.out.items ≡ c.args.out.now.items ++ text_by (came_along by c.args.self.now) c.args.packet c.args.self.now)) (sym c.in-Back.is ∙ c.course_asked.ensures) c.go_back.ensures.told

pub returns-in-Nowhere-clause-changed : goal.returns-in-Nowhere-clause-changed
returns-in-Nowhere-clause-changed c =
    subst (λ (by : Course). OnOk c.answer_plain.result (c.answer_plain.new.self ≡ after_by (came_along by c.args.self.now) c.args.packet c.args.self.now)) (sym c.in-Nowhere.is ∙ c.course_asked.ensures) c.answer_plain.ensures.changed

pub returns-in-Nowhere-clause-told : goal.returns-in-Nowhere-clause-told
returns-in-Nowhere-clause-told c =
    subst (λ (by : Course). OnOk c.answer_plain.result (c.answer_plain.new.out.items ≡ c.args.out.now.items ++ text_by (came_along by c.args.self.now) c.args.packet c.args.self.now)) (sym c.in-Nowhere.is ∙ c.course_asked.ensures)
    c.answer_plain.ensures.told
