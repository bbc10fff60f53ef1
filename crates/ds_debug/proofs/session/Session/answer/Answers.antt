use Rattle.std.specs.Prelude.{OnOk}
use Rattle.std.proofs.Common.{◌≡◌, false, Result, refl, sym, subst, ◌∙◌}
use Rattle.ds_packets.specs.declared.packet.Packet.{Packet}
use Rattle.ds_packets.specs.declared.packet.Refusal.{Refusal}
use Rattle.ds_refinement.proofs.RunSteps.{within_start}
use Rattle.ds_station.proofs.InPieces.{no_steps}
use Rattle.ds_debug.specs.Answering.{Answers, AnswersBy}
use Rattle.ds_debug.specs.Inner.Answering.{TellsOf, goes_back_by}
use Rattle.ds_debug.specs.Sessions.{SessionState}
use Rattle.ds_debug.proofs.Looking.{looks, on_ok}
use Rattle.ds_debug.proofs.session.Session.answer.Goals as goal

pub returns-in_ok-push_refusal-in-Err-clause-answers : goal.returns-in_ok-push_refusal-in-Err-clause-answers
returns-in_ok-push_refusal-in-Err-clause-answers c =
    subst (λ (r : Result Packet Refusal). AnswersBy c.args.words.now r c.args.self.now c.args.self.now c.args.out.now.items c.push_refusal.new.out.items) (sym c.in-Err.is ∙ c.of.ensures)
    (record { now = refl; told = c.in_ok-push_refusal-in-Err.ensures })

pub returns-in_ok-push_refusal-in-Err-clause-within : goal.returns-in_ok-push_refusal-in-Err-clause-within
returns-in_ok-push_refusal-in-Err-clause-within c = λ onward. within_start c.args.self.now.limit c.args.self.now.held

pub returns-in_ok-push_refusal-in-Err-clause-real : goal.returns-in_ok-push_refusal-in-Err-clause-real
returns-in_ok-push_refusal-in-Err-clause-real c = λ onward. no_steps c.args.self.now.held

pub returns-in_err-push_refusal-in-Err-clause-within : goal.returns-in_err-push_refusal-in-Err-clause-within
returns-in_err-push_refusal-in-Err-clause-within c = λ onward. within_start c.args.self.now.limit c.args.self.now.held

pub returns-in-Ok-clause-within : goal.returns-in-Ok-clause-within
returns-in-Ok-clause-within c = λ onward. c.answer_packet.ensures.within (subst (λ (r : Result Packet Refusal). goes_back_by r ≡ false) (sym c.of.ensures ∙ c.in-Ok.is) onward)

pub returns-in-Ok-clause-real : goal.returns-in-Ok-clause-real
returns-in-Ok-clause-real c = λ onward. c.answer_packet.ensures.real (subst (λ (r : Result Packet Refusal). goes_back_by r ≡ false) (sym c.of.ensures ∙ c.in-Ok.is) onward)

pub returns-in-Ok-clause-looks : goal.returns-in-Ok-clause-looks
returns-in-Ok-clause-looks c = λ going m k.
    let s : SessionState = c.args.self.now in
    let new : SessionState = c.answer_packet.new.self in
    let none : s.held.own.spent ≡ 0 = subst (λ (x : SessionState). x.cut ≡ false → x.held.own.spent ≡ 0) c.self.view_is c.self.invariant.spent going in
    on_ok c.answer_packet.result (Answers c.args.words.now s new c.args.out.now.items c.answer_packet.new.out.items) (TellsOf c.args.words.now m s c.args.out.now.items c.answer_packet.new.out.items)
    (looks c.args.words.now s new c.args.out.now.items c.answer_packet.new.out.items m k none)
    (subst (λ (r : Result Packet Refusal). OnOk c.answer_packet.result (AnswersBy c.args.words.now r s new c.args.out.now.items c.answer_packet.new.out.items)) (sym c.in-Ok.is ∙ c.of.ensures) c.answer_packet.ensures.answers)
