use Rattle.std.proofs.Common.{◌≡◌, ◌++◌, ◌∙◌, Result, sym, subst}
use Rattle.std.specs.Prelude.{OnOk}
use Rattle.ds_packets.specs.declared.packet.Packet.{Packet}
use Rattle.ds_packets.specs.declared.packet.Refusal.{Refusal}
use Rattle.ds_bare_debug.specs.Sessions.{after_packet, packet_text}
use Rattle.ds_bare_debug.proofs.session.Session.answer.Goals as goal

pub returns-in-Ok-clause-changed : goal.returns-in-Ok-clause-changed
returns-in-Ok-clause-changed c =
    subst (λ (r : Result Packet Refusal). OnOk c.answer_packet.result (c.answer_packet.new.self ≡ after_packet r c.args.words.now c.args.self.now)) (sym c.in-Ok.is ∙ c.of.ensures) c.answer_packet.ensures.changed

pub returns-in-Ok-clause-told : goal.returns-in-Ok-clause-told
returns-in-Ok-clause-told c =
    subst (λ (r : Result Packet Refusal). OnOk c.answer_packet.result (c.answer_packet.new.out.items ≡ c.args.out.now.items ++ packet_text r c.args.words.now c.args.self.now)) (sym c.in-Ok.is ∙ c.of.ensures)
    c.answer_packet.ensures.told
