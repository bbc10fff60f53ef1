use Rattle.std.proofs.Common.{◌≡◌, ◌∙◌, ℕ, ◌^◌, ap}
use Rattle.ds_isa.specs.declared.instr.Size.TheVariants.{Word}
use Rattle.ds_dev.specs.Bus.{BusState, store, with_serial}
use Rattle.ds_dev.specs.Serial.{sent}
use Rattle.ds_monitor.proofs.Sends.{line_bit, sent_on}
use Rattle.ds_monitor.proofs.sending.send.Goals as goal

pub returns-clause-left : goal.returns-clause-left
returns-clause-left c =
    let first : c.set_enables.new.self ≡ (store c.args.bus.now 0x1FE00010 Word (2 ^ c.args.line)).1 = c.set_enables.ensures ∙ ap (λ (v : ℕ). (store c.args.bus.now 0x1FE00010 Word v).1) (line_bit c.args.line c.requires.line) in
    let second : c.transmit.new.self ≡ (store c.set_enables.new.self 0x1FE00018 Word c.args.byte).1 = c.transmit.ensures ∙ ap (λ (v : ℕ). (store c.set_enables.new.self 0x1FE00018 Word v).1) c.from.ensures in
    c.sent.ensures.value
    ∙ ap (λ (b : BusState). (sent b.serial).0) (second ∙ ap (λ (b : BusState). (store b 0x1FE00018 Word c.args.byte).1) first)

pub returns-clause-value : goal.returns-clause-value
returns-clause-value c =
    returns-clause-left c ∙ (sent_on c.args.bus.now c.args.line c.args.byte c.requires.line c.requires.on c.ranges.byte.fits).value

pub returns-clause-state : goal.returns-clause-state
returns-clause-state c =
    let first : c.set_enables.new.self ≡ (store c.args.bus.now 0x1FE00010 Word (2 ^ c.args.line)).1 = c.set_enables.ensures ∙ ap (λ (v : ℕ). (store c.args.bus.now 0x1FE00010 Word v).1) (line_bit c.args.line c.requires.line) in
    let second : c.transmit.new.self ≡ (store c.set_enables.new.self 0x1FE00018 Word c.args.byte).1 = c.transmit.ensures ∙ ap (λ (v : ℕ). (store c.set_enables.new.self 0x1FE00018 Word v).1) c.from.ensures in
    c.sent.ensures.state
    ∙ (ap (λ (b : BusState). with_serial b (sent b.serial).1) (second ∙ ap (λ (b : BusState). (store b 0x1FE00018 Word c.args.byte).1) first)
    ∙ (sent_on c.args.bus.now c.args.line c.args.byte c.requires.line c.requires.on c.ranges.byte.fits).state)
