use Rattle.std.proofs.Common.{List, ℕ, ◌++◌, ◌∙◌, ap}
use Rattle.ds_log_reasons.proofs.Adding.{gives, joined}
use Rattle.ds_log_reasons.proofs.Slots.{in_slot}
use Rattle.ds_log_reasons.specs.Inner.Sentences.{known_placed}
use Rattle.ds_log_reasons.proofs.sentences.push_slot.Goals as goal

pub returns-in_ok-extend_from_slice : goal.returns-in_ok-extend_from_slice
returns-in_ok-extend_from_slice c = gives c.push_at.result
    (λ is. joined c.args.sheet.now.items _ _ _ _ c.in_ok-extend_from_slice.ensures.items is
    ∙ ap (λ (l : List ℕ). c.args.sheet.now.items ++ l) (in_slot (known_placed c.args.known) c.args.entries.now c.args.unit c.args.slot c.if-slot.true))
    c.push_at.ensures
