use Rattle.std.proofs.Common.{List, ℕ, ◌++◌, ◌∙◌, ap, codes, decimal}
use Rattle.ds_log_reasons.proofs.Adding.{gives, joined}
use Rattle.ds_log_reasons.proofs.Slots.{command_is}
use Rattle.ds_log_reasons.proofs.sentences.push_command.Goals as goal

pub returns : goal.returns
returns c = gives c.push_bytes-2.result
    (λ is. joined c.args.sheet.now.items (codes "command ") (decimal c.args.number ++ codes " of the input") c.push_bytes.new.sheet.items c.push_bytes-2.new.sheet.items c.in_ok-push_bytes.ensures
    (joined c.push_bytes.new.sheet.items (decimal c.args.number) (codes " of the input") c.push_short.new.sheet.items c.push_bytes-2.new.sheet.items c.in_ok-push_short.ensures is)
    ∙ ap (λ (l : List ℕ). c.args.sheet.now.items ++ l) (command_is c.args.number))
    c.push_bytes-2.ensures
