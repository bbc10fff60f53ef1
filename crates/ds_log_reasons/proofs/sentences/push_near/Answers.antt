use Rattle.std.proofs.Common.{List, ℕ, ◌++◌, ◌∙◌, ap, codes}
use Rattle.ds_log_reasons.proofs.Adding.{gives, joined}
use Rattle.ds_text.specs.Digits.{hex8}
use Rattle.ds_log_reasons.proofs.Slots.{near_is}
use Rattle.ds_log_reasons.specs.Sentences.{rule_number_text}
use Rattle.ds_log_reasons.proofs.sentences.push_near.Goals as goal

pub returns : goal.returns
returns c = gives c.push_number.result
    (λ is. joined c.args.sheet.now.items (codes "no rule; the nearest entry is at ") (hex8 c.args.entry.address ++ (codes ", by " ++ rule_number_text c.args.policy.now c.args.entry.grant.rule)) c.push_bytes.new.sheet.items c.push_number.new.sheet.items c.in_ok-push_bytes.ensures
    (joined c.push_bytes.new.sheet.items (hex8 c.args.entry.address) (codes ", by " ++ rule_number_text c.args.policy.now c.args.entry.grant.rule) c.push_hex.new.sheet.items c.push_number.new.sheet.items c.in_ok-push_hex.ensures
    (joined c.push_hex.new.sheet.items (codes ", by ") (rule_number_text c.args.policy.now c.args.entry.grant.rule) c.push_bytes-2.new.sheet.items c.push_number.new.sheet.items c.in_ok-push_bytes-2.ensures is))
    ∙ ap (λ (l : List ℕ). c.args.sheet.now.items ++ l) (near_is c.args.policy.now c.args.entry))
    c.push_number.ensures
