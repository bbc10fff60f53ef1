use Rattle.std.proofs.Common.{List, ℕ, ◌++◌, ◌∙◌, ap}
use Rattle.ds_log_reasons.proofs.Adding.{gives}
use Rattle.ds_log_reasons.proofs.Slots.{alone_is}
use Rattle.ds_log_reasons.proofs.sentences.push_alone.Goals as goal

pub returns : goal.returns
returns c = gives c.push_bytes.result (λ is. is ∙ ap (λ (l : List ℕ). c.args.sheet.now.items ++ l) alone_is) c.push_bytes.ensures
