use Rattle.std.proofs.Common.{List, ℕ, ◌++◌, ◌∙◌, ap, codes}
use Rattle.ds_log_reasons.proofs.Adding.{gives, joined}
use Rattle.ds_log_reasons.proofs.Slots.{mend_is}
use Rattle.ds_log_reasons.proofs.sentences.push_mend.Goals as goal

pub returns : goal.returns
returns c = gives c.push_bytes-3.result
    (λ is. joined c.args.sheet.now.items (codes "    to mend: ") (c.args.words.now ++ codes "\n") c.push_bytes.new.sheet.items c.push_bytes-3.new.sheet.items c.in_ok-push_bytes.ensures
    (joined c.push_bytes.new.sheet.items c.args.words.now (codes "\n") c.push_bytes-2.new.sheet.items c.push_bytes-3.new.sheet.items c.in_ok-push_bytes-2.ensures is)
    ∙ ap (λ (l : List ℕ). c.args.sheet.now.items ++ l) (mend_is c.args.words.now))
    c.push_bytes-3.ensures
