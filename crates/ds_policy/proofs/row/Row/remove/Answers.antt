use Rattle.std.proofs.Common.{◌∙◌, ap, rules, not, ◌==◌, filter}
use Rattle.arrayvec.proofs.ArrayVecLemmas.{filter-from_retain}
use Rattle.ds_policy.specs.declared.grant.Entry.{Entry}
use Rattle.ds_policy.proofs.row.Row.remove.Goals as goal

pub returns : goal.returns
returns c = filter-from_retain _ (λ (e : Entry). not (e.address == c.args.address)) _ (λ x b f y k. search rules) _ _ c.retain.ensures.filtered ∙ ap (filter (λ (e : Entry). not (e.address == c.args.address))) c.self.view_is
