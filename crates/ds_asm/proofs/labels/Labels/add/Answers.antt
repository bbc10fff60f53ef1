use Rattle.std.proofs.Common.{◌∙◌, ap, Some, bytes_eq, if◌then◌else◌}
use Rattle.std.proofs.lemmas.Map.Text.{btree_map_updates_str}
use Rattle.ds_asm.proofs.labels.Labels.add.Goals as goal

pub returns-clause-added : goal.returns-clause-added
returns-clause-added c = λ is labels h q.
    btree_map_updates_str c.args.name.now c.args.self.now.addresses c.insert.new.self _ c.in_ok-insert.ensures.updates q
    ∙ ap (λ o. if bytes_eq c.args.name.now q then Some c.args.address else o) (h q)
