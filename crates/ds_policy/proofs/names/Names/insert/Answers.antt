use Rattle.std.proofs.lemmas.Map.Text.{btree_map_updates_str}
use Rattle.ds_policy.proofs.names.Names.insert.Goals as goal

pub returns : goal.returns
returns c = btree_map_updates_str c.args.name.now c.args.self.now.numbers c.insert.new.self _ c.in_ok-insert.ensures.updates
