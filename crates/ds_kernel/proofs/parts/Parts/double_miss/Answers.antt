use Rattle.std.proofs.Common.{rules, ap}
use Rattle.ds_cp0.specs.System.{is_user}
use Rattle.ds_refinement.specs.Held.{Held}
use Rattle.ds_refinement.proofs.Tallied.{few_of}
use Rattle.ds_kernel.specs.Inner.Parts.{held}
use Rattle.ds_kernel.specs.declared.parts.Parts.{Parts}
use Rattle.ds_kernel.proofs.Doing.{table_page_above, double_step, back_good}
use Rattle.ds_kernel.proofs.parts.Parts.double_miss.Goals as goal

pub put_table_entry-requires-clause-page : goal.put_table_entry-requires-clause-page
put_table_entry-requires-clause-page g c = table_page_above c.args.process c.args.self.now c.args.self.now c.requires.busy c.requires.served c.requires.left

pub put_table_entry-requires-clause-few : goal.put_table_entry-requires-clause-few
put_table_entry-requires-clause-few g c = let good = c.requires.busy.good in few_of (held c.args.self.now) good.sound.state good.sound.stands

pub returns-clause-held : goal.returns-clause-held
returns-clause-held g c = search rules

pub returns-clause-rest : goal.returns-clause-rest
returns-clause-rest g c = search rules

pub returns-clause-does : goal.returns-clause-does
returns-clause-does g c = double_step c.args.process c.args.self.now c.return_to.new.self c.requires.busy c.requires.served c.requires.left (returns-clause-held g c)

pub returns-clause-good : goal.returns-clause-good
returns-clause-good g c =
    let rest = returns-clause-rest g c in
    let is = returns-clause-held g c in
    back_good c.args.process c.args.self.now c.return_to.new.self c.args.self.now.monitor.grants c.requires.busy (ap (λ (x : Held). x.core.slot) is)
    (ap (λ (x : Parts g.row.L.Denot). x.monitor) rest) c.requires.busy.good.orderly.kept (ap (λ (x : Held). x.own.spent) is) (ap (λ (x : Parts g.row.L.Denot). x.failed) rest)
    (ap (λ (x : Held). is_user x.core.system) is) (returns-clause-does g c)
