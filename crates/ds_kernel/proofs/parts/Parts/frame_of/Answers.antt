use Rattle.ds_kernel.proofs.Fetching.{frame_small}
use Rattle.ds_kernel.proofs.parts.Parts.frame_of.Goals as goal

pub returns-clause-within : goal.returns-clause-within
returns-clause-within g c = frame_small c.args.self.now.monitor.grants c.args.page _ c.table-table.ensures.pages c.requires c.frame_of_page.ensures
