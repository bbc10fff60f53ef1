use Rattle.ds_tlb.proofs.Frames.{both_forgotten}
use Rattle.ds_tlb.proofs.windows.Windows.forget.Goals as goal

pub returns : goal.returns
returns c = both_forgotten _ _ _ _ _ _ _ _ c.forget_entry.ensures c.forget_entry-2.ensures
