use Rattle.ds_asid.proofs.Apart.{start_apart}
use Rattle.ds_asid.proofs.numbers.Asids.new.Goals as goal

pub invariant_of-result : goal.invariant_of-result
invariant_of-result c = start_apart
