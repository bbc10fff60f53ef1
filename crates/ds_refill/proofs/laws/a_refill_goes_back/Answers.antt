use Rattle.ds_refill.proofs.Whole.{whole}
use Rattle.ds_refill.proofs.laws.a_refill_goes_back.Goals as goal

pub returns : goal.returns
returns c = whole
