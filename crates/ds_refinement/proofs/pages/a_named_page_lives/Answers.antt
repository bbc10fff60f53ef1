use Rattle.ds_refinement.proofs.Lookups.{named_page_lives}
use Rattle.ds_refinement.proofs.pages.a_named_page_lives.Goals as goal

pub returns : goal.returns
returns c = named_page_lives
