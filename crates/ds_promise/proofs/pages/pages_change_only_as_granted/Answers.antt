use Rattle.ds_promise.proofs.FirstPages.{inputs_whole}
use Rattle.ds_promise.proofs.Copies.{half_as_granted, along_as_granted, half_copies}
use Rattle.ds_promise.proofs.pages.pages_change_only_as_granted.Goals as goal

pub returns-clause-half : goal.returns-clause-half
returns-clause-half c = half_as_granted

pub returns-clause-run : goal.returns-clause-run
returns-clause-run c = λ text sources input n random first choices is. along_as_granted n choices first (inputs_whole text sources input n random first is)

pub returns-clause-comes : goal.returns-clause-comes
returns-clause-comes c = λ b m page new k none e. half_copies b m k page new none e
