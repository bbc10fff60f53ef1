use Rattle.ds_pages.proofs.Blank.{length_of_all}
use Rattle.ds_pages.proofs.page.Page.new.Goals as goal

pub returns-clause-words : goal.returns-clause-words
returns-clause-words c k = length_of_all 1024 k
