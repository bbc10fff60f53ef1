use Rattle.ds_promise.proofs.Stores.{half_only_stores, along_only_stores}
use Rattle.ds_promise.proofs.Histories.{page_along}
use Rattle.ds_promise.proofs.Copies.{one_word}
use Rattle.ds_promise.proofs.laws.only_a_granted_store_changes_a_page.Goals as goal

pub returns-clause-half : goal.returns-clause-half
returns-clause-half c = half_only_stores

pub returns-clause-run : goal.returns-clause-run
returns-clause-run c = along_only_stores

pub returns-clause-ends : goal.returns-clause-ends
returns-clause-ends c = page_along

pub returns-clause-word : goal.returns-clause-word
returns-clause-word c = one_word
