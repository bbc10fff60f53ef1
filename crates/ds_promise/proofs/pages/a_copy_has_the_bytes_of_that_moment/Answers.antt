use Rattle.ds_promise.proofs.Copies.{give_copies}
use Rattle.ds_promise.proofs.pages.a_copy_has_the_bytes_of_that_moment.Goals as goal

pub returns : goal.returns
returns c = give_copies
