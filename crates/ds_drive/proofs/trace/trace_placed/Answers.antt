use Rattle.std.proofs.Common.{◌∙◌, ap, inr}
use Rattle.ds_listing.specs.Pages.{plain_pages}
use Rattle.ds_drive.proofs.trace.trace_placed.Goals as goal

pub trace_with-requires-clause-placed : goal.trace_with-requires-clause-placed
trace_with-requires-clause-placed g c = ap plain_pages c.as_slice.ensures.value ∙ c.in-Ok.ensures

pub returns-clause-err : goal.returns-clause-err
returns-clause-err g c = inr c.in-Err-trace_with.ensures.err
