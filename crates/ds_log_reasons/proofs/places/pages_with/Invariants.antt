use Rattle.std.proofs.Common.{◌≡◌, ◌++◌, drop}
use Rattle.ds_check.specs.Inner.Starts.{assembled}
use Rattle.ds_listing.specs.Pages.{plain_pages}
use Rattle.ds_log_reasons.specs.Places.{pages_with}
use Rattle.ds_log_reasons.proofs.places.pages_with.Given as goal

-- the pages so far, and those that are left, are all
abbrev pub invariant-loop-page : goal.invariant-loop-page
invariant-loop-page l = plain_pages l.placed.items ++ pages_with (assembled l.sources) (drop l.page-index l.pages) ≡ pages_with (assembled l.sources) l.pages
