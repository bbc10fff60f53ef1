use Rattle.std.proofs.Common.{◌≡◌, ◌++◌, drop}
use Rattle.ds_listing.specs.Pages.{plain_pages}
use Rattle.ds_station.specs.Headline.{sources_seen}
use Rattle.ds_trace.specs.Sources.{pages_with}
use Rattle.ds_trace.proofs.sources.pages_with.Given as goal

-- the pages so far, and those that are left, are all
abbrev pub invariant-loop-page : goal.invariant-loop-page
invariant-loop-page l = plain_pages l.placed.items ++ pages_with (sources_seen l.sources) (drop l.page-index l.pages) ≡ pages_with (sources_seen l.sources) l.pages
