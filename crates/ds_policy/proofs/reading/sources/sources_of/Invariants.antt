use Rattle.std.proofs.Common.{◌≡◌, drop, []}
use Rattle.ds_policy.specs.Inner.Names.{AreHeld}
use Rattle.ds_policy.proofs.Sources.{sources_from}
use Rattle.ds_policy.proofs.reading.sources.sources_of.Given as goal

abbrev pub invariant-loop-page : goal.invariant-loop-page
invariant-loop-page l = record {
  from : sources_from l.sources.items (drop l.page-index l.pages) ≡ sources_from [] l.pages;
  held : AreHeld l.names l.sources.items;
}
