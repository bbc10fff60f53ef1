use Rattle.std.proofs.Common.{◌≡◌, take}
use Rattle.ds_policy.specs.Inner.Names.{AreNamed}
use Rattle.ds_policy.proofs.names.NamedPages.of.Given as goal

abbrev pub invariant-loop-page : goal.invariant-loop-page
invariant-loop-page l = record {
  held : AreNamed l.names (take l.page-index l.pages);
  counted : l.number ≡ l.page-index;
}
