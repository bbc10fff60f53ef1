use Rattle.std.proofs.Common.{◌∙◌}
use Rattle.std.proofs.lemmas.List.{drop_all}
use Rattle.ds_policy.proofs.Sources.{sources_all}
use Rattle.ds_policy.proofs.reading.sources.sources_of.Goals as goal

pub returns : goal.returns
returns c = (rw (drop_all c.loop-page.page-index c.args.pages.now c.loop-page-test.false) at c.loop-page.invariant.from) ∙ sources_all c.args.pages.now
