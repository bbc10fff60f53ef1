use Rattle.ds_policy.specs.PolicyParts.{source_names}
use Rattle.ds_policy.proofs.Sources.{sources_few, mentions_distinct, sources_each}
use Rattle.ds_policy.proofs.policy.Policy.sources.Goals as goal

pub returns-clause-few : goal.returns-clause-few
returns-clause-few c = sources_few c.args.self.now.pages

pub returns-clause-distinct : goal.returns-clause-distinct
returns-clause-distinct c = mentions_distinct (source_names c.args.self.now.pages)

pub returns-clause-each : goal.returns-clause-each
returns-clause-each c = sources_each c.args.self.now.pages
