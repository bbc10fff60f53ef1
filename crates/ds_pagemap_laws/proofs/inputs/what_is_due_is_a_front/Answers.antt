use Rattle.ds_policy.specs.InputFacts.{has_time, comes_at}
use Rattle.ds_pagemap_laws.proofs.Due.{splits}
use Rattle.ds_pagemap_laws.proofs.inputs.what_is_due_is_a_front.Goals as goal

pub returns-clause-commands : goal.returns-clause-commands
returns-clause-commands c = λ now cs order. splits has_time now cs order

pub returns-clause-characters : goal.returns-clause-characters
returns-clause-characters c = λ now cs order. splits comes_at now cs order
