use Rattle.std.proofs.Common.{List, ℕ, ◌++◌, ◌∙◌, ap}
use Rattle.ds_pagemap.specs.Inputs.{inputs_under}
use Rattle.ds_station.specs.Headline.{sources_seen}
use Rattle.ds_explain.proofs.Telling.{has_log}
use Rattle.ds_explain.proofs.explain.log_of.Goals as goal

pub returns-in-Ok-extend_from_slice-clause-ok : goal.returns-in-Ok-extend_from_slice-clause-ok
returns-in-Ok-extend_from_slice-clause-ok c =
    has_log c.args.n (inputs_under c.args.policy.now (sources_seen c.args.sources.now) c.args.input.now c.args.n c.args.random) c.in-Ok.station.held c.run.new.self.held c.extend_from_slice.new.self.items
    c.in-Ok.ensures.ok c.in-Ok-run.ensures.ok
    (λ m stands. c.in-Ok-extend_from_slice.ensures.items ∙ (ap (λ (s : List ℕ). s ++ c.log.result.now) c.new-log.ensures.items ∙ c.log.ensures.stands m stands))
