use Rattle.std.proofs.Common.{◌≡◌, drop}
use Rattle.ds_pagemap.specs.Inputs.{text_named}
use Rattle.ds_station.specs.Headline.{sources_seen}
use Rattle.ds_trace.proofs.sources.text_named.Given as goal

abbrev pub invariant-loop-source : goal.invariant-loop-source
invariant-loop-source l = text_named (sources_seen l.sources) l.name ≡ text_named (sources_seen (drop l.source-index l.sources)) l.name
