use Rattle.std.proofs.Common.{◌≡◌, drop, [], length}
use Rattle.ds_pagemap.specs.Inputs.{images_from}
use Rattle.ds_station.specs.Headline.{sources_seen}
use Rattle.ds_station.proofs.files.images_of.Given as goal

abbrev pub invariant-loop-name : goal.invariant-loop-name
invariant-loop-name l = record {
  same : images_from (sources_seen l.sources) [] l.names ≡ images_from (sources_seen l.sources) l.images.items (drop l.name-index l.names);
  size : length l.images.items ≡ l.name-index;
}
