use Rattle.std.proofs.Common.{map}
use Rattle.ds_pagemap.specs.First.{source_bytes}
use Rattle.ds_grants.proofs.FirstPages.{HaveFilled}
use Rattle.ds_grants.proofs.first.fill_pages.Given as goal

abbrev pub invariant-loop-i : goal.invariant-loop-i
invariant-loop-i l = HaveFilled (map (λ page. source_bytes l.names l.images page.source) l.pages) l.i l.fn.memory l.memory
