-- What a station holds: the processor, the bus with memory and devices, and what it keeps beside them.
use Rattle.std.specs.Prelude.{ℕ, List}
use Rattle.ds_log.specs.declared.line.Line.{Line}
use Rattle.ds_grants.specs.State.{page_state}
use Rattle.ds_pagemap.specs.Machine.{State}
use Rattle.ds_refinement.specs.Held.{Kept}

-- the whole state of what is kept, with the pages that lie in a memory and with these lines in its log
abbrev pub whole : Kept → List ℕ → List Line → State
whole k memory log = record k.state { memory = page_state k.grants memory; log = log }
