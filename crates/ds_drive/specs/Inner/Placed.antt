-- The lines of the sources by which the units of a trace are told.
use Rattle.std.specs.Prelude.{◌≡◌, List, Option}
use Rattle.std.specs.Borrow.{Bor}
use Rattle.ds_listing.specs.Pages.{plain_pages}
use Rattle.ds_listing.specs.declared.pages.PageLines.{PageLines}
use Rattle.ds_policy.specs.Value.{PolicyValue}
use Rattle.ds_pagemap.specs.Inputs.{Sources}
use Rattle.ds_words.specs.declared.words.TraceRequest.{TraceRequest}
use Rattle.ds_drive.specs.Placed.{trace_with_lines, pages_by_sources}

-- of the trace that the words ask for, with the lines of a policy's pages by these sources, this holds
pub record WithPlaced (value : PolicyValue) (sources : Sources) (request : TraceRequest) (P : TraceRequest → Type 0) : Type 0 where
  pub pages : Bor (List (Option PageLines))
  pub are : plain_pages pages.now ≡ pages_by_sources value sources request
  pub so : P (trace_with_lines request pages)
