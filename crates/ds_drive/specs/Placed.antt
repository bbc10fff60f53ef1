-- The lines of the sources by which the units of a trace are told.
use Rattle.std.specs.Prelude.{◌≡◌, if◌then◌else◌, ℕ, List, [], Option}
use Rattle.std.specs.Borrow.{Bor}
use Rattle.ds_listing.specs.Pages.{PagePlaces, plain_pages}
use Rattle.ds_listing.specs.declared.pages.PageLines.{PageLines}
use Rattle.ds_policy.specs.Value.{PolicyValue}
use Rattle.ds_pagemap.specs.Inputs.{Sources}
use Rattle.ds_trace.specs.Sources.{pages_with}
use Rattle.ds_words.specs.declared.words.TraceRequest.{TraceRequest}
use Rattle.ds_drive.specs.Failures.{HoldsInputs}

-- a trace with these lines of its pages
abbrev pub trace_with_lines : TraceRequest → Bor (List (Option PageLines)) → TraceRequest
trace_with_lines request pages = record request { view = record request.view { pages = pages } }

-- the lines of a policy's pages by these sources, where the words want units told by their sources; else none
abbrev pub pages_by_sources : PolicyValue → Sources → TraceRequest → List (Option PagePlaces)
pages_by_sources policy sources request = if request.view.source then pages_with sources policy.pages else []

-- they are those of the policy and the sources that the files hold
pub record ArePlaced (holds : List ℕ → List ℕ → Type 0) (request : TraceRequest) (pages : List (Option PagePlaces)) : Type 0 where
  pub value : PolicyValue
  pub sources : Sources
  pub input : List ℕ
  pub held : HoldsInputs holds request.run value sources input
  pub are : pages ≡ pages_by_sources value sources request

-- of the trace that the words ask for, with the lines of the files' sources, this holds
pub record OfPlaced (holds : List ℕ → List ℕ → Type 0) (request : TraceRequest) (P : TraceRequest → Type 0) : Type 0 where
  pub pages : Bor (List (Option PageLines))
  pub placed : ArePlaced holds request (plain_pages pages.now)
  pub so : P (trace_with_lines request pages)
