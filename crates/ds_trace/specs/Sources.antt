-- The lines of the sources whose parts the pages of a policy have.
use Rattle.std.specs.Prelude.{ℕ, List, map, Option, None, Some, option_and_then, option_map, Result, Ok, Err}
use Rattle.ds_asm.specs.Assembly.{assembled}
use Rattle.ds_asm.specs.declared.fault.SourceFault.{SourceFault}
use Rattle.ds_listing.specs.Listing.{rows_of}
use Rattle.ds_listing.specs.Pages.{PagePlaces}
use Rattle.ds_listing.specs.Places.{LinePlace, line_places_of}
use Rattle.ds_pagemap.specs.Inputs.{Sources, text_named}
use Rattle.ds_policy.specs.declared.policy.PolicyPage.{PolicyPage}
use Rattle.ds_policy.specs.declared.policy.Source.{Source}

-- the lines of a text that has an image
abbrev pub lines_with_image : List ℕ → Result (List ℕ) SourceFault → Option (List LinePlace)
lines_with_image text (Ok image) = Some (line_places_of (rows_of text image))
lines_with_image text (Err fault) = None

-- those of the source of a name, where there is one, and it has an image
abbrev pub lines_named : Sources → List ℕ → Option (List LinePlace)
lines_named sources name = option_and_then (λ text. lines_with_image text (assembled text)) (text_named sources name)

-- a page that has a part of a source, with the lines of that
abbrev pub page_with : Sources → Option Source → Option PagePlaces
page_with sources None = None
page_with sources (Some s) = option_map (λ lines. record { source = s.name; part = s.part; lines = lines }) (lines_named sources s.name)

-- pages with the lines of their sources
abbrev pub pages_with : Sources → List PolicyPage → List (Option PagePlaces)
pages_with sources pages = map (λ page. page_with sources page.source) pages
