-- The pages of a policy, with the lines of the sources whose parts they have.
use Rattle.std.specs.Prelude.{ℕ, bytes_eq, List, map, position, slice_get, Option, None, Some, option_and_then, option_map}
use Rattle.ds_check.specs.Starts.{Assembled}
use Rattle.ds_listing.specs.Listing.{rows_of}
use Rattle.ds_listing.specs.Pages.{PagePlaces}
use Rattle.ds_listing.specs.Places.{LinePlace, line_places_of}
use Rattle.ds_policy.specs.declared.policy.PolicyPage.{PolicyPage}
use Rattle.ds_policy.specs.declared.policy.Source.{Source}

-- the lines of a text with an image, where both are there
abbrev pub lines_between : Option (List ℕ) → Option (List ℕ) → Option (List LinePlace)
lines_between (Some text) (Some image) = Some (line_places_of (rows_of text image))
lines_between text image = None

-- those of the source of a name, where there is one
abbrev pub lines_in : Assembled → List ℕ → Option (List LinePlace)
lines_in a name =
    option_and_then (λ i. lines_between (option_map (λ s. s.1) (slice_get a.sources i)) (slice_get a.images i)) (position (λ s. bytes_eq s.0 name) a.sources)

-- a page that has a part of a source, with the lines of that
abbrev pub page_with : Assembled → Option Source → Option PagePlaces
page_with a None = None
page_with a (Some s) = option_map (λ lines. record { source = s.name; part = s.part; lines = lines }) (lines_in a s.name)

-- pages with the lines of their sources
abbrev pub pages_with : Assembled → List PolicyPage → List (Option PagePlaces)
pages_with a pages = map (λ page. page_with a page.source) pages
