-- Pages, with where their bytes stand in sources.
use Rattle.std.specs.Prelude.{ℕ, ◌+◌, ◌*◌, ◌%◌, List, [], map, Option, None, Some, option_and_then, option_map, slice_get}
use Rattle.ds_listing.specs.declared.pages.PageLines as code
use Rattle.ds_listing.specs.Places.{LinePlace, line_of_byte, place_text, plain_line_place}

-- a page that has a part of an image: the name of the source, which part, and the lines of the source
pub record PagePlaces : Type 0 where
  pub source : List ℕ
  pub part : ℕ
  pub lines : List LinePlace

-- the same of the code's
abbrev pub plain_page : code.PageLines → PagePlaces
plain_page p = record { source = p.source.now; part = p.part; lines = map plain_line_place p.lines.items }

-- so of pages
abbrev pub plain_pages : List (Option code.PageLines) → List (Option PagePlaces)
plain_pages pages = map (λ page. option_map plain_page page) pages

-- the byte of the image at an address within a page
abbrev pub byte_in : PagePlaces → ℕ → ℕ
byte_in page address = 4096 * page.part + address % 4096

-- where an address within a page stands in its source
abbrev pub address_place : PagePlaces → ℕ → List ℕ
address_place page address = place_text page.source (byte_in page address) (line_of_byte (byte_in page address) page.lines)

-- the page of a number, which has a part of an image
abbrev pub page_at : List (Option PagePlaces) → Option ℕ → Option PagePlaces
page_at pages number = option_and_then (λ n. option_and_then (λ page. page) (slice_get pages n)) number

-- where an address within the page of a number stands; nothing, where the page has no part of an image
abbrev pub place_of_address : List (Option PagePlaces) → Option ℕ → ℕ → List ℕ
place_of_address pages number address = place_on (page_at pages number) address
  where
    place_on : Option PagePlaces → ℕ → List ℕ
    place_on None address = []
    place_on (Some page) address = address_place page address
