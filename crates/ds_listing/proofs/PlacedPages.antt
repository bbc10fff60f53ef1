-- Pages that are lent.
use Rattle.std.proofs.Common.{◌≡◌, ◌∙◌, ap, ℕ, List, Option, Some, None}
use Rattle.std.specs.Prelude.{option_and_then, option_map, slice_get}
use Rattle.std.proofs.lemmas.Option.{slice_get-map}
use Rattle.ds_listing.specs.declared.pages.PageLines.{PageLines}
use Rattle.ds_listing.specs.Pages.{PagePlaces, page_at, plain_page, plain_pages}

module _ (pages : List (Option PageLines)) (n : ℕ) where
  page_of : (o : Option (Option PageLines)) → slice_get pages n ≡ o
      → page_at (plain_pages pages) (Some n) ≡ option_and_then (λ page. page) (option_map (λ page. option_map plain_page page) o)
  page_of o is =
      ap (option_and_then (λ (page : Option PagePlaces). page)) (slice_get-map (λ (page : Option PageLines). option_map plain_page page) pages n ∙ ap (option_map (λ page. option_map plain_page page)) is)

  -- there is a page of this number
  pub page_some : (page : Option PageLines) → slice_get pages n ≡ Some page → page_at (plain_pages pages) (Some n) ≡ option_map plain_page page
  page_some page is = page_of (Some page) is

  -- there is none
  pub page_none : slice_get pages n ≡ None → page_at (plain_pages pages) (Some n) ≡ None
  page_none is = page_of None is
