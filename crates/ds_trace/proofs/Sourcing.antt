-- Where an instruction stands in its source, before its line.
use Rattle.std.proofs.Common.{◌≡◌, ◌≢◌, ◌∙◌, ap, sym, get_or, ℕ, ◌+◌, ◌<◌, suc, List, [], ◌∷◌, ◌++◌, append_assoc, append-nil, drop, length, length-append, Option, arith}
use Rattle.std.proofs.lemmas.List.{drop_more, map-append}
use Rattle.std.specs.Prelude.{codes, option_map}
use Rattle.ds_listing.specs.declared.pages.PageLines.{PageLines}
use Rattle.ds_listing.specs.Pages.{PagePlaces, plain_page, plain_pages}
use Rattle.ds_pagemap.specs.Inputs.{Sources}
use Rattle.ds_policy.specs.declared.policy.PolicyPage.{PolicyPage}
use Rattle.ds_trace.specs.Sources.{page_with, pages_with}
use Rattle.ds_trace.specs.Lines.{before_blanks}

-- nothing was added
pub no_place : (old place new : List ℕ) → new ≡ old ++ place → length new ≡ length old → new ≡ old ++ before_blanks place
no_place old [] new adds same = adds
no_place old (x ∷ xs) new adds same =
    let long : length new ≡ length old + suc (length xs) = ap length adds ∙ length-append old (x ∷ xs) in
    absurd (omega (arith, long, same))

-- something was
pub some_place : (old place new last : List ℕ) → new ≡ old ++ place → length new ≢ length old → last ≡ new ++ codes "  " → last ≡ old ++ before_blanks place
some_place old [] new last adds other blanks = absurd (other (ap length (adds ∙ append-nil old)))
some_place old (x ∷ xs) new last adds other blanks = blanks ∙ (ap (λ (l : List ℕ). l ++ codes "  ") adds ∙ append_assoc old (x ∷ xs) (codes "  "))

-- Pages with the lines of their sources.

-- a page more
pub page_placed : (sources : Sources) (pages : List PolicyPage) (i : ℕ) (page : PolicyPage) (old new : List (Option PageLines)) (one : Option PageLines) (whole : List (Option PagePlaces))
    → page ≡ get_or pages i page → i < length pages
    → option_map plain_page one ≡ page_with sources page.source → new ≡ old ++ one ∷ []
    → plain_pages old ++ pages_with sources (drop i pages) ≡ whole
    → plain_pages new ++ pages_with sources (drop (i + 1) pages) ≡ whole
page_placed sources pages i page old new one whole here within is adds h =
    let first : drop i pages ≡ page ∷ drop (i + 1) pages = drop_more pages i page within ∙ ap (λ (p : PolicyPage). p ∷ drop (i + 1) pages) (sym here) in
    let rest : List (Option PagePlaces) = pages_with sources (drop (i + 1) pages) in
    ap (λ (ps : List (Option PagePlaces)). ps ++ rest) (ap plain_pages adds ∙ map-append (λ p. option_map plain_page p) old (one ∷ []))
    ∙ (append_assoc (plain_pages old) (option_map plain_page one ∷ []) rest
    ∙ (ap (λ (p : Option PagePlaces). plain_pages old ++ p ∷ rest) is
    ∙ (ap (λ (ps : List PolicyPage). plain_pages old ++ pages_with sources ps) (sym first) ∙ h)))
