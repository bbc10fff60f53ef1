-- What a page's source is filled with: the part of its image, or zeros where it has none.
use Rattle.std.proofs.Common.{◌≡◌, ◌∙◌, ap, subst, ℕ, ◌*◌, ◌<◌, List, [], length, get_or, replicate, Some, None, refl, arith}
use Rattle.std.proofs.lemmas.List.{get_or_default, take_all, length-replicate}
use Rattle.std.specs.Prelude.{position, bytes_eq}
use Rattle.std.proofs.Math.Seq.{drop-nil}
use Rattle.ds_asm.specs.Images.{page_of_image}
use Rattle.ds_pagemap.specs.First.{image_at, image_named}

-- the image of the source of a name that was found
pub image_found : (names images : List (List ℕ)) (name image : List ℕ) (place : ℕ) → Some place ≡ position (λ n. bytes_eq n name) names → image ≡ get_or images place image → place < length images → image ≡ image_named names images name
image_found names images name image place at is within = is ∙ get_or_default images place image [] within ∙ ap (image_at images) at

-- the part of the image where no name was found: zeros
pub part_missed : (names images : List (List ℕ)) (name : List ℕ) (k : ℕ) → None ≡ position (λ n. bytes_eq n name) names → replicate 4096 0 ≡ page_of_image (image_named names images name) k
part_missed names images name k at =
    let none : [] ≡ image_named names images name = ap (image_at images) at in
    subst (λ (image : List ℕ). replicate 4096 0 ≡ page_of_image image k) none
    (rw (drop-nil {A = ℕ} (4096 * k), take_all {A = ℕ} 4096 (replicate 4096 0) (omega (arith, length-replicate {A = ℕ} 4096 0))) refl)
