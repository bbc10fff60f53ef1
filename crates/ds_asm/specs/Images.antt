-- The parts of an image.
use Rattle.std.specs.Prelude.{ℕ, ◌*◌, List, ◌++◌, take, drop, replicate}

-- a page of an image, with zeros past its end
abbrev pub page_of_image : List ℕ → ℕ → List ℕ
page_of_image image k = take 4096 (drop (4096 * k) image ++ replicate 4096 0)
