-- Texts with registers by their numbers are the plain texts.
use Rattle.std.proofs.Common.{◌≡◌, refl, ℕ, ◌<◌, List, [], ◌∷◌, length, arith}
use Rattle.ds_listing.specs.declared.names.RegisterNames.{RegisterNames}
use Rattle.ds_listing.specs.declared.names.RegisterNames.TheVariants.{Numbers}
use Rattle.ds_listing.specs.NamedTexts.{text_as, bytes_as, file_as}
use Rattle.ds_listing.specs.Sources.{byte_lines}
use Rattle.ds_listing.specs.Inner.Sources.{source_of_file}
use Rattle.ds_listing.specs.Texts.{text_of}

-- the text of a word
pub plain_text : (w : ℕ) → text_as Numbers w ≡ text_of w
unfolding text_as text_of
plain_text w = refl

-- the text of a file
pub plain_file : (bytes : List ℕ) → file_as Numbers bytes ≡ source_of_file bytes
unfolding text_as text_of
plain_file bytes = refl

-- less than four bytes have their lines alone
pub few_lines_as : (names : RegisterNames) (bytes : List ℕ) → length bytes < 4 → bytes_as names bytes ≡ byte_lines bytes
few_lines_as names [] few = refl
few_lines_as names (a ∷ []) few = refl
few_lines_as names (a ∷ b ∷ []) few = refl
few_lines_as names (a ∷ b ∷ c ∷ []) few = refl
few_lines_as names (a ∷ b ∷ c ∷ d ∷ bytes) few = absurd (omega arith)
