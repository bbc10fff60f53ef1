-- Worked places, and texts with common names.
use Rattle.std.specs.Prelude.{codes, refl, ◌≡◌, ℕ, List, [], ◌∷◌, replicate, Option, Some, None}
use Rattle.std.specs.Fmt.{digits}
use Rattle.ds_asm.specs.Inner.OnLiterals.{asm_on_literals}
use Rattle.ds_listing.specs.declared.names.RegisterNames.TheVariants.{Common}
use Rattle.ds_listing.specs.Listing.{rows_of}
use Rattle.ds_listing.specs.NamedTexts.{file_as, text_as}
use Rattle.ds_listing.specs.Pages.{PagePlaces, place_of_address}
use Rattle.ds_listing.specs.Places.{LinePlace, line_of_byte, place_text, line_places_of}
use Rattle.ds_listing.specs.Texts.{form_of, is_label}
use Rattle.ds_text.specs.Digits.{hex4, hex8}

-- the lines of a source of twelve bytes, with two labels at one place
abbrev lines : List LinePlace
lines = line_places_of (rows_of (codes "nop\nmain:\nstart: nop\nnop\n") (replicate 12 0))

-- where a byte of it stands
abbrev place_of : ℕ → List ℕ
place_of byte = place_text (codes "one.s") byte (line_of_byte byte lines)

pub no_label_before_it : place_of 0 ≡ codes "one.s:1"
unfolding asm_on_literals digits
no_label_before_it = refl

pub the_first_of_two_labels : place_of 4 ≡ codes "one.s:3 main"
unfolding asm_on_literals digits
the_first_of_two_labels = refl

pub past_a_label : place_of 8 ≡ codes "one.s:4 main+4"
unfolding asm_on_literals digits
past_a_label = refl

pub past_the_end : place_of 12 ≡ []
unfolding asm_on_literals digits
past_the_end = refl

-- a page with the source, and one without
abbrev pages : List (Option PagePlaces)
pages = Some (record { source = codes "one.s"; part = 0; lines = lines }) ∷ None ∷ []

pub an_address_of_the_page : place_of_address pages (Some 0) 0x00430008 ≡ codes "one.s:4 main+4"
unfolding asm_on_literals digits
an_address_of_the_page = refl

pub no_source_no_page_and_no_entry : place_of_address pages (Some 1) 0x00430008 ∷ place_of_address pages (Some 2) 0x00430008 ∷ place_of_address pages None 0x00430008 ∷ [] ≡ [] ∷ [] ∷ [] ∷ []
no_source_no_page_and_no_entry = refl

-- a register of the system coprocessor has its number
pub common_names : file_as Common (0x41 ∷ 0x00 ∷ 0x04 ∷ 0x24 ∷ 0x04 ∷ 0x00 ∷ 0xBA ∷ 0x8F ∷ 0x00 ∷ 0x70 ∷ 0x1B ∷ 0x40 ∷ 0x09 ∷ 0xF8 ∷ 0xC0 ∷ 0x00 ∷ 0xFF ∷ [])
    ≡ codes "addiu $a0,$zero,65\nlw $k0,4($sp)\nmfc0 $k1,$14\njalr $ra,$a2\n.byte 0xFF\n"
unfolding text_as form_of hex4 hex8 is_label digits
common_names = refl

pub a_branch_by_common_names : text_as Common 0x14A9FFFF ≡ codes ".word 0x14A9FFFF # bne $a1,$t1,.+0"
unfolding text_as form_of hex4 hex8 is_label digits
a_branch_by_common_names = refl
