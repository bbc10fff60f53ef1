-- Worked statements, each at a place of the image, with the reason for which it may not stand there.
use Rattle.std.specs.Prelude.{codes, refl, ◌≡◌, ℕ, List, [], ◌∷◌, map, Option, Some, None}
use Rattle.ds_source_reasons.specs.Rows.OnLines.{reasons_on_literals}
use Rattle.ds_source_reasons.specs.Ranges.{RangeReason, OutOfRange, NotAligned, Reserved}
use Rattle.ds_source_reasons.specs.Inner.Reasons.{range_reason_of}

-- a place, a line, and the reason if it has one
abbrev PlaceRow : Type 0
PlaceRow = ℕ × List ℕ × Option RangeReason

-- what the lines of rows have for reasons
abbrev ranges_in : List PlaceRow → List (Option RangeReason)
ranges_in rows = map (λ r. range_reason_of r.0 r.1) rows

-- what rows say of their lines
abbrev said_in : List PlaceRow → List (Option RangeReason)
said_in rows = map (λ r. r.2) rows

-- statements that may stand there, and a line that can't be read
abbrev good_statements : List PlaceRow
good_statements =
    (0, codes "addiu $1, $0, -32768", None)
    ∷ (4, codes "ori $1, $0, 65535", None)
    ∷ (8, codes "x: jalr $31, $2", None)
    ∷ (3, codes ".byte -128", None)
    ∷ (4, codes ".word 4294967295", None)
    ∷ (0, codes "li $1, 40000", None)
    ∷ (1, codes "x:", None)
    ∷ []

pub good_statements_have_no_reason : ranges_in good_statements ≡ said_in good_statements
unfolding reasons_on_literals
good_statements_have_no_reason = refl

-- numbers, places and forms
abbrev wrong_statements : List PlaceRow
wrong_statements =
    (0, codes "addiu $1, $0, 40000", Some (OutOfRange (codes "40000") 32768 32767))
    ∷ (0, codes "addiu $1, $0, 0xFFFF", Some (OutOfRange (codes "0xFFFF") 32768 32767))
    ∷ (0, codes "ori $1, $0, -1", Some (OutOfRange (codes "-1") 0 65535))
    ∷ (0, codes "sll $1, $2, 32", Some (OutOfRange (codes "32") 0 31))
    ∷ (0, codes "break 1048576", Some (OutOfRange (codes "1048576") 0 1048575))
    ∷ (0, codes "lw $1, 32768 ( $2 )", Some (OutOfRange (codes "32768") 32768 32767))
    ∷ (0, codes ".word 4294967296", Some (OutOfRange (codes "4294967296") 2147483648 4294967295))
    ∷ (0, codes ".byte 256", Some (OutOfRange (codes "256") 128 255))
    ∷ (0, codes ".space 65537", Some (OutOfRange (codes "65537") 0 65536))
    ∷ (3, codes "nop", Some (NotAligned 3))
    ∷ (6, codes "x: .word x", Some (NotAligned 6))
    ∷ (2, codes "addiu $1, $0, 40000", Some (OutOfRange (codes "40000") 32768 32767))
    ∷ (0, codes "jalr $5, $5", Some (Reserved (codes "jalr")))
    ∷ (0, codes "jalr $31", Some (Reserved (codes "jalr")))
    ∷ (0, codes "bltzal $31, x", Some (Reserved (codes "bltzal")))
    ∷ (2, codes "bgezal $ra, x", Some (NotAligned 2))
    ∷ []

pub numbers_places_and_forms : ranges_in wrong_statements ≡ said_in wrong_statements
unfolding reasons_on_literals
numbers_places_and_forms = refl
