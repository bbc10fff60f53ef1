-- Characters that a line of an input may not have where they stand.
use Rattle.std.specs.Prelude.{ℕ, ◌+◌, ◌-◌, Bool, false, ◌&&◌, ◌==◌, List, [], ◌∷◌, length, slice_index_or, Option, Some, None, is_some, if◌then◌else◌}
use Rattle.std.specs.List.{list_any}
use Rattle.ds_policy.specs.declared.events.cause.InputCause.{InputCause}
use Rattle.ds_policy.specs.declared.events.cause.InputCause.TheVariants.{CarriageReturn, Tab, BlankAtStart, BlankAtEnd, TwoBlanks}

-- the byte stands somewhere in the line
abbrev pub has : ℕ → List ℕ → Bool
has byte line = list_any (λ b. b == byte) line

-- the first byte is a blank
abbrev pub begins_with_blank : List ℕ → Bool
begins_with_blank [] = false
begins_with_blank (b ∷ line) = b == 32

-- the last byte is a blank
abbrev pub ends_with_blank : List ℕ → Bool
ends_with_blank line = slice_index_or line (length line - 1) 0 == 32

-- where two blanks first stand together, in bytes that begin at place n
abbrev pub two_blanks_from : ℕ → List ℕ → Option ℕ
two_blanks_from n [] = None
two_blanks_from n (b ∷ line) = if (b == 32) && begins_with_blank line then Some n else two_blanks_from (n + 1) line

-- a blank that no word stands before or after
abbrev pub blank_cause : List ℕ → Option InputCause
blank_cause line =
    if begins_with_blank line then Some BlankAtStart
    else if ends_with_blank line then Some BlankAtEnd
    else if is_some (two_blanks_from 0 line) then Some TwoBlanks
    else None

-- what stands between the words, where it is not one blank
abbrev pub layout_cause : List ℕ → Option InputCause
layout_cause line = if has 13 line then Some CarriageReturn else if has 9 line then Some Tab else blank_cause line
