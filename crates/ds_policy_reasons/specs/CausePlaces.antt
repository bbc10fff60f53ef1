-- Where in a line of an input what is wrong with it begins.
use Rattle.std.specs.Prelude.{ℕ, ◌+◌, ◌-◌, ◌==◌, List, [], ◌∷◌, length, position, Option, Some, None, if◌then◌else◌}
use Rattle.ds_policy.specs.declared.events.cause.InputCause.{InputCause}
use Rattle.ds_policy.specs.declared.events.cause.InputCause.TheVariants.{CarriageReturn, Tab, BlankAtStart, BlankAtEnd, TwoBlanks, BadTime, UnknownEvent, WordCount, BadProcess, BadAddress, UnknownPage, BadRight, BadGive, BadLine, BadBytes, EarlierTime, TooManyEvents}
use Rattle.ds_policy.specs.InputLayout.{two_blanks_from}

-- where the word begins that k blanks stand before, in bytes that begin at place n
abbrev pub word_from : ℕ → ℕ → List ℕ → Option ℕ
word_from n k [] = None
word_from n k (b ∷ line) = if k == 0 then Some n else word_from (n + 1) (if b == 32 then k - 1 else k) line

-- where the word of this number begins, from 0, in a line with one blank between its words
abbrev pub word_place : ℕ → List ℕ → Option ℕ
word_place k line = word_from 0 k line

-- where in its line begins what a cause is about: the byte that may not stand there, or the word that is wrong; a count of words or of events has no place
abbrev pub cause_place : InputCause → List ℕ → Option ℕ
cause_place CarriageReturn line = position (λ b. b == 13) line
cause_place Tab line = position (λ b. b == 9) line
cause_place BlankAtStart line = Some 0
cause_place BlankAtEnd line = Some (length line - 1)
cause_place TwoBlanks line = two_blanks_from 0 line
cause_place BadTime line = Some 0
cause_place UnknownEvent line = word_place 1 line
cause_place WordCount line = None
cause_place BadProcess line = word_place 2 line
cause_place BadAddress line = word_place 3 line
cause_place UnknownPage line = word_place 4 line
cause_place BadRight line = word_place 5 line
cause_place BadGive line = word_place 6 line
cause_place BadLine line = word_place 2 line
cause_place BadBytes line = word_place 3 line
cause_place EarlierTime line = Some 0
cause_place TooManyEvents line = None
