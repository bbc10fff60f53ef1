-- Where in a line stands what a reason quotes of it.
use Rattle.std.specs.Prelude.{ℕ, suc, ◌+◌, ◌&&◌, ◌==◌, nat_le, if◌then◌else◌, List, [], ◌∷◌, length, drop, Option, None, Some, option_map, is_some}
use Rattle.std.specs.List.{starts_with}
use Rattle.ds_asm.specs.Characters.{until}
use Rattle.ds_source_reasons.specs.Reasons.{ByteOrderMark, NoSuchDirective, Macro, NoSuchByte, CarriageReturn, SpacedColon, NotALabel, SecondColon, UpperCase, NoSuchMnemonic, Operands, OneNumber, TextAfter, NoSuchRegister, WrongOperand}
use Rattle.ds_source_reasons.specs.Ranges.{OutOfRange, NotAligned, Reserved, Target}
use Rattle.ds_source_reasons.specs.Told.{FaultReason, Unread, OutOf}

-- what a reason quotes of its line beside a single byte; nothing where it quotes none
abbrev pub quote_of : FaultReason → List ℕ
quote_of (Unread ByteOrderMark) = []
quote_of (Unread (NoSuchDirective name)) = name
quote_of (Unread (Macro name)) = name
quote_of (Unread (NoSuchByte byte)) = []
quote_of (Unread CarriageReturn) = []
quote_of (Unread (SpacedColon name)) = name
quote_of (Unread (NotALabel name)) = name
quote_of (Unread SecondColon) = []
quote_of (Unread (UpperCase name)) = name
quote_of (Unread (NoSuchMnemonic name)) = name
quote_of (Unread (Operands least most found)) = []
quote_of (Unread (OneNumber found)) = []
quote_of (Unread (TextAfter text)) = text
quote_of (Unread (NoSuchRegister name)) = name
quote_of (Unread (WrongOperand number wanted found)) = found
quote_of (OutOf (OutOfRange found least most)) = found
quote_of (OutOf (NotAligned place)) = []
quote_of (OutOf (Reserved name)) = name
quote_of (OutOf (Target label)) = label

-- where a text first stands in another
unfoldable pub first_place : List ℕ → List ℕ → Option ℕ
first_place text [] = None
first_place text (c ∷ cs) = if starts_with (λ a b. a == b) (c ∷ cs) text then Some 0 else option_map (λ n. suc n) (first_place text cs)

-- the place where it first stands, unless it stands at another after it
abbrev pub unless_again : List ℕ → List ℕ → Option ℕ → Option ℕ
unless_again text line None = None
unless_again text line (Some place) = if is_some (first_place text (drop (place + 1) line)) then None else Some place

-- where a text stands that is shown whole, and stands in a line once
abbrev pub quoted_place : List ℕ → List ℕ → Option ℕ
quoted_place text line = if nat_le 1 (length text) && nat_le (length text) 40 then unless_again text line (first_place text line) else None

-- where what a reason quotes stands before the comment of its line: a byte where it first stands, and any other text where it stands once
abbrev pub caret_place : FaultReason → List ℕ → Option ℕ
caret_place (Unread (NoSuchByte byte)) line = first_place (byte ∷ []) (until 35 line)
caret_place why line = quoted_place (quote_of why) (until 35 line)
