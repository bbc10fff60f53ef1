-- A label that a statement names and no line has, and one that is like it.
use Rattle.std.specs.Prelude.{ℕ, ◌+◌, ◌-◌, Bool, ◌||◌, if◌then◌else◌, List, [], ◌∷◌, ◌++◌, length, drop, take, decimal, Option, None, Some}
use Rattle.std.specs.List.{suffix_len}
use Rattle.std.specs.Option.{option_or}
use Rattle.ds_asm.specs.Assembly.{lines_of}
use Rattle.ds_asm.specs.Characters.{is_digit, is_letter, until, without_back_blanks}
use Rattle.ds_asm.specs.Faults.{label_in}
use Rattle.ds_asm.specs.Lines.{line_of}
use Rattle.ds_source_reasons.specs.declared.texts.TheConstants as texts
use Rattle.ds_source_reasons.specs.Likeness.{is_like}
use Rattle.ds_source_reasons.specs.Texts.{quoted}

-- whether a label may hold a byte
abbrev pub is_of_word : ℕ → Bool
is_of_word c = is_letter c || is_digit c

-- what a line says up to its comment, without blanks at the end
abbrev pub said_before : List ℕ → List ℕ
said_before line = without_back_blanks (until 35 line)

-- where the last word of what a line says begins: there stands the label that its statement names
abbrev pub last_word_place : List ℕ → ℕ
last_word_place line = length (said_before line) - suffix_len is_of_word (said_before line)

-- the last word of what a line says
abbrev pub last_word : List ℕ → List ℕ
last_word line = drop (last_word_place line) (said_before line)

-- a label, and the number of its line, from 1
pub record Labelled : Type 0 where
  pub name : List ℕ
  pub line : ℕ

-- the label of line n, if it has one that is like a name
abbrev pub like_in : List ℕ → ℕ → Option (List ℕ) → Option Labelled
like_in name n None = None
like_in name n (Some label) = if is_like name label then Some (record { name = label; line = n }) else None

-- the first label that is like a name, in lines of which the first is line n
abbrev pub first_like : List ℕ → ℕ → List (List ℕ) → Option Labelled
first_like name n [] = None
first_like name n (line ∷ lines) = option_or (like_in name n (label_in (line_of line))) (first_like name (n + 1) lines)

-- the first label of a source's first 65,536 bytes that is like a name
unfoldable pub like_label : List ℕ → List ℕ → Option Labelled
like_label text name = first_like name 1 (lines_of (take 65536 text))

-- the name and the line of a label that there is
abbrev pub labelled_text : Labelled → List ℕ
labelled_text l = quoted texts.LIKE_LABEL.now l.name texts.IN_LINE.now ++ decimal l.line ++ texts.STOP.now

-- what is said of a label that is like the one that is missing, if there is one
abbrev pub like_text : Option Labelled → List ℕ
like_text None = []
like_text (Some l) = labelled_text l

-- the words of a label that no line has
unfoldable pub missing_text : List ℕ → Option Labelled → List ℕ
missing_text name like = quoted texts.NO_LABEL.now name texts.AFTER_NO_LABEL.now ++ like_text like
