-- What it means that a line says a word.
use Rattle.std.specs.Prelude.{◌≡◌, ℕ, ◌%◌, true, not, ◌==◌, ◌<◌, List, [], ◌∷◌, Option, Some, None, Result, Ok, ⊤}
use Rattle.std.specs.List.{All, list_all}
use Rattle.ds_word.specs.Bytes.{bytes_of_word}
use Rattle.ds_word.specs.ResultBinding.{◌>>=◌}
use Rattle.ds_asm.specs.declared.syntax.SyntaxCause.{SyntaxCause}
use Rattle.ds_asm.specs.Lines.{Statement, Line, line_of}
use Rattle.ds_asm.specs.Assembly.{statement_size, cause_at, statement_bytes}
use Rattle.ds_listing.specs.Sources.{word_of_bytes}
use Rattle.ds_listing.specs.Texts.{text_of}

-- a line of a statement alone
abbrev pub alone : Result Statement SyntaxCause → Result Line SyntaxCause
alone r = r >>= (λ s. Ok (Some s)) >>= (λ s. Ok (record { label = None; statement = s }))

-- a statement that has the bytes of a word wherever a word may stand, whatever the labels are
pub record IsWord (s : Statement) (w : ℕ) : Type 0 where
  pub size : statement_size s ≡ 4
  pub stands : (at : ℕ) → at % 4 ≡ 0 → cause_at at s ≡ None
  pub bytes : (find : List ℕ → Option ℕ) (at : ℕ) → statement_bytes find at s ≡ Ok (bytes_of_word w)

-- a line of such a statement, and of no label
pub record Says (line : Result Line SyntaxCause) (w : ℕ) : Type 0 where
  pub statement : Statement
  pub is : line ≡ alone (Ok statement)
  pub word : IsWord statement w

-- a text of one line that says a word
pub record IsLineOf (text : List ℕ) (w : ℕ) : Type 0 where
  pub one_line : list_all (λ c. not (c == 10)) text ≡ true
  pub says : Says (line_of text) w

-- the text of each word is such a line
abbrev pub EachIsRead : List ℕ → Type 0
EachIsRead [] = ⊤
EachIsRead (w ∷ ws) = IsLineOf (text_of w) w × EachIsRead ws

-- a word's text is such a line, and the word is these bytes
pub record IsWordOf (a b c d : ℕ) : Type 0 where
  pub read : IsLineOf (text_of (word_of_bytes a b c d)) (word_of_bytes a b c d)
  pub bytes : bytes_of_word (word_of_bytes a b c d) ≡ a ∷ b ∷ c ∷ d ∷ []

-- so it is for each four bytes, and the others are bytes
abbrev pub AreSaid : List ℕ → Type 0
AreSaid (a ∷ b ∷ c ∷ d ∷ bytes) = IsWordOf a b c d × AreSaid bytes
AreSaid bytes = All (λ b. b < 256) bytes
