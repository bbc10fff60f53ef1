-- The text that is written of a state, from its parts.
use Rattle.std.specs.Prelude.{ℕ, List, [], ◌∷◌, ◌++◌, length, slice_index_or, decimal, codes}
use Rattle.ds_log.specs.Text.{sp}

-- a console's number and count, and its bytes
unfoldable pub console_text : ℕ → List ℕ → List ℕ
console_text number bytes =
    codes "console " ++ decimal number ++ sp ++ decimal (length bytes) ++ 10 ∷ [] ++ bytes ++ 10 ∷ []

-- the log with the count of its lines, and the time
unfoldable pub log_text : ℕ → List ℕ → ℕ → List ℕ
log_text lines log time = codes "log " ++ decimal lines ++ 10 ∷ [] ++ log ++ codes "time " ++ decimal time ++ 10 ∷ []

-- the text of a line's console
abbrev pub console_at : List (List ℕ) → ℕ → List ℕ
console_at consoles l = console_text l (slice_index_or consoles l [])

-- the consoles of the four lines, the log, and the time
unfoldable pub report_text : List (List ℕ) → ℕ → List ℕ → ℕ → List ℕ
report_text consoles lines log time =
    console_at consoles 0 ++ console_at consoles 1 ++ console_at consoles 2 ++ console_at consoles 3
    ++ log_text lines log time
