-- What the lines of the log say of processes and rules.
use Rattle.std.specs.Prelude.{ℕ, suc, Bool, ◌==◌, bytes_eq, if◌then◌else◌, codes, decimal, List, [], ◌∷◌, ◌++◌, length, Option, Some, None}
use Rattle.std.specs.List.{slice_split, list_any}

-- the lines of a text, each without its line feed
abbrev pub lines_of : List ℕ → List (List ℕ)
lines_of text = slice_split (λ b. b == 10) text

-- the first word of a line
abbrev pub first_word : List ℕ → List ℕ
first_word [] = []
first_word (b ∷ rest) = if b == 32 then [] else b ∷ first_word rest

-- what comes after that and its blank
abbrev pub after_word : List ℕ → List ℕ
after_word [] = []
after_word (b ∷ rest) = if b == 32 then rest else after_word rest

-- the second word: of a denial its process, of a refused command `command`
abbrev pub second_word : List ℕ → List ℕ
second_word line = first_word (after_word line)

-- the fourth: of a denial what was denied
abbrev pub fourth_word : List ℕ → List ℕ
fourth_word line = second_word (after_word (after_word line))

-- the sixth: of a denial its rule; the line of a refused command has five
abbrev pub sixth_word : List ℕ → List ℕ
sixth_word line = second_word (after_word (after_word (after_word (after_word line))))

-- the last of these lines with this second word; where none has it, what was found before
abbrev pub last_or : Option (List ℕ) → List ℕ → List (List ℕ) → Option (List ℕ)
last_or found word [] = found
last_or found word (line ∷ rest) = last_or (if bytes_eq (second_word line) word then Some line else found) word rest

-- the last line that tells of a process
abbrev pub last_of : ℕ → List (List ℕ) → Option (List ℕ)
last_of p lines = last_or None (decimal p) lines

-- a rule before others, where there is one
abbrev pub rule_before : List ℕ → List (List ℕ) → List (List ℕ)
rule_before rule rest = if length rule == 0 then rest else rule ∷ rest

-- the rules of denials, one for each line
abbrev pub denied_rules : List (List ℕ) → List (List ℕ)
denied_rules [] = []
denied_rules (line ∷ rest) = rule_before (sixth_word line) (denied_rules rest)

-- how often a rule is among some
abbrev pub times_among : List ℕ → List (List ℕ) → ℕ
times_among rule [] = 0
times_among rule (r ∷ rest) = if bytes_eq r rule then suc (times_among rule rest) else times_among rule rest

-- whether it is among them at all
abbrev pub is_among : List ℕ → List (List ℕ) → Bool
is_among rule rules = list_any (λ r. bytes_eq r rule) rules

-- the line of a rule that was not met before, with how often it is met
abbrev pub rule_count_text : List (List ℕ) → List ℕ → List (List ℕ) → List ℕ
rule_count_text before rule rest =
    if is_among rule before then [] else codes "denied " ++ rule ++ codes " " ++ decimal (suc (times_among rule rest)) ++ codes "\n"

-- those of rules, each at its first place
abbrev pub rules_text : List (List ℕ) → List (List ℕ) → List ℕ
rules_text before [] = []
rules_text before (rule ∷ rest) = rule_count_text before rule rest ++ rules_text (before ++ rule ∷ []) rest
