-- Where in its text a key of a policy stands, or an item of one of its arrays: looked for line by line, since the library tells no places of values.
use Rattle.std.specs.Prelude.{codes, ℕ, ◌+◌, ◌-◌, Bool, ◌&&◌, ◌||◌, ◌==◌, false, nat_le, if◌then◌else◌, List, [], ◌∷◌, length, drop, slice_get, Option, None, Some, option_map, unwrap_or}
use Rattle.std.specs.List.{prefix_len, starts_with}
use Rattle.ds_asm.specs.Assembly.{lines_of}
use Rattle.ds_check.specs.declared.items.Items.{Items}
use Rattle.ds_check.specs.declared.items.Items.TheVariants.{Processes, Pages, Rules}
use Rattle.ds_check.specs.declared.places.Place.{Place}
use Rattle.ds_check.specs.Lines.{line_at}
use Rattle.ds_check.specs.Places.{next_place}

-- the key of an array
abbrev pub key_of : Items → List ℕ
key_of Processes = codes "process"
key_of Pages = codes "page"
key_of Rules = codes "rule"

-- what the line before an item's keys begins with
abbrev pub header_of : Items → List ℕ
header_of Processes = codes "[[process]]"
header_of Pages = codes "[[page]]"
header_of Rules = codes "[[rule]]"

-- a space or a tab
abbrev pub is_blank : ℕ → Bool
is_blank b = b == 32 || b == 9

-- what a line says after the blanks that it begins with
abbrev pub said_in : List ℕ → List ℕ
said_in line = drop (prefix_len is_blank line) line

-- a line that begins, after blanks, with this word
abbrev pub begins_with_word : List ℕ → List ℕ → Bool
begins_with_word word line = starts_with (λ a b. a == b) (said_in line) word

-- what may stand directly after a key
abbrev pub ends_key : Option ℕ → Bool
ends_key None = false
ends_key (Some b) = is_blank b || b == 61

-- a line that begins, after blanks, with this key
abbrev pub begins_key : List ℕ → List ℕ → Bool
begins_key key line = begins_with_word key line && ends_key (slice_get (said_in line) (length key))

-- the number of the first of some lines that begins with a key, where line n is the first; lines from one on that begins with a bracket are none of them
abbrev pub key_from : List ℕ → ℕ → List (List ℕ) → Option ℕ
key_from key n [] = None
key_from key n (line ∷ lines) = if begins_with_word (codes "[") line then None else if begins_key key line then Some n else key_from key (n + 1) lines

-- the number of the k-th of some lines that begins with a header, where line n is the first
abbrev pub header_from : List ℕ → ℕ → ℕ → List (List ℕ) → Option ℕ
header_from header n k [] = None
header_from header n k (line ∷ lines) =
    if begins_with_word header line && nat_le k 1 then Some n
    else header_from header (n + 1) (if begins_with_word header line then k - 1 else k) lines

-- where the k-th brace stands in line n or after it, in a text that begins at a place
abbrev pub brace_from : ℕ → Place → ℕ → List ℕ → Option Place
brace_from n p k [] = None
brace_from n p k (b ∷ text) =
    let is_one = b == 123 && nat_le n p.line in
    if is_one && nat_le k 1 then Some p else brace_from n (next_place p b) (if is_one then k - 1 else k) text

-- where a line begins, after blanks
abbrev pub start_in : List ℕ → ℕ → Place
start_in text n = record { line = n; column = prefix_len is_blank (line_at text n) + 1 }

-- where a root key stands
abbrev pub root_key_place : List ℕ → List ℕ → Option Place
root_key_place text key = option_map (start_in text) (key_from key 1 (lines_of text))

-- where the key stands of an item that has its header in line n, or else the header
abbrev pub table_place : List ℕ → Option (List ℕ) → ℕ → Place
table_place text None n = start_in text n
table_place text (Some key) n = start_in text (unwrap_or (key_from key (n + 1) (drop n (lines_of text))) n)

-- where the k-th item of an array stands, or its key, where the array is the value of a key in some line, or of no key
abbrev pub item_in : List ℕ → Items → ℕ → Option (List ℕ) → Option ℕ → Option Place
item_in text items k key None = option_map (table_place text key) (header_from (header_of items) 1 k (lines_of text))
item_in text items k key (Some line) = brace_from line (record { line = 1; column = 1 }) k text

-- where the k-th item of an array stands, or a key of it: at its header and below it; or at its brace, where the array is written `rule = [..]`
abbrev pub item_place : List ℕ → Items → ℕ → Option (List ℕ) → Option Place
item_place text items k key = item_in text items k key (key_from (key_of items) 1 (lines_of text))
