-- The lines of a boundary.
use Rattle.std.specs.Prelude.{codes, decimal, ℕ, zero, suc, ◌+◌, ◌-◌, nat_le, if◌then◌else◌, List, [], ◌∷◌, ◌++◌, length, drop}
use Rattle.ds_text.specs.Digits.{hex2, hex8}
use Rattle.ds_policy.specs.Words.{command_words}
use Rattle.ds_policy.specs.declared.command.TimedCommand.{TimedCommand}
use Rattle.ds_words.specs.declared.view.View.{View}
use Rattle.ds_words.specs.Views.{shows_rest}
use Rattle.ds_trace.specs.Looks.{Looked, Found}

-- the first commands, as far as they are due at a time
abbrev pub due_by : ℕ → List TimedCommand → List TimedCommand
due_by time [] = []
due_by time (c ∷ rest) = if nat_le c.time time then c ∷ due_by time rest else []

-- a process and an address, each after a blank
abbrev pub entry_place_text : ℕ → ℕ → List ℕ
entry_place_text p address = codes " " ++ decimal p ++ codes " " ++ hex8 address

-- the line of a command that is carried out at a time
abbrev pub command_line : ℕ → TimedCommand → List ℕ
command_line time c = decimal time ++ codes " command " ++ decimal c.number ++ codes " " ++ command_words c.command ++ codes "\n"

-- those of commands in their order
abbrev pub commands_text : ℕ → List TimedCommand → List ℕ
commands_text time [] = []
commands_text time (c ∷ rest) = command_line time c ++ commands_text time rest

-- the line of a character that came in
abbrev pub key_line : ℕ → ℕ → ℕ → List ℕ
key_line time line byte = decimal time ++ codes " key " ++ decimal line ++ codes " " ++ hex2 byte ++ codes "\n"

-- those of characters on a line
abbrev pub characters_line_text : ℕ → ℕ → List ℕ → List ℕ
characters_line_text time line [] = []
characters_line_text time line (byte ∷ rest) = key_line time line byte ++ characters_line_text time line rest

-- the characters that came to queues of these lengths, line by line from this one on
abbrev pub keys_text : ℕ → ℕ → List ℕ → List (List ℕ) → List ℕ
keys_text time line [] queues = []
keys_text time line (n ∷ lengths) [] = []
keys_text time line (n ∷ lengths) (queue ∷ queues) = characters_line_text time line (drop n queue) ++ keys_text time (line + 1) lengths queues

-- how many they are
abbrev pub count_keys : List ℕ → List (List ℕ) → ℕ
count_keys [] queues = 0
count_keys (n ∷ lengths) [] = 0
count_keys (n ∷ lengths) (queue ∷ queues) = (length queue - n) + count_keys lengths queues

-- and to each of the queues
abbrev pub taken_by : List ℕ → List (List ℕ) → List ℕ
taken_by [] queues = []
taken_by (n ∷ lengths) [] = []
taken_by (n ∷ lengths) (queue ∷ queues) = (length queue - n) ∷ taken_by lengths queues

-- how many characters were lost
abbrev pub lost_text : ℕ → ℕ → List ℕ
lost_text time zero = []
lost_text time (suc n) = decimal time ++ codes " lost " ++ decimal (suc n) ++ codes "\n"

-- what a boundary did: commands, what of them was refused, and characters
abbrev pub boundary_text : View → Looked → Found → List ℕ
boundary_text v b f =
    if shows_rest v then
    commands_text f.time b.due ++ drop b.logged f.log ++ keys_text f.time 0 b.queued f.queues
    ++ lost_text f.time (b.characters - f.characters - count_keys b.queued f.queues)
    else []
