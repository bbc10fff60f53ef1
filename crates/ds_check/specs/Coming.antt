-- What comes during a run, as a reader is told it: ends of rights and commands, and characters between them.
use Rattle.std.specs.Prelude.{codes, decimal, ℕ, ◌+◌, Bool, true, false, ◌&&◌, ◌==◌, nat_le, if◌then◌else◌, List, [], ◌∷◌, ◌++◌, take, drop, Option, None, Some}
use Rattle.std.specs.List.{flat_map, slice_get, prefix_len}
use Rattle.ds_policy.specs.declared.command.Command.{Command}
use Rattle.ds_policy.specs.declared.command.Command.TheVariants.{Grant, Narrow, Revoke, Drop, Resume, Stop}
use Rattle.ds_policy.specs.declared.command.TimedCommand.{TimedCommand}
use Rattle.ds_policy.specs.declared.command.Character.{Character}
use Rattle.ds_policy.specs.Words.{command_words, right_word}
use Rattle.ds_policy.specs.declared.policy.PolicyPage.{PolicyPage}
use Rattle.ds_policy.specs.Value.{PolicyValue, InputValue}
use Rattle.ds_text.specs.Digits.{hex2, hex8}
use Rattle.ds_check.specs.declared.due.RuleEnd.{RuleEnd}
use Rattle.ds_check.specs.declared.due.Due.{Due}
use Rattle.ds_check.specs.declared.due.Due.TheVariants as due
use Rattle.ds_check.specs.Due.{time_of, due_of}

-- the name of a page, where there is one
abbrev pub name_text : Option PolicyPage → List ℕ
name_text None = []
name_text (Some p) = p.name

-- whether the process may give it on
abbrev pub may_give_text : Bool → List ℕ
may_give_text true = codes " give"
may_give_text false = []

-- what is granted by a command that grants, where these are the policy's pages
abbrev pub granted_words : List PolicyPage → Command → List ℕ
granted_words pages (Grant process address page right give) =
    codes " " ++ name_text (slice_get pages page) ++ codes " " ++ right_word right ++ may_give_text give
granted_words pages (Narrow process address) = []
granted_words pages (Revoke process address) = []
granted_words pages (Drop process address) = []
granted_words pages (Resume process) = []
granted_words pages (Stop process) = []

-- a command in the words of an input
abbrev pub words_text : List PolicyPage → Command → List ℕ
words_text pages c = command_words c ++ granted_words pages c

-- the line of a command: its time, its number, the rule that the log names for it, and its words
abbrev pub command_text : List PolicyPage → TimedCommand → List ℕ
command_text pages k =
    decimal k.time ++ codes " command " ++ decimal k.number ++ codes ", rule " ++ decimal (1000 + k.number) ++ codes ": "
    ++ words_text pages k.command ++ codes "\n"

-- the page of this number, if there is one
abbrev pub page_at : List PolicyPage → Option ℕ → Option PolicyPage
page_at pages None = None
page_at pages (Some n) = slice_get pages n

-- what a process loses, and the end of the line
abbrev pub loss_text : List PolicyPage → RuleEnd → List ℕ
loss_text pages e =
    codes ": process " ++ decimal e.process ++ codes " loses " ++ hex8 e.address ++ codes " " ++ name_text (page_at pages e.page) ++ codes "\n"

-- the line of an end: its time, its rule, and what the process loses
abbrev pub rule_end_text : List PolicyPage → RuleEnd → List ℕ
rule_end_text pages e = decimal e.time ++ codes " end, rule " ++ decimal e.rule ++ loss_text pages e

-- the line of an end or of a command
abbrev pub due_text : List PolicyPage → Due → List ℕ
due_text pages (due.End e) = rule_end_text pages e
due_text pages (due.Command k) = command_text pages k

-- how many ends and commands come no later
abbrev pub count_due : ℕ → List Due → ℕ
count_due time ks = prefix_len (λ (k : Due). nat_le (time_of k) time) ks

-- the first of the characters of a line: their time, their line, and the character itself
abbrev pub characters_key_text : Character → List ℕ
characters_key_text c = decimal c.time ++ codes " key " ++ decimal c.line ++ codes " " ++ hex2 c.byte

-- a character comes in on the line and at the time of the one before it
abbrev pub comes_with : Option Character → Character → Bool
comes_with None c = false
comes_with (Some b) c = b.time == c.time && b.line == c.line

-- the end of a line of characters
abbrev pub characters_end_text : Option Character → List ℕ
characters_end_text None = []
characters_end_text (Some c) = codes "\n"

-- a character: after those that it comes with, or after the ends and commands that come no later
abbrev pub step_text : List PolicyPage → Option Character → List Due → Character → List ℕ
step_text pages last ks c =
    if comes_with last c then hex2 c.byte
    else characters_end_text last ++ flat_map (due_text pages) (take (count_due c.time ks) ks) ++ characters_key_text c

-- how many ends and commands come before a character, and after the one before it
abbrev pub step_count : Option Character → List Due → Character → ℕ
step_count last ks c = if comes_with last c then 0 else count_due c.time ks

-- characters after one, and ends and commands between them
abbrev pub events_from : List PolicyPage → Option Character → List Due → List Character → List ℕ
events_from pages last ks [] = characters_end_text last ++ flat_map (due_text pages) ks
events_from pages last ks (c ∷ cs) = step_text pages last ks c ++ events_from pages (Some c) (drop (step_count last ks c) ks) cs

-- what comes where a policy is run with an input: at one time ends first, then commands
abbrev pub events_text : PolicyValue → InputValue → List ℕ
events_text p v = events_from p.pages None (due_of p.rules v.commands) v.characters
