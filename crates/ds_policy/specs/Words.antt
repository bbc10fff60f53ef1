-- The words of rights and of commands.
use Rattle.std.specs.Prelude.{codes, decimal, ℕ, List, [], ◌++◌, Option, None, Some}
use Rattle.ds_text.specs.Digits.{hex8}
use Rattle.ds_text.specs.Words.{none_word, read_word, write_word, grant_word, narrow_word, revoke_word, drop_word, resume_word, stop_word}
use Rattle.ds_policy.specs.declared.command.Command.{Command}
use Rattle.ds_policy.specs.declared.command.Command.TheVariants.{Grant, Narrow, Revoke, Drop, Resume, Stop}
use Rattle.ds_policy.specs.declared.grant.Right.{Right}
use Rattle.ds_policy.specs.declared.grant.Right.TheVariants.{Nothing, Read, Write}

-- the word for a right
abbrev pub right_word : Right → List ℕ
right_word Nothing = none_word
right_word Read = read_word
right_word Write = write_word

-- the word with which a command begins
abbrev pub verb_of : Command → List ℕ
verb_of (Grant process address page right give) = grant_word
verb_of (Narrow process address) = narrow_word
verb_of (Revoke process address) = revoke_word
verb_of (Drop process address) = drop_word
verb_of (Resume process) = resume_word
verb_of (Stop process) = stop_word

-- the process that a command names
abbrev pub process_of_command : Command → ℕ
process_of_command (Grant process address page right give) = process
process_of_command (Narrow process address) = process
process_of_command (Revoke process address) = process
process_of_command (Drop process address) = process
process_of_command (Resume process) = process
process_of_command (Stop process) = process

-- the address of the entry that a command names, where it names one
abbrev pub address_of_command : Command → Option ℕ
address_of_command (Grant process address page right give) = Some address
address_of_command (Narrow process address) = Some address
address_of_command (Revoke process address) = Some address
address_of_command (Drop process address) = Some address
address_of_command (Resume process) = None
address_of_command (Stop process) = None

-- an address after a blank, where there is one
abbrev pub after_blank : Option ℕ → List ℕ
after_blank None = []
after_blank (Some address) = codes " " ++ hex8 address

-- a command with what it names: its verb, its process and perhaps an address
abbrev pub command_words : Command → List ℕ
command_words c = verb_of c ++ codes " " ++ decimal (process_of_command c) ++ after_blank (address_of_command c)
