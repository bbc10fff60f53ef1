-- What a line of the log says.
use Rattle.std.specs.Prelude.{ℕ, ◌-◌, ◌^◌, ◌==◌, bytes_eq, codes, if◌then◌else◌, List, [], ◌∷◌, Option, Some, None}
use Rattle.ds_word.specs.Digits.{digits_from}
use Rattle.ds_word.specs.OptionBinding.{◌>>=◌}
use Rattle.ds_packets.specs.Words.{after_mark, before}
use Rattle.ds_policy.specs.declared.access.Rule.{Rule}
use Rattle.ds_policy.specs.declared.access.Rule.TheVariants.{Number, K, A, I}
use Rattle.ds_log.specs.declared.line.Line.{Line}
use Rattle.ds_log.specs.declared.line.Line.TheVariants.{Denial, Refused}
use Rattle.ds_log.specs.declared.line.Denied.{Denied}
use Rattle.ds_log.specs.declared.line.Denied.TheVariants as denied

-- the number that digits write, where 32 bits hold it
abbrev pub number : ℕ → List ℕ → Option ℕ
number base digits = digits_from base (2 ^ 32 - 1) 0 digits

-- what was denied, by the log's word for it
abbrev pub kind_of : List ℕ → Option Denied
kind_of word =
    if bytes_eq word (codes "fetch") then Some denied.Fetch
    else if bytes_eq word (codes "load") then Some denied.Load
    else if bytes_eq word (codes "store") then Some denied.Store
    else if bytes_eq word (codes "exec") then Some denied.Exec
    else if bytes_eq word (codes "give") then Some denied.Give
    else None

-- what denied it, by a letter and the digits after it
abbrev pub rule_by : ℕ → List ℕ → Option Rule
rule_by letter digits =
    if letter == 114 then (number 10 digits >>= λ n. Some (Number n))
    else if letter == 75 then Some K
    else if letter == 65 then Some A
    else if letter == 73 then Some I
    else None

-- by the log's word for it
abbrev pub log_rule_of : List ℕ → Option Rule
log_rule_of [] = None
log_rule_of (letter ∷ digits) = rule_by letter digits

-- a denial, by its time, its process, and what comes after these: its address, what was denied, the address of that, by which rule, and the code
abbrev pub denial_of : ℕ → ℕ → List ℕ → Option Line
denial_of time process rest =
    number 16 (before 32 rest) >>= λ pc.
    kind_of (before 32 (after_mark 32 rest)) >>= λ kind.
    number 16 (before 32 (after_mark 32 (after_mark 32 rest))) >>= λ addr.
    log_rule_of (before 32 (after_mark 32 (after_mark 32 (after_mark 32 rest)))) >>= λ rule.
    number 10 (after_mark 32 (after_mark 32 (after_mark 32 (after_mark 32 rest)))) >>= λ code.
    Some (Denial time process pc kind addr rule code)

-- a refused command, by its time, and what comes after `command`: its number, `refused`, and the refusal's number
abbrev pub refused_of : ℕ → List ℕ → Option Line
refused_of time rest =
    number 10 (before 32 rest) >>= λ command.
    number 10 (after_mark 32 (after_mark 32 rest)) >>= λ number.
    Some (Refused time command number)

-- by the word after its time
abbrev pub by_second : ℕ → List ℕ → List ℕ → Option Line
by_second time second rest =
    if bytes_eq second (codes "command") then refused_of time rest
    else (number 10 second >>= λ process. denial_of time process rest)

-- the line of the log that a text without its line feed says
abbrev pub log_line_of : List ℕ → Option Line
log_line_of text = number 10 (before 32 text) >>= λ time. by_second time (before 32 (after_mark 32 text)) (after_mark 32 (after_mark 32 text))
