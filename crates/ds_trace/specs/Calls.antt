-- The words of a call.
use Rattle.std.specs.Prelude.{ℕ, Bool, true, false, ◌&&◌, ◌==◌, if◌then◌else◌, codes, decimal, List, [], ◌++◌, Option, Some, None}
use Rattle.ds_text.specs.Digits.{hex2, hex8}
use Rattle.ds_text.specs.Words.{read_word, write_word}
use Rattle.ds_procs.specs.declared.call.Call.{Call}
use Rattle.ds_procs.specs.declared.call.Call.TheVariants as call

-- how a page is given
abbrev pub mode_text : ℕ → List ℕ
mode_text mode =
    if mode == 1 then read_word else
    if mode == 2 then write_word else
    if mode == 3 then codes "copy" else decimal mode

-- a call with its arguments
abbrev pub words_of_call : Call → List ℕ
words_of_call call.Exit = codes "exit"
words_of_call (call.Put byte) = codes "put " ++ hex2 byte
words_of_call call.Get = codes "get"
words_of_call call.Yield = codes "yield"
words_of_call call.Time = codes "time"
words_of_call call.Own = codes "self"
words_of_call (call.Give address receiver to mode) =
    codes "give " ++ hex8 address ++ codes " " ++ decimal receiver ++ codes " " ++ hex8 to ++ codes " " ++ mode_text mode
words_of_call (call.Take process address) = codes "take " ++ decimal process ++ codes " " ++ hex8 address
words_of_call (call.Drop address) = codes "drop " ++ hex8 address
words_of_call call.Wait = codes "wait"
words_of_call call.Unknown = codes "unknown"

-- the call of a unit, if it is one
abbrev pub call_text : Option Call → List ℕ
call_text None = []
call_text (Some c) = codes "  " ++ words_of_call c

-- whether a call is one whose number is no call's
abbrev pub is_unknown : Option Call → Bool
is_unknown (Some call.Unknown) = true
is_unknown c = false

-- that a number is no call's
abbrev pub unknown_text : ℕ → List ℕ
unknown_text number = codes "  unknown " ++ decimal number ++ codes ": no call has this number"

-- the call of a unit, by whether it is told that a number is no call's, and by that number
abbrev pub call_told : Bool → ℕ → Option Call → List ℕ
call_told told number c = if told && is_unknown c then unknown_text number else call_text c

-- the name of a refusal by its number, after a blank
abbrev pub refusal_text : ℕ → List ℕ
refusal_text n =
    if n == 11 then codes " Regions" else
    if n == 12 then codes " NoProcess" else
    if n == 13 then codes " NotPage" else
    if n == 14 then codes " NoGrant" else
    if n == 15 then codes " NotAllowed" else
    if n == 16 then codes " Taken" else
    if n == 17 then codes " TableFull" else
    if n == 18 then codes " NoFrames" else
    if n == 19 then codes " NotGiven" else []

-- the refusal of a call about grants, where its answer is one
abbrev pub call_answer_text : Option Call → ℕ → List ℕ
call_answer_text (Some (call.Give address receiver to mode)) n = refusal_text n
call_answer_text (Some (call.Take process address)) n = refusal_text n
call_answer_text (Some (call.Drop address)) n = refusal_text n
call_answer_text other n = []
