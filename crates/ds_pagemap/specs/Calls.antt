-- What calls and commands do.
use Rattle.std.specs.Prelude.{ℕ, ◌+◌, ◌-◌, ◌^◌, not, if◌then◌else◌, List, [], ◌∷◌, ◌++◌, slice_set, slice_index_or, Option, Some, None, Result, Ok, Err}
use Rattle.ds_procs.specs.declared.process.Standing.TheVariants.{Waiting, Ended}
use Rattle.ds_log.specs.declared.line.Line.TheVariants.{Denial, Refused}
use Rattle.ds_log.specs.declared.line.Denied.TheVariants.{Give}
use Rattle.ds_policy.specs.declared.access.Rule.TheVariants.{Number}
use Rattle.ds_policy.specs.declared.grant.Grant.{Grant}
use Rattle.ds_policy.specs.Pages.{entry_at, page_address}
use Rattle.ds_policy.specs.Grants.{PageState, give, take, drop_own, grant, narrow, revoke, drop_by_command, end_process}
use Rattle.ds_pagemap.specs.Machine.{State, process_of, with_process, lives, is_parked, logged, made_ready, made_unready}
use Rattle.ds_policy.specs.declared.command.Command.{Command}
use Rattle.ds_policy.specs.declared.command.Command.TheVariants as command
use Rattle.ds_procs.specs.declared.call.Call.{Call}
use Rattle.ds_procs.specs.declared.call.Call.TheVariants as call

-- other pages and another table
abbrev pub with_pages : State → PageState → State
with_pages m s = record m { memory = s }

-- all its entries go, and it never runs again
abbrev pub ended : State → ℕ → State
ended m p = with_pages (made_unready m p Ended) (end_process m.memory p)

-- a command's refusal in the log
abbrev pub refuse_command : State → ℕ → ℕ → State
refuse_command m k number = logged m (Refused m.time k number)

-- what a command left of pages and table, or its refusal in the log
abbrev pub or_logged : State → ℕ → Result PageState ℕ → State
or_logged m k (Ok s) = with_pages m s
or_logged m k (Err number) = refuse_command m k number

-- command number k
abbrev pub after_command : State → ℕ → Command → State
after_command m k (command.Grant p address page right give) = or_logged m k (grant (lives m) m.memory p address page right give (1000 + k))
after_command m k (command.Narrow p address) = or_logged m k (narrow (lives m) m.memory p address)
after_command m k (command.Revoke p address) = or_logged m k (revoke (lives m) m.memory p address (1000 + k))
after_command m k (command.Drop p address) = or_logged m k (drop_by_command (lives m) m.memory p address)
after_command m k (command.Resume p) =
    if not (lives m p) then refuse_command m k 12
    else if not (is_parked (process_of m p).standing) then refuse_command m k 15
    else made_ready m p
after_command m k (command.Stop p) = if not (lives m p) then refuse_command m k 12 else ended m p

-- the answer to a call, in register 2
abbrev pub answered : State → ℕ → ℕ → State
answered m p value =
    let q = process_of m p in
    with_process m p (record q { registers = record q.registers { general = slice_set q.registers.general 2 value } })

-- what a call left of pages and table, or its refusal in register 2
abbrev pub or_number : State → ℕ → Result PageState ℕ → State
or_number m p (Ok s) = answered (with_pages m s) p 0
or_number m p (Err number) = answered m p number

-- the rule of an entry, 0 where there is none
abbrev pub rule_number_of : Option Grant → ℕ
rule_number_of None = 0
rule_number_of (Some g) = g.rule

-- a refused give is logged too
abbrev pub or_denied : State → ℕ → ℕ → ℕ → Result PageState ℕ → State
or_denied m p pc address (Ok s) = answered (with_pages m s) p 0
or_denied m p pc address (Err number) =
    logged (answered m p number) (Denial m.time p pc Give address (Number (rule_number_of (entry_at m.memory.table p (page_address address)))) 8)

-- the characters that wait on a process's line
abbrev pub queue_of : State → ℕ → List ℕ
queue_of m p = slice_index_or m.queues (process_of m p).line []

-- a character written on the process's line
abbrev pub after_put : State → ℕ → ℕ → State
after_put m p byte =
    let l = (process_of m p).line in
    record m { consoles = slice_set m.consoles l (slice_index_or m.consoles l [] ++ byte ∷ []) }

-- the oldest character answered and taken, or all ones where there is none
abbrev pub after_get : State → ℕ → List ℕ → State
after_get m p [] = answered m p (2 ^ 32 - 1)
after_get m p (byte ∷ rest) = answered (record m { queues = slice_set m.queues (process_of m p).line rest }) p byte

-- waiting, unless a character is there
abbrev pub after_wait : State → ℕ → List ℕ → State
after_wait m p [] = made_unready m p Waiting
after_wait m p (byte ∷ rest) = m

-- the call of a process that stands after it; pc is the call's own address
abbrev pub served : State → ℕ → ℕ → Call → State
served m p pc call.Exit = ended m p
served m p pc (call.Put byte) = answered (after_put m p byte) p 0
served m p pc call.Get = after_get m p (queue_of m p)
served m p pc call.Yield = made_ready (answered m p 0) p
served m p pc call.Time = answered m p m.time
served m p pc call.Own = answered m p p
served m p pc (call.Give address receiver to mode) = or_denied m p pc address (give (lives m) m.memory p address receiver to mode)
served m p pc (call.Take process address) = or_number m p (take (lives m) m.memory p process address)
served m p pc (call.Drop address) = or_number m p (drop_own m.memory p address)
served m p pc call.Wait = after_wait (answered m p 0) p (queue_of m p)
served m p pc call.Unknown = answered m p (2 ^ 32 - 1)
