-- The words for each reason of a denial, and for each refusal of a command.
use Rattle.std.specs.Prelude.{codes, ℕ, ◌==◌, if◌then◌else◌, List}
use Rattle.ds_log_reasons.specs.declared.reason.Reason.{Reason}
use Rattle.ds_log_reasons.specs.declared.reason.Reason.TheVariants as reason

-- what a reason means
unfoldable pub reason_words : Reason → List ℕ
reason_words reason.NoEntry = codes "nothing is granted at this page"
reason_words reason.NoCode = codes "nothing is granted at this page"
reason_words reason.Forbidden = codes "it grants nothing"
reason_words reason.Ended = codes "it granted the page, and its `until` has come"
reason_words reason.Revoked = codes "it took the right away"
reason_words reason.ReadAlone = codes "it grants reading alone"
reason_words reason.Narrowed = codes "it granted writing, and a `narrow` left reading alone"
reason_words reason.GrantedToRead = codes "the page may be read alone"
reason_words reason.GivenToRead = codes "it was given for reading, or narrowed"
reason_words reason.Unaligned = codes "the address is not a multiple of the size"
reason_words reason.Kernel = codes "no process may use an address from 80000000 on"
reason_words reason.CallInSlot = codes "8: a call may not be in the slot of a branch"
reason_words reason.Breakpoint = codes "9: a `break` parks its process"
reason_words reason.NoInstruction = codes "10: the word is no instruction of the processor"
reason_words reason.BranchInSlot = codes "10: a branch may not be in the slot of a branch"
reason_words reason.Coprocessor = codes "11: a process may use no coprocessor"
reason_words reason.Overflow = codes "12: the result does not fit into 32 bits with a sign"
reason_words reason.NoReceiver = codes "12: there is no process of the number in register 5, or it has ended"
reason_words reason.NoPage = codes "13: an address is not a multiple of 4096, or is 80000000 or more"
reason_words reason.NothingToGive = codes "14: there is no right there to give"
reason_words reason.MayNotGive = codes "15: the process may not give it on"
reason_words reason.WrongMode = codes "15: there is no such mode, or it asks to write what may only be read"
reason_words reason.IsTaken = codes "16: the receiver has an entry at its address already"
reason_words reason.IsFull = codes "17: the receiver has 256 entries"
reason_words reason.FifthRegion = codes "11: the receiver's address would be in a fifth region of 4 MiB"
reason_words reason.NoCopy = codes "18: no page is left for a copy"
reason_words reason.Unknown = codes "nothing more is known of it"

-- how it is mended
unfoldable pub mend_words : Reason → List ℕ
mend_words reason.NoEntry = codes "add a `[[rule]]` for this process and page address, or correct the address"
mend_words reason.NoCode = codes "end the program by `exit` before it comes here, correct the jump, or add a `[[rule]]` for this page"
mend_words reason.Forbidden = codes "write another `right` in that rule, or correct the address"
mend_words reason.Ended = codes "write a later `until` in that rule, or leave it out"
mend_words reason.Revoked = codes "leave that command out, or grant the page anew by a later command"
mend_words reason.ReadAlone = codes "write the right `write` there, or store to another page"
mend_words reason.Narrowed = codes "leave the `narrow` out, or store before it comes"
mend_words reason.GrantedToRead = codes "write the right `write` in that command, leave out a `narrow`, or store to another page"
mend_words reason.GivenToRead = codes "give it with mode 2 in register 7, leave out a `narrow`, or store to another page"
mend_words reason.Unaligned = codes "correct the address: words are at multiples of 4, and halves at multiples of 2"
mend_words reason.Kernel = codes "correct the address: a process has those below 80000000"
mend_words reason.CallInSlot = codes "move the `syscall` away, and put a `nop` after the branch"
mend_words reason.Breakpoint = codes "leave the `break` out"
mend_words reason.NoInstruction = codes "end the program by `exit` before it runs into its data, or correct the target of the jump"
mend_words reason.BranchInSlot = codes "put a `nop` between the two"
mend_words reason.Coprocessor = codes "leave the instruction out: the system's registers are the monitor's, and there is no floating point"
mend_words reason.Overflow = codes "write `addu`, `addiu` or `subu`, which wrap around, or use smaller numbers"
mend_words reason.NoReceiver = codes "write the number of a process that runs into register 5, or give before it ends"
mend_words reason.NoPage = codes "write addresses of pages below 80000000 into registers 4 and 6"
mend_words reason.NothingToGive = codes "correct the address in register 4, or give before the right goes"
mend_words reason.MayNotGive = codes "write `give = true` in that rule, or `give` after that `grant`"
mend_words reason.WrongMode = codes "write 1, 2 or 3 into register 7; for 2 the giver needs the right `write`"
mend_words reason.IsTaken = codes "write another address into register 6, or let the receiver `drop` that entry before"
mend_words reason.IsFull = codes "let the receiver `drop` one before"
mend_words reason.FifthRegion = codes "write an address near one that the receiver has into register 6"
mend_words reason.NoCopy = codes "write a larger `frames` in the policy, or share the page by mode 1 or 2"
mend_words reason.Unknown = codes "nothing can be told"

-- what the number of a command's refusal means
unfoldable pub command_words : ℕ → List ℕ
command_words number =
    if number == 11 then codes "the address would be in a fifth region of 4 MiB"
    else if number == 12 then codes "there is no such process, or it has ended"
    else if number == 13 then codes "the address is not a multiple of 4096, or is 80000000 or more"
    else if number == 14 then codes "there is no entry at the address, or its right is none"
    else if number == 15 then codes "the process is not parked"
    else if number == 16 then codes "an entry with a right stands there already"
    else if number == 17 then codes "the process has 256 entries"
    else codes "nothing more is known of it"

-- how it is mended
unfoldable pub command_mend : ℕ → List ℕ
command_mend number =
    if number == 11 then codes "use an address near one that the process has"
    else if number == 12 then codes "name a process that runs still, or let the command come earlier"
    else if number == 13 then codes "write the address of a page, below 80000000"
    else if number == 14 then codes "write the address of an entry that the process has at that time"
    else if number == 15 then codes "let the command come after the process is parked"
    else if number == 16 then codes "let a `drop` of that address come before"
    else if number == 17 then codes "let a `drop` come before"
    else codes "nothing can be told"
