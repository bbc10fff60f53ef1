-- What the coprocessor's registers tell of an exception, and of the access that was refused by it.
use Rattle.std.specs.Prelude.{ℕ, ◌+◌, Bool, ◌==◌, ◌&&◌, ◌||◌, nat_le, if◌then◌else◌, unwrap_or}
use Rattle.ds_word.specs.Word.{word, bits}
use Rattle.ds_isa.specs.declared.instr.Size.{Size}
use Rattle.ds_isa.specs.declared.instr.Size.TheVariants.{Byte, Word}
use Rattle.ds_isa.specs.declared.instr.Kind.{Kind}
use Rattle.ds_isa.specs.declared.instr.Kind.TheVariants.{Fetch, Load, Store}
use Rattle.ds_cp0.specs.System.{System}
use Rattle.ds_word.specs.Bytes.{word_at}
use Rattle.ds_isa.specs.Access.{access_size}
use Rattle.ds_isa.specs.Instruction.{instruction_of}
use Rattle.ds_policy.specs.declared.access.Verdict.{Verdict}
use Rattle.ds_policy.specs.declared.access.Verdict.TheVariants.{Allowed, Denied}
use Rattle.ds_policy.specs.Pages.{Pages, decide, bytes_of}
use Rattle.ds_policy.specs.Grants.{PageState}
use Rattle.ds_refinement.specs.declared.cause.Cause.{Cause}
use Rattle.ds_refinement.specs.declared.cause.Cause.TheVariants as cause

-- the exception's code, in Cause
abbrev pub code_in : System → ℕ
code_in s = bits s.cause 2 4

-- whether the instruction stood in the slot of a branch: BD of Cause
abbrev pub is_delayed : System → Bool
is_delayed s = bits s.cause 31 1 == 1

-- the address of the instruction itself, which in a slot stands after EPC
abbrev pub own_in : System → ℕ
own_in s = if is_delayed s then word (s.epc + 4) else s.epc

-- whether the code is one of stores alone: Mod, TLBS, AdES
abbrev pub is_store_code : ℕ → Bool
is_store_code n = (n == 1) || ((n == 3) || (n == 5))

-- the kind of access: a store by the code; else a fetch at its own address, a load elsewhere
abbrev pub kind_told : System → Kind
kind_told s =
    if is_store_code (code_in s) then Store
    else if s.bad_vaddr == own_in s then Fetch
    else Load

-- the size to ask the table for: up to code 3 any will do; then a fetch's or the instruction's
abbrev pub size_told : System → Size → Size
size_told s size =
    if nat_le (code_in s) 3 then Byte
    else if is_store_code (code_in s) then size
    else if s.bad_vaddr == own_in s then Word
    else size

-- the size that the instruction on a page asks for; a word where it asks for none, or the table lets none be fetched
abbrev pub size_on : Pages → Verdict → Size
size_on pages (Allowed page offset) = unwrap_or (access_size (instruction_of (word_at (bytes_of pages page) offset))) Word
size_on pages (Denied rule code) = Word

-- the size that the instruction of a process at an address asks for
abbrev pub size_at : PageState → ℕ → ℕ → Size
size_at s p address = size_on s.pages (decide s.table p Fetch Word address)

-- why the processor left the program of a process: code 8 is a call, 1 to 5 are accesses, all others faults
abbrev pub told : System → PageState → ℕ → Cause
told s pages p =
    if code_in s == 8 then cause.Call
    else if nat_le 1 (code_in s) && nat_le (code_in s) 5
    then cause.Access (record { kind = kind_told s; size = size_told s (size_at pages p (own_in s)) })
    else cause.Fault (code_in s)
