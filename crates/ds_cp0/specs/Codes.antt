-- The causes of exceptions by their numbers (Kane and Heinrich, chapter 5).
use Rattle.std.specs.Prelude.{ℕ, Bool, ◌&&◌, nat_le}
use Rattle.ds_cp0.specs.declared.exception.ExceptionCode.{ExceptionCode}
use Rattle.ds_cp0.specs.declared.exception.ExceptionCode.TheVariants.{Interrupt, Modification, LoadMiss, StoreMiss, LoadAddress, StoreAddress, FetchBus, DataBus, SystemCall, Breakpoint, ReservedInstruction, CoprocessorUnusable, Overflow}

-- the number that Cause shows
abbrev pub code_number : ExceptionCode → ℕ
code_number Interrupt = 0
code_number Modification = 1
code_number LoadMiss = 2
code_number StoreMiss = 3
code_number LoadAddress = 4
code_number StoreAddress = 5
code_number FetchBus = 6
code_number DataBus = 7
code_number SystemCall = 8
code_number Breakpoint = 9
code_number ReservedInstruction = 10
code_number CoprocessorUnusable = 11
code_number Overflow = 12

-- whether the buffer refused the access
abbrev pub is_translation : ExceptionCode → Bool
is_translation code = nat_le 1 (code_number code) && nat_le (code_number code) 3
