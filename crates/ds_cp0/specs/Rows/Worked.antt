-- Worked rows, by computation.
use Rattle.std.specs.Prelude.{◌≡◌, ◌/◌, ◌^◌, [], ◌∷◌, false, true, Some, None, refl}
use Rattle.ds_cp0.specs.declared.exception.Exception.{Exception}
use Rattle.ds_cp0.specs.declared.exception.ExceptionCode.TheVariants.{LoadMiss, SystemCall}
use Rattle.ds_cp0.specs.System.{System, at_start, entered, returned, after_write, reads, vector}

-- a system call, and a load from 00410000 that no entry matches
abbrev call : Exception
call = record { code = SystemCall; pc = 0x400000; slot = false; unit = 0; addr = None; miss = false }

-- a load of 00410000 that no entry matches
abbrev missed : Exception
missed = record { code = LoadMiss; pc = 0x400000; slot = false; unit = 0; addr = Some 0x410000; miss = true }

-- the registers in user mode, with interrupts let through
abbrev in_user_mode : System
in_user_mode = after_write at_start 12 0x03

-- two exceptions and two returns
pub modes : reads (entered in_user_mode call) 12 ∷ reads (entered (entered in_user_mode call) call) 12 ∷ reads (returned (entered (entered in_user_mode call) call)) 12 ∷ reads (returned (returned (entered (entered in_user_mode call) call))) 12 ∷ [] ≡ 0x0C ∷ 0x30 ∷ 0x3C ∷ 0x3F ∷ []
modes = refl

-- the registers after that miss
abbrev after_miss : System
after_miss = entered (after_write at_start 4 0xC0000000) missed

-- a miss with PTEBase C0000000: Context, BadVAddr, the page of EntryHi and the vector
pub miss : reads after_miss 4 ∷ reads after_miss 8 ∷ reads after_miss 10 / 2 ^ 12 ∷ vector missed ∷ [] ≡ 0xC0001040 ∷ 0x410000 ∷ 0x410 ∷ 0x80000000 ∷ []
miss = refl
