-- The system coprocessor's registers, and what exceptions and writes make of them (Kane and Heinrich, chapters 4 and 5).
use Rattle.std.specs.Prelude.{ℕ, ◌+◌, ◌-◌, ◌*◌, ◌/◌, ◌%◌, ◌^◌, Bool, false, ◌&&◌, not, nat_lt, ◌==◌, if◌then◌else◌, Option, Some, None, bit_and}
use Rattle.ds_word.specs.Word.{word, bits, bit}
use Rattle.ds_cp0.specs.declared.exception.Exception.{Exception}
use Rattle.ds_cp0.specs.Codes.{code_number, is_translation}

-- each register as a word; Random, and the device bits of Cause, are not kept here
pub record System : Type 0 where
  pub index : ℕ
  pub entry_lo : ℕ
  pub context : ℕ
  pub bad_vaddr : ℕ
  pub entry_hi : ℕ
  pub status : ℕ
  pub cause : ℕ
  pub epc : ℕ

-- all zero
abbrev pub at_start : System
at_start = record { index = 0; entry_lo = 0; context = 0; bad_vaddr = 0; entry_hi = 0; status = 0; cause = 0; epc = 0 }

-- w with so many bits from lo on replaced
abbrev pub with_field : ℕ → ℕ → ℕ → ℕ → ℕ
with_field w lo width v = w / 2 ^ (lo + width) * 2 ^ (lo + width) + v % 2 ^ width * 2 ^ lo + w % 2 ^ lo

-- Status with kernel mode and interrupts off pushed on its three pairs
abbrev pub pushed : ℕ → ℕ
pushed status = with_field status 0 6 (bits status 0 4 * 4)

-- Status with its pairs popped, the oldest staying
abbrev pub popped : ℕ → ℕ
popped status = with_field status 0 4 (bits status 2 4)

-- whether there is an address, and it lies in the user's half
abbrev pub is_kuseg : Option ℕ → Bool
is_kuseg None = false
is_kuseg (Some a) = nat_lt a (2 ^ 31)

-- where the processor goes on
abbrev pub vector : Exception → ℕ
vector e = if e.miss && is_kuseg e.addr then 0x80000000 else 0x80000080

-- the registers with the address that was refused; only the buffer's refusals show its page
abbrev pub with_address : System → Exception → Option ℕ → System
with_address c e None = c
with_address c e (Some a) =
    if is_translation e.code
    then record c { bad_vaddr = a; context = with_field c.context 2 19 (bits a 12 19); entry_hi = with_field c.entry_hi 12 20 (bits a 12 20) }
    else record c { bad_vaddr = a }

-- Cause after an exception: BD, CE, the software's requests, the code
abbrev pub cause_after : ℕ → Exception → ℕ
cause_after cause e =
    let unit = if code_number e.code == 11 then e.unit % 4 else bits cause 28 2 in
    bit 31 e.slot + unit * 2 ^ 28 + bits cause 8 2 * 2 ^ 8 + code_number e.code * 2 ^ 2

-- the place at which the program goes on later: in a slot its branch
abbrev pub epc_of : Exception → ℕ
epc_of e = if e.slot then word (e.pc + (2 ^ 32 - 4)) else e.pc

-- the registers after an exception
abbrev pub entered : System → Exception → System
entered c e = with_address (record c { status = pushed c.status; cause = cause_after c.cause e; epc = epc_of e }) e e.addr

-- the registers after a return from an exception
abbrev pub returned : System → System
returned c = record c { status = popped c.status }

-- what a register reads as
abbrev pub reads : System → ℕ → ℕ
reads c n =
    if n == 0 then c.index else
    if n == 2 then c.entry_lo else
    if n == 4 then c.context else
    if n == 8 then c.bad_vaddr else
    if n == 10 then c.entry_hi else
    if n == 12 then c.status else
    if n == 13 then c.cause else
    if n == 14 then c.epc else
    if n == 15 then 0x230 else 0

-- Index as it is written: P and the number
abbrev pub writable_index : ℕ → ℕ
writable_index v = bits v 31 1 * 2 ^ 31 + bits v 8 6 * 2 ^ 8

-- Status as it is written: usable coprocessors, SwC and IsC, interrupt mask, the three pairs
abbrev pub writable_status : ℕ → ℕ
writable_status v = bits v 28 4 * 2 ^ 28 + bits v 16 2 * 2 ^ 16 + bits v 8 8 * 2 ^ 8 + bits v 0 6

-- the registers after a write, which changes only the bits that can be written
abbrev pub after_write : System → ℕ → ℕ → System
after_write c n v =
    if n == 0 then record c { index = writable_index v } else
    if n == 2 then record c { entry_lo = bits v 8 24 * 2 ^ 8 } else
    if n == 4 then record c { context = with_field c.context 21 11 (bits v 21 11) } else
    if n == 10 then record c { entry_hi = bits v 6 26 * 2 ^ 6 } else
    if n == 12 then record c { status = writable_status v } else
    if n == 13 then record c { cause = with_field c.cause 8 2 (bits v 8 2) } else c

-- the address space
abbrev pub asid_of : System → ℕ
asid_of c = bits c.entry_hi 6 6

-- whether the processor is in user mode
abbrev pub is_user : System → Bool
is_user c = bits c.status 1 1 == 1

-- whether interrupts are on and an enabled one is asked for, by software or by a device
abbrev pub is_pending : System → Bool → Bool → Bool
is_pending c ip2 ip3 = (bits c.status 0 1 == 1) && not (bit_and (bits c.status 8 8) (bits c.cause 8 2 + bit 2 ip2 + bit 3 ip3) == 0)
