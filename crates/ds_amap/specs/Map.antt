-- The address map (Kane and Heinrich, chapter 4).
use Rattle.std.specs.Prelude.{ℕ, ◌+◌, ◌*◌, ◌/◌, ◌%◌, ◌^◌, Bool, true, false, ◌&&◌, not, nat_lt, nat_le, if◌then◌else◌, List, slice_get, Option, Some, None, Result, Ok, Err}
use Rattle.ds_tlb.specs.declared.entry.Entry.{Entry}
use Rattle.ds_tlb.specs.Entries.{find}
use Rattle.ds_isa.specs.declared.instr.Kind.{Kind}
use Rattle.ds_isa.specs.Access.{is_store}
use Rattle.ds_amap.specs.declared.map.Mode.{Mode}
use Rattle.ds_amap.specs.declared.map.Mode.TheVariants.{User, Kernel}
use Rattle.ds_amap.specs.declared.map.Physical.{Physical}
use Rattle.ds_amap.specs.declared.map.Fault.{Fault}
use Rattle.ds_amap.specs.declared.map.Fault.TheVariants.{Address, Refill, Invalid, Modified}

-- it is user mode
abbrev pub is_user : Mode → Bool
is_user User = true
is_user Kernel = false

-- whether the mode may use the address: in user mode the lower half
abbrev pub is_usable : Mode → ℕ → Bool
is_usable mode addr = not (nat_le 0x80000000 addr && is_user mode)

-- whether the address lies in kseg0 or kseg1, which are not mapped
abbrev pub is_direct : ℕ → Bool
is_direct addr = nat_le 0x80000000 addr && nat_lt addr 0xC0000000

-- the physical address of a place
abbrev pub at_physical : ℕ → Physical
at_physical place = record { 0 = place }

-- whether the access is a store to a page that may not be written
abbrev pub is_modified : Entry → Kind → Bool
is_modified e access = is_store access && not e.d

-- the entry's frame, 20 bits, and the place in the page
abbrev pub place : Entry → ℕ → ℕ
place e addr = e.pfn % 2 ^ 20 * 2 ^ 12 + addr % 2 ^ 12

-- what a matching entry answers
abbrev pub through : Entry → Kind → ℕ → Result Physical Fault
through e access addr =
    if not e.v then Err Invalid
    else if is_modified e access then Err Modified
    else Ok (at_physical (place e addr))

-- the same for the entry of a slot
abbrev pub through_slot : Option Entry → Kind → ℕ → Result Physical Fault
through_slot None access addr = Err Refill
through_slot (Some e) access addr = through e access addr

-- the same for the slot that a search found
abbrev pub through_found : List Entry → Option ℕ → Kind → ℕ → Result Physical Fault
through_found entries None access addr = Err Refill
through_found entries (Some slot) access addr = through_slot (slice_get entries slot) access addr

-- what the entries answer
abbrev pub mapped : List Entry → ℕ → Kind → ℕ → Result Physical Fault
mapped entries asid access addr = through_found entries (find entries (addr / 2 ^ 12) asid) access addr

-- the physical address, or why there is none
abbrev pub translate : List Entry → ℕ → Mode → Kind → ℕ → Result Physical Fault
translate entries asid mode access addr =
    if not (is_usable mode addr) then Err Address
    else if is_direct addr then Ok (at_physical (addr % 2 ^ 29))
    else mapped entries asid access addr
