-- Worked rows, by computation.
use Rattle.std.specs.Prelude.{◌≡◌, List, [], ◌∷◌, false, true, Result, Ok, Err, refl}
use Rattle.ds_tlb.specs.declared.entry.Entry.{Entry}
use Rattle.ds_isa.specs.declared.instr.Kind.TheVariants.{Fetch, Load, Store}
use Rattle.ds_amap.specs.declared.map.Mode.TheVariants.{User, Kernel}
use Rattle.ds_amap.specs.declared.map.Physical.{Physical}
use Rattle.ds_amap.specs.declared.map.Fault.{Fault}
use Rattle.ds_amap.specs.declared.map.Fault.TheVariants.{Address, Refill, Invalid, Modified}
use Rattle.ds_amap.specs.Map.{at_physical, translate}

-- page 00400 of address space 1 in frame 00007, read only; page 00401 not valid
abbrev entries : List Entry
entries = record { vpn = 0x400; asid = 1; pfn = 7; n = false; d = false; v = true; g = false } ∷ record { vpn = 0x401; asid = 1; pfn = 8; n = false; d = true; v = false; g = false } ∷ []

-- where an access goes, or why it may not
abbrev Answer : Type 0
Answer = Result Physical Fault

-- a user's accesses
abbrev of_a_user : List Answer
of_a_user =
    translate entries 1 User Fetch 0x400123 ∷ translate entries 1 User Store 0x400123 ∷ translate entries 1 User Load 0x401000 ∷ translate entries 2 User Load 0x400123 ∷ translate entries 1 User Load 0x80000000 ∷ []

pub users : of_a_user ≡ Ok (at_physical 0x7123) ∷ Err Modified ∷ Err Invalid ∷ Err Refill ∷ Err Address ∷ []
users = refl

-- the kernel's accesses
abbrev of_the_kernel : List Answer
of_the_kernel = translate entries 1 Kernel Load 0x80000123 ∷ translate entries 1 Kernel Store 0xBFFFFFFC ∷ translate entries 1 Kernel Load 0xC0001040 ∷ []

pub kernels : of_the_kernel ≡ Ok (at_physical 0x123) ∷ Ok (at_physical 0x1FFFFFFC) ∷ Err Refill ∷ []
kernels = refl
