-- What the buffer names for a page is what translation answers for its addresses.
use Rattle.std.proofs.Common.{◌≡◌, ℕ, ◌+◌, ◌-◌, ◌*◌, ◌/◌, ◌%◌, ◌<◌, ◌^◌, Bool, true, false, cond, List, sym, ap, ◌∙◌, arith}
use Rattle.std.specs.Prelude.{Option, Some, None, Ok, Err, nat_le, not, ◌&&◌, ◌||◌, slice_get}
use Rattle.std.proofs.lemmas.Bool.Decides.{nat_tests}
use Rattle.ds_tlb.specs.declared.entry.Entry.{Entry}
use Rattle.ds_tlb.specs.Entries.{find}
use Rattle.ds_tlb.specs.Inner.Frames.{base_in, entry_in, base_of}
use Rattle.ds_isa.specs.declared.instr.Kind.{Kind}
use Rattle.ds_isa.specs.Access.{is_store}
use Rattle.ds_amap.specs.declared.map.Mode.{Mode}
use Rattle.ds_amap.specs.declared.map.Fault.{Fault}
use Rattle.ds_amap.specs.Map.{at_physical, place, through_slot, through_found, translate}

-- an entry's answer, by whether it is valid, the access a store, and the entry dirty
by_flags : (e : Entry) (access : Kind) (addr base : ℕ) (v s d : Bool) → cond (v && (not s || d)) (Some (e.pfn % 2 ^ 20 * 2 ^ 12)) None ≡ Some base
    → cond (not v) (Err Fault.Invalid) (cond (s && not d) (Err Fault.Modified) (Ok (at_physical (place e addr)))) ≡ Ok (at_physical (base + addr % 2 ^ 12))
by_flags e access addr base true true true is =
    let b : e.pfn % 2 ^ 20 * 2 ^ 12 ≡ base = cc in ap (λ (n : ℕ). Ok (at_physical (n + addr % 2 ^ 12))) b
by_flags e access addr base true true false is = absurd cc
by_flags e access addr base true false d is =
    let b : e.pfn % 2 ^ 20 * 2 ^ 12 ≡ base = cc in ap (λ (n : ℕ). Ok (at_physical (n + addr % 2 ^ 12))) b
by_flags e access addr base false s d is = absurd cc

through_entry : (found : Option Entry) (access : Kind) (addr base : ℕ) → base_in (is_store access) found ≡ Some base → through_slot found access addr ≡ Ok (at_physical (base + addr % 2 ^ 12))
through_entry None access addr base is = absurd cc
through_entry (Some e) access addr base is = by_flags e access addr base e.v (is_store access) e.d is

through_place : (entries : List Entry) (slot : Option ℕ) (access : Kind) (addr base : ℕ) → base_in (is_store access) (entry_in entries slot) ≡ Some base → through_found entries slot access addr ≡ Ok (at_physical (base + addr % 2 ^ 12))
through_place entries None access addr base is = absurd cc
through_place entries (Some slot) access addr base is = through_entry (slice_get entries slot) access addr base is

is_lower : (addr : ℕ) → addr < 2 ^ 31 → nat_le 0x80000000 addr ≡ false
is_lower addr small = grind (arith, nat_tests)

-- in the lower half of the addresses the place lies in the page's frame, whatever the mode
pub translate_by_base : (entries : List Entry) (asid : ℕ) (mode : Mode) (access : Kind) (addr base : ℕ) → addr < 2 ^ 31 → Some base ≡ base_of entries (is_store access) (addr / 2 ^ 12) asid
    → translate entries asid mode access addr ≡ Ok (at_physical (base + addr % 2 ^ 12))
translate_by_base entries asid mode access addr base small is =
    rw (is_lower addr small) (through_place entries (find entries (addr / 2 ^ 12) asid) access addr base (sym is))

-- the same by the place
pub translate_by_place : (entries : List Entry) (asid : ℕ) (mode : Mode) (access : Kind) (addr place : ℕ) → addr < 2 ^ 31
    → base_of entries (is_store access) (addr / 2 ^ 12) asid ≡ Some (place - addr % 2 ^ 12) → place % 2 ^ 12 ≡ addr % 2 ^ 12 → translate entries asid mode access addr ≡ Ok (at_physical place)
translate_by_place entries asid mode access addr place small is offset =
    let whole : place - addr % 2 ^ 12 + addr % 2 ^ 12 ≡ place = omega (arith, offset) in
    translate_by_base entries asid mode access addr (place - addr % 2 ^ 12) small (sym is) ∙ ap (λ (n : ℕ). Ok (at_physical n)) whole
