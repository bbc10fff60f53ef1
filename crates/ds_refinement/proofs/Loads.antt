-- The handler's load reads the page-table word, or misses.
use Rattle.std.proofs.Common.{◌≡◌, ℕ, ◌+◌, ◌*◌, ◌/◌, ◌%◌, ◌^◌, ◌<◌, ◌==◌, Bool, true, false, cond, not, List, Option, Some, None, refl, sym, ap, ap₂, subst, ◌∙◌, arith}
use Rattle.std.proofs.lemmas.Bool.Decides.{nat_tests}
use Rattle.std.specs.Prelude.{◌&&◌, nat_le, nat_lt, slice_get, Ok, Err}
use Rattle.ds_word.specs.Word.{bits}
use Rattle.ds_isa.specs.declared.instr.Kind.TheVariants.{Load}
use Rattle.ds_tlb.specs.declared.entry.Entry.{Entry}
use Rattle.ds_tlb.specs.Entries.{matches, find}
use Rattle.ds_tlb.specs.Words.{entry_of}
use Rattle.ds_tlb.proofs.Matches.{found_matches, entry_of_match}
use Rattle.ds_amap.specs.declared.map.Mode.TheVariants.{Kernel}
use Rattle.ds_amap.specs.declared.map.Fault.TheVariants.{Address, Invalid, Refill}
use Rattle.ds_amap.specs.Map.{at_physical, through, through_slot, through_found, translate, place}
use Rattle.ds_grants.specs.State.{GrantsState}
use Rattle.ds_asid.specs.Spaces.{Spaces, space_number}
use Rattle.ds_tables.specs.Places.{Places, ArePlaces, region_of, region_place, frame_of_place, page_of_table}
use Rattle.ds_tables.specs.Tables.{table_word_place}
use Rattle.ds_tables.proofs.PlaceLemmas.{is_place}
use Rattle.ds_grants.specs.Buffer.{hi_of, read_only, lo_of, BufferHolds}
use Rattle.ds_grants.proofs.Fields.{table_lo}

-- a table lies below frame 402
frame_by : (t : Places) (p r : ℕ) (o : Option ℕ) → ArePlaces t → region_place t p r ≡ o → frame_of_place p o < 402
frame_by t p r None a is = omega arith
frame_by t p r (Some k) a is =
    let at = is_place t p r k a is in
    let few = at.few in let low = at.low in let within = at.within in
    omega arith

pub table_below : (t : Places) (p r : ℕ) → ArePlaces t → page_of_table t p r < 402
table_below t p r a = frame_by t p r (region_place t p r) a refl

-- the page of a table, valid and in its frame
abbrev pub page_entry : ℕ → ℕ → ℕ → Entry
page_entry vpn asid frame = entry_of (hi_of vpn asid) (read_only frame)

pub is_valid : (vpn asid frame : ℕ) → (page_entry vpn asid frame).v ≡ true
is_valid vpn asid frame = let e : bits (read_only frame) 9 1 ≡ 1 = omega arith in ap (λ (n : ℕ). n == 1) e

in_frame : (vpn asid frame addr : ℕ) → frame < 402 → place (page_entry vpn asid frame) addr ≡ frame * 2 ^ 12 + addr % 2 ^ 12
in_frame vpn asid frame addr small = let e : bits (read_only frame) 12 20 % 2 ^ 20 ≡ frame = omega arith in ap (λ (n : ℕ). n * 2 ^ 12 + addr % 2 ^ 12) e

let_through : (vpn asid frame addr : ℕ) → frame < 402 → through (page_entry vpn asid frame) Load addr ≡ Ok (at_physical (frame * 2 ^ 12 + addr % 2 ^ 12))
let_through vpn asid frame addr small =
    ap (λ (v : Bool). cond (not v) (Err Invalid) (Ok (at_physical (place (page_entry vpn asid frame) addr)))) (is_valid vpn asid frame)
    ∙ ap (λ (n : ℕ). Ok (at_physical n)) (in_frame vpn asid frame addr small)

keys : (vpn asid : ℕ) (e : Entry) → e.g ≡ false → matches vpn asid e ≡ true → (e.vpn ≡ vpn) × (e.asid ≡ asid)
keys vpn asid e g m = (grind (arith, nat_tests), grind (arith, nat_tests))

-- what is found is the process's page of a table
pub found_entry : (entries : List Entry) (spaces : Spaces) (g : GrantsState) (t : Places) (p r slot : ℕ) → BufferHolds entries spaces g t → 0 < p → 0 < space_number spaces p
    → find entries (0xC0000 + r) (space_number spaces p) ≡ Some slot → slice_get entries slot ≡ Some (page_entry (0xC0000 + r) (space_number spaces p) (page_of_table t p r))
found_entry entries spaces g t p r slot k running some found =
    let asid : ℕ = space_number spaces p in
    let at = entry_of_match (0xC0000 + r) asid entries slot (found_matches (0xC0000 + r) asid entries slot found) in
    let e = at.0 in
    let key = keys (0xC0000 + r) asid e (k.own slot e at.1) at.2 in
    let backed = k.backed slot e p at.1 running (subst (λ (n : ℕ). 0 < n) (sym key.1) some) (sym key.1) in
    let is : e ≡ entry_of (hi_of (0xC0000 + r) asid) (lo_of g t p (0xC0000 + r)) = backed.words ∙ ap₂ (λ (v a : ℕ). entry_of (hi_of v a) (lo_of g t p v)) key.0 key.1 in
    at.1 ∙ ap (λ (x : Entry). Some x) (is ∙ ap (entry_of (hi_of (0xC0000 + r) asid)) (table_lo g t p r))

-- an address of the page table goes through the buffer
mapped_there : (entries : List Entry) (asid vpn : ℕ) (found : Option ℕ) → vpn < 2 ^ 19 → find entries (0xC0000 + vpn / 1024) asid ≡ found
    → translate entries asid Kernel Load (0xC0000000 + 4 * vpn) ≡ through_found entries found Load (0xC0000000 + 4 * vpn)
mapped_there entries asid vpn found small is =
    let addr : ℕ = 0xC0000000 + 4 * vpn in
    let high : nat_le 0x80000000 (0xC0000000 + 4 * vpn) ≡ true = grind (arith, nat_tests) in
    let mapped : nat_lt (0xC0000000 + 4 * vpn) 0xC0000000 ≡ false = grind (arith, nat_tests) in
    let page : (0xC0000000 + 4 * vpn) / 2 ^ 12 ≡ 0xC0000 + vpn / 1024 = omega arith in
    ap (λ (b : Bool). cond (not (not (b && false))) (Err Address) (cond (b && nat_lt addr 0xC0000000) (Ok (at_physical (addr % 2 ^ 29))) (through_found entries (find entries (addr / 2 ^ 12) asid) Load addr))) high
    ∙ ap (λ (b : Bool). cond b (Ok (at_physical (addr % 2 ^ 29))) (through_found entries (find entries (addr / 2 ^ 12) asid) Load addr)) mapped
    ∙ ap (λ (n : ℕ). through_found entries (find entries n asid) Load addr) page
    ∙ ap (λ (o : Option ℕ). through_found entries o Load addr) is

pub table_hit : (entries : List Entry) (spaces : Spaces) (g : GrantsState) (t : Places) (p vpn slot : ℕ) → BufferHolds entries spaces g t → ArePlaces t → 0 < p → 0 < space_number spaces p
    → vpn < 2 ^ 19 → find entries (0xC0000 + vpn / 1024) (space_number spaces p) ≡ Some slot
    → translate entries (space_number spaces p) Kernel Load (0xC0000000 + 4 * vpn) ≡ Ok (at_physical (table_word_place (page_of_table t p (region_of (vpn * 2 ^ 12))) (vpn * 2 ^ 12)))
table_hit entries spaces g t p vpn slot k places running some small found =
    let addr : ℕ = 0xC0000000 + 4 * vpn in
    let region : vpn * 2 ^ 12 / 2 ^ 22 ≡ vpn / 1024 = omega arith in
    let offset : (0xC0000000 + 4 * vpn) % 2 ^ 12 ≡ vpn * 2 ^ 12 / 2 ^ 12 % 2 ^ 10 * 4 = omega arith in
    mapped_there entries (space_number spaces p) vpn (Some slot) small found
    ∙ ap (λ (o : Option Entry). through_slot o Load addr) (found_entry entries spaces g t p (vpn / 1024) slot k running some found)
    ∙ let_through (0xC0000 + vpn / 1024) (space_number spaces p) (page_of_table t p (vpn / 1024)) addr (table_below t p (vpn / 1024) places)
    ∙ ap₂ (λ (f o : ℕ). Ok (at_physical (f * 2 ^ 12 + o))) (ap (page_of_table t p) (sym region)) offset

pub table_miss_is : (entries : List Entry) (asid vpn : ℕ) → vpn < 2 ^ 19 → find entries (0xC0000 + vpn / 1024) asid ≡ None
    → translate entries asid Kernel Load (0xC0000000 + 4 * vpn) ≡ Err Refill
table_miss_is entries asid vpn small found = mapped_there entries asid vpn None small found
