-- What is told of an access that the address map refuses.
use Rattle.std.proofs.Common.{◌≡◌, ℕ, ◌/◌, ◌%◌, ◌<◌, ◌≤◌, ◌^◌, Bool, true, false, cond, List, refl, sym, ap, ap₂, subst, ◌∙◌, arith}
use Rattle.std.proofs.lemmas.Bool.Decides.{nat_tests}
use Rattle.std.specs.Prelude.{nat_le, ◌==◌, ◌&&◌, not, Option, Some, None, Result, Ok, Err, slice_get}
use Rattle.ds_isa.specs.declared.instr.Size.{Size}
use Rattle.ds_isa.specs.declared.instr.Size.TheVariants.{Byte, Half, Word, Part}
use Rattle.ds_isa.specs.declared.instr.Kind.{Kind}
use Rattle.ds_isa.specs.declared.instr.Kind.TheVariants.{Fetch, Load, Store}
use Rattle.ds_isa.specs.Access.{is_store, is_aligned}
use Rattle.ds_policy.specs.Pages.{Table, decide}
use Rattle.ds_tlb.specs.declared.entry.Entry.{Entry}
use Rattle.ds_tlb.specs.Entries.{find}
use Rattle.ds_amap.specs.declared.map.Mode.{Mode}
use Rattle.ds_amap.specs.declared.map.Physical.{Physical}
use Rattle.ds_amap.specs.declared.map.Fault.{Fault}
use Rattle.ds_amap.specs.declared.map.Fault.TheVariants.{Address, Refill, Invalid, Modified}
use Rattle.ds_amap.specs.Map.{translate, place, through_slot, through_found, is_usable, is_direct, at_physical}
use Rattle.ds_cp0.specs.System.{asid_of}
use Rattle.ds_cp0.specs.Codes.{code_number}
use Rattle.ds_core.specs.Core.{CoreState}
use Rattle.ds_core.specs.Access.{reached, access_exception, mode_of, code_of}
use Rattle.ds_refinement.specs.Told.{code_in, own_in, is_store_code, kind_told, size_told}
use Rattle.ds_refinement.specs.Inner.Told.{system_after}
use Rattle.ds_refinement.proofs.Exceptions.{code_told, own_told, address_told}

-- An access that is refused for want of D is a store.

-- by the bits V and D of an entry
bits_modified : (v d : Bool) (k : Kind) (p : Physical) → cond (not v) (Err Invalid) (cond (is_store k && not d) (Err Modified) (Ok p)) ≡ Err Modified → is_store k ≡ true
bits_modified v d Store p is = refl
bits_modified true d Fetch p is = cc
bits_modified false d Fetch p is = cc
bits_modified true d Load p is = cc
bits_modified false d Load p is = cc

-- by the entry of a slot
slot_modified : (o : Option Entry) (k : Kind) (a : ℕ) → through_slot o k a ≡ Err Modified → is_store k ≡ true
slot_modified None k a is = cc
slot_modified (Some e) k a is = bits_modified e.v e.d k (at_physical (place e a)) is

-- by the slot that was found
found_modified : (es : List Entry) (found : Option ℕ) (k : Kind) (a : ℕ) → through_found es found k a ≡ Err Modified → is_store k ≡ true
found_modified es None k a is = cc
found_modified es (Some i) k a is = slot_modified (slice_get es i) k a is

-- after the tests of the address
tests_modified : (aligned usable direct : Bool) (es : List Entry) (found : Option ℕ) (k : Kind) (a : ℕ)
    → cond (not aligned) (Err Address) (cond (not usable) (Err Address) (cond direct (Ok (at_physical (a % 2 ^ 29))) (through_found es found k a))) ≡ Err Modified → is_store k ≡ true
tests_modified false usable direct es found k a is = cc
tests_modified true false direct es found k a is = cc
tests_modified true true true es found k a is = cc
tests_modified true true false es found k a is = found_modified es found k a is

-- only a store is refused for want of D
modified_store : (c : CoreState) (k : Kind) (size : Size) (a : ℕ) → reached c k size a ≡ Err Modified → is_store k ≡ true
modified_store c k size a is = tests_modified (is_aligned size a) (is_usable (mode_of c.system) a) (is_direct a) c.entries (find c.entries (a / 2 ^ 12) (asid_of c.system)) k a is

-- The buffer refuses aligned addresses alone, and there the table answers for any size alike.

-- after the test of alignment
tests_aligned : (aligned : Bool) (r : Result Physical Fault) (f : Fault) → (f ≡ Address → ⊥) → cond (not aligned) (Err Address) r ≡ Err f → aligned ≡ true
tests_aligned true r f other is = refl
tests_aligned false r f other is = absurd (other (cc))

-- what is no address error is aligned
buffer_aligned : (c : CoreState) (k : Kind) (size : Size) (a : ℕ) (f : Fault) → (f ≡ Address → ⊥) → reached c k size a ≡ Err f → is_aligned size a ≡ true
buffer_aligned c k size a f other is = tests_aligned (is_aligned size a) (translate c.entries (asid_of c.system) (mode_of c.system) k a) f other is

-- a byte at an aligned address is answered as any size
pub byte_answers : (t : Table) (p : ℕ) (k : Kind) (size : Size) (a : ℕ) → is_aligned size a ≡ true → decide t p k Byte a ≡ decide t p k size a
byte_answers t p k size a aligned = rw aligned refl

-- The codes of refusals.

-- no refusal has the code of an interrupt
least_number : (f : Fault) (store : Bool) → 1 ≤ code_number (code_of f store)
least_number Address true = omega arith
least_number Address false = omega arith
least_number Refill true = omega arith
least_number Refill false = omega arith
least_number Invalid true = omega arith
least_number Invalid false = omega arith
least_number Modified store = omega arith

-- no refusal has a code above AdES
most_number : (f : Fault) (store : Bool) → code_number (code_of f store) ≤ 5
most_number Address true = omega arith
most_number Address false = omega arith
most_number Refill true = omega arith
most_number Refill false = omega arith
most_number Invalid true = omega arith
most_number Invalid false = omega arith
most_number Modified store = omega arith

-- up to code 3 it is no address error
buffer_number : (f : Fault) (store : Bool) → code_number (code_of f store) ≤ 3 → f ≡ Address → ⊥
buffer_number Address true small is = omega (arith, small)
buffer_number Address false small is = omega (arith, small)
buffer_number Refill store small is = cc
buffer_number Invalid store small is = cc
buffer_number Modified store small is = cc

-- the least code that Cause tells
pub least_code : (c : CoreState) (access : Kind) (address : ℕ) (fault : Fault) → 1 ≤ code_in (system_after c access address fault)
least_code c access address fault = subst (λ (n : ℕ). 1 ≤ n) (sym (code_told c.system (access_exception c access address fault))) (least_number fault (is_store access))

-- the greatest
pub most_code : (c : CoreState) (access : Kind) (address : ℕ) (fault : Fault) → code_in (system_after c access address fault) ≤ 5
most_code c access address fault = subst (λ (n : ℕ). n ≤ 5) (sym (code_told c.system (access_exception c access address fault))) (most_number fault (is_store access))

-- up to code 3 the address is aligned
pub code_aligned : (c : CoreState) (access : Kind) (size : Size) (address : ℕ) (fault : Fault) → reached c access size address ≡ Err fault → code_in (system_after c access address fault) ≤ 3 → is_aligned size address ≡ true
code_aligned c access size address fault refused small =
    let less = subst (λ (n : ℕ). n ≤ 3) (code_told c.system (access_exception c access address fault)) small in
    buffer_aligned c access size address fault (buffer_number fault (is_store access) less) refused

-- What was fetched may be loaded, whatever the size.

-- a slot answers a load as a fetch
slot_alike : (o : Option Entry) (a : ℕ) → through_slot o Load a ≡ through_slot o Fetch a
slot_alike None a = refl
slot_alike (Some e) a = refl

-- so does the slot that was found
found_alike : (es : List Entry) (found : Option ℕ) (a : ℕ) → through_found es found Load a ≡ through_found es found Fetch a
found_alike es None a = refl
found_alike es (Some i) a = slot_alike (slice_get es i) a

-- so does the address map
fetch_as_load : (es : List Entry) (asid : ℕ) (mode : Mode) (a : ℕ) → translate es asid mode Load a ≡ translate es asid mode Fetch a
fetch_as_load es asid mode a = ap (λ (r : Result Physical Fault). cond (not (is_usable mode a)) (Err Address) (cond (is_direct a) (Ok (at_physical (a % 2 ^ 29))) r)) (found_alike es (find es (a / 2 ^ 12) asid) a)

-- an address that suits a word suits any size
word_aligned : (size : Size) (a : ℕ) → (a % 4 == 0) ≡ true → is_aligned size a ≡ true
word_aligned Byte a e = refl
word_aligned Half a e = grind (arith, nat_tests)
word_aligned Word a e = e
word_aligned Part a e = refl

-- what is let go is aligned
tests_ok : (aligned : Bool) (r : Result Physical Fault) (p : Physical) → cond (not aligned) (Err Address) r ≡ Ok p → (aligned ≡ true) × (r ≡ Ok p)
tests_ok true r p is = (refl, is)
tests_ok false r p is = absurd (cc)

-- a load of any size is let go where a fetch was
loads_there : (c : CoreState) (size : Size) (a : ℕ) (p : Physical) → reached c Fetch Word a ≡ Ok p → reached c Load size a ≡ Ok p
loads_there c size a p is =
    let t = tests_ok (a % 4 == 0) (translate c.entries (asid_of c.system) (mode_of c.system) Fetch a) p is in
    ap (λ (b : Bool). cond (not b) (Err Address) (translate c.entries (asid_of c.system) (mode_of c.system) Load a)) (word_aligned size a t.0)
    ∙ (fetch_as_load c.entries (asid_of c.system) (mode_of c.system) a ∙ t.1)

-- so the address of a refused load is not that of its instruction
elsewhere : (c : CoreState) (size : Size) (a : ℕ) (fault : Fault) (p : Physical) → reached c Load size a ≡ Err fault → reached c Fetch Word c.pc ≡ Ok p → (a == c.pc) ≡ false
elsewhere c size a fault p refused fetched = by (a == c.pc) refl
  where
    by : (b : Bool) → (a == c.pc) ≡ b → b ≡ false
    by false e = refl
    by true e =
        let same : a ≡ c.pc = grind (arith, nat_tests) in
        let there : reached c Load size a ≡ Ok p = loads_there c size a p (subst (λ (n : ℕ). reached c Fetch Word n ≡ Ok p) (sym same) fetched) in
        let both : Err fault ≡ Ok p = sym refused ∙ there in
        absurd (cc)

-- What is told, by the code's number and by whether the address is the instruction's own.

-- the kind
abbrev kind_by : ℕ → Bool → Kind
kind_by n own = cond (is_store_code n) Store (cond own Fetch Load)

-- the size
abbrev size_by : ℕ → Bool → Size → Size
size_by n own size = cond (nat_le n 3) Byte (cond (is_store_code n) size (cond own Word size))

module _ (c : CoreState) (k : Kind) (a : ℕ) (f : Fault) where
  -- the code's number
  code_is : code_in (system_after c k a f) ≡ code_number (code_of f (is_store k))
  code_is = code_told c.system (access_exception c k a f)

  -- whether BadVAddr is the instruction's own address
  own_is : c.pc < 2 ^ 32 → ((system_after c k a f).bad_vaddr == own_in (system_after c k a f)) ≡ (a == c.pc)
  own_is small = ap₂ (λ (x y : ℕ). x == y) (address_told c.system (access_exception c k a f) a refl) (own_told c.system (access_exception c k a f) small)

  -- the kind that is told, by whether the address is its own
  kind_is : (own : Bool) → ((system_after c k a f).bad_vaddr == own_in (system_after c k a f)) ≡ own → kind_told (system_after c k a f) ≡ kind_by (code_number (code_of f (is_store k))) own
  kind_is own is = ap₂ kind_by code_is is

  -- the size that is told, by whether the address is its own
  size_is : (own : Bool) (size : Size) → ((system_after c k a f).bad_vaddr == own_in (system_after c k a f)) ≡ own → size_told (system_after c k a f) size ≡ size_by (code_number (code_of f (is_store k))) own size
  size_is own size is = ap₂ (λ (n : ℕ) (b : Bool). size_by n b size) code_is is

  -- the table's answer to what is told, by whether the address is its own
  answer_is : (own : Bool) (size : Size) (t : Table) (p : ℕ) → ((system_after c k a f).bad_vaddr == own_in (system_after c k a f)) ≡ own
      → decide t p (kind_told (system_after c k a f)) (size_told (system_after c k a f) size) a ≡ decide t p (kind_by (code_number (code_of f (is_store k))) own) (size_by (code_number (code_of f (is_store k))) own size) a
  answer_is own size t p is = ap₂ (λ (x : Kind) (y : Size). decide t p x y a) (kind_is own is) (size_is own size is)

-- A refused load.

-- at another address the codes of loads tell a load
load_kind_by : (c : CoreState) (size : Size) (a : ℕ) (f : Fault) → reached c Load size a ≡ Err f → kind_by (code_number (code_of f false)) false ≡ Load
load_kind_by c size a Address is = refl
load_kind_by c size a Refill is = refl
load_kind_by c size a Invalid is = refl
load_kind_by c size a Modified is = absurd (let e : false ≡ true = modified_store c Load size a is in cc)

-- at another address the table answers by these codes as the load
load_by : (c : CoreState) (size : Size) (a : ℕ) (f : Fault) (t : Table) (p : ℕ) → reached c Load size a ≡ Err f
    → decide t p (kind_by (code_number (code_of f false)) false) (size_by (code_number (code_of f false)) false size) a ≡ decide t p Load size a
load_by c size a Address t p is = refl
load_by c size a Refill t p is = byte_answers t p Load size a (buffer_aligned c Load size a Refill (λ (e : Refill ≡ Address). cc) is)
load_by c size a Invalid t p is = byte_answers t p Load size a (buffer_aligned c Load size a Invalid (λ (e : Invalid ≡ Address). cc) is)
load_by c size a Modified t p is = absurd (let e : false ≡ true = modified_store c Load size a is in cc)

-- it is told as a load
pub load_kind : (c : CoreState) (size : Size) (address : ℕ) (fault : Fault) (place : Physical)
    → c.pc < 2 ^ 32 → reached c Load size address ≡ Err fault → reached c Fetch Word c.pc ≡ Ok place → kind_told (system_after c Load address fault) ≡ Load
load_kind c size address fault place small refused fetched =
    kind_is c Load address fault false (own_is c Load address fault small ∙ elsewhere c size address fault place refused fetched) ∙ load_kind_by c size address fault refused

-- the table answers what is told as the load
pub load_answer : (c : CoreState) (size : Size) (address : ℕ) (fault : Fault) (place : Physical) (t : Table) (p : ℕ)
    → c.pc < 2 ^ 32 → reached c Load size address ≡ Err fault → reached c Fetch Word c.pc ≡ Ok place
    → decide t p (kind_told (system_after c Load address fault)) (size_told (system_after c Load address fault) size) address ≡ decide t p Load size address
load_answer c size address fault place t p small refused fetched =
    answer_is c Load address fault false size t p (own_is c Load address fault small ∙ elsewhere c size address fault place refused fetched) ∙ load_by c size address fault t p refused

-- A refused store, whether at its own address or elsewhere.

-- the codes of stores tell a store
store_kind_by : (own : Bool) (f : Fault) → kind_by (code_number (code_of f true)) own ≡ Store
store_kind_by own Address = refl
store_kind_by own Refill = refl
store_kind_by own Invalid = refl
store_kind_by own Modified = refl

-- the table answers by these codes as the store
store_by : (own : Bool) (c : CoreState) (size : Size) (a : ℕ) (f : Fault) (t : Table) (p : ℕ) → reached c Store size a ≡ Err f
    → decide t p (kind_by (code_number (code_of f true)) own) (size_by (code_number (code_of f true)) own size) a ≡ decide t p Store size a
store_by own c size a Address t p is = refl
store_by own c size a Refill t p is = byte_answers t p Store size a (buffer_aligned c Store size a Refill (λ (e : Refill ≡ Address). cc) is)
store_by own c size a Invalid t p is = byte_answers t p Store size a (buffer_aligned c Store size a Invalid (λ (e : Invalid ≡ Address). cc) is)
store_by own c size a Modified t p is = byte_answers t p Store size a (buffer_aligned c Store size a Modified (λ (e : Modified ≡ Address). cc) is)

-- it is told as a store
pub store_kind : (c : CoreState) (address : ℕ) (fault : Fault) → kind_told (system_after c Store address fault) ≡ Store
store_kind c address fault =
    let s = system_after c Store address fault in
    kind_is c Store address fault (s.bad_vaddr == own_in s) refl ∙ store_kind_by (s.bad_vaddr == own_in s) fault

-- the table answers what is told as the store
pub store_answer : (c : CoreState) (size : Size) (address : ℕ) (fault : Fault) (t : Table) (p : ℕ) → reached c Store size address ≡ Err fault
    → decide t p (kind_told (system_after c Store address fault)) (size_told (system_after c Store address fault) size) address ≡ decide t p Store size address
store_answer c size address fault t p refused =
    let s = system_after c Store address fault in
    answer_is c Store address fault (s.bad_vaddr == own_in s) size t p refl ∙ store_by (s.bad_vaddr == own_in s) c size address fault t p refused

-- A refused fetch, whose address is its own.

-- an address is itself
own_address : (a : ℕ) → (a == a) ≡ true
own_address a = grind (arith, nat_tests)

-- at its own address the codes of fetches tell a fetch
fetch_kind_by : (c : CoreState) (f : Fault) → reached c Fetch Word c.pc ≡ Err f → kind_by (code_number (code_of f false)) true ≡ Fetch
fetch_kind_by c Address is = refl
fetch_kind_by c Refill is = refl
fetch_kind_by c Invalid is = refl
fetch_kind_by c Modified is = absurd (let e : false ≡ true = modified_store c Fetch Word c.pc is in cc)

-- at its own address the table answers by these codes as the fetch
fetch_by : (c : CoreState) (size : Size) (f : Fault) (t : Table) (p : ℕ) → reached c Fetch Word c.pc ≡ Err f
    → decide t p (kind_by (code_number (code_of f false)) true) (size_by (code_number (code_of f false)) true size) c.pc ≡ decide t p Fetch Word c.pc
fetch_by c size Address t p is = refl
fetch_by c size Refill t p is = byte_answers t p Fetch Word c.pc (buffer_aligned c Fetch Word c.pc Refill (λ (e : Refill ≡ Address). cc) is)
fetch_by c size Invalid t p is = byte_answers t p Fetch Word c.pc (buffer_aligned c Fetch Word c.pc Invalid (λ (e : Invalid ≡ Address). cc) is)
fetch_by c size Modified t p is = absurd (let e : false ≡ true = modified_store c Fetch Word c.pc is in cc)

-- it is told as a fetch
pub fetch_kind : (c : CoreState) (fault : Fault) → c.pc < 2 ^ 32 → reached c Fetch Word c.pc ≡ Err fault → kind_told (system_after c Fetch c.pc fault) ≡ Fetch
fetch_kind c fault small refused = kind_is c Fetch c.pc fault true (own_is c Fetch c.pc fault small ∙ own_address c.pc) ∙ fetch_kind_by c fault refused

-- the table answers what is told as the fetch
pub fetch_answer : (c : CoreState) (size : Size) (fault : Fault) (t : Table) (p : ℕ) → c.pc < 2 ^ 32 → reached c Fetch Word c.pc ≡ Err fault
    → decide t p (kind_told (system_after c Fetch c.pc fault)) (size_told (system_after c Fetch c.pc fault) size) c.pc ≡ decide t p Fetch Word c.pc
fetch_answer c size fault t p small refused = answer_is c Fetch c.pc fault true size t p (own_is c Fetch c.pc fault small ∙ own_address c.pc) ∙ fetch_by c size fault t p refused
