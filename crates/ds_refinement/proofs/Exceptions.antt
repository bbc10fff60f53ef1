-- What the coprocessor's registers tell of any exception.
use Rattle.std.proofs.Common.{◌≡◌, ℕ, ◌+◌, ◌-◌, ◌*◌, ◌%◌, ◌<◌, ◌^◌, Bool, true, false, cond, refl, ap, ap₂, ◌∙◌, arith}
use Rattle.std.specs.Prelude.{◌==◌, Option, Some, None}
use Rattle.ds_word.specs.Word.{word, bits, bit}
use Rattle.ds_cp0.specs.System.{System, entered, with_address, with_field, asid_of, pushed, cause_after, epc_of}
use Rattle.ds_cp0.specs.Codes.{code_number, is_translation}
use Rattle.ds_cp0.specs.declared.exception.Exception.{Exception}
use Rattle.ds_cp0.specs.declared.exception.ExceptionCode.{ExceptionCode}
use Rattle.ds_cp0.specs.declared.exception.ExceptionCode.TheVariants.{Interrupt, Modification, LoadMiss, StoreMiss, LoadAddress, StoreAddress, FetchBus, DataBus, SystemCall, Breakpoint, ReservedInstruction, CoprocessorUnusable, Overflow}
use Rattle.ds_refinement.specs.Told.{code_in, is_delayed, own_in}

-- a code has four bits
code_small : (code : ExceptionCode) → code_number code < 16
code_small Interrupt = omega arith
code_small Modification = omega arith
code_small LoadMiss = omega arith
code_small StoreMiss = omega arith
code_small LoadAddress = omega arith
code_small StoreAddress = omega arith
code_small FetchBus = omega arith
code_small DataBus = omega arith
code_small SystemCall = omega arith
code_small Breakpoint = omega arith
code_small ReservedInstruction = omega arith
code_small CoprocessorUnusable = omega arith
code_small Overflow = omega arith

-- the registers that show an address, and with it its page where the buffer refused
abbrev shown : System → ℕ → Bool → System
shown s a translation = cond translation (record s { bad_vaddr = a; context = with_field s.context 2 19 (bits a 12 19); entry_hi = with_field s.entry_hi 12 20 (bits a 12 20) }) (record s { bad_vaddr = a })

-- an address that is shown leaves Cause as it was
shown_cause : (s : System) (a : ℕ) (b : Bool) → (shown s a b).cause ≡ s.cause
shown_cause s a true = refl
shown_cause s a false = refl

-- whether there is one or not
cause_kept : (s : System) (e : Exception) (a : Option ℕ) → (with_address s e a).cause ≡ s.cause
cause_kept s e None = refl
cause_kept s e (Some a) = shown_cause s a (is_translation e.code)

-- an address that is shown leaves Status as it was
shown_status : (s : System) (a : ℕ) (b : Bool) → (shown s a b).status ≡ s.status
shown_status s a true = refl
shown_status s a false = refl

-- whether there is one or not
status_kept : (s : System) (e : Exception) (a : Option ℕ) → (with_address s e a).status ≡ s.status
status_kept s e None = refl
status_kept s e (Some a) = shown_status s a (is_translation e.code)

-- an address that is shown leaves EPC as it was
shown_epc : (s : System) (a : ℕ) (b : Bool) → (shown s a b).epc ≡ s.epc
shown_epc s a true = refl
shown_epc s a false = refl

-- whether there is one or not
epc_kept : (s : System) (e : Exception) (a : Option ℕ) → (with_address s e a).epc ≡ s.epc
epc_kept s e None = refl
epc_kept s e (Some a) = shown_epc s a (is_translation e.code)

-- the page in EntryHi stands beside the address space
page_beside : (w v : ℕ) → bits (with_field w 12 20 v) 6 6 ≡ bits w 6 6
page_beside w v = omega arith

-- an address that is shown leaves the address space as it was
shown_space : (s : System) (a : ℕ) (b : Bool) → asid_of (shown s a b) ≡ asid_of s
shown_space s a true = page_beside s.entry_hi (bits a 12 20)
shown_space s a false = refl

-- whether there is one or not
space_kept : (s : System) (e : Exception) (a : Option ℕ) → asid_of (with_address s e a) ≡ asid_of s
space_kept s e None = refl
space_kept s e (Some a) = shown_space s a (is_translation e.code)

-- an address that is shown is in BadVAddr
shown_address : (s : System) (a : ℕ) (b : Bool) → (shown s a b).bad_vaddr ≡ a
shown_address s a true = refl
shown_address s a false = refl

-- The fields of Cause as an exception makes it.

-- the coprocessor has two bits
unit_small : (b : Bool) (x y : ℕ) → cond b (x % 4) (bits y 28 2) < 4
unit_small true x y = omega arith
unit_small false x y = omega arith

-- the software's requests have two bits
requests_small : (cause : ℕ) → bits cause 8 2 < 4
requests_small cause = omega arith

-- the code is read from its field
code_field : (b : Bool) (unit requests n : ℕ) → unit < 4 → requests < 4 → n < 16 → bits (bit 31 b + unit * 2 ^ 28 + requests * 2 ^ 8 + n * 2 ^ 2) 2 4 ≡ n
code_field true unit requests n p q k = omega (arith, p, q, k)
code_field false unit requests n p q k = omega (arith, p, q, k)

-- BD is the highest bit
slot_field : (b : Bool) (unit requests n : ℕ) → unit < 4 → requests < 4 → n < 16 → (bits (bit 31 b + unit * 2 ^ 28 + requests * 2 ^ 8 + n * 2 ^ 2) 31 1 == 1) ≡ b
slot_field true unit requests n p q k = let e : bits (bit 31 true + unit * 2 ^ 28 + requests * 2 ^ 8 + n * 2 ^ 2) 31 1 ≡ 1 = omega (arith, p, q, k) in rw e refl
slot_field false unit requests n p q k = let e : bits (bit 31 false + unit * 2 ^ 28 + requests * 2 ^ 8 + n * 2 ^ 2) 31 1 ≡ 0 = omega (arith, p, q, k) in rw e refl

-- in a slot EPC is one word before the instruction, and else at it
own_by : (slot : Bool) (pc : ℕ) → pc < 2 ^ 32 → cond slot (word (cond slot (word (pc + (2 ^ 32 - 4))) pc + 4)) (cond slot (word (pc + (2 ^ 32 - 4))) pc) ≡ pc
own_by true pc small = omega (arith, small)
own_by false pc small = refl

-- What is told of an exception.
module _ (s : System) (e : Exception) where
  -- the coprocessor that Cause names
  abbrev unit : ℕ
  unit = cond (code_number e.code == 11) (e.unit % 4) (bits s.cause 28 2)

  -- Cause tells the code
  pub code_told : code_in (entered s e) ≡ code_number e.code
  code_told = ap (λ (w : ℕ). bits w 2 4) (cause_kept _ e e.addr)
      ∙ code_field e.slot unit (bits s.cause 8 2) (code_number e.code) (unit_small (code_number e.code == 11) e.unit s.cause) (requests_small s.cause) (code_small e.code)

  -- BD tells the slot
  pub slot_told : is_delayed (entered s e) ≡ e.slot
  slot_told = ap (λ (w : ℕ). bits w 31 1 == 1) (cause_kept _ e e.addr)
      ∙ slot_field e.slot unit (bits s.cause 8 2) (code_number e.code) (unit_small (code_number e.code == 11) e.unit s.cause) (requests_small s.cause) (code_small e.code)

  -- EPC and BD tell the instruction's own address
  pub own_told : e.pc < 2 ^ 32 → own_in (entered s e) ≡ e.pc
  own_told small = ap₂ (λ (b : Bool) (w : ℕ). cond b (word (w + 4)) w) slot_told (epc_kept _ e e.addr) ∙ own_by e.slot e.pc small

  -- Status is pushed
  pub status_told : (entered s e).status ≡ pushed s.status
  status_told = status_kept _ e e.addr

  -- EPC tells where the program goes on later
  pub epc_told : (entered s e).epc ≡ epc_of e
  epc_told = epc_kept _ e e.addr

  -- the address space stays
  pub space_told : asid_of (entered s e) ≡ asid_of s
  space_told = space_kept _ e e.addr

  -- BadVAddr tells the address
  pub address_told : (address : ℕ) → e.addr ≡ Some address → (entered s e).bad_vaddr ≡ address
  address_told address is =
      let t : System = record s { status = pushed s.status; cause = cause_after s.cause e; epc = epc_of e } in
      ap (λ (o : Option ℕ). (with_address t e o).bad_vaddr) is ∙ shown_address t address (is_translation e.code)
