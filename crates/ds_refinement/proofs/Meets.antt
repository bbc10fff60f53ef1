-- One instruction of the processor is one of the machine.
use Rattle.std.proofs.Common.{◌≡◌, ℕ, zero, suc, ◌+◌, ◌%◌, ◌<◌, ◌^◌, ◌⊎◌, Bool, true, false, cond, List, length, refl, sym, ap, ap₂, subst, ◌∙◌, arith, inl, inr}
use Rattle.std.proofs.lemmas.Bool.Decides.{nat_tests}
use Rattle.std.specs.Prelude.{⊤, Option, Some, None, Result, Ok, Err, ◌==◌, ◌&&◌, ◌||◌, not, unwrap_or, slice_set}
use Rattle.ds_word.specs.Word.{bits, sign_extended}
use Rattle.ds_word.specs.Bytes.{word_at, with_word}
use Rattle.ds_word.specs.Arithmetic.{signed_sum, signed_difference}
use Rattle.ds_isa.specs.declared.instr.Size.{Size}
use Rattle.ds_isa.specs.declared.instr.Size.TheVariants.{Word}
use Rattle.ds_isa.specs.declared.instr.Kind.{Kind}
use Rattle.ds_isa.specs.declared.instr.Kind.TheVariants as kind
use Rattle.ds_isa.specs.declared.instr.Instr.{Instr}
use Rattle.ds_isa.specs.declared.instr.Instr.TheVariants as instr
use Rattle.ds_isa.specs.Access.{access_size, is_store}
use Rattle.ds_isa.specs.Inner.Access.{size_asked}
use Rattle.ds_isa.specs.Registers.{Registers, read, settled}
use Rattle.ds_isa.specs.Instruction.{instruction_of}
use Rattle.ds_isa.specs.Meaning.{Effect, Goes, Branches, Loads, Stores, Faults, Calls, Privileged, meaning, written_or_trap}
use Rattle.ds_isa.proofs.Sizes.{sizes_alike}
use Rattle.ds_policy.specs.declared.access.Verdict.{Verdict}
use Rattle.ds_policy.specs.declared.access.Verdict.TheVariants.{Allowed}
use Rattle.ds_policy.specs.Pages.{decide, bytes_of}
use Rattle.ds_policy.specs.Grants.{PageState}
use Rattle.ds_grants.specs.State.{GrantsState, page_state}
use Rattle.ds_grants.specs.Buffer.{BufferHolds}
use Rattle.ds_grants.specs.Inner.Represented.{IsHigh}
use Rattle.ds_grants.proofs.Kept.{high_stored}
use Rattle.ds_grants.specs.Sound.{NamesPages}
use Rattle.ds_amap.specs.declared.map.Physical.{Physical}
use Rattle.ds_amap.specs.declared.map.Fault.{Fault}
use Rattle.ds_amap.specs.declared.map.Fault.TheVariants.{Address, Refill, Invalid, Modified}
use Rattle.ds_tlb.specs.Entries.{random_after}
use Rattle.ds_cp0.specs.declared.exception.Exception.{Exception}
use Rattle.ds_cp0.specs.declared.exception.ExceptionCode.TheVariants.{SystemCall, ReservedInstruction, Breakpoint, Overflow, LoadMiss, StoreMiss}
use Rattle.ds_cp0.specs.Codes.{code_number, is_translation}
use Rattle.ds_cp0.specs.System.{entered, asid_of, is_user, vector}
use Rattle.ds_dev.specs.Bus.{BusState, is_memory}
use Rattle.ds_core.specs.declared.event.Event.TheVariants as event
use Rattle.ds_core.specs.Core as core
use Rattle.ds_core.specs.Core.{CoreState, exception, with_tick, core_at_next, core_at_vector, branched_core}
use Rattle.ds_core.specs.Access as reach
use Rattle.ds_core.specs.Access.{reached, access_exception}
use Rattle.ds_core.specs.Coprocessor.{is_coprocessor_usable, unit_of, unusable_exception}
use Rattle.ds_core.specs.Effect as whole
use Rattle.ds_pagemap.specs.Machine.{State, process_of}
use Rattle.ds_pagemap.specs.Unit.{Outcome, Went, Branched, Called, Stopped, instruction, done, where_allowed, with_registers, stored, fault}
use Rattle.ds_refinement.specs.Told.{own_in, kind_told, size_told, size_at, size_on, told}
use Rattle.ds_refinement.specs.Inner.Told.{system_after}
use Rattle.ds_refinement.specs.Units.{user_status, EndsUnit}
use Rattle.ds_refinement.specs.Inner.Handling.{IsMiss}
use Rattle.ds_refinement.specs.Inner.Real.{IsNoBusError}
use Rattle.ds_refinement.specs.Held.{Kept, space_of}
use Rattle.ds_refinement.specs.Copying.{AwaitsCopy}
use Rattle.ds_refinement.specs.Inner.Granted.{IsGranted}
use Rattle.ds_refinement.specs.Inner.Leaves.{Leaves}
use Rattle.ds_refinement.proofs.Frames.{word_of_page, state_stored, size_stored}
use Rattle.ds_refinement.proofs.Lookups.{user_reaches, user_misses}
use Rattle.ds_refinement.proofs.Refusals.{load_kind, load_answer, store_kind, store_answer, fetch_kind, fetch_answer}
use Rattle.ds_refinement.proofs.Denials.{refused_late}
use Rattle.ds_refinement.proofs.Late.{late_awaits}
use Rattle.ds_refinement.proofs.Leaving.{IsFaultCode, leaves_fault, leaves_branch, leaves_call, leaves_access, ends_fault, ends_call, ends_access, own_after}

-- the processor with Random counted down
abbrev pub counted : CoreState → CoreState
counted c = record c { random = random_after 64 8 c.random }

-- the instruction is done by both
pub record Retires (c : CoreState) (b : BusState) (g : GrantsState) (m : State) (p : ℕ) (o : Outcome) (s : core.Step) : Type 0 where
  pub after : Registers
  pub memory : List ℕ
  pub went : o ≡ Went (record (with_registers m p after) { memory = page_state g memory })
  pub size : length memory ≡ 2 ^ 23
  pub high : IsHigh b.memory memory
  pub step : s ≡ record { event = event.Retired; core = core_at_next (counted c) after; bus = record b { memory = memory } }

-- a branch outside a slot is done by both
pub record Turns (c : CoreState) (b : BusState) (m : State) (p : ℕ) (o : Outcome) (s : core.Step) : Type 0 where
  pub after : Registers
  pub target : ℕ
  pub went : o ≡ Branched (with_registers m p after) target
  pub outside : c.slot ≡ false
  pub step : s ≡ record { event = event.Branched; core = branched_core (counted c) after target; bus = b }

-- the processor leaves the program
pub record Raises (c : CoreState) (b : BusState) (g : GrantsState) (m : State) (p : ℕ) (o : Outcome) (s : core.Step) : Type 0 where
  pub what : Exception
  pub leaves : Leaves (told (entered c.system what) m.memory p) (entered c.system what).bad_vaddr c.slot c.pc p m.memory o
  -- at the general vector what was told ends the unit, or it is a store that waits for a copy
  pub ends : vector what ≡ 0x80000080 → EndsUnit m.memory p (entered c.system what).bad_vaddr (told (entered c.system what) m.memory p) ⊎ AwaitsCopy (entered c.system what) g p
  pub pc : what.pc ≡ c.pc
  pub slot : what.slot ≡ c.slot
  -- at the vector of misses a page of the user was missed, and nobody meets a bus error
  pub missed : vector what ≡ 0x80000000 → IsMiss c what
  pub bus : IsNoBusError (event.Raised what.code)
  pub step : s ≡ record { event = event.Raised what.code; core = core_at_vector (counted c) what; bus = b }

-- an outcome and what the processor made of it
abbrev pub Meets : CoreState → BusState → GrantsState → State → ℕ → Outcome → core.Step → Type 0
Meets c b g m p o s = Retires c b g m p o s ⊎ Turns c b m p o s ⊎ Raises c b g m p o s

-- A fault of an instruction has one of the three codes that are told.

abbrev KnownFault : Effect → Type 0
KnownFault (Goes after) = ⊤
KnownFault (Branches after target) = ⊤
KnownFault (Loads size address after) = ⊤
KnownFault (Stores size address after) = ⊤
KnownFault (Faults code) = (code_number (whole.fault_code code) ≡ code) × IsFaultCode code
KnownFault Calls = ⊤
KnownFault Privileged = ⊤

known_trap : (r : Registers) (n : ℕ) (value : Option ℕ) → KnownFault (written_or_trap r n value)
known_trap r n None = (refl, (refl, refl))
known_trap r n (Some v) = tt

known : (i : Instr) (pc : ℕ) (r : Registers) → KnownFault (meaning i pc r)
known (instr.Break code) pc r = (refl, (refl, refl))
known (instr.Add rd rs rt) pc r = known_trap r rd (signed_sum (read r rs) (read r rt))
known (instr.Sub rd rs rt) pc r = known_trap r rd (signed_difference (read r rs) (read r rt))
known (instr.Addi rt rs i) pc r = known_trap r rt (signed_sum (read r rs) (sign_extended 16 i))
known (instr.Reserved w) pc r = (refl, (refl, refl))
known other pc r = tt

-- No coprocessor may be used by a program.

-- by the two low bits of its number
no_bit : (n : ℕ) → n < 4 → (bits user_status (28 + n) 1 == 1) ≡ false
no_bit zero small = refl
no_bit (suc zero) small = refl
no_bit (suc (suc zero)) small = refl
no_bit (suc (suc (suc zero))) small = refl
no_bit (suc (suc (suc (suc n)))) small = absurd (omega (arith, small))

low_bits : (n : ℕ) → n % 4 < 4
low_bits n = omega arith

neither : (a b c : Bool) → b ≡ true → c ≡ false → ((a && not b) || c) ≡ false
neither true b c e f = rw (e, f) refl
neither false b c e f = f

pub barred : (c : CoreState) (unit : ℕ) → c.system.status ≡ user_status → is_coprocessor_usable c unit ≡ false
barred c unit mode =
    neither (unit % 4 == 0) (is_user c.system) (bits c.system.status (28 + unit % 4) 1 == 1)
    (ap (λ (w : ℕ). bits w 1 1 == 1) mode) (ap (λ (w : ℕ). bits w (28 + unit % 4) 1 == 1) mode ∙ no_bit (unit % 4) (low_bits unit))

-- No exception but a miss comes to the vector of misses, and none tells a bus error.

abbrev NoVector : Type 0
NoVector = ◌≡◌ {A = ℕ} 0x80000080 0x80000000

no_vector : {A : Type 0} → NoVector → A
no_vector e = absurd (omega (arith, e))

refusal_bus : (fault : Fault) (store : Bool) → IsNoBusError (event.Raised (reach.code_of fault store))
refusal_bus Address true = tt
refusal_bus Address false = tt
refusal_bus Refill true = tt
refusal_bus Refill false = tt
refusal_bus Invalid true = tt
refusal_bus Invalid false = tt
refusal_bus Modified store = tt

fault_by : (nine twelve : Bool) → IsNoBusError (event.Raised (cond nine Breakpoint (cond twelve Overflow ReservedInstruction)))
fault_by true twelve = tt
fault_by false true = tt
fault_by false false = tt

fault_bus : (code : ℕ) → IsNoBusError (event.Raised (whole.fault_code code))
fault_bus code = fault_by (code == 9) (code == 12)

miss_code : (store : Bool) → is_translation (cond store StoreMiss LoadMiss) ≡ true
miss_code true = refl
miss_code false = refl

refusal_missed : (c : CoreState) (access : Kind) (size : Size) (address : ℕ) (fault : Fault) → is_user c.system ≡ true → reached c access size address ≡ Err fault
    → vector (access_exception c access address fault) ≡ 0x80000000 → IsMiss c (access_exception c access address fault)
refusal_missed c access size address Refill user is at =
    let missed = user_misses c access size address user is in
    record { address = address; user = missed.0; is = refl; code = miss_code (is_store access); miss = refl; missed = missed.1 }
refusal_missed c access size address Address user is at = no_vector at
refusal_missed c access size address Invalid user is at = no_vector at
refusal_missed c access size address Modified user is at = no_vector at

in_memory : (place : ℕ) → place < 2 ^ 23 → is_memory place ≡ true
in_memory place small = grind (arith, nat_tests)

small_offset : (address : ℕ) → address % 4096 < 4096
small_offset address = omega arith

-- An instruction of a process, with the registers of the processor.
module _ (c : CoreState) (b : BusState) (k : Kept) (m : State) (p : ℕ)
    (same : c.registers ≡ (process_of m p).registers) (pages : m.memory ≡ page_state k.grants b.memory) (large : length b.memory ≡ 2 ^ 23)
    (mode : c.system.status ≡ user_status) (small : c.pc < 2 ^ 32)
    (holds : BufferHolds c.entries k.spaces k.grants k.tables) (names : NamesPages k.grants) (some : 0 < p) (number : 0 < space_of k p) (space : asid_of c.system ≡ space_of k p) where
  -- what is reached is granted
  granted : (access : Kind) (size : Size) (address : ℕ) (place : Physical) → reached c access size address ≡ Ok place → IsGranted k.grants p access size address place.0
  granted = user_reaches c k p (ap (λ (w : ℕ). bits w 1 1 == 1) mode) holds names some number space

  -- an exception that leaves the program as the machine leaves it
  left : (e : Exception) (o : Outcome) → e.pc ≡ c.pc → e.slot ≡ c.slot → Leaves (told (entered c.system e) m.memory p) (entered c.system e).bad_vaddr c.slot c.pc p m.memory o
      → (vector e ≡ 0x80000080 → EndsUnit m.memory p (entered c.system e).bad_vaddr (told (entered c.system e) m.memory p) ⊎ AwaitsCopy (entered c.system e) k.grants p)
      → (vector e ≡ 0x80000000 → IsMiss c e) → IsNoBusError (event.Raised e.code)
      → Meets c b k.grants m p o (with_tick (core.at_vector c b e))
  left e o pc slot leaves ends missed bus = inr (inr (record { what = e; leaves = leaves; ends = ends; pc = pc; slot = slot; missed = missed; bus = bus; step = refl }))

  -- one that the buffer's refusal of an access raises
  refused : (access : Kind) (size : Size) (address : ℕ) (fault : Fault) (f : ℕ → ℕ → Outcome) → reached c access size address ≡ Err fault
      → let s = system_after c access address fault in
      kind_told s ≡ access
      → decide m.memory.table p (kind_told s) (size_told s (size_at m.memory p (own_in s))) address ≡ decide m.memory.table p access size address
      → Meets c b k.grants m p (where_allowed (decide m.memory.table p access size address) access address f) (with_tick (core.at_vector c b (access_exception c access address fault)))
  refused access size address fault f is kind answer =
      left (access_exception c access address fault) (where_allowed (decide m.memory.table p access size address) access address f) refl refl
      (leaves_access c access size address fault p m.memory f kind answer)
      (λ general. ends_access (AwaitsCopy (system_after c access address fault) k.grants p) c access size address fault p m.memory answer
      (λ page offset allowed.
      let granted : decide k.grants.table p access size address ≡ Allowed page offset = sym (ap (λ (s : PageState). decide s.table p access size address) pages) ∙ allowed in
      late_awaits c k.grants access size address fault p page offset
      (refused_late c k p (ap (λ (w : ℕ). bits w 1 1 == 1) mode) holds some number space access size address fault is general page offset granted) granted))
      (refusal_missed c access size address fault (ap (λ (w : ℕ). bits w 1 1 == 1) mode) is) (refusal_bus fault (is_store access))

  -- an instruction that leaves these registers and this memory
  puts : (o : Outcome) (after : Registers) (memory : List ℕ) → o ≡ Went (record (with_registers m p after) { memory = page_state k.grants memory }) → length memory ≡ 2 ^ 23 → IsHigh b.memory memory
      → Meets c b k.grants m p o (with_tick (core.at_next c (record b { memory = memory }) after))
  puts o after memory went size high = inl (record { after = after; memory = memory; went = went; size = size; high = high; step = refl })

  -- one that leaves memory
  goes : (after : Registers) → Meets c b k.grants m p (Went (with_registers m p after)) (with_tick (core.at_next c b after))
  goes after = puts (Went (with_registers m p after)) after b.memory (ap (λ (s : PageState). Went (record (with_registers m p after) { memory = s })) pages) large (refl, λ f table. refl)

  branch_meets : (slot : Bool) (after : Registers) (target : ℕ) → c.slot ≡ slot → Meets c b k.grants m p (Branched (with_registers m p after) target) (with_tick (core.branched slot c b after target))
  branch_meets false after target outside = inr (inl (record { after = after; target = target; went = refl; outside = outside; step = refl }))
  branch_meets true after target inside =
      let e = exception c ReservedInstruction in
      left e (Branched (with_registers m p after) target) refl refl
      (subst (λ (x : Bool). Leaves (told (entered c.system e) m.memory p) (entered c.system e).bad_vaddr x c.pc p m.memory (Branched (with_registers m p after) target)) (sym inside)
      (leaves_branch c.system e c.pc p m.memory (with_registers m p after) target refl)) (λ general. inl (ends_fault c.system e 10 p m.memory refl (refl, refl))) (no_vector) tt

  -- the table of the machine's state allows what is granted
  allowed_here : (access : Kind) (size : Size) (address place : ℕ) (a : IsGranted k.grants p access size address place) → decide m.memory.table p access size address ≡ Allowed a.page (address % 4096)
  allowed_here access size address place a = ap (λ (s : PageState). decide s.table p access size address) pages ∙ a.allowed

  -- a word that lies in memory is the page's
  word_here : (access : Kind) (size : Size) (address place : ℕ) (a : IsGranted k.grants p access size address place) → word_at (bytes_of m.memory.pages a.page) (address % 4096) ≡ word_at b.memory place
  word_here access size address place a =
      ap (λ (s : PageState). word_at (bytes_of s.pages a.page) (address % 4096)) pages
      ∙ (sym (word_of_page k.grants b.memory a.page (address % 4096) a.lives a.low names large (small_offset address)) ∙ ap (word_at b.memory) (sym a.lies))

  -- the memory after a store is the pages'
  page_here : (size : Size) (address place : ℕ) (after : ℕ → ℕ) (a : IsGranted k.grants p kind.Store size address place)
      → (let bytes = bytes_of m.memory.pages a.page in record m.memory { pages = slice_set m.memory.pages a.page (Some (with_word bytes (address % 4096) (after (word_at bytes (address % 4096))))) })
      ≡ page_state k.grants (with_word b.memory place (after (word_at b.memory place)))
  page_here size address place after a =
      let w : ℕ = after (word_at b.memory place) in
      ap (λ (x : ℕ). record m.memory { pages = slice_set m.memory.pages a.page (Some (with_word (bytes_of m.memory.pages a.page) (address % 4096) (after x))) }) (word_here kind.Store size address place a)
      ∙ (ap (λ (s : PageState). record s { pages = slice_set s.pages a.page (Some (with_word (bytes_of s.pages a.page) (address % 4096) w)) }) pages
      ∙ (sym (state_stored k.grants b.memory a.page (address % 4096) a.lives a.low names large (small_offset address) (a.alone refl) w)
      ∙ ap (λ (x : ℕ). page_state k.grants (with_word b.memory x w)) (sym a.lies)))

  size_here : (access : Kind) (size : Size) (address place w : ℕ) (a : IsGranted k.grants p access size address place) → length (with_word b.memory place w) ≡ length b.memory
  size_here access size address place w a = ap (λ (x : ℕ). length (with_word b.memory x w)) a.lies ∙ size_stored k.grants b.memory a.page (address % 4096) a.lives a.low names large (small_offset address) w

  -- a store changes no page table
  high_here : (access : Kind) (size : Size) (address place w : ℕ) (a : IsGranted k.grants p access size address place) → IsHigh b.memory (with_word b.memory place w)
  high_here access size address place w a = let lies = a.lies in high_stored b.memory place w large (omega (arith, lies)) a.small

  -- Loads and stores of an instruction that was fetched, and asks for this size.
  module _ (fetched : Physical) (fetches : reached c kind.Fetch Word c.pc ≡ Ok fetched) where
    load_meets : (size : Size) (address : ℕ) (after : ℕ → Registers) → size_at m.memory p c.pc ≡ size → (r : Result Physical Fault) → reached c kind.Load size address ≡ r
        → Meets c b k.grants m p (where_allowed (decide m.memory.table p kind.Load size address) kind.Load address (λ page offset. Went (with_registers m p (after (word_at (bytes_of m.memory.pages page) offset)))))
        (with_tick (reach.loaded_from c b size address after r))
    load_meets size address after asked (Err fault) is =
        let s = system_after c kind.Load address fault in
        let own : size_at m.memory p (own_in s) ≡ size = ap (size_at m.memory p) (own_after c kind.Load address fault small) ∙ asked in
        refused kind.Load size address fault _ is (load_kind c size address fault fetched small is fetches)
        (ap (λ (x : Size). decide m.memory.table p (kind_told s) (size_told s x) address) own ∙ load_answer c size address fault fetched m.memory.table p small is fetches)
    load_meets size address after asked (Ok place) is =
        let a = granted kind.Load size address place is in
        let o : where_allowed (decide m.memory.table p kind.Load size address) kind.Load address (λ page offset. Went (with_registers m p (after (word_at (bytes_of m.memory.pages page) offset)))) ≡ Went (with_registers m p (after (word_at b.memory place.0))) =
        ap (λ (v : Verdict). where_allowed v kind.Load address (λ page offset. Went (with_registers m p (after (word_at (bytes_of m.memory.pages page) offset))))) (allowed_here kind.Load size address place.0 a)
        ∙ ap (λ (w : ℕ). Went (with_registers m p (after w))) (word_here kind.Load size address place.0 a) in
        subst (λ (x : Outcome). Meets c b k.grants m p x (with_tick (reach.loaded_from c b size address after (Ok place)))) (sym o)
        (rw (in_memory place.0 a.small) (goes (after (word_at b.memory place.0))))

    store_meets : (size : Size) (address : ℕ) (after : ℕ → ℕ) → size_at m.memory p c.pc ≡ size → (r : Result Physical Fault) → reached c kind.Store size address ≡ r
        → Meets c b k.grants m p (where_allowed (decide m.memory.table p kind.Store size address) kind.Store address (λ page offset. Went (stored (with_registers m p (settled (process_of m p).registers)) page offset after)))
        (with_tick (reach.stored_to c b size address after r))
    store_meets size address after asked (Err fault) is =
        let s = system_after c kind.Store address fault in
        let own : size_at m.memory p (own_in s) ≡ size = ap (size_at m.memory p) (own_after c kind.Store address fault small) ∙ asked in
        refused kind.Store size address fault _ is (store_kind c address fault)
        (ap (λ (x : Size). decide m.memory.table p (kind_told s) (size_told s x) address) own ∙ store_answer c size address fault m.memory.table p is)
    store_meets size address after asked (Ok place) is =
        let a = granted kind.Store size address place is in
        let memory : List ℕ = with_word b.memory place.0 (after (word_at b.memory place.0)) in
        let went : where_allowed (decide m.memory.table p kind.Store size address) kind.Store address (λ page offset. Went (stored (with_registers m p (settled (process_of m p).registers)) page offset after))
        ≡ Went (record (with_registers m p (settled c.registers)) { memory = page_state k.grants memory }) =
        ap (λ (v : Verdict). where_allowed v kind.Store address (λ page offset. Went (stored (with_registers m p (settled (process_of m p).registers)) page offset after))) (allowed_here kind.Store size address place.0 a)
        ∙ ap₂ (λ (r : Registers) (s : PageState). Went (record (with_registers m p (settled r)) { memory = s })) (sym same) (page_here size address place.0 after a) in
        rw (in_memory place.0 a.small) (puts _ (settled c.registers) memory went (size_here kind.Store size address place.0 (after (word_at b.memory place.0)) a ∙ large) (high_here kind.Store size address place.0 (after (word_at b.memory place.0)) a))

    -- the outcome of the instruction's effect
    effect_meets : (i : Instr) (e : Effect) → size_asked e ≡ access_size i → KnownFault e → size_at m.memory p c.pc ≡ unwrap_or (access_size i) Word
        → Meets c b k.grants m p (done m p c.pc e) (with_tick (whole.effect c b i e))
    effect_meets i (Goes after) asks code_known sized = goes after
    effect_meets i (Branches after target) asks code_known sized = branch_meets c.slot after target refl
    effect_meets i (Loads size address after) asks code_known sized = load_meets size address after (sized ∙ ap (λ (o : Option Size). unwrap_or o Word) (sym asks)) (reached c kind.Load size address) refl
    effect_meets i (Stores size address after) asks code_known sized = store_meets size address after (sized ∙ ap (λ (o : Option Size). unwrap_or o Word) (sym asks)) (reached c kind.Store size address) refl
    effect_meets i (Faults code) asks code_known sized =
        let e = exception c (whole.fault_code code) in
        left e (Stopped (fault c.pc code)) refl refl (leaves_fault c.system e c.slot code c.pc p m.memory code_known.0 code_known.1)
        (λ general. inl (ends_fault c.system e code p m.memory code_known.0 code_known.1)) no_vector (fault_bus code)
    effect_meets i Calls asks code_known sized = let e = exception c SystemCall in left e Called refl refl (leaves_call c.system e c.slot c.pc p m.memory refl) (λ general. inl (ends_call c.system e p m.memory refl)) no_vector tt
    effect_meets i Privileged asks code_known sized =
        let e = unusable_exception c (unit_of i) in
        rw (barred c (unit_of i) mode) (left e (Stopped (fault c.pc 11)) refl refl (leaves_fault c.system e c.slot 11 c.pc p m.memory refl (refl, refl)) (λ general. inl (ends_fault c.system e 11 p m.memory refl (refl, refl))) no_vector tt)

  -- the instruction at pc, whether it is fetched or not
  fetch_meets : (r : Result Physical Fault) → reached c kind.Fetch Word c.pc ≡ r
      → Meets c b k.grants m p (where_allowed (decide m.memory.table p kind.Fetch Word c.pc) kind.Fetch c.pc (λ page offset. done m p c.pc (meaning (instruction_of (word_at (bytes_of m.memory.pages page) offset)) c.pc (process_of m p).registers)))
      (with_tick (whole.fetched_from c b r))
  fetch_meets (Err fault) is =
      refused kind.Fetch Word c.pc fault _ is (fetch_kind c fault small is)
      (fetch_answer c (size_at m.memory p (own_in (system_after c kind.Fetch c.pc fault))) fault m.memory.table p small is)
  fetch_meets (Ok place) is =
      let a = granted kind.Fetch Word c.pc place is in
      let d = allowed_here kind.Fetch Word c.pc place.0 a in
      let w = word_here kind.Fetch Word c.pc place.0 a in
      let i : Instr = instruction_of (word_at b.memory place.0) in
      let sized : size_at m.memory p c.pc ≡ unwrap_or (access_size i) Word =
      ap (size_on m.memory.pages) d ∙ ap (λ (x : ℕ). unwrap_or (access_size (instruction_of x)) Word) w in
      let o : where_allowed (decide m.memory.table p kind.Fetch Word c.pc) kind.Fetch c.pc (λ page offset. done m p c.pc (meaning (instruction_of (word_at (bytes_of m.memory.pages page) offset)) c.pc (process_of m p).registers)) ≡ done m p c.pc (meaning i c.pc c.registers) =
      ap (λ (v : Verdict). where_allowed v kind.Fetch c.pc (λ page offset. done m p c.pc (meaning (instruction_of (word_at (bytes_of m.memory.pages page) offset)) c.pc (process_of m p).registers))) d
      ∙ ap₂ (λ (x : ℕ) (r : Registers). done m p c.pc (meaning (instruction_of x) c.pc r)) w (sym same) in
      subst (λ (x : Outcome). Meets c b k.grants m p x (with_tick (whole.fetched_from c b (Ok place)))) (sym o)
      (rw (in_memory place.0 a.small) (effect_meets place is i (meaning i c.pc c.registers) (sizes_alike i c.pc c.registers) (known i c.pc c.registers) sized))

  -- one instruction of both
  pub instruction_meets : Meets c b k.grants m p (instruction m p c.pc) (with_tick (whole.instruction_step c b))
  unfolding instruction
  instruction_meets = fetch_meets (reached c kind.Fetch Word c.pc) refl
