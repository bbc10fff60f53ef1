-- The nine words of the handler take a unit on.
use Rattle.std.proofs.Common.{◌≡◌, ◌≢◌, ℕ, zero, suc, ◌+◌, ◌*◌, ◌/◌, ◌%◌, ◌<◌, ◌^◌, Bool, true, false, cond, refl, sym, ap, ap₂, subst, ◌∙◌, arith}
use Rattle.std.proofs.lemmas.Bool.Decides.{nat_tests}
use Rattle.std.specs.Prelude.{Option, Some, None, Result, Ok, Err, nat_lt, nat_le, not, ◌&&◌, slice_get, ◌==◌}
use Rattle.ds_word.specs.Word.{bits}
use Rattle.ds_word.specs.Bytes.{word_at}
use Rattle.ds_isa.specs.declared.instr.Size.TheVariants.{Word}
use Rattle.ds_isa.specs.declared.instr.Kind.TheVariants.{Load}
use Rattle.ds_isa.specs.Meaning.{access_address}
use Rattle.ds_isa.specs.Registers.{loaded, read, settled}
use Rattle.ds_tlb.specs.declared.entry.Entry.{Entry}
use Rattle.ds_tlb.specs.Entries.{find, random_after}
use Rattle.ds_amap.specs.declared.map.Physical.{Physical}
use Rattle.ds_amap.specs.declared.map.Fault.{Fault}
use Rattle.ds_amap.specs.declared.map.Fault.TheVariants.{Address, Refill, Invalid}
use Rattle.ds_amap.specs.declared.map.Mode.TheVariants.{User, Kernel}
use Rattle.ds_amap.specs.Map.{at_physical, through_slot, through_found, mapped, translate, place}
use Rattle.ds_cp0.specs.System.{System, asid_of, is_user, pushed, popped, with_field}
use Rattle.ds_dev.specs.Bus.{BusState, is_memory, answers, load}
use Rattle.ds_core.specs.Core as core
use Rattle.ds_core.specs.Core.{CoreState, at_next, with_tick, branched}
use Rattle.ds_core.specs.Access.{mode_of, reached, access_exception, refused_step, load_answered, loaded_from}
use Rattle.ds_core.specs.Effect.{step}
use Rattle.ds_refill.specs.Handler.{HasWords}
use Rattle.ds_refill.specs.Inner.Refill.{IsKernel}
use Rattle.ds_refill.specs.Inner.Refill as refill
use Rattle.ds_refill.proofs.EachWord.{context_is_read, address_is_read, entry_is_loaded, nothing_is_done, entry_is_moved, register_is_cleared, entry_is_written, jump_is_taken, mode_is_popped}
use Rattle.ds_refinement.proofs.Exceptions.{space_told, status_told}
use Rattle.ds_refinement.specs.Course.{UnitPages}
use Rattle.ds_refinement.specs.Inner.Course.{after_touch}
use Rattle.ds_refinement.specs.CourseSteps.{table_page}
use Rattle.ds_refinement.specs.Inner.CourseSteps.{Next}
use Rattle.ds_refinement.specs.Counts.{Counts, one_more, one_written, course_of}
use Rattle.ds_refinement.proofs.AskedFor.{found_at, missed, shows}
use Rattle.ds_refinement.proofs.CourseWords as words

kernel : (s : System) → s.status ≡ 0xC0C → is_user s ≡ false
kernel s mode = ap (λ (w : ℕ). bits w 1 1 == 1) mode

is_kernel : (s : System) → s.status ≡ 0xC0C → IsKernel s
is_kernel s mode = record { mode = kernel s mode; off = ap (λ (w : ℕ). bits w 0 1) mode }

table_address : (w page : ℕ) → page < 2 ^ 19 → bits (with_field w 12 20 (bits (0xC0000000 + 4 * page) 12 20)) 12 20 ≡ table_page page
table_address w page low = omega (arith, low)

table_of : (page : ℕ) → (0xC0000000 + 4 * page) / 2 ^ 12 ≡ table_page page
table_of page = omega arith

upper : (page : ℕ) → nat_lt (0xC0000000 + 4 * page) (2 ^ 31) ≡ false
upper page = grind (arith, nat_tests)

whole_word : (page : ℕ) → ((0xC0000000 + 4 * page) % 4 == 0) ≡ true
whole_word page = grind (arith, nat_tests)

is_high : (page : ℕ) → nat_le 0x80000000 (0xC0000000 + 4 * page) ≡ true
is_high page = grind (arith, nat_tests)

is_mapped : (page : ℕ) → nat_lt (0xC0000000 + 4 * page) 0xC0000000 ≡ false
is_mapped page = grind (arith, nat_tests)

in_memory : (pfn x : ℕ) → pfn < 2048 → is_memory (pfn % 2 ^ 20 * 2 ^ 12 + x % 2 ^ 12) ≡ true
in_memory pfn x small = let within : pfn % 2 ^ 20 * 2 ^ 12 + x % 2 ^ 12 < 2 ^ 23 = omega (arith, small) in grind (arith, nat_tests, within)

module _ (c : CoreState) (b : BusState) (n : Counts) (dirty : ℕ → Bool) (pages : UnitPages) (w : HasWords b.memory) (mode : c.system.status ≡ 0xC0C) where
  k : IsKernel c.system
  k = is_kernel c.system mode

  -- the step is known
  by : (m : Counts) (after : UnitPages) (s : core.Step) → step c b ≡ s → Next (course_of c n dirty pages) (course_of s.core m dirty after) → Next (course_of c n dirty pages) (course_of (step c b).core m dirty after)
  by m after s is next = subst (λ (x : core.Step). Next (course_of c n dirty pages) (course_of x.core m dirty after)) (sym is) next

  one : (word : ℕ) → word < 8 → ◌≢◌ {A = ℕ} word 6 → c.pc ≡ 0x80000000 + 4 * word → c.next ≡ 0x80000000 + 4 * (word + 1) → (s : core.Step) → step c b ≡ s
      → s.core.pc ≡ c.next → is_user s.core.system ≡ false → s.core.system.entry_hi ≡ c.system.entry_hi → s.core.entries ≡ c.entries → s.core.random ≡ random_after 64 8 c.random
      → Next (course_of c n dirty pages) (course_of (step c b).core (one_more n) dirty pages)
  one word low apart at next s is pc still hi entries random =
      by (one_more n) pages s is (words.passes c s.core n dirty pages word low apart at (pc ∙ next) (kernel c.system mode) still hi entries random)

  pub passes : (word : ℕ) → word < 8 → ◌≢◌ {A = ℕ} word 2 → ◌≢◌ {A = ℕ} word 6 → c.slot ≡ false → c.pc ≡ 0x80000000 + 4 * word → c.next ≡ 0x80000000 + 4 * (word + 1)
      → Next (course_of c n dirty pages) (course_of (step c b).core (one_more n) dirty pages)
  passes zero low two six outside at next = one 0 low six at next (refill.context_read c b) (context_is_read c b w k at) refl (kernel c.system mode) refl refl refl
  passes (suc zero) low two six outside at next = one 1 low six at next (refill.address_read c b) (address_is_read c b w k at) refl (kernel c.system mode) refl refl refl
  passes (suc (suc zero)) low two six outside at next = absurd (two refl)
  passes (suc (suc (suc zero))) low two six outside at next = one 3 low six at next (refill.passed c b) (nothing_is_done c b w k at) refl (kernel c.system mode) refl refl refl
  passes (suc (suc (suc (suc zero)))) low two six outside at next = one 4 low six at next (refill.entry_moved c b) (entry_is_moved c b w k at) refl (kernel c.system mode) refl refl refl
  passes (suc (suc (suc (suc (suc zero))))) low two six outside at next = one 5 low six at next (refill.cleared c b) (register_is_cleared c b w k at) refl (kernel c.system mode) refl refl refl
  passes (suc (suc (suc (suc (suc (suc zero)))))) low two six outside at next = absurd (six refl)
  passes (suc (suc (suc (suc (suc (suc (suc zero))))))) low two six outside at next =
      one 7 low six at next (with_tick (branched false c b (settled c.registers) (read c.registers 27))) (jump_is_taken c b w k at ∙ ap (λ (slot : Bool). with_tick (branched slot c b (settled c.registers) (read c.registers 27))) outside) refl (kernel c.system mode) refl refl refl
  passes (suc (suc (suc (suc (suc (suc (suc (suc word)))))))) low two six outside at next = absurd (omega arith)

  pub loads : (place : ℕ) → c.pc ≡ 0x80000008 → c.next ≡ 0x8000000C → reached c Load Word (access_address c.registers 26 0) ≡ Ok (at_physical place) → is_memory place ≡ true
      → Next (course_of c n dirty pages) (course_of (step c b).core (one_more n) dirty pages)
  loads place at next reach here =
      let address : ℕ = access_address c.registers 26 0 in
      let is : step c b ≡ with_tick (at_next c b (loaded c.registers 26 (word_at b.memory place))) =
      entry_is_loaded c b w k at
      ∙ (ap (λ (p : Result Physical Fault). with_tick (loaded_from c b Word address (λ v. loaded c.registers 26 v) p)) reach
      ∙ ap (λ (p : Bool). with_tick (let a = cond p (answers b (word_at b.memory place)) (load b place Word) in load_answered c a.1 (λ v. loaded c.registers 26 v) a.0)) here) in
      one 2 (omega arith) (λ (e : ◌≡◌ {A = ℕ} 2 6). omega arith) at next (with_tick (at_next c b (loaded c.registers 26 (word_at b.memory place)))) is refl (kernel c.system mode) refl refl refl

  pub misses : c.pc ≡ 0x80000008 → bits c.system.entry_hi 12 20 < 2 ^ 19 → access_address c.registers 26 0 ≡ 0xC0000000 + 4 * bits c.system.entry_hi 12 20
      → reached c Load Word (access_address c.registers 26 0) ≡ Err Refill → Next (course_of c n dirty pages) (course_of (step c b).core (one_more n) dirty pages)
  misses at low address reach =
      let page : ℕ = bits c.system.entry_hi 12 20 in
      let x : ℕ = 0xC0000000 + 4 * page in
      let there : reached c Load Word x ≡ Err Refill = sym (ap (reached c Load Word) address) ∙ reach in
      let is : step c b ≡ with_tick (refused_step c b Load x Refill) =
      entry_is_loaded c b w k at
      ∙ (ap (λ (a : ℕ). with_tick (loaded_from c b Word a (λ v. loaded c.registers 26 v) (reached c Load Word a))) address
      ∙ ap (λ (p : Result Physical Fault). with_tick (loaded_from c b Word x (λ v. loaded c.registers 26 v) p)) there) in
      let s = with_tick (refused_step c b Load x Refill) in
      let status : s.core.system.status ≡ 0xC30 = status_told c.system (access_exception c Load x Refill) ∙ ap pushed mode in
      by (one_more n) pages s is
      (words.misses_table c s.core n dirty pages at (ap (λ (b : Bool). cond b 0x80000000 0x80000080) (upper page)) (kernel c.system mode)
      (ap (λ (w : ℕ). bits w 1 1 == 1) status) (ap (λ (w : ℕ). bits w 3 1) status)
      (ap (λ (w : ℕ). bits w 12 20) (shows c Load x) ∙ table_address c.system.entry_hi page low) (space_told c.system (access_exception c Load x Refill)) refl refl
      (subst (λ (page : ℕ). find c.entries page (asid_of c.system) ≡ None) (table_of page) (missed c Load Word x there)))

  pub writes : c.pc ≡ 0x80000018 → c.next ≡ 0x8000001C → Next (course_of c n dirty pages) (course_of (step c b).core (one_written c.random n) dirty (after_touch pages))
  writes at next =
      by (one_written c.random n) (after_touch pages) (refill.entry_written c b) (entry_is_written c b w k at)
      (words.writes c (refill.entry_written c b).core n dirty pages at next (kernel c.system mode) (kernel c.system mode) refl refl refl)

  pub returns : c.pc ≡ 0x80000020 → Next (course_of c n dirty pages) (course_of (step c b).core (one_more n) dirty pages)
  returns at =
      by (one_more n) pages (refill.came_back c b) (mode_is_popped c b w k at)
      (words.returns c (refill.came_back c b).core n dirty pages at (kernel c.system mode) (ap (λ (w : ℕ). bits (popped w) 1 1 == 1) mode) refl refl refl refl)

  -- The third word, whether the page of the table has an entry or not.
  module _ (at : c.pc ≡ 0x80000008) (next : c.next ≡ 0x8000000C) (low : bits c.system.entry_hi 12 20 < 2 ^ 19) (address : access_address c.registers 26 0 ≡ 0xC0000000 + 4 * bits c.system.entry_hi 12 20)
      (found : (slot : ℕ) (e : Entry) → find c.entries (table_page (bits c.system.entry_hi 12 20)) (asid_of c.system) ≡ Some slot → slice_get c.entries slot ≡ Some e → (e.v ≡ true) × (e.pfn < 2048)) where
    abbrev page : ℕ
    page = bits c.system.entry_hi 12 20

    abbrev x : ℕ
    x = 0xC0000000 + 4 * page

    by_buffer : reached c Load Word x ≡ through_found c.entries (find c.entries (table_page page) (asid_of c.system)) Load x
    by_buffer =
        ap (λ (p : Bool). cond (not p) (Err Address) (translate c.entries (asid_of c.system) (mode_of c.system) Load x)) (whole_word page)
        ∙ (ap (λ (u : Bool). translate c.entries (asid_of c.system) (cond u User Kernel) Load x) (kernel c.system mode)
        ∙ (ap₂ (λ (high below : Bool). cond (not (not (high && false))) (Err Address) (cond (high && below) (Ok (at_physical (x % 2 ^ 29))) (mapped c.entries (asid_of c.system) Load x))) (is_high page) (is_mapped page)
        ∙ ap (λ (n : ℕ). through_found c.entries (find c.entries n (asid_of c.system)) Load x) (table_of page)))

    pub third : Next (course_of c n dirty pages) (course_of (step c b).core (one_more n) dirty pages)
    third = by_find (find c.entries (table_page page) (asid_of c.system)) refl
      where
        by_find : (f : Option ℕ) → find c.entries (table_page page) (asid_of c.system) ≡ f → Next (course_of c n dirty pages) (course_of (step c b).core (one_more n) dirty pages)
        by_find None is = misses at low address (ap (reached c Load Word) address ∙ (by_buffer ∙ ap (λ (f : Option ℕ). through_found c.entries f Load x) is))
        by_find (Some slot) is =
            let e = found_at c.entries (table_page page) (asid_of c.system) slot is in
            let good = found slot e.0 is e.1 in
            let small : e.0.pfn < 2048 = good.1 in
            let there : reached c Load Word x ≡ Ok (at_physical (place e.0 x)) =
            by_buffer ∙ (ap (λ (f : Option ℕ). through_found c.entries f Load x) is
            ∙ (ap (λ (o : Option Entry). through_slot o Load x) e.1
            ∙ ap (λ (v : Bool). cond (not v) (Err Invalid) (Ok (at_physical (place e.0 x)))) good.0)) in
            loads (place e.0 x) at next (ap (reached c Load Word) address ∙ there) (in_memory e.0.pfn x small)
