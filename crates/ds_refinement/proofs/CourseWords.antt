-- What the words of the handler and the services do to the course of a unit.
use Rattle.std.proofs.Common.{◌≡◌, ◌≢◌, ℕ, ◌+◌, ◌-◌, ◌*◌, ◌/◌, ◌<◌, Bool, true, false, List, length, refl, ap, ap₂, ◌∙◌, arith}
use Rattle.std.proofs.lemmas.Bool.Decides.{nat_tests}
use Rattle.std.specs.Prelude.{None, ◌==◌, slice_set}
use Rattle.ds_word.specs.Word.{bits}
use Rattle.ds_tlb.specs.declared.entry.Entry.{Entry}
use Rattle.ds_tlb.specs.Entries.{find, random_after}
use Rattle.ds_tlb.specs.Words.{entry_of}
use Rattle.ds_cp0.specs.System.{asid_of, is_user}
use Rattle.ds_core.specs.Core.{CoreState}
use Rattle.ds_refinement.specs.Told.{code_in}
use Rattle.ds_refinement.specs.Course.{UnitPages, UnitPlace, Begun, AtWord, AtDoubleMiss, AtModification}
use Rattle.ds_refinement.specs.Inner.Course.{after_touch}
use Rattle.ds_refinement.specs.CourseSteps.{table_page}
use Rattle.ds_refinement.specs.Inner.CourseSteps.{Next, Passes, MissesTable, Writes, Returns, Tables, Copies}
use Rattle.ds_grants.specs.Copies.{HasKeys}
use Rattle.ds_refinement.specs.Counts.{Counts, one_more, one_written, one_tabled, one_copied, place_by, unit_place, work_of, course_of}

-- the same course
alike : (c : CoreState) (n : Counts) (dirty : ℕ → Bool) (pages : UnitPages) (place : UnitPlace) (page asid : ℕ) (entries : List Entry) (random : ℕ)
    → unit_place c ≡ place → bits c.system.entry_hi 12 20 ≡ page → asid_of c.system ≡ asid → c.entries ≡ entries → c.random ≡ random
    → course_of c n dirty pages ≡ record { place = place; page = page; work = record (work_of c n dirty pages) { asid = asid; entries = entries; random = random } }
alike c n dirty pages place page asid entries random a b d e f =
    ap₂ (λ (x : UnitPlace) (y : ℕ). record { place = x; page = y; work = work_of c n dirty pages }) a b
    ∙ (ap (λ (x : ℕ). record { place = place; page = page; work = record (work_of c n dirty pages) { asid = x } }) d
    ∙ ap₂ (λ (x : List Entry) (y : ℕ). record { place = place; page = page; work = record (work_of c n dirty pages) { asid = asid; entries = x; random = y } }) e f)

-- in kernel mode, at an address
in_kernel : (c : CoreState) (pc : ℕ) → c.pc ≡ pc → is_user c.system ≡ false → unit_place c ≡ place_by false c.slot (pc == 0x80000080) (bits c.system.status 3 1 == 1) (code_in c.system == 1) pc
in_kernel c pc at kernel = ap₂ (λ (b : Bool) (x : ℕ). place_by b c.slot (x == 0x80000080) (bits c.system.status 3 1 == 1) (code_in c.system == 1) x) kernel at

-- in user mode, outside a slot
in_user : (c : CoreState) → is_user c.system ≡ true → c.slot ≡ false → unit_place c ≡ Begun
in_user c user outside = ap₂ (λ (a b : Bool). place_by a b (c.pc == 0x80000080) (bits c.system.status 3 1 == 1) (code_in c.system == 1) c.pc) user outside

-- before a word of the handler
not_general : (word : ℕ) → word < 9 → (0x80000000 + 4 * word == 0x80000080) ≡ false
not_general word low = grind (arith, nat_tests)

word_of : (word : ℕ) → (0x80000000 + 4 * word - 0x80000000) / 4 ≡ word
word_of word = omega arith

pub in_handler : (c : CoreState) (word : ℕ) → word < 9 → c.pc ≡ 0x80000000 + 4 * word → is_user c.system ≡ false → unit_place c ≡ AtWord word
in_handler c word low at kernel =
    in_kernel c (0x80000000 + 4 * word) at kernel
    ∙ ap₂ (λ (b : Bool) (x : ℕ). place_by false c.slot b (bits c.system.status 3 1 == 1) (code_in c.system == 1) (0x80000000 + 4 * word)) (not_general word low) (word_of word)
    ∙ ap AtWord (word_of word)

-- after a double miss, and after a store that was refused
pub at_double : (c : CoreState) → c.pc ≡ 0x80000080 → is_user c.system ≡ false → bits c.system.status 3 1 ≡ 0 → unit_place c ≡ AtDoubleMiss
at_double c at kernel before = in_kernel c 0x80000080 at kernel ∙ ap (λ (x : ℕ). place_by false c.slot true (x == 1) (code_in c.system == 1) 0x80000080) before

pub at_modified : (c : CoreState) → c.pc ≡ 0x80000080 → is_user c.system ≡ false → bits c.system.status 3 1 ≡ 1 → code_in c.system ≡ 1 → unit_place c ≡ AtModification
at_modified c at kernel before code =
    in_kernel c 0x80000080 at kernel ∙ ap₂ (λ (x y : ℕ). place_by false c.slot true (x == 1) (y == 1) 0x80000080) before code

module _ (c d : CoreState) (n : Counts) (dirty : ℕ → Bool) (pages : UnitPages) where
  pub passes : (word : ℕ) → word < 8 → ◌≢◌ {A = ℕ} word 6 → c.pc ≡ 0x80000000 + 4 * word → d.pc ≡ 0x80000000 + 4 * (word + 1) → is_user c.system ≡ false → is_user d.system ≡ false
      → d.system.entry_hi ≡ c.system.entry_hi → d.entries ≡ c.entries → d.random ≡ random_after 64 8 c.random → Next (course_of c n dirty pages) (course_of d (one_more n) dirty pages)
  passes word low apart at there kernel still hi entries random =
      Passes word (in_handler c word (omega arith) at kernel) low apart
      (alike d (one_more n) dirty pages (AtWord (word + 1)) (bits c.system.entry_hi 12 20) (asid_of c.system) c.entries (random_after 64 8 c.random)
      (in_handler d (word + 1) (omega arith) there still) (ap (λ (w : ℕ). bits w 12 20) hi) (ap (λ (w : ℕ). bits w 6 6) hi) entries random)

  pub misses_table : c.pc ≡ 0x80000008 → d.pc ≡ 0x80000080 → is_user c.system ≡ false → is_user d.system ≡ false → bits d.system.status 3 1 ≡ 0
      → bits d.system.entry_hi 12 20 ≡ table_page (bits c.system.entry_hi 12 20) → asid_of d.system ≡ asid_of c.system → d.entries ≡ c.entries → d.random ≡ random_after 64 8 c.random
      → find c.entries (table_page (bits c.system.entry_hi 12 20)) (asid_of c.system) ≡ None → Next (course_of c n dirty pages) (course_of d (one_more n) dirty pages)
  misses_table at there kernel still before page asid entries random none =
      MissesTable (in_handler c 2 (omega arith) at kernel) none
      (alike d (one_more n) dirty pages AtDoubleMiss (table_page (bits c.system.entry_hi 12 20)) (asid_of c.system) c.entries (random_after 64 8 c.random) (at_double d there still before) page asid entries random)

  pub writes : c.pc ≡ 0x80000018 → d.pc ≡ 0x8000001C → is_user c.system ≡ false → is_user d.system ≡ false → d.system.entry_hi ≡ c.system.entry_hi
      → d.entries ≡ slice_set c.entries c.random (entry_of c.system.entry_hi c.system.entry_lo) → d.random ≡ random_after 64 8 c.random
      → Next (course_of c n dirty pages) (course_of d (one_written c.random n) dirty (after_touch pages))
  writes at there kernel still hi entries random =
      let e : Entry = entry_of c.system.entry_hi c.system.entry_lo in
      Writes e (in_handler c 6 (omega arith) at kernel) refl refl
      (alike d (one_written c.random n) dirty (after_touch pages) (AtWord 7) (bits c.system.entry_hi 12 20) (asid_of c.system) (slice_set c.entries c.random e) (random_after 64 8 c.random)
      (in_handler d 7 (omega arith) there still) (ap (λ (w : ℕ). bits w 12 20) hi) (ap (λ (w : ℕ). bits w 6 6) hi) entries random)

  pub returns : c.pc ≡ 0x80000020 → is_user c.system ≡ false → is_user d.system ≡ true → d.slot ≡ false → d.system.entry_hi ≡ c.system.entry_hi → d.entries ≡ c.entries → d.random ≡ random_after 64 8 c.random
      → Next (course_of c n dirty pages) (course_of d (one_more n) dirty pages)
  returns at kernel user outside hi entries random =
      Returns (in_handler c 8 (omega arith) at kernel)
      (alike d (one_more n) dirty pages Begun (bits c.system.entry_hi 12 20) (asid_of c.system) c.entries (random_after 64 8 c.random)
      (in_user d user outside) (ap (λ (w : ℕ). bits w 12 20) hi) (ap (λ (w : ℕ). bits w 6 6) hi) entries random)

  pub tables : (lo : ℕ) → c.pc ≡ 0x80000080 → is_user c.system ≡ false → bits c.system.status 3 1 ≡ 0 → is_user d.system ≡ true → d.slot ≡ false → d.system.entry_hi ≡ c.system.entry_hi
      → d.entries ≡ slice_set c.entries n.wired (entry_of c.system.entry_hi lo) → d.random ≡ c.random → Next (course_of c n dirty pages) (course_of d (one_tabled n) dirty (after_touch pages))
  tables lo at kernel before user outside hi entries random =
      let e : Entry = entry_of c.system.entry_hi lo in
      Tables e (at_double c at kernel before) refl refl
      (alike d (one_tabled n) dirty (after_touch pages) Begun (bits c.system.entry_hi 12 20) (asid_of c.system) (slice_set c.entries n.wired e) c.random
      (in_user d user outside) (ap (λ (w : ℕ). bits w 12 20) hi) (ap (λ (w : ℕ). bits w 6 6) hi) entries random)

  pub copies : (after : ℕ → Bool) → c.pc ≡ 0x80000080 → is_user c.system ≡ false → bits c.system.status 3 1 ≡ 1 → code_in c.system ≡ 1 → is_user d.system ≡ true → d.slot ≡ false
      → d.system.entry_hi ≡ c.system.entry_hi → d.random ≡ c.random → after (bits c.system.entry_hi 12 20) ≡ true
      → HasKeys c.entries d.entries → length d.entries ≡ length c.entries → Next (course_of c n dirty pages) (course_of d (one_copied n) after (after_touch pages))
  copies after at kernel before code user outside hi random clean keys size =
      Copies d.entries after (at_modified c at kernel before code) clean keys size
      (alike d (one_copied n) after (after_touch pages) Begun (bits c.system.entry_hi 12 20) (asid_of c.system) d.entries c.random
      (in_user d user outside) (ap (λ (w : ℕ). bits w 12 20) hi) (ap (λ (w : ℕ). bits w 6 6) hi) refl random)
