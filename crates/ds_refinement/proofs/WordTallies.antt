-- What the words of the handler and the service of a double miss leave is tallied.
use Rattle.std.proofs.Common.{◌≡◌, ◌≢◌, ℕ, ◌+◌, ◌*◌, ◌-◌, ◌/◌, ◌^◌, ◌<◌, ◌≤◌, ◌==◌, Bool, true, false, List, [], ◌∷◌, length, set, Some, refl, sym, ap, ap₂, subst, ◌∙◌, arith}
use Rattle.std.proofs.lemmas.Bool.Decides.{nat_tests}
use Rattle.std.proofs.lemmas.List.{get_or-set_same, get_or-set_other}
use Rattle.std.specs.Prelude.{slice_index, if◌then◌else◌}
use Rattle.ds_word.specs.Word.{word, bits}
use Rattle.ds_isa.specs.Meaning.{access_address}
use Rattle.ds_isa.specs.Registers.{Registers}
use Rattle.ds_tlb.specs.declared.entry.Entry.{Entry}
use Rattle.ds_tlb.specs.Entries.{find}
use Rattle.ds_cp0.specs.System.{asid_of, is_user}
use Rattle.ds_core.specs.Core.{CoreState}
use Rattle.ds_core.specs.Effect.{step}
use Rattle.ds_refill.specs.Handler as refill
use Rattle.ds_refill.specs.Refill.{lent, late_of}
use Rattle.ds_tables.specs.Places.{page_of_table}
use Rattle.ds_grants.specs.Buffer.{hi_of, read_only}
use Rattle.ds_pagemap.specs.Machine.{State, touched}
use Rattle.ds_refinement.specs.Course.{AtWord, Course, UnitPages}
use Rattle.ds_refinement.specs.Inner.Course.{after_touch}
use Rattle.ds_refinement.specs.Inner.CourseSteps.{Next}
use Rattle.ds_refinement.specs.Tally.{IsTallied}
use Rattle.ds_refinement.proofs.UnitCourses as courses
use Rattle.ds_refinement.specs.Held.{Held, space_of}
use Rattle.ds_refinement.specs.Needs.{pages_of_unit}
use Rattle.ds_refinement.specs.Counts.{Counts, counts_of, course_of, may_write, one_more, one_written, one_tabled, one_word}
use Rattle.ds_refinement.specs.Units.{is_general, is_served, has_left_user}
use Rattle.ds_refinement.specs.Handling.{Phase, AtContext, AtAddress, AtLoad, AtPause, AtMove, AtClear, AtWrite, AtJump, AtReturn, InHandler, InDouble, touches}
use Rattle.ds_refinement.specs.Stands.{RunningIs, Agrees}
use Rattle.ds_refinement.specs.Inner.Stands.{IsSound}
use Rattle.ds_refinement.specs.Inner.Services.{with_table_page}
use Rattle.ds_refinement.proofs.Fields.{space_in}
use Rattle.ds_refinement.proofs.Loads.{found_entry, is_valid, page_entry, table_below}
use Rattle.ds_refinement.proofs.Standing.{runs, kept, few, waits, served_is, first_ready}
use Rattle.ds_refinement.proofs.Touches.{here}
use Rattle.ds_refinement.proofs.NineWords as nine
use Rattle.ds_refinement.proofs.CourseWords as words
use Rattle.ds_refinement.proofs.Tallied.{touches as touched_tallied, tallied_of}
use Rattle.ds_refill.proofs.Lent.{base_size}

-- the page that EntryHi names
page_in_hi : (vpn asid : ℕ) → vpn < 2 ^ 19 → asid < 64 → bits (hi_of vpn asid) 12 20 ≡ vpn
page_in_hi vpn asid user small = omega arith

-- register 26, where it is lent
in_26 : (g : List ℕ) (x y : ℕ) → length g ≡ 32 → slice_index (set (set g 26 x) 27 y) 26 ≡ x
in_26 g x y size = get_or-set_other (set g 26 x) 27 26 y 0 (λ (e : ◌≡◌ {A = ℕ} 26 27). omega arith) ∙ get_or-set_same g 26 x 0 (omega arith)

small_word : (n : ℕ) → n < 2 ^ 32 → word (n + 0) ≡ n
small_word n small = omega arith

small_frame : (frame : ℕ) → frame < 402 → bits (read_only frame) 12 20 < 2048
small_frame frame small = omega arith

table_place : (vpn : ℕ) → vpn < 2 ^ 19 → 0xC0000000 + 4 * vpn < 2 ^ 32
table_place vpn user = omega arith

pub at_general : (pc : ℕ) → (pc == 0x80000080) ≡ true → pc ≡ 0x80000080
at_general pc is = grind (arith, nat_tests)

-- the pages that the unit asks for after a word of the handler
abbrev pub pages_after_word : Bool → UnitPages → UnitPages
pages_after_word seventh pages = if seventh then after_touch pages else pages

-- A station that agrees with m, whose first ready process is p, and whose unit is tallied.
module _ (h : Held) (m : State) (p : ℕ) (rest : List ℕ) (k : Agrees h m) (ready : h.kept.state.ready ≡ p ∷ rest) (tallied : IsTallied (course_of h.core (counts_of h.own) (may_write h.kept p) (pages_of_unit m p))) where
  abbrev n : Counts
  n = counts_of h.own

  abbrev dirty : ℕ → Bool
  dirty = may_write h.kept p

  abbrev c : CoreState
  c = h.core

  abbrev s : CoreState
  s = (step h.core h.bus).core

  now : RunningIs p h.core h.kept m
  now = runs h m p rest k ready

  first : m.ready ≡ p ∷ rest
  first = (kept h m p rest k ready).ready

  -- where the word leads, by whether it is the seventh, which touches the process
  abbrev led : Bool → Course
  led seventh = course_of s (one_word seventh h.core.random n) dirty (pages_after_word seventh (pages_of_unit m p))

  -- the step of the course that the word is to be
  abbrev Leaves : Type 0
  Leaves = Next (course_of c n dirty (pages_of_unit m p)) (led (touches h.core))

  goes : touches h.core ≡ false → Next (course_of c n dirty (pages_of_unit m p)) (course_of s (one_more n) dirty (pages_of_unit m p)) → Leaves
  goes which next = subst (λ (b : Bool). Next (course_of c n dirty (pages_of_unit m p)) (led b)) (sym which) next

  passes : (i : ℕ) → i < 8 → ◌≢◌ {A = ℕ} i 2 → ◌≢◌ {A = ℕ} i 6 → touches h.core ≡ false → c.system.status ≡ 0xC0C → c.slot ≡ false → c.pc ≡ 0x80000000 + 4 * i → c.next ≡ 0x80000000 + 4 * (i + 1) → Leaves
  passes i low two six which mode outside at next = goes which (nine.passes c h.bus n dirty (pages_of_unit m p) k.vectors mode i low two six outside at next)

  at_load : InHandler AtLoad h.core h.kept p m → Leaves
  at_load z =
      let asid : ℕ = space_of h.kept p in
      let below : space_of h.kept p < 64 = few h m p rest k ready in
      let page : bits c.system.entry_hi 12 20 ≡ z.vpn = ap (λ (w : ℕ). bits w 12 20) z.hi ∙ page_in_hi z.vpn asid z.user below in
      let space : asid_of c.system ≡ asid = ap (λ (w : ℕ). bits w 6 6) z.hi ∙ space_in z.vpn asid below in
      let long : length z.base.general ≡ 32 = base_size c.registers z.base z.first z.second z.late z.registers z.whole.size in
      let is : z.first ≡ 0xC0000000 + 4 * z.vpn = z.lends.1 ∙ z.context in
      let lends : c.registers ≡ lent z.base z.first z.second (late_of 27 z.lends.0) = z.registers ∙ ap (lent z.base z.first z.second) z.lends.3 in
      let address : access_address c.registers 26 0 ≡ 0xC0000000 + 4 * bits c.system.entry_hi 12 20 =
      ap (λ (r : Registers). access_address r 26 0) lends
      ∙ (ap (λ (x : ℕ). word (x + 0)) (in_26 z.base.general z.first z.second long ∙ is)
      ∙ (small_word (0xC0000000 + 4 * z.vpn) (table_place z.vpn z.user) ∙ ap (λ (x : ℕ). 0xC0000000 + 4 * x) (sym page))) in
      let user : z.vpn < 2 ^ 19 = z.user in
      goes (ap (λ (x : ℕ). x == refill.handler_address 6) z.pc)
      (nine.third c h.bus n dirty (pages_of_unit m p) k.vectors z.status z.pc (z.next ∙ ap (λ (x : ℕ). word (x + 4)) z.pc) (subst (λ (x : ℕ). x < 2 ^ 19) (sym page) z.user) address
      (λ slot e found at.
      let there : find c.entries (0xC0000 + z.vpn / 1024) asid ≡ Some slot = ap₂ (λ (x a : ℕ). find c.entries (0xC0000 + x / 1024) a) (sym page) (sym space) ∙ found in
      let entry : ◌≡◌ (Some e) (Some (page_entry (0xC0000 + z.vpn / 1024) asid (page_of_table h.kept.tables p (z.vpn / 1024)))) =
      sym at ∙ found_entry c.entries h.kept.spaces h.kept.grants h.kept.tables p (z.vpn / 1024) slot k.represented.buffer now.seat.0 now.number there in
      by_entry e (page_entry (0xC0000 + z.vpn / 1024) asid (page_of_table h.kept.tables p (z.vpn / 1024))) entry
      (is_valid (0xC0000 + z.vpn / 1024) asid (page_of_table h.kept.tables p (z.vpn / 1024)))
      (small_frame (page_of_table h.kept.tables p (z.vpn / 1024)) (table_below h.kept.tables p (z.vpn / 1024) k.represented.places))))
    where
      by_entry : (e f : Entry) → ◌≡◌ (Some e) (Some f) → f.v ≡ true → f.pfn < 2048 → (e.v ≡ true) × (e.pfn < 2048)
      by_entry e f same valid small = let is : e ≡ f = cc in (ap (λ (x : Entry). x.v) is ∙ valid, subst (λ (x : Entry). x.pfn < 2048) (sym is) small)

  -- the seventh word
  at_write : InHandler AtWrite h.core h.kept p m → Leaves
  at_write z =
      subst (λ (b : Bool). Next (course_of c n dirty (pages_of_unit m p)) (led b)) (sym (ap (λ (x : ℕ). x == refill.handler_address 6) z.pc))
      (nine.writes c h.bus n dirty (pages_of_unit m p) k.vectors z.status z.pc (z.next ∙ ap (λ (x : ℕ). word (x + 4)) z.pc))

  by_phase : (phase : Phase) → InHandler phase h.core h.kept p m → Leaves
  by_phase AtContext z = passes 0 (omega arith) (λ (e : ◌≡◌ {A = ℕ} 0 2). omega arith) (λ (e : ◌≡◌ {A = ℕ} 0 6). omega arith) (ap (λ (x : ℕ). x == refill.handler_address 6) z.pc) z.status z.slot z.pc (z.next ∙ ap (λ (x : ℕ). word (x + 4)) z.pc)
  by_phase AtAddress z = passes 1 (omega arith) (λ (e : ◌≡◌ {A = ℕ} 1 2). omega arith) (λ (e : ◌≡◌ {A = ℕ} 1 6). omega arith) (ap (λ (x : ℕ). x == refill.handler_address 6) z.pc) z.status z.slot z.pc (z.next ∙ ap (λ (x : ℕ). word (x + 4)) z.pc)
  by_phase AtLoad z = at_load z
  by_phase AtPause z = passes 3 (omega arith) (λ (e : ◌≡◌ {A = ℕ} 3 2). omega arith) (λ (e : ◌≡◌ {A = ℕ} 3 6). omega arith) (ap (λ (x : ℕ). x == refill.handler_address 6) z.pc) z.status z.slot z.pc (z.next ∙ ap (λ (x : ℕ). word (x + 4)) z.pc)
  by_phase AtMove z = passes 4 (omega arith) (λ (e : ◌≡◌ {A = ℕ} 4 2). omega arith) (λ (e : ◌≡◌ {A = ℕ} 4 6). omega arith) (ap (λ (x : ℕ). x == refill.handler_address 6) z.pc) z.status z.slot z.pc (z.next ∙ ap (λ (x : ℕ). word (x + 4)) z.pc)
  by_phase AtClear z = passes 5 (omega arith) (λ (e : ◌≡◌ {A = ℕ} 5 2). omega arith) (λ (e : ◌≡◌ {A = ℕ} 5 6). omega arith) (ap (λ (x : ℕ). x == refill.handler_address 6) z.pc) z.status z.slot z.pc (z.next ∙ ap (λ (x : ℕ). word (x + 4)) z.pc)
  by_phase AtWrite z = at_write z
  by_phase AtJump z = passes 7 (omega arith) (λ (e : ◌≡◌ {A = ℕ} 7 2). omega arith) (λ (e : ◌≡◌ {A = ℕ} 7 6). omega arith) (ap (λ (x : ℕ). x == refill.handler_address 6) z.pc) z.status z.slot z.pc (z.next ∙ ap (λ (x : ℕ). word (x + 4)) z.pc)
  by_phase AtReturn z = goes (ap (λ (x : ℕ). x == refill.handler_address 6) z.pc) (nine.returns c h.bus n dirty (pages_of_unit m p) k.vectors z.status z.pc)

  -- a word of the handler
  pub word_next : is_user h.core.system ≡ false → is_general h.core ≡ false → Next (course_of c n dirty (pages_of_unit m p)) (led (touches h.core))
  word_next user general = let at = here h m p rest k ready user general in by_phase at.0 at.1

  -- what it leaves
  tallied_by : (seventh : Bool) → Next (course_of c n dirty (pages_of_unit m p)) (led seventh) → IsTallied (course_of s (one_word seventh h.core.random n) dirty (pages_of_unit (touched seventh m) p))
  tallied_by true next = touched_tallied m p rest c s n (one_written c.random n) dirty dirty first now.seat tallied next
  tallied_by false next = courses.goes_on (course_of c n dirty (pages_of_unit m p)) (led false) tallied next

  pub word_tallied : is_user h.core.system ≡ false → is_general h.core ≡ false → IsTallied (course_of s (one_word (touches h.core) h.core.random n) dirty (pages_of_unit (touched (touches h.core) m) p))
  word_tallied user general = tallied_by (touches h.core) (word_next user general)

  -- the service of a double miss
  pub double_tallied : is_served h.core ≡ true → has_left_user h.core ≡ false → IsTallied (course_of (with_table_page h p).core (one_tabled n) dirty (pages_of_unit (touched true m) p))
  double_tallied served nested =
      let z : InDouble h.core h.kept p m = waits h m p rest k ready false served nested in
      let parts = served_is h.core served in
      touched_tallied m p rest c (with_table_page h p).core n (one_tabled n) dirty dirty first now.seat tallied
      (words.tables c (with_table_page h p).core n dirty (pages_of_unit m p) (read_only (page_of_table h.kept.tables p (bits h.core.system.entry_hi 12 20 - 0xC0000)))
      (at_general c.pc parts.1) parts.0 (ap (λ (w : ℕ). bits w 3 1) z.status) refl refl refl refl refl)

-- What the counts leave room for: before each of the first seven words a refill, and after a double miss a block has no part in the unit.
module _ (h : Held) (sound : IsSound h) (some : h.kept.state.ready ≢ []) where
  first_is : (p : ℕ) × (rest : List ℕ) × (h.kept.state.ready ≡ p ∷ rest)
  first_is = first_ready h.kept.state.ready some

  abbrev course : Course
  course = course_of h.core (counts_of h.own) (may_write h.kept first_is.0) (pages_of_unit sound.state first_is.0)

  pub word_room : (i : ℕ) → i ≤ 6 → is_user h.core.system ≡ false → h.core.pc ≡ refill.handler_address i → (length h.own.written ≤ 3) × (i + 1 ≤ h.own.spent)
  word_room i low user at =
      let tallied : IsTallied course = tallied_of h sound.state first_is.0 first_is.1 sound.stands first_is.2 in
      let place : course.place ≡ AtWord i = words.in_handler h.core i (omega (arith, low)) at user in
      (courses.refill_before course i tallied place low, courses.refill_begun course i tallied place low)

  pub double_begun : is_served h.core ≡ true → has_left_user h.core ≡ false → 4 ≤ h.own.spent
  double_begun served nested =
      let z : InDouble h.core h.kept first_is.0 sound.state = waits h sound.state first_is.0 first_is.1 sound.stands.agrees first_is.2 false served nested in
      let parts = served_is h.core served in
      courses.table_begun course (tallied_of h sound.state first_is.0 first_is.1 sound.stands first_is.2)
      (words.at_double h.core (at_general h.core.pc parts.1) parts.0 (ap (λ (w : ℕ). bits w 3 1) z.status))
