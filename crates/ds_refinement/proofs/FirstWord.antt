-- In kernel mode at the vector of misses the processor is before the handler's first word, and nine words lead back to the unit.
use Rattle.std.proofs.Common.{◌≡◌, ◌≢◌, ℕ, suc, ◌+◌, ◌*◌, ◌/◌, ◌%◌, ◌^◌, ◌<◌, ◌≤◌, ◌==◌, true, false, List, [], ◌∷◌, Option, Some, None, refl, sym, ap, ap₂, subst, ◌∙◌, arith}
use Rattle.std.proofs.lemmas.Bool.Decides.{nat_tests}
use Rattle.std.specs.Prelude.{nat_lt, Err}
use Rattle.ds_word.specs.Word.{word, bits}
use Rattle.ds_isa.specs.declared.instr.Kind.TheVariants.{Load}
use Rattle.ds_isa.specs.Registers.{Registers}
use Rattle.ds_tlb.specs.Entries.{find, random_after}
use Rattle.ds_cp0.specs.declared.exception.ExceptionCode.TheVariants.{LoadMiss}
use Rattle.ds_cp0.specs.System.{System, asid_of, is_user, entered, returned}
use Rattle.ds_amap.specs.declared.map.Mode.TheVariants.{Kernel}
use Rattle.ds_amap.specs.declared.map.Fault.TheVariants.{Refill}
use Rattle.ds_amap.specs.Map.{translate}
use Rattle.ds_dev.specs.Bus.{BusState}
use Rattle.ds_core.specs.declared.event.Event.{Event}
use Rattle.ds_core.specs.declared.event.Event.TheVariants.{Retired, Raised}
use Rattle.ds_core.specs.Core.{CoreState, Step}
use Rattle.ds_core.specs.Effect.{step}
use Rattle.ds_refill.specs.Handler.{HasWords}
use Rattle.ds_refill.specs.Refill.{lent, late_of}
use Rattle.ds_refill.specs.Inner.Refill.{IsKernel, at_word, table_miss, handler_events}
use Rattle.ds_refill.proofs.Whole.{word_0, word_1, word_2_misses}
use Rattle.ds_refill.specs.Inner.Refills.{after_refill, CanLoad, RunsInside}
use Rattle.ds_refill.proofs.Lent.{is_at_word, base_size}
use Rattle.ds_refill.proofs.Once.{at_once_runs}
use Rattle.ds_tables.specs.Places.{region_of, page_of_table}
use Rattle.ds_tables.specs.Tables.{table_word_place}
use Rattle.ds_grants.specs.Words.{granted_word}
use Rattle.ds_pagemap.specs.Machine.{State}
use Rattle.ds_refinement.specs.Held.{Held, Kept, space_of}
use Rattle.ds_refinement.specs.Handling.{Phase, AtContext, AtAddress, AtLoad, AtPause, AtMove, AtClear, AtWrite, AtJump, AtReturn, InHandler}
use Rattle.ds_refinement.specs.Stands.{RunningIs, Agrees}
use Rattle.ds_refinement.specs.Inner.Stands.{IsSound}
use Rattle.ds_refinement.proofs.Fields.{space_in, IsWord, word_is_word}
use Rattle.ds_refinement.proofs.Loads.{table_hit, table_miss_is, table_below}
use Rattle.ds_refinement.proofs.Standing.{first_ready, runs, few}
use Rattle.ds_refinement.proofs.Touches.{here}
use Rattle.ds_refinement.proofs.Words.{kernel, in_memory}

-- no other word stands at the vector
at_first : (phase : Phase) (c : CoreState) (k : Kept) (p : ℕ) (m : State) → c.pc ≡ 0x80000000 → InHandler phase c k p m → InHandler AtContext c k p m
at_first AtContext c k p m at z = z
at_first AtAddress c k p m at z = let no : 0x80000000 ≡ 0x80000004 = sym at ∙ z.pc in absurd (omega (arith, no))
at_first AtLoad c k p m at z = let no : 0x80000000 ≡ 0x80000008 = sym at ∙ z.pc in absurd (omega (arith, no))
at_first AtPause c k p m at z = let no : 0x80000000 ≡ 0x8000000C = sym at ∙ z.pc in absurd (omega (arith, no))
at_first AtMove c k p m at z = let no : 0x80000000 ≡ 0x80000010 = sym at ∙ z.pc in absurd (omega (arith, no))
at_first AtClear c k p m at z = let no : 0x80000000 ≡ 0x80000014 = sym at ∙ z.pc in absurd (omega (arith, no))
at_first AtWrite c k p m at z = let no : 0x80000000 ≡ 0x80000018 = sym at ∙ z.pc in absurd (omega (arith, no))
at_first AtJump c k p m at z = let no : 0x80000000 ≡ 0x8000001C = sym at ∙ z.pc in absurd (omega (arith, no))
at_first AtReturn c k p m at z = let no : 0x80000000 ≡ 0x80000020 = sym at ∙ z.pc in absurd (omega (arith, no))

is_high : (n : ℕ) → 2 ^ 31 ≤ n → nat_lt n (2 ^ 31) ≡ false
is_high n above = grind (arith, nat_tests)

-- steps with the same events from one processor lead to one
same_end : (n : ℕ) (es : List Event) (c : CoreState) (b : BusState) (t u : CoreState) → RunsInside n es c b t → RunsInside n es c b u → t ≡ u
same_end n [] c b t u x y = x ∙ sym y
same_end n (e ∷ es) c b t u x y =
    let next : x.3.0 ≡ y.3.0 = ap (λ (s : Step). s.core) (sym x.3.1 ∙ y.3.1) in
    same_end (suc n) es y.3.0 b t u (subst (λ (s : CoreState). RunsInside (suc n) es s b t) next x.3.3) y.3.3

-- A station that stands for m, whose first ready process is p, and whose processor is in kernel mode at the vector of misses.
module _ (h : Held) (m : State) (p : ℕ) (rest : List ℕ) (k : Agrees h m) (ready : h.kept.state.ready ≡ p ∷ rest) (user : is_user h.core.system ≡ false) (at : h.core.pc ≡ 0x80000000) where
  abbrev c : CoreState
  c = h.core

  pub before : InHandler AtContext h.core h.kept p m
  before = let z = here h m p rest k ready user (ap (λ (n : ℕ). n == 0x80000080) at) in at_first z.0 h.core h.kept p m at z.1

  pub in_kernel : IsKernel h.core.system
  in_kernel = kernel h.core.system before.status

  pub next_is : h.core.next ≡ 0x80000004
  next_is = before.next ∙ ap (λ (n : ℕ). word (n + 4)) before.pc

  pub none_late : h.core.registers.late ≡ None
  none_late = ap (λ (r : Registers). r.late) before.registers ∙ before.lends

  vpn_small : before.vpn < 2 ^ 19
  vpn_small = before.user

  small : h.core.system.context < 2 ^ 32
  small = let is = before.context in let low = vpn_small in omega (arith, is, low)

  aligned : h.core.system.context % 4 ≡ 0
  aligned = let is = before.context in omega (arith, is)

  space : asid_of h.core.system ≡ space_of h.kept p
  space = ap (λ (n : ℕ). bits n 6 6) before.hi ∙ space_in before.vpn (space_of h.kept p) (few h m p rest k ready)

  -- where the page of the table is found, the handler can load its word
  loads : (slot : ℕ) → find h.core.entries (0xC0000 + before.vpn / 1024) (space_of h.kept p) ≡ Some slot → CanLoad h.core h.bus (granted_word h.kept.grants p before.vpn)
  loads slot found =
      let r : RunningIs p h.core h.kept m = runs h m p rest k ready in
      let w : IsWord (granted_word h.kept.grants p before.vpn) = word_is_word h.kept.grants p before.vpn k.grants in
      let frame : ℕ = page_of_table h.kept.tables p (region_of (before.vpn * 2 ^ 12)) in
      record {
        place = table_word_place frame (before.vpn * 2 ^ 12);
        small = small;
        whole = aligned;
        reached =
            ap₂ (λ (a n : ℕ). translate h.core.entries a Kernel Load n) space before.context
            ∙ table_hit h.core.entries h.kept.spaces h.kept.grants h.kept.tables p before.vpn slot k.represented.buffer k.represented.places r.seat.0 r.number before.user found;
        memory = in_memory frame (before.vpn * 2 ^ 12) (table_below h.kept.tables p (region_of (before.vpn * 2 ^ 12)) k.represented.places);
        read = k.represented.words.words p before.vpn r.seat.0 before.user;
        word = w.small;
        low = w.low;
      }

  -- where it isn't, the third word is not done
  misses : (t : CoreState) → find h.core.entries (0xC0000 + before.vpn / 1024) (space_of h.kept p) ≡ None → RunsInside 0 handler_events h.core h.bus t → ⊥
  misses t found run =
      let s : System = h.core.system in
      let r : Registers = before.base in
      let x : ℕ = before.first in
      let y : ℕ = before.second in
      let long = base_size h.core.registers before.base before.first before.second before.late before.registers before.whole.size in
      let is : h.core ≡ at_word 0x80000000 0x80000004 false (lent r x y None) s h.core.entries h.core.random =
      is_at_word h.core 0x80000000 0x80000004 false (lent r x y None) before.pc next_is before.slot (before.registers ∙ ap (lent r x y) before.lends) in
      let u : CoreState = at_word 0x80000004 0x80000008 false (lent r s.context y (late_of 26 x)) s h.core.entries (random_after 64 8 h.core.random) in
      let v : CoreState = at_word 0x80000008 0x8000000C false (lent r s.context s.epc (late_of 27 y)) s h.core.entries (random_after 64 8 (random_after 64 8 h.core.random)) in
      let first : step h.core h.bus ≡ record { event = Retired; core = u; bus = h.bus } =
      ap (λ (d : CoreState). step d h.bus) is ∙ word_0 r x y s h.core.entries h.core.random h.bus k.vectors in_kernel long in
      let to_u : run.3.0 ≡ u = ap (λ (d : Step). d.core) (sym run.3.1 ∙ first) in
      let second : step run.3.0 h.bus ≡ record { event = Retired; core = v; bus = h.bus } =
      ap (λ (d : CoreState). step d h.bus) to_u ∙ word_1 r s.context y (late_of 26 x) s h.core.entries (random_after 64 8 h.core.random) h.bus k.vectors in_kernel long in
      let next = run.3.3 in
      let to_v : next.3.0 ≡ v = ap (λ (d : Step). d.core) (sym next.3.1 ∙ second) in
      let last = next.3.3 in
      let high : nat_lt h.core.system.context (2 ^ 31) ≡ false = is_high h.core.system.context (let where_is = before.context in omega (arith, where_is)) in
      let reach : translate h.core.entries (asid_of h.core.system) Kernel Load h.core.system.context ≡ Err Refill =
      ap₂ (λ (a n : ℕ). translate h.core.entries a Kernel Load n) space before.context ∙ table_miss_is h.core.entries (space_of h.kept p) before.vpn before.user found in
      let third : step next.3.0 h.bus ≡ record { event = Raised LoadMiss; core = at_word 0x80000080 0x80000084 false (lent r s.context s.epc None) (entered s (table_miss s.context)) h.core.entries (random_after 64 8 (random_after 64 8 (random_after 64 8 h.core.random))); bus = h.bus } =
      ap (λ (d : CoreState). step d h.bus) to_v ∙ word_2_misses r s.context s.epc y s h.core.entries (random_after 64 8 (random_after 64 8 h.core.random)) h.bus k.vectors in_kernel long small aligned high reach in
      let no : Retired ≡ Raised LoadMiss = ap (λ (d : Step). d.event) (sym last.3.1 ∙ third) in
      absurd cc

  -- after nine words that are all done the mode is a user's, and the program stands in no slot
  pub comes_back : (t : CoreState) → RunsInside 0 handler_events h.core h.bus t → (is_user t.system ≡ true) × (t.slot ≡ false)
  comes_back t run = by (find h.core.entries (0xC0000 + before.vpn / 1024) (space_of h.kept p)) refl
    where
      by : (found : Option ℕ) → find h.core.entries (0xC0000 + before.vpn / 1024) (space_of h.kept p) ≡ found → (is_user t.system ≡ true) × (t.slot ≡ false)
      by None found = absurd (misses t found run)
      by (Some slot) found =
          let w : ℕ = granted_word h.kept.grants p before.vpn in
          let whole = at_once_runs h.core h.bus w k.vectors in_kernel at next_is before.slot none_late before.whole.size before.whole.nought (loads slot found) in
          let end = same_end 0 handler_events h.core h.bus t (after_refill h.core w) run whole in
          (ap (λ (d : CoreState). is_user d.system) end ∙ ap (λ (n : ℕ). is_user (returned (record h.core.system { status = n }))) before.status, ap (λ (d : CoreState). d.slot) end)

-- The same of a station that stands for some state.
module _ (h : Held) (sound : IsSound h) (some : h.kept.state.ready ≢ []) (user : is_user h.core.system ≡ false) (at : h.core.pc ≡ 0x80000000) where
  first : (p : ℕ) × (rest : List ℕ) × (h.kept.state.ready ≡ p ∷ rest)
  first = first_ready h.kept.state.ready some

  stage : InHandler AtContext h.core h.kept first.0 sound.state
  stage = before h sound.state first.0 first.1 sound.stands.agrees first.2 user at

  pub first_kernel : IsKernel h.core.system
  first_kernel = kernel h.core.system stage.status

  pub first_next : h.core.next ≡ 0x80000004
  first_next = next_is h sound.state first.0 first.1 sound.stands.agrees first.2 user at

  pub first_slot : h.core.slot ≡ false
  first_slot = stage.slot

  pub first_late : h.core.registers.late ≡ None
  first_late = none_late h sound.state first.0 first.1 sound.stands.agrees first.2 user at

  pub back_to_user : (t : CoreState) → RunsInside 0 handler_events h.core h.bus t → (is_user t.system ≡ true) × (t.slot ≡ false)
  back_to_user t run = comes_back h sound.state first.0 first.1 sound.stands.agrees first.2 user at t run

pub first_words : (h : Held) → IsSound h → HasWords h.bus.memory
first_words h sound = sound.stands.agrees.vectors

pub refill_user : (h : Held) (t : CoreState) → IsSound h → h.kept.state.ready ≢ [] → is_user h.core.system ≡ false → h.core.pc ≡ 0x80000000 → RunsInside 0 handler_events h.core h.bus t → is_user t.system ≡ true
refill_user h t sound some user at run = (back_to_user h sound some user at t run).0

pub refill_outside : (h : Held) (t : CoreState) → IsSound h → h.kept.state.ready ≢ [] → is_user h.core.system ≡ false → h.core.pc ≡ 0x80000000 → RunsInside 0 handler_events h.core h.bus t → t.slot ≡ false
refill_outside h t sound some user at run = (back_to_user h sound some user at t run).1
