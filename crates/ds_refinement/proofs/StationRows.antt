-- Stations and steps that are related, and some that are not: each row is a theorem about the definitions alone.
use Rattle.std.proofs.Common.{◌≡◌, ℕ, zero, suc, ◌+◌, ◌*◌, ◌<◌, ◌≤◌, ◌^◌, inl, inr, true, false, List, [], ◌∷◌, refl, sym, ap, arith}
use Rattle.std.specs.Prelude.{Some, None, replicate, slice_get, slice_index, slice_set}
use Rattle.ds_isa.specs.Registers.{Registers, settled, zero_registers}
use Rattle.ds_isa.specs.declared.instr.Size.TheVariants.{Word}
use Rattle.ds_isa.specs.declared.instr.Kind.TheVariants.{Load, Store}
use Rattle.ds_tlb.specs.declared.entry.Entry.{Entry}
use Rattle.ds_procs.specs.declared.process.Standing.TheVariants.{Ended}
use Rattle.ds_policy.specs.declared.grant.Right.TheVariants.{Read}
use Rattle.ds_policy.specs.declared.grant.Grant.{Grant}
use Rattle.ds_policy.specs.declared.access.Rule.TheVariants.{Number}
use Rattle.ds_policy.specs.declared.access.Verdict.TheVariants.{Allowed, Denied}
use Rattle.ds_policy.specs.Grants.{PageState}
use Rattle.ds_grants.specs.State.{GrantsState}
use Rattle.ds_dev.specs.Bus as bus
use Rattle.ds_core.specs.Core.{CoreState}
use Rattle.ds_pagemap.specs.Machine.{State}
use Rattle.ds_pagemap_laws.specs.Rows.{resting, state_of}
use Rattle.ds_refinement.specs.declared.cause.Cause.TheVariants as cause
use Rattle.ds_refinement.specs.declared.step.Step.{Step}
use Rattle.ds_refinement.specs.declared.step.Step.TheVariants.{Inside, Boundary, Over}
use Rattle.ds_refinement.specs.Held.{Held, Kept}
use Rattle.ds_refinement.specs.Stands.{AreResting, CountedBy, IsUnbegun, Stands}
use Rattle.ds_refinement.specs.Steps.{StepTo, Comes, Follows, Moves}
use Rattle.ds_refinement.specs.Inner.Steps.{Stays}
use Rattle.ds_refinement.specs.Inner.Services.{EntersBy, with_table_page}
use Rattle.ds_refinement.specs.Pairs.{HasNoNewPairs}
use Rattle.ds_refinement.specs.Units.{EndsUnit}
use Rattle.ds_refinement.specs.Real.{HasUnit, MayGoBack, GoesBack, EndsUnitReally, IsReal, Through}
use Rattle.ds_refinement.specs.Inner.Granted.{IsGranted}
use Rattle.ds_refinement.specs.Inner.Quiet.{IsUndisturbed}
use Rattle.ds_asid.specs.Spaces.{space_taken}
use Rattle.ds_refinement.specs.Rows.StationRows.{two, kept, page, other, core_at, user, served, done, table_page, doubled}

-- a station that has begun so many instructions of a unit; it has no memory
abbrev after : ℕ → Held
after spent = record { core = user; bus = bus.at_start []; kept = kept; own = record { failed = false; spent = spent; written = []; since = 0; wired = 0; tables = 0; services = 0 } }

-- The first comes in.

-- process 2 has address space 2, and is first
abbrev second : Kept
second = record kept { state = record two { ready = 2 ∷ 1 ∷ [] }; spaces = space_taken kept.spaces 2 }

-- the processor at its first instruction in that address space, with these registers
abbrev begins : Registers → CoreState
begins r = let c : CoreState = core_at 0x00400000 0xC03 in record c { registers = r; system = record c.system { entry_hi = 0x80 } }

-- its registers once it was touched
abbrev touched : Registers
touched = record zero_registers { general = slice_set (replicate 32 0) 27 0x00400000 }

pub process_2_comes_in_touched : EntersBy second.state.ready (begins touched) second
process_2_comes_in_touched =
    let there : 0 < 2 = omega arith in
    let last : 2 ≤ 2 = omega arith in
    let two : 0 < 2 = omega arith in
    let small : 0x80 < 2 ^ 32 = omega arith in
    record {
      mode = refl;
      number = two;
      set = record { space = refl; small = small };
      first = refl;
      pc = refl;
      next = refl;
      registers = refl;
      seat = (there, last);
      standing = refl;
    }

pub process_2_does_not_come_in_untouched : EntersBy second.state.ready (begins zero_registers) second → ⊥
process_2_does_not_come_in_untouched enters =
    let nought : 0 ≡ 0x00400000 = ap (λ (r : Registers). slice_index r.general 27) enters.registers in
    absurd (omega (arith, nought))

-- How it counts.

pub a_64th_instruction_counts : Moves Inside (after 63) (after 64)
a_64th_instruction_counts =
    let few : 64 ≤ 64 = omega arith in
    let fewer : 0 < 2 = omega arith in
    (refl, refl, refl, refl, few, fewer, refl, refl)

pub a_unit_has_no_65th_instruction : Moves Inside (after 64) (after 65) → ⊥
a_unit_has_no_65th_instruction moves = let few : 65 ≤ 64 = moves.4 in absurd (omega arith)

-- A unit of process 1 that has not begun.

pub a_load_that_is_late_stays_so : IsUnbegun user 1 two
a_load_that_is_late_stays_so = record { mode = refl; first = refl; registers = refl }

pub a_finished_load_has_begun : IsUnbegun (record user { registers = settled user.registers }) 1 two → ⊥
a_finished_load_has_begun unbegun = let no : None ≡ user.registers.late = ap (λ (r : Registers). r.late) unbegun.registers in absurd cc

pub a_slot_has_begun : IsUnbegun (record user { slot = true }) 1 two → ⊥
a_slot_has_begun unbegun = let no : true ≡ false = unbegun.first in absurd cc

pub a_service_has_begun : IsUnbegun served 1 two → ⊥
a_service_has_begun unbegun = let no : false ≡ true = unbegun.mode in absurd cc

-- the processor at the unit again, whose branch has written its link, register 31
abbrev linked : CoreState
linked = record user { registers = record user.registers { general = slice_set user.registers.general 31 0x00400010 } }

pub a_branch_that_wrote_its_link_has_begun : IsUnbegun linked 1 two → ⊥
a_branch_that_wrote_its_link_has_begun unbegun =
    let nought : 0x00400010 ≡ 0 = ap (λ (r : Registers). slice_index r.general 31) unbegun.registers in
    absurd (omega (arith, nought))

pub a_branch_that_wrote_its_link_counts : CountedBy (1 ∷ []) linked (after 0).own kept two → ⊥
a_branch_that_wrote_its_link_counts counted = a_branch_that_wrote_its_link_has_begun (counted.1 refl)

-- When its run is over.

-- both processes have ended at 5
abbrev over : State
over = let ended = record resting { standing = Ended } in state_of (ended ∷ ended ∷ []) [] []

pub nothing_comes_after_the_end : StepTo Over over over
nothing_comes_after_the_end = (refl, refl, refl)

pub no_tick_passes_after_the_end : (t : State) → StepTo Boundary over t → ⊥
no_tick_passes_after_the_end t (inl turn) = turn.0 refl
no_tick_passes_after_the_end t (inr turn) = let goes_on : true ≡ false = turn.2 in absurd cc

-- For what it stands.

pub a_station_without_memory_stands_for_nothing : (m : State) → Stands (after 0) m → ⊥
a_station_without_memory_stands_for_nothing m stands = let size : 0 ≡ 2 ^ 23 = stands.agrees.size in absurd (omega arith)

pub nothing_comes_to_a_station_without_memory : (step : Step) (m : State) → Comes step (after 0) m → ⊥
nothing_comes_to_a_station_without_memory step m comes = a_station_without_memory_stands_for_nothing comes.0 comes.2

pub what_stands_for_nothing_stays : (h : Held) → Stays (after 0) h
what_stands_for_nothing_stays h = record { stays = λ m stands. absurd (a_station_without_memory_stands_for_nothing m stands) }

pub each_step_of_a_path_is_followed : (old new : Held) → Through old (old ∷ []) new → (kind : Step) × Follows kind old new
each_step_of_a_path_is_followed old new path = (path.0.0, path.0.1)

-- Periods of 32 ticks.

-- what is kept at 33, of a clock that was brought to 31
abbrev after_31 : Kept
after_31 = record kept { state = record two { rate = 3; time = 33 }; ticked = 31 }

pub a_period_that_ended_is_to_be_seen : (b : bus.BusState) → AreResting b after_31 → ⊥
a_period_that_ended_is_to_be_seen b rests = let ended : true ≡ false = rests.period in absurd cc

pub a_boundary_at_the_end_of_a_period_is_not_quiet : IsUndisturbed after_31 → ⊥
a_boundary_at_the_end_of_a_period_is_not_quiet quiet = let ended : true ≡ false = quiet.period in absurd cc

-- Who has a unit.

-- a boundary is owed, after a branch and its slot
abbrev owes : Held
owes = record (after 0) { kept = record kept { state = done } }

pub a_boundary_comes_before_a_unit : HasUnit owes → ⊥
a_boundary_comes_before_a_unit has = let owed : done.owed ≡ None = has.0 in absurd cc

pub who_is_first_has_a_unit : HasUnit (after 0)
who_is_first_has_a_unit = (refl, λ none. absurd cc)

-- What is granted, and what ends a unit.

-- page 0, for reading
abbrev reading : Grant
reading = record { right = Read; page = Some 0; rule = 1; give = false; giver = 0; parent = None; until = None }

-- process 1 is granted it at 00400000
abbrev grants : GrantsState
grants = record {
  table = (record { address = 0x00400000; grant = reading } ∷ []) ∷ [];
  frames = 1;
  named = 1;
  ended = false ∷ [];
  lies = 0 ∷ [];
  shared = false ∷ [];
}

-- its page, which is empty, and that table
abbrev pages : PageState
pages = record { pages = Some [] ∷ []; table = grants.table; named = 1 }

pub a_granted_load_goes_on : EndsUnit pages 1 0x00400004 (cause.Access (record { kind = Load; size = Word })) → ⊥
a_granted_load_goes_on ends = let denied : Allowed 0 4 ≡ Denied ends.0 ends.1 = ends.2 in absurd cc

pub a_store_that_is_not_granted_ends_its_unit : EndsUnit pages 1 0x00400004 (cause.Access (record { kind = Store; size = Word }))
a_store_that_is_not_granted_ends_its_unit = (_, _, refl)

-- the station with that grant and no page table, over a memory
abbrev untabled : List ℕ → Held
untabled memory = record (after 0) { bus = bus.at_start memory; kept = record kept { grants = grants; tables = replicate 4 None ∷ [] } }

pub a_station_without_page_tables_stands_for_nothing : (memory : List ℕ) (m : State) → Stands (untabled memory) m → ⊥
a_station_without_page_tables_stands_for_nothing memory m stands =
    let process : 0 < 1 = omega arith in
    let table : false ≡ true = stands.agrees.represented.words.regions 1 1 process in
    absurd cc

-- What goes back.

pub a_granted_load_goes_back : MayGoBack pages 1 0x00400004 (cause.Access (record { kind = Load; size = Word }))
a_granted_load_goes_back = (0, 4, refl)

pub a_store_that_is_not_granted_does_not_go_back : MayGoBack pages 1 0x00400004 (cause.Access (record { kind = Store; size = Word })) → ⊥
a_store_that_is_not_granted_does_not_go_back back = let allowed : Denied (Number 1) 1 ≡ Allowed back.0 back.1 = back.2 in absurd cc

pub a_breakpoint_does_not_go_back : MayGoBack pages 1 0x00400004 (cause.Fault 9) → ⊥
a_breakpoint_does_not_go_back back = back

-- process 1 has called at 00400008, and the address that was refused last lies in page 00401000
abbrev called : Held
called = record (after 1) { core = record served { system = record served.system { cause = 0x20; bad_vaddr = 0x00401004 } } }

-- it is back at its call
abbrev again : Held
again = record called { core = record (core_at 0x00400008 0xC03) { system = record called.core.system { status = 0xC03 } } }

pub all_but_the_cause_is_a_way_back : GoesBack called again
all_but_the_cause_is_a_way_back = record { mode = refl; address = refl; pages = refl; devices = refl; answered = λ up. (let no : true ≡ false = up in absurd cc); written = λ up. (let no : true ≡ false = up in absurd cc); rewritten = λ left. (λ slot e at. (e, at, refl, refl), refl) }

pub a_call_does_not_go_back : IsReal called again → ⊥
a_call_does_not_go_back real = elim (real.service (refl, λ none. absurd cc) refl) [
  | inl ends ↦ let owed : false ≡ true = ends.owed in absurd cc
  | inr on ↦ elim on.may [
    | inl nested ↦ (let no : true ≡ false = nested in absurd cc)
    | inr by ↦ by.0
  ]
]

-- at the instruction after it
abbrev elsewhere : Held
elsewhere = record again { core = record again.core { pc = 0x0040000C } }

pub no_way_back_leads_to_another_address : GoesBack called elsewhere → ⊥
no_way_back_leads_to_another_address back = let same : 0x0040000C ≡ 0x00400008 = back.address in absurd (omega (arith, same))

-- After a double miss the page of the table is put into the buffer.

-- a user's page stood there: the slot of the other was left
stood_there : (slot : ℕ) (e : Entry) → slice_get (table_page ∷ other ∷ []) slot ≡ Some e → e.vpn < 2 ^ 19
    → (i : ℕ) × (f : Entry) × (slice_get (page ∷ other ∷ []) i ≡ Some f) × (f.vpn ≡ e.vpn) × (f.asid ≡ e.asid)
stood_there zero e is low = let same : table_page ≡ e = cc in let high : 0xC0001 ≡ e.vpn = ap (λ (x : Entry). x.vpn) same in absurd (omega (arith, high, low))
stood_there (suc slot) e is low = (suc slot, e, is, refl, refl)

pub a_double_miss_goes_back : GoesBack (doubled 0) (with_table_page (doubled 0) 1)
a_double_miss_goes_back = record { mode = refl; address = refl; pages = refl; devices = refl; answered = λ nested. (0, refl); written = λ nested. (0x3200, refl); rewritten = λ left. (let no : false ≡ true = left in absurd cc) }

pub that_is_real : IsReal (doubled 0) (with_table_page (doubled 0) 1)
that_is_real = record {
  instruction = λ has other. (let no : true ≡ false = other in absurd cc);
  service = λ has served. inr (record { may = inl refl; back = a_double_miss_goes_back });
  random = λ has. refl;
  pairs = λ has. record { each = stood_there };
}

pub no_double_miss_ends_a_unit : (new : Held) → EndsUnitReally (doubled 0) new → ⊥
no_double_miss_ends_a_unit new ends = let left : false ≡ true = ends.left in absurd cc

-- the unit begins again, but nothing in the buffer answers for the page
abbrev unanswered : Held
unanswered = record (with_table_page (doubled 0) 1) { core = record (with_table_page (doubled 0) 1).core { entries = page ∷ other ∷ [] } }

pub a_page_without_an_answer_is_no_way_back : GoesBack (doubled 0) unanswered → ⊥
a_page_without_an_answer_is_no_way_back back = let answer = back.answered refl in let none : None ≡ Some answer.0 = answer.1 in absurd cc

-- Which pairs are new.

-- page 00402000
abbrev third : Entry
third = record page { vpn = 0x402; pfn = 404 }

-- what stood there has neither
not_there : (i : ℕ) (f : Entry) → slice_get (page ∷ other ∷ []) i ≡ Some f → f.vpn ≡ 0x402 → ⊥
not_there zero f is vpn = let same : page ≡ f = cc in let low : 0x400 ≡ f.vpn = ap (λ (x : Entry). x.vpn) same in omega (arith, low, vpn)
not_there (suc zero) f is vpn = let same : other ≡ f = cc in let low : 0x401 ≡ f.vpn = ap (λ (x : Entry). x.vpn) same in omega (arith, low, vpn)
not_there (suc (suc i)) f is vpn = cc

pub another_page_of_a_user_is_a_new_pair : HasNoNewPairs (page ∷ other ∷ []) (page ∷ third ∷ []) → ⊥
another_page_of_a_user_is_a_new_pair none =
    let low : 0x402 < 2 ^ 19 = omega arith in
    let pair = none.each 1 third refl low in
    not_there pair.0 pair.1 pair.2 pair.3

-- page 00401000 in address space 2
abbrev foreign : Entry
foreign = record other { asid = 2 }

-- what stood there is of address space 1
of_space_1 : (i : ℕ) (f : Entry) → slice_get (page ∷ other ∷ []) i ≡ Some f → f.asid ≡ 2 → ⊥
of_space_1 zero f is asid = let same : page ≡ f = cc in let one : 1 ≡ f.asid = ap (λ (x : Entry). x.asid) same in omega (arith, one, asid)
of_space_1 (suc zero) f is asid = let same : other ≡ f = cc in let one : 1 ≡ f.asid = ap (λ (x : Entry). x.asid) same in omega (arith, one, asid)
of_space_1 (suc (suc i)) f is asid = cc

pub another_address_space_is_a_new_pair : HasNoNewPairs (page ∷ other ∷ []) (page ∷ foreign ∷ []) → ⊥
another_address_space_is_a_new_pair none =
    let low : 0x401 < 2 ^ 19 = omega arith in
    let pair = none.each 1 foreign refl low in
    of_space_1 pair.0 pair.1 pair.2 pair.4

-- back at its call, with page 00402000 in the buffer
abbrev crowded : Held
crowded = record again { core = record again.core { entries = page ∷ third ∷ [] } }

pub a_service_that_brings_a_pair_is_not_real : IsReal called crowded → ⊥
a_service_that_brings_a_pair_is_not_real real = another_page_of_a_user_is_a_new_pair (real.pairs (λ has. refl))

-- and with another Random
abbrev diced : Held
diced = record again { core = record again.core { random = 0 } }

pub a_service_that_moves_random_is_not_real : IsReal called diced → ⊥
a_service_that_moves_random_is_not_real real = let same : 0 ≡ 1 = real.random (λ has. refl) in absurd (omega (arith, same))

-- Where a granted word lies.

pub a_word_of_page_0_is_reached_in_frame_402 : IsGranted grants 1 Load Word 0x00400004 0x00192004
a_word_of_page_0_is_reached_in_frame_402 =
    let low : 0 < 1 = omega arith in
    let small : 0x00192004 < 2 ^ 23 = omega arith in
    record { page = 0; allowed = refl; lives = refl; low = low; lies = refl; small = small; alone = λ store. absurd cc }

pub no_word_of_page_0_is_reached_in_frame_403 : IsGranted grants 1 Load Word 0x00400004 0x00193004 → ⊥
no_word_of_page_0_is_reached_in_frame_403 granted =
    let allowed : Allowed 0 4 ≡ Allowed granted.page 4 = granted.allowed in
    let first : 0 ≡ granted.page = cc in
    let lies : 0x00193004 ≡ (slice_index (0 ∷ []) granted.page + 402) * 4096 + 4 = granted.lies in
    let frame : slice_index (0 ∷ []) granted.page ≡ 0 = ap (slice_index (0 ∷ [])) (sym first) in
    absurd (omega (arith, frame, lies))
