-- What a unit has written into the buffer stays while it goes on.
use Rattle.std.proofs.Common.{◌≡◌, ◌≢◌, ◌⊎◌, ℕ, ◌+◌, ◌-◌, ◌/◌, ◌<◌, ◌≤◌, ◌==◌, Bool, true, false, cond, List, [], ◌∷◌, None, refl, sym, ap, ap₂, subst, ◌∙◌, inl, inr, arith}
use Rattle.std.proofs.lemmas.Bool.Decides.{nat_tests}
use Rattle.std.specs.Prelude.{Contains, IsSome, Option, is_some, slice_get}
use Rattle.ds_word.specs.Word.{bits}
use Rattle.ds_tlb.specs.declared.entry.Entry.{Entry}
use Rattle.ds_tlb.specs.Words.{entry_of}
use Rattle.ds_grants.specs.Copies.{AreRewritten}
use Rattle.ds_cp0.specs.System.{is_user}
use Rattle.ds_core.specs.Core as core
use Rattle.ds_core.specs.Core.{CoreState}
use Rattle.ds_core.specs.Effect.{step}
use Rattle.ds_pagemap.specs.Machine.{State}
use Rattle.ds_pagemap.specs.declared.turn.Turn.{Turn}
use Rattle.ds_refinement.specs.Course.{UnitPages, Begun, AtWord, AtDoubleMiss, AtModification, Work, Course}
use Rattle.ds_refinement.specs.Inner.CourseSteps.{Next, Tables, tabled}
use Rattle.ds_refinement.specs.Tally.{IsTallied, turns}
use Rattle.ds_refinement.proofs.UnitCourses as courses
use Rattle.ds_refinement.specs.declared.step.Step.TheVariants.{Inside}
use Rattle.ds_refinement.specs.Told.{code_in}
use Rattle.ds_refinement.specs.Held.{Held, Own}
use Rattle.ds_refinement.specs.Needs.{pages_of_unit}
use Rattle.ds_refinement.specs.Counts.{Counts, HasNone, counts_of, course_of, fresh_counts, may_write, one_more, one_tabled, one_copied, one_served, one_word, place_by, unit_place}
use Rattle.ds_refinement.specs.Units.{has_left_user, is_general, is_served}
use Rattle.ds_refinement.specs.Handling.{touches}
use Rattle.ds_refinement.specs.Inner.Stands.{IsSound}
use Rattle.ds_refinement.specs.Steps.{Follows, Moves}
use Rattle.ds_refinement.specs.Real.{GoesBack, GoesOnReally, HasUnit, IsReal}
use Rattle.ds_refinement.specs.Inner.Written.{HasWritten, KeepsSlot, KeepsWritten}
use Rattle.ds_refinement.proofs.Standing.{away_is, first_ready, served_is}
use Rattle.ds_refinement.proofs.AskedFor.{entries_stay}
use Rattle.ds_refinement.proofs.Tallied.{tallied_of}
use Rattle.ds_refinement.proofs.WordTallies.{pages_after_word, word_next}

-- by counts alone
abbrev Written : Counts → ℕ → Type 0
Written n slot = Contains n.written slot ⊎ ((slot < 8) × (turns slot n.wired ≤ n.tables))

-- the counts in a course
abbrev counts_in : Work → Counts
counts_in w = record { spent = w.spent; written = w.written; since = w.since; wired = w.wired; tables = w.tables; services = w.services }

-- a slot that has the same entry keeps it
same_slot : (old new : Held) (slot : ℕ) → slice_get new.core.entries slot ≡ slice_get old.core.entries slot → KeepsSlot old new slot
same_slot old new slot same = record { key = λ e at. (e, same ∙ at, refl, refl); whole = λ none. same }

-- a step of the unit's course, unless it is a copy, keeps what was written
keeps_by : (old new : Held) (dirty : ℕ → Bool) (pages : UnitPages) (d : Course) → IsTallied (course_of old.core (counts_of old.own) dirty pages)
    → Next (course_of old.core (counts_of old.own) dirty pages) d → unit_place old.core ≢ AtModification
    → d.work.entries ≡ new.core.entries → counts_in d.work ≡ counts_of new.own → new.own.services + old.own.tables ≡ old.own.services + new.own.tables → KeepsWritten old new
keeps_by old new dirty pages d tallied next apart entries counts even =
    let c : Course = course_of old.core (counts_of old.own) dirty pages in record {
      stays = λ slot was. same_slot old new slot (ap (λ (es : List Entry). slice_get es slot) (sym entries) ∙ courses.stays c d slot tallied next apart was);
      counts = λ slot was. subst (λ (n : Counts). Written n slot) counts (courses.grows c d slot tallied next was);
      others = λ slot. elim (courses.others c d slot tallied next apart) [
        | inl is ↦ inl (subst (λ (n : Counts). Written n slot) counts is)
        | inr same ↦ inr (same_slot old new slot (ap (λ (es : List Entry). slice_get es slot) (sym entries) ∙ same))
      ];
      services = omega (arith, even);
    }

-- a word more is none
even_word : (seventh : Bool) (random : ℕ) (n : Counts) → (one_word seventh random n).services + n.tables ≡ n.services + (one_word seventh random n).tables
even_word true random n = refl
even_word false random n = refl

-- as many services more as entries of tables' pages
even_by : (old new : Held) (n : Counts) → counts_of new.own ≡ n → n.services + old.own.tables ≡ old.own.services + n.tables → new.own.services + old.own.tables ≡ old.own.services + new.own.tables
even_by old new n counts even =
    let services : new.own.services ≡ n.services = ap (λ (x : Counts). x.services) counts in
    let tables : new.own.tables ≡ n.tables = ap (λ (x : Counts). x.tables) counts in
    omega (arith, even, services, tables)

-- an instruction of the program writes no slot
keeps_still : (old new : Held) → new.core.entries ≡ old.core.entries → counts_of new.own ≡ one_more (counts_of old.own) → KeepsWritten old new
keeps_still old new entries counts = record {
  stays = λ slot was. same_slot old new slot (ap (λ (es : List Entry). slice_get es slot) entries);
  counts = λ slot was. subst (λ (n : Counts). Written n slot) (sym counts) was;
  others = λ slot. inr (same_slot old new slot (ap (λ (es : List Entry). slice_get es slot) entries));
  services = (let even = even_by old new (one_more (counts_of old.own)) counts refl in omega (arith, even));
}

-- a copy writes no slot, and leaves each its page and its address space
keeps_copied : (old new : Held) → AreRewritten old.core.entries new.core.entries → counts_of new.own ≡ one_copied (counts_of old.own) → KeepsWritten old new
keeps_copied old new same counts =
    let services : new.own.services ≡ old.own.services + 1 = ap (λ (n : Counts). n.services) counts in
    let tables : new.own.tables ≡ old.own.tables = ap (λ (n : Counts). n.tables) counts in
    let slot_kept : (slot : ℕ) → KeepsSlot old new slot =
    λ slot. record { key = same.0 slot; whole = λ (none : new.own.services + old.own.tables ≡ old.own.services + new.own.tables). absurd (omega (arith, none, services, tables)) } in
    record {
      stays = λ slot was. slot_kept slot;
      counts = λ slot was. subst (λ (n : Counts). Written n slot) (sym counts) was;
      others = λ slot. inr (slot_kept slot);
      services = omega (arith, services, tables);
    }

-- Where the processor is.

at_a_word : (c : CoreState) → is_user c.system ≡ false → is_general c ≡ false → unit_place c ≢ AtModification
at_a_word c user general = λ (wrong : unit_place c ≡ AtModification).
    let is : unit_place c ≡ AtWord ((c.pc - 0x80000000) / 4) =
    ap₂ (λ (u g : Bool). place_by u c.slot g (bits c.system.status 3 1 == 1) (code_in c.system == 1) c.pc) user general in
    let no : AtWord ((c.pc - 0x80000000) / 4) ≡ AtModification = sym is ∙ wrong in
    cc

at_double_miss : (c : CoreState) → is_user c.system ≡ false → is_general c ≡ true → has_left_user c ≡ false → unit_place c ≡ AtDoubleMiss
at_double_miss c user general left =
    ap₂ (λ (u g : Bool). place_by u c.slot g (bits c.system.status 3 1 == 1) (code_in c.system == 1) c.pc) user general
    ∙ ap (λ (l : Bool). place_by false c.slot true l (code_in c.system == 1) c.pc) left

not_modified : (c : CoreState) → unit_place c ≡ AtDoubleMiss → unit_place c ≢ AtModification
not_modified c is = λ (wrong : unit_place c ≡ AtModification). let no : AtDoubleMiss ≡ AtModification = sym is ∙ wrong in cc

one_each : (services tables : ℕ) → services + 1 + tables ≡ services + (tables + 1)
one_each services tables = omega arith

none_is_owed : (owed : Option Turn) → owed ≡ None → IsSome owed → ⊥
none_is_owed owed none some = let no : false ≡ true = sym (ap is_some none) ∙ some in absurd cc

-- A step inside a unit.
module _ (old new : Held) (sound : IsSound old) (follows : Follows Inside old new) (moves : Moves Inside old new) (real : IsReal old new) where
  abbrev m : State
  m = sound.state

  somebody : old.kept.state.ready ≢ []
  somebody none = (follows.follows m sound.stands).1.0 (sound.stands.agrees.kept.ready ∙ none)

  unit : HasUnit old
  unit = (moves.0, somebody)

  first : (p : ℕ) × (rest : List ℕ) × (old.kept.state.ready ≡ p ∷ rest)
  first = first_ready old.kept.state.ready somebody

  abbrev dirty : ℕ → Bool
  dirty = may_write old.kept first.0

  abbrev pages : UnitPages
  pages = pages_of_unit m first.0

  abbrev course : Course
  course = course_of old.core (counts_of old.own) dirty pages

  tallied : IsTallied course
  tallied = tallied_of old m first.0 first.1 sound.stands first.2

  -- what is counted, by who is at work
  abbrev counts_by : Bool → Bool → Counts
  counts_by served user = cond served (one_served (has_left_user old.core) (counts_of old.own)) (cond user (one_more (counts_of old.own)) (one_word (touches old.core) old.core.random (counts_of old.own)))

  -- an instruction of the program
  of_user : is_user old.core.system ≡ true → is_served old.core ≡ false → KeepsWritten old new
  of_user user unserved =
      let s : core.Step = step old.core old.bus in
      let taken = real.instruction unit unserved in
      keeps_still old new
      (sym (ap (λ (x : core.Step). x.core.entries) taken.1) ∙ entries_stay old m first.0 first.1 sound.stands.agrees first.2 user s refl)
      (moves.7 ∙ ap₂ counts_by unserved user)

  -- a word of the handler
  of_word : is_user old.core.system ≡ false → is_served old.core ≡ false → KeepsWritten old new
  of_word user unserved =
      let general : is_general old.core ≡ false = away_is old.core user unserved in
      let taken = real.instruction unit unserved in
      let s : core.Step = step old.core old.bus in
      keeps_by old new dirty pages (course_of s.core (one_word (touches old.core) old.core.random (counts_of old.own)) dirty (pages_after_word (touches old.core) pages)) tallied
      (word_next old m first.0 first.1 sound.stands.agrees first.2 tallied user general) (at_a_word old.core user general)
      (ap (λ (x : core.Step). x.core.entries) taken.1)
      (sym (moves.7 ∙ ap₂ counts_by unserved user))
      (even_by old new (one_word (touches old.core) old.core.random (counts_of old.own)) (moves.7 ∙ ap₂ counts_by unserved user) (even_word (touches old.core) old.core.random (counts_of old.own)))

  -- what a service counts
  counted : is_served old.core ≡ true → counts_of new.own ≡ one_served (has_left_user old.core) (counts_of old.own)
  counted served = moves.7 ∙ ap (λ (served : Bool). counts_by served (is_user old.core.system)) served

  -- the service of a double miss
  of_double_miss : is_served old.core ≡ true → has_left_user old.core ≡ false → GoesBack old new → KeepsWritten old new
  of_double_miss served left back =
      let parts = served_is old.core served in
      let place : unit_place old.core ≡ AtDoubleMiss = at_double_miss old.core parts.0 parts.1 left in
      let wrote = back.written left in
      let e : Entry = entry_of old.core.system.entry_hi wrote.0 in
      keeps_by old new dirty pages (record { place = Begun; page = course.page; work = tabled e course.work }) tallied
      (Tables e place refl refl refl) (not_modified old.core place)
      (sym wrote.1)
      (sym (counted served ∙ ap (λ (left : Bool). one_served left (counts_of old.own)) left))
      (even_by old new (one_tabled (counts_of old.own)) (counted served ∙ ap (λ (left : Bool). one_served left (counts_of old.own)) left) (one_each old.own.services old.own.tables))

  -- of another exception only the service of a copy lets the unit go on
  of_service : is_served old.core ≡ true → (left : Bool) → has_left_user old.core ≡ left → GoesOnReally old new → KeepsWritten old new
  of_service served false left on = of_double_miss served left on.back
  of_service served true left on = keeps_copied old new (on.back.rewritten left) (counted served ∙ ap (λ (left : Bool). one_served left (counts_of old.own)) left)

  by_served : (served : Bool) → is_served old.core ≡ served → (user : Bool) → is_user old.core.system ≡ user → KeepsWritten old new
  by_served true served user mode = elim (real.service unit served) [
    | inl ends ↦ absurd (none_is_owed new.kept.state.owed moves.1 ends.owed)
    | inr on ↦ of_service served (has_left_user old.core) refl on
  ]
  by_served false unserved true user = of_user user unserved
  by_served false unserved false user = of_word user unserved

  pub inside_keeps : KeepsWritten old new
  inside_keeps = by_served (is_served old.core) refl (is_user old.core.system) refl

-- a slot is kept in one step after the other
slot_again : (old between new : Held) (slot : ℕ) → old.own.services + between.own.tables ≤ between.own.services + old.own.tables → between.own.services + new.own.tables ≤ new.own.services + between.own.tables
    → KeepsSlot old between slot → KeepsSlot between new slot → KeepsSlot old new slot
slot_again old between new slot first second a b = record {
  key = λ e at. (let x = a.key e at in let y = b.key x.0 x.1 in (y.0, y.1, y.2 ∙ x.2, y.3 ∙ x.3));
  whole = λ (none : new.own.services + old.own.tables ≡ old.own.services + new.own.tables). b.whole (omega (arith, none, first, second)) ∙ a.whole (omega (arith, none, first, second));
}

-- one step after the other
pub keeps_again : (old between new : Held) → KeepsWritten old between → KeepsWritten between new → KeepsWritten old new
keeps_again old between new a b =
    let first = a.services in let second = b.services in record {
      stays = λ slot was. slot_again old between new slot first second (a.stays slot was) (b.stays slot (a.counts slot was));
      counts = λ slot was. b.counts slot (a.counts slot was);
      others = λ slot. elim (b.others slot) [
        | inl is ↦ inl is
        | inr same ↦ elim (a.others slot) [
          | inl was ↦ inl (b.counts slot was)
          | inr before ↦ inr (slot_again old between new slot first second before same)
        ]
      ];
      services = omega (arith, first, second);
    }

-- A unit that begins has written nothing.

-- a slot whose turn it is was not just written
pub never_now : (slot wired : ℕ) → slot < 8 → turns slot wired ≤ 0 → ⊥
never_now slot wired low few = grind (arith, nat_tests)

none_of_fresh : (wired slot : ℕ) → Written (fresh_counts wired) slot → ⊥
none_of_fresh wired slot (inl in_it) = let within : in_it.0 < 0 = in_it.1 in omega (arith, within)
none_of_fresh wired slot (inr table) = never_now slot wired table.0 table.1

pub none_written : (own : Own) (slot : ℕ) → HasNone own → HasWritten own slot → ⊥
none_written own slot none was = none_of_fresh own.wired slot (subst (λ (n : Counts). Written n slot) none was)
