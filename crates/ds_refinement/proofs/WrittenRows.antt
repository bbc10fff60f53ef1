-- What a small unit has written into the buffer, and what of that a step may change: each row is a theorem about the definitions alone.
use Rattle.std.proofs.Common.{◌≡◌, ◌⊎◌, ℕ, zero, suc, ◌+◌, ◌<◌, ◌≤◌, ◌∙◌, List, true, false, [], ◌∷◌, Some, refl, ap, sym, arith, inl, inr}
use Rattle.std.specs.Prelude.{slice_get, slice_index_or}
use Rattle.ds_tlb.specs.declared.entry.Entry.{Entry}
use Rattle.ds_refinement.specs.Held.{Held, Own}
use Rattle.ds_refinement.specs.Inner.Services.{with_table_page}
use Rattle.ds_refinement.specs.Real.{GoesBack}
use Rattle.ds_refinement.specs.Rows.StationRows.{doubled, page, other, table_page}
use Rattle.ds_refinement.specs.Inner.Written.{HasWritten, KeepsSlot, KeepsWritten}
use Rattle.ds_refinement.proofs.Staying.{never_now}

-- two refills wrote slots 20 and 8, the last first; two double misses wrote slots 7 and 0, so it is slot 1's turn
abbrev own : Own
own = record { failed = false; spent = 30; written = 8 ∷ 20 ∷ []; since = 13; wired = 1; tables = 2; services = 2 }

pub the_first_refill_has_written_slot_20 : HasWritten own 20
the_first_refill_has_written_slot_20 = inl (1, (omega arith), refl)

pub the_last_refill_has_written_slot_8 : HasWritten own 8
the_last_refill_has_written_slot_8 = inl (0, (omega arith), refl)

pub the_first_double_miss_has_written_slot_7 : HasWritten own 7
the_first_double_miss_has_written_slot_7 = inr ((omega arith), (omega arith))

pub the_last_double_miss_has_written_slot_0 : HasWritten own 0
the_last_double_miss_has_written_slot_0 = inr ((omega arith), (omega arith))

-- of the first eight slots only these two
by_no_refill : (slot k : ℕ) → k < 2 → slice_index_or (8 ∷ 20 ∷ []) k slot ≡ slot → slot < 8 → ⊥
by_no_refill slot zero within is low = let at : 8 ≡ slot = is in omega (arith, at, low)
by_no_refill slot (suc zero) within is low = let at : 20 ≡ slot = is in omega (arith, at, low)
by_no_refill slot (suc (suc k)) within is low = omega (arith, within)

pub slot_1_is_next_and_is_not_written : HasWritten own 1 → ⊥
slot_1_is_next_and_is_not_written (inl refilled) = by_no_refill 1 refilled.0 refilled.1 refilled.2 (omega arith)
slot_1_is_next_and_is_not_written (inr table) = let few : 8 ≤ 2 = table.1 in absurd (omega (arith, few))

pub slot_6_is_not_written : HasWritten own 6 → ⊥
slot_6_is_not_written (inl refilled) = by_no_refill 6 refilled.0 refilled.1 refilled.2 (omega arith)
slot_6_is_not_written (inr table) = let few : 3 ≤ 2 = table.1 in absurd (omega (arith, few))

-- A double miss puts the page of the table into slot 0.

nothing_before : (slot : ℕ) → HasWritten (doubled 0).own slot → ⊥
nothing_before slot (inl refilled) = let within : refilled.0 < 0 = refilled.1 in absurd (omega (arith, within))
nothing_before slot (inr table) = never_now slot 0 table.0 table.1

by_slot : (slot : ℕ) → HasWritten (with_table_page (doubled 0) 1).own slot ⊎ KeepsSlot (doubled 0) (with_table_page (doubled 0) 1) slot
by_slot zero = inl (inr ((omega arith), (omega arith)))
by_slot (suc slot) = inr (record { key = λ e at. (e, at, refl, refl); whole = λ none. refl })

pub a_double_miss_keeps_what_was_written : KeepsWritten (doubled 0) (with_table_page (doubled 0) 1)
a_double_miss_keeps_what_was_written = record { stays = λ slot was. absurd (nothing_before slot was); counts = λ slot was. absurd (nothing_before slot was); others = by_slot; services = omega arith }

pub where_it_is_slot_1s_turn_it_goes_into_slot_1 : (with_table_page (doubled 1) 1).core.entries ≡ page ∷ table_page ∷ []
where_it_is_slot_1s_turn_it_goes_into_slot_1 = refl

-- it goes into slot 1, where it is slot 0's turn
abbrev beside : Held
beside = record (with_table_page (doubled 0) 1) { core = record (with_table_page (doubled 0) 1).core { entries = page ∷ table_page ∷ [] } }

-- an entry of page C0001 is none of page 00401
apart : Some table_page ≡ Some other → ⊥
apart same = let alike : table_page ≡ other = cc in let pages : 0xC0001 ≡ 0x401 = ap (λ (e : Entry). e.vpn) alike in omega (arith, pages)

pub no_double_miss_writes_another_slot : GoesBack (doubled 0) beside → ⊥
no_double_miss_writes_another_slot back = let wrote = back.written refl in apart (ap (λ (es : List Entry). slice_get es 1) wrote.1)

slot_1_is_none_of_its : HasWritten beside.own 1 → ⊥
slot_1_is_none_of_its (inl refilled) = let within : refilled.0 < 0 = refilled.1 in absurd (omega (arith, within))
slot_1_is_none_of_its (inr table) = let few : 8 ≤ 1 = table.1 in absurd (omega (arith, few))

pub no_slot_changes_but_what_was_written : KeepsWritten (doubled 0) beside → ⊥
no_slot_changes_but_what_was_written keeps = elim (keeps.others 1) [
  | inl was ↦ slot_1_is_none_of_its was
  | inr same ↦ apart (same.whole refl)
]

-- after it another page is in slot 0
abbrev replaced : Held
replaced = record (with_table_page (doubled 0) 1) { core = record (with_table_page (doubled 0) 1).core { entries = other ∷ other ∷ [] } }

pub what_was_written_is_not_replaced : KeepsWritten (with_table_page (doubled 0) 1) replaced → ⊥
what_was_written_is_not_replaced keeps = let same : Some other ≡ Some table_page = (keeps.stays 0 (inr ((omega arith), (omega arith)))).whole refl in apart (sym same)

-- the same with nothing counted
abbrev forgotten : Held
forgotten = record (with_table_page (doubled 0) 1) { own = (doubled 0).own }

pub what_was_written_is_not_forgotten : KeepsWritten (with_table_page (doubled 0) 1) forgotten → ⊥
what_was_written_is_not_forgotten keeps = nothing_before 0 (keeps.counts 0 (inr ((omega arith), (omega arith))))

-- A copy rewrites the slot of the page, and writes none.

-- the first page may be written now
abbrev dirty : Entry
dirty = record page { d = true }

abbrev copied : List Entry → Held
copied entries = record (doubled 0) { core = record (doubled 0).core { entries = entries }; own = record (doubled 0).own { services = 1 } }

alike : (x y : Entry) → Some x ≡ Some y → x ≡ y
alike x y same = cc

no_copy_is_none : 1 + 0 ≡ 0 + 0 → ⊥
no_copy_is_none even = omega (arith, even)

same_key : (e : Entry) → Some page ≡ Some e → (f : Entry) × (Some dirty ≡ Some f) × (f.vpn ≡ e.vpn) × (f.asid ≡ e.asid)
same_key e at = let is : page ≡ e = cc in (dirty, refl, ap (λ (x : Entry). x.vpn) is, ap (λ (x : Entry). x.asid) is)

by_copy : (slot : ℕ) → KeepsSlot (doubled 0) (copied (dirty ∷ other ∷ [])) slot
by_copy zero = record { key = same_key; whole = λ even. absurd (no_copy_is_none even) }
by_copy (suc slot) = record { key = λ e at. (e, at, refl, refl); whole = λ even. refl }

pub a_copy_keeps_pages : KeepsWritten (doubled 0) (copied (dirty ∷ other ∷ []))
a_copy_keeps_pages = record { stays = λ slot was. by_copy slot; counts = λ slot was. absurd (nothing_before slot was); others = λ slot. inr (by_copy slot); services = omega arith }

-- slot 1 is none of those that were written
unwritten_1 : HasWritten (copied []).own 1 → ⊥
unwritten_1 (inl refilled) = let within : refilled.0 < 0 = refilled.1 in absurd (omega (arith, within))
unwritten_1 (inr table) = let few : 7 ≤ 0 = table.1 in absurd (omega (arith, few))

pub and_brings_no_other_page : KeepsWritten (doubled 0) (copied (page ∷ table_page ∷ [])) → ⊥
and_brings_no_other_page keeps = elim (keeps.others 1) [
  | inl was ↦ unwritten_1 was
  | inr same ↦
      let there = same.key other refl in
      let is : table_page ≡ there.0 = alike table_page there.0 there.1 in
      let pages : 0xC0001 ≡ 0x401 = ap (λ (e : Entry). e.vpn) is ∙ there.2 in
      omega (arith, pages)
]

-- as many entries of tables as services: no copy was made, and no entry may change
pub without_a_copy_no_entry_changes : KeepsWritten (doubled 0) (record (copied (dirty ∷ other ∷ [])) { own = (doubled 0).own }) → ⊥
without_a_copy_no_entry_changes keeps = elim (keeps.others 0) [
  | inl was ↦ nothing_before 0 was
  | inr same ↦ let is : Some dirty ≡ Some page = same.whole refl in let d : true ≡ false = ap (λ (e : Entry). e.d) (alike dirty page is) in absurd cc
]
