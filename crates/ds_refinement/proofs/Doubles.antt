-- After a double miss the entry of the table's page is written, and the unit begins again.
use Rattle.std.proofs.Common.{◌≡◌, ℕ, ◌+◌, ◌-◌, ◌/◌, ◌^◌, ◌<◌, ◌≤◌, true, List, ◌∷◌, Some, None, refl, sym, ap, ap₂, subst, ◌∙◌, arith, inr}
use Rattle.std.specs.Prelude.{slice_index, slice_set}
use Rattle.ds_word.specs.Word.{word, bits}
use Rattle.ds_isa.specs.Registers.{Registers}
use Rattle.ds_tlb.specs.declared.entry.Entry.{Entry}
use Rattle.ds_tlb.specs.Entries.{find, matches}
use Rattle.ds_tlb.specs.Words.{entry_of}
use Rattle.ds_cp0.specs.System.{asid_of}
use Rattle.ds_tables.specs.Places.{page_of_table}
use Rattle.ds_grants.specs.Buffer.{BufferHolds, read_only, lo_of}
use Rattle.ds_grants.specs.Inner.Buffer.{entry_for}
use Rattle.ds_grants.proofs.Fields.{table_lo}
use Rattle.ds_grants.proofs.Fills.{find_written, same_keys, missed_buffer}
use Rattle.ds_core.specs.Core.{CoreState}
use Rattle.ds_pagemap.specs.Machine.{State, process_of, touched}
use Rattle.ds_refinement.specs.Held.{Held, Own, space_of}
use Rattle.ds_refinement.specs.Handling.{InDouble}
use Rattle.ds_refinement.specs.Stands.{Agrees}
use Rattle.ds_refinement.specs.Inner.Services.{at_unit, table_entry}
use Rattle.ds_refinement.proofs.Fields.{space_in, page_of_hi, table_of_hi, region_of_hi}
use Rattle.ds_refill.proofs.Lent.{lend_26, in_27, base_size}
use Rattle.ds_refinement.proofs.Standing.{runs, few, touched_state, own_unseen}

-- the processor with the entry of the table's page in a slot, and the unit about to begin again
abbrev pub with_page_in : Held → ℕ → ℕ → CoreState
with_page_in h p slot = record (at_unit h.core (slice_index h.core.registers.general 27)) {
  registers = record h.core.registers { general = slice_set h.core.registers.general 26 0 };
  entries = slice_set h.core.entries slot (table_entry h p);
}

module _ (h : Held) (m : State) (p : ℕ) (rest : List ℕ) (k : Agrees h m) (ready : h.kept.state.ready ≡ p ∷ rest) where
  abbrev asid : ℕ
  asid = space_of h.kept p

  below : space_of h.kept p < 64
  below = few h m p rest k ready

  -- EntryHi names the page of the table of a region
  names_table : (z : InDouble h.core h.kept p m) → bits h.core.system.entry_hi 12 20 ≡ 0xC0000 + z.region
  names_table z = ap (λ (n : ℕ). bits n 12 20) z.hi ∙ table_of_hi z.region asid z.few below

  pub names_kernel : InDouble h.core h.kept p m → 0xC0000 ≤ bits h.core.system.entry_hi 12 20
  names_kernel z = let at = names_table z in omega (arith, at)

  pub names_few : InDouble h.core h.kept p m → bits h.core.system.entry_hi 12 20 - 0xC0000 < 512
  names_few z = let at = names_table z in let small : z.region < 512 = z.few in omega (arith, at, small)

  -- the entry is that of the page of the process's table
  entry_is : (z : InDouble h.core h.kept p m) → table_entry h p ≡ entry_for h.kept.grants h.kept.tables p asid (0xC0000 + z.region)
  entry_is z =
      let at : bits h.core.system.entry_hi 12 20 - 0xC0000 ≡ z.region = ap (λ (n : ℕ). bits n 12 20 - 0xC0000) z.hi ∙ region_of_hi z.region asid z.few below in
      ap₂ (λ (a c : ℕ). entry_of a c) z.hi (ap (λ (n : ℕ). read_only (page_of_table h.kept.tables p n)) at ∙ sym (table_lo h.kept.grants h.kept.tables p z.region))

  -- the slot answers for the page that EntryHi names
  pub page_answers : (slot : ℕ) → slot < 64 → InDouble h.core h.kept p m
      → find (slice_set h.core.entries slot (table_entry h p)) (h.core.system.entry_hi / 2 ^ 12) (asid_of h.core.system) ≡ Some slot
  page_answers slot within z =
      let small : z.region < 512 = z.few in
      let slots = z.whole.slots in
      let vpn : ℕ = 0xC0000 + z.region in
      let page : h.core.system.entry_hi / 2 ^ 12 ≡ 0xC0000 + z.region = ap (λ (n : ℕ). n / 2 ^ 12) z.hi ∙ page_of_hi (0xC0000 + z.region) asid below in
      let space : asid_of h.core.system ≡ asid = ap (λ (n : ℕ). bits n 6 6) z.hi ∙ space_in (0xC0000 + z.region) asid below in
      let passes : matches vpn asid (table_entry h p) ≡ true =
      ap (λ (e : Entry). matches vpn asid e) (entry_is z) ∙ same_keys vpn asid (lo_of h.kept.grants h.kept.tables p vpn) (omega (arith, small)) below in
      ap₂ (λ (v a : ℕ). find (slice_set h.core.entries slot (table_entry h p)) v a) page space
      ∙ find_written h.core.entries vpn asid slot (table_entry h p) z.missed (omega (arith, slots, within)) passes

  pub double_returns : (slot : ℕ) (own : Own) → InDouble h.core h.kept p m → Agrees (record h { core = with_page_in h p slot; own = own }) (touched true m)
  double_returns slot own z =
      let r = runs h m p rest k ready in
      let few_regions : z.region < 512 = z.few in
      let long = base_size h.core.registers z.base z.first (process_of m p).pc None z.registers z.whole.size in
      let back : slice_index h.core.registers.general 27 ≡ (process_of m p).pc = ap (λ (x : Registers). slice_index x.general 27) z.registers ∙ in_27 z.base.general z.first (process_of m p).pc long in
      own_unseen (record h { core = with_page_in h p slot }) own (touched true m)
      (touched_state h m p rest k ready (with_page_in h p slot) z.base z.owed z.units
      (subst (λ (e : Entry). BufferHolds (slice_set h.core.entries slot e) h.kept.spaces h.kept.grants h.kept.tables) (sym (entry_is z))
      (missed_buffer h.core.entries h.kept.spaces h.kept.grants h.kept.tables p (0xC0000 + z.region) slot k.represented.spaces k.represented.buffer r.seat.0 r.number (inr ((omega arith), (omega (arith, few_regions)))) z.missed))
      (record { tables = k.base.tables; whole = k.base.whole })
      (record { space = r.set.space; small = r.set.small })
      refl refl back (ap (λ (n : ℕ). word (n + 4)) back)
      (ap (λ (x : Registers). record x { general = slice_set x.general 26 0 }) z.registers ∙ ap (λ (g : List ℕ). record z.base { general = g; late = None }) (lend_26 z.base.general z.first (process_of m p).pc 0)))
