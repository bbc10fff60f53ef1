-- An access that the buffer refuses, and that comes to the general vector, is one that the table denies, or a store to a page
-- that waits for a copy.
use Rattle.std.proofs.Common.{◌≡◌, ℕ, ◌+◌, ◌*◌, ◌/◌, ◌%◌, ◌^◌, ◌<◌, Bool, true, false, cond, refl, sym, ap, subst, ◌∙◌, arith}
use Rattle.std.proofs.lemmas.Bool.Decides.{nat_tests}
use Rattle.std.specs.Prelude.{Option, Some, None, Ok, Err, nat_le, nat_lt, not, ◌&&◌, slice_get}
use Rattle.ds_word.specs.Word.{bit}
use Rattle.ds_isa.specs.declared.instr.Size.{Size}
use Rattle.ds_isa.specs.declared.instr.Kind.{Kind}
use Rattle.ds_isa.specs.declared.instr.Kind.TheVariants.{Fetch, Load, Store}
use Rattle.ds_isa.specs.Access.{is_store, is_aligned}
use Rattle.ds_tlb.specs.declared.entry.Entry.{Entry}
use Rattle.ds_tlb.specs.Entries.{find}
use Rattle.ds_tlb.specs.Words.{entry_of}
use Rattle.ds_cp0.specs.System.{asid_of, is_user, vector}
use Rattle.ds_amap.specs.declared.map.Physical.{Physical}
use Rattle.ds_amap.specs.declared.map.Fault.{Fault}
use Rattle.ds_amap.specs.declared.map.Fault.TheVariants.{Address, Refill, Invalid, Modified}
use Rattle.ds_amap.specs.Map.{through, through_slot, through_found, at_physical}
use Rattle.ds_policy.specs.declared.access.Rule.TheVariants.{K, A}
use Rattle.ds_policy.specs.declared.access.Verdict.TheVariants.{Allowed, Denied}
use Rattle.ds_policy.specs.declared.grant.Grant.{Grant}
use Rattle.ds_policy.specs.declared.grant.Right.{Right}
use Rattle.ds_policy.specs.declared.grant.Right.TheVariants.{Nothing, Read, Write}
use Rattle.ds_policy.specs.Pages.{decide, allowed_on, by_right, by_entry, entry_at, page_address, address_code}
use Rattle.ds_grants.specs.State.{GrantsState, is_shared, frame_of_page}
use Rattle.ds_grants.specs.Words.{word_of_right, word_of_grant, granted_word}
use Rattle.ds_grants.specs.Buffer.{hi_of, BufferHolds}
use Rattle.ds_grants.proofs.Fields.{user_lo}
use Rattle.ds_asid.specs.Spaces.{Spaces, space_number}
use Rattle.ds_tables.specs.Places.{Places}
use Rattle.ds_core.specs.Core.{CoreState}
use Rattle.ds_core.specs.Access.{reached, access_exception}
use Rattle.ds_refinement.specs.Held.{Kept, space_of}
use Rattle.ds_refinement.proofs.Lookups.{frame_flags, found_of, page_of_number}

-- What the buffer refuses though the table allows it: a store to a page in whose frame another may lie.
pub record IsLate (g : GrantsState) (access : Kind) (fault : Fault) (page : ℕ) : Type 0 where
  pub refused : fault ≡ Modified
  pub store : access ≡ Store
  pub shared : is_shared g page ≡ true

-- What a valid entry refuses is a store, where it may not be written.
by_flags : (v d store : Bool) (there : Physical) (fault : Fault) → v ≡ true → cond (not v) (Err Invalid) (cond (store && not d) (Err Modified) (Ok there)) ≡ Err fault → (fault ≡ Modified) × (store ≡ true) × (d ≡ false)
by_flags false d store there fault e is = absurd cc
by_flags true true true there fault e is = absurd cc
by_flags true false true there fault e is = (cc, refl, refl)
by_flags true d false there fault e is = absurd cc

turned : (b : Bool) → not b ≡ false → b ≡ true
turned true e = refl
turned false e = absurd cc

a_store : (access : Kind) → is_store access ≡ true → access ≡ Store
a_store Store e = refl
a_store Load e = absurd cc
a_store Fetch e = absurd cc

-- What an entry of a page-table word refuses, the table denies, or it is such a store.
module _ (g : GrantsState) (hi address offset : ℕ) (fault : Fault) (page at : ℕ) where
  page_refuses : (q : ℕ) (d : Bool) (access : Kind) → through (entry_of hi (frame_of_page g q * 2 ^ 12 + bit 10 d + bit 9 true)) access address ≡ Err fault
      → (fault ≡ Modified) × (is_store access ≡ true) × (d ≡ false)
  page_refuses q d access is =
      let flags = frame_flags (frame_of_page g q) d in
      let e : Entry = entry_of hi (frame_of_page g q * 2 ^ 12 + bit 10 d + bit 9 true) in
      let by = by_flags e.v e.d (is_store access) (at_physical (e.pfn % 2 ^ 20 * 2 ^ 12 + address % 2 ^ 12)) fault flags.2 is in
      (by.0, by.1, sym flags.1 ∙ by.2)

  no_page : (grant : Grant) → grant.page ≡ None → allowed_on grant.page offset ≡ Allowed page at → ⊥
  no_page grant none allowed = let no : allowed_on None offset ≡ Allowed page at = sym (ap (λ (o : Option ℕ). allowed_on o offset) none) ∙ allowed in cc

  that_page : (grant : Grant) (q : ℕ) → grant.page ≡ Some q → allowed_on grant.page offset ≡ Allowed page at → q ≡ page
  that_page grant q is allowed = let same : allowed_on (Some q) offset ≡ Allowed page at = sym (ap (λ (o : Option ℕ). allowed_on o offset) is) ∙ allowed in cc

  written_refuses : (q : ℕ) (access : Kind) (grant : Grant) → grant.page ≡ Some q → through (entry_of hi (frame_of_page g q * 2 ^ 12 + bit 10 (not (is_shared g q)) + bit 9 true)) access address ≡ Err fault
      → allowed_on grant.page offset ≡ Allowed page at → IsLate g access fault page
  written_refuses q access grant is refused allowed =
      let by = page_refuses q (not (is_shared g q)) access refused in
      record { refused = by.0; store = a_store access by.1; shared = ap (is_shared g) (sym (that_page grant q is allowed)) ∙ turned (is_shared g q) by.2 }

  right_refuses : (right : Right) (access : Kind) (named : Option ℕ) (grant : Grant) → grant.page ≡ named → through (entry_of hi (word_of_right g right named)) access address ≡ Err fault → by_right right access grant offset ≡ Allowed page at → IsLate g access fault page
  right_refuses Nothing access named grant is refused allowed = absurd cc
  right_refuses Read Store named grant is refused allowed = absurd cc
  right_refuses Read Load None grant is refused allowed = absurd (no_page grant is allowed)
  right_refuses Read Load (Some q) grant is refused allowed = let no : false ≡ true = (page_refuses q false Load refused).1 in absurd cc
  right_refuses Read Fetch None grant is refused allowed = absurd (no_page grant is allowed)
  right_refuses Read Fetch (Some q) grant is refused allowed = let no : false ≡ true = (page_refuses q false Fetch refused).1 in absurd cc
  right_refuses Write access None grant is refused allowed = absurd (no_page grant is allowed)
  right_refuses Write access (Some q) grant is refused allowed = written_refuses q access grant is refused allowed

  word_refuses : (o : Option Grant) (access : Kind) → through (entry_of hi (word_of_grant g o)) access address ≡ Err fault → by_entry o access offset ≡ Allowed page at → IsLate g access fault page
  word_refuses None access refused allowed = absurd cc
  word_refuses (Some grant) access refused allowed = right_refuses grant.right access grant.page grant refl refused allowed

-- no address of a user's page is refused at the general vector because nothing matches
not_missed : (c : CoreState) (access : Kind) (address : ℕ) (fault : Fault) → nat_le (2 ^ 31) address ≡ false → ◌≡◌ {A = Fault} Refill fault → vector (access_exception c access address fault) ≡ 0x80000080 → ⊥
not_missed c access address fault low is at =
    let below : nat_lt address (2 ^ 31) ≡ true = grind (arith, nat_tests) in
    let misses : vector (access_exception c access address Refill) ≡ 0x80000000 = ap (λ (b : Bool). cond b 0x80000000 0x80000080) below in
    let both : ◌≡◌ {A = ℕ} 0x80000000 0x80000080 = sym misses ∙ (ap (λ (f : Fault). vector (access_exception c access address f)) is ∙ at) in
    omega (arith, both)

-- An access of a user, whose process has this address space.
module _ (c : CoreState) (g : GrantsState) (t : Places) (spaces : Spaces) (p : ℕ) (holds : BufferHolds c.entries spaces g t) (some : 0 < p) (number : 0 < space_number spaces p) (access : Kind) (size : Size) (address : ℕ) (fault : Fault)
    (general : vector (access_exception c access address fault) ≡ 0x80000080) (page at : ℕ) where
  by_slot : (slot : ℕ) (e : Entry) → find c.entries (address / 2 ^ 12) (space_number spaces p) ≡ Some slot → slice_get c.entries slot ≡ Some e → nat_le (2 ^ 31) address ≡ false → through e access address ≡ Err fault
      → by_entry (entry_at g.table p (page_address address)) access (address % 4096) ≡ Allowed page at → IsLate g access fault page
  by_slot slot e found there low is allowed =
      let of = found_of c.entries (address / 2 ^ 12) (space_number spaces p) slot e found (there) (holds.own slot e there) in
      let small : address < 2 ^ 31 = grind (arith, nat_tests) in
      let same : e.vpn ≡ address / 2 ^ 12 = of.0 in
      let user : e.vpn < 2 ^ 19 = omega (arith, small, same) in
      let b = holds.backed slot e p there some (subst (λ (n : ℕ). 0 < n) (sym of.1) number) (sym of.1) in
      let words : e ≡ entry_of (hi_of e.vpn e.asid) (granted_word g p e.vpn) = b.words ∙ ap (entry_of (hi_of e.vpn e.asid)) (user_lo g t p e.vpn user) in
      word_refuses g (hi_of e.vpn e.asid) address (address % 4096) fault page at (entry_at g.table p (e.vpn * 2 ^ 12)) access
      (subst (λ (x : Entry). through x access address ≡ Err fault) words is)
      (ap (λ (n : ℕ). by_entry (entry_at g.table p n) access (address % 4096)) (sym (page_of_number address e.vpn of.0)) ∙ allowed)

  by_entry_at : (slot : ℕ) (o : Option Entry) → find c.entries (address / 2 ^ 12) (space_number spaces p) ≡ Some slot → slice_get c.entries slot ≡ o → nat_le (2 ^ 31) address ≡ false → through_slot o access address ≡ Err fault
      → by_entry (entry_at g.table p (page_address address)) access (address % 4096) ≡ Allowed page at → IsLate g access fault page
  by_entry_at slot None found there low is allowed = absurd (not_missed c access address fault low (cc) general)
  by_entry_at slot (Some e) found there low is allowed = by_slot slot e found there low is allowed

  by_found : (found : Option ℕ) → find c.entries (address / 2 ^ 12) (space_number spaces p) ≡ found → nat_le (2 ^ 31) address ≡ false → through_found c.entries found access address ≡ Err fault
      → by_entry (entry_at g.table p (page_address address)) access (address % 4096) ≡ Allowed page at → IsLate g access fault page
  by_found None found low is allowed = absurd (not_missed c access address fault low (cc) general)
  by_found (Some slot) found low is allowed = by_entry_at slot (slice_get c.entries slot) found refl low is allowed

  -- alignment, the user's half, and the buffer
  by_tests : (aligned high : Bool) → nat_le (2 ^ 31) address ≡ high
      → cond (not aligned) (Err Address) (cond (not (not (high && true))) (Err Address) (cond (high && nat_lt address 0xC0000000) (Ok (at_physical (address % 2 ^ 29))) (through_found c.entries (find c.entries (address / 2 ^ 12) (space_number spaces p)) access address))) ≡ Err fault
      → cond (not aligned) (Denied A (address_code access)) (cond high (Denied K (address_code access)) (by_entry (entry_at g.table p (page_address address)) access (address % 4096))) ≡ Allowed page at → IsLate g access fault page
  by_tests false high h is allowed = absurd cc
  by_tests true true h is allowed = absurd cc
  by_tests true false h is allowed = by_found (find c.entries (address / 2 ^ 12) (space_number spaces p)) refl h is allowed

number_late : (c : CoreState) (g : GrantsState) (t : Places) (spaces : Spaces) (p : ℕ) → is_user c.system ≡ true → BufferHolds c.entries spaces g t → 0 < p → 0 < space_number spaces p → asid_of c.system ≡ space_number spaces p
    → (access : Kind) (size : Size) (address : ℕ) (fault : Fault) → reached c access size address ≡ Err fault → vector (access_exception c access address fault) ≡ 0x80000080 → (page at : ℕ) → decide g.table p access size address ≡ Allowed page at → IsLate g access fault page
number_late c g t spaces p user holds some number space access size address fault is general page at allowed =
    by_tests c g t spaces p holds some number access size address fault general page at (is_aligned size address) (nat_le (2 ^ 31) address) refl (rw (user, space) at is) allowed

-- so it is in the address spaces that are kept
pub refused_late : (c : CoreState) (k : Kept) (p : ℕ) → is_user c.system ≡ true → BufferHolds c.entries k.spaces k.grants k.tables → 0 < p → 0 < space_of k p → asid_of c.system ≡ space_of k p
    → (access : Kind) (size : Size) (address : ℕ) (fault : Fault) → reached c access size address ≡ Err fault → vector (access_exception c access address fault) ≡ 0x80000080 → (page at : ℕ) → decide k.grants.table p access size address ≡ Allowed page at → IsLate k.grants access fault page
refused_late c k p user holds some number space = number_late c k.grants k.tables k.spaces p user holds some number space
