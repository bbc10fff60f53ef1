-- A store that waits for a copy, as its exception tells it.
use Rattle.std.proofs.Common.{◌≡◌, ℕ, ◌/◌, ◌%◌, ◌^◌, ◌<◌, Bool, true, false, cond, refl, sym, ap, ap₂, subst, ◌∙◌, arith}
use Rattle.std.proofs.lemmas.Bool.Decides.{nat_tests}
use Rattle.std.specs.Prelude.{Option, Some, None, nat_le, not, ◌==◌}
use Rattle.ds_word.specs.Word.{bits}
use Rattle.ds_isa.specs.declared.instr.Size.{Size}
use Rattle.ds_isa.specs.declared.instr.Size.TheVariants.{Byte, Word}
use Rattle.ds_isa.specs.declared.instr.Kind.{Kind}
use Rattle.ds_isa.specs.declared.instr.Kind.TheVariants.{Fetch, Load, Store}
use Rattle.ds_isa.specs.Access.{is_aligned}
use Rattle.ds_policy.specs.declared.access.Rule.TheVariants.{A, K}
use Rattle.ds_policy.specs.declared.access.Verdict.{Verdict}
use Rattle.ds_policy.specs.declared.access.Verdict.TheVariants.{Allowed, Denied}
use Rattle.ds_policy.specs.declared.grant.Grant.{Grant}
use Rattle.ds_policy.specs.declared.grant.Right.{Right}
use Rattle.ds_policy.specs.declared.grant.Right.TheVariants.{Nothing, Read, Write}
use Rattle.ds_policy.specs.Grants.{PageState}
use Rattle.ds_policy.specs.Pages.{Table, decide, by_entry, by_right, allowed_on, entry_at, page_address, address_code}
use Rattle.ds_amap.specs.declared.map.Fault.{Fault}
use Rattle.ds_amap.specs.declared.map.Fault.TheVariants.{Modified}
use Rattle.ds_cp0.specs.System.{System, entered, with_field}
use Rattle.ds_core.specs.Core.{CoreState}
use Rattle.ds_core.specs.Access.{access_exception}
use Rattle.ds_grants.specs.State.{GrantsState, is_shared}
use Rattle.ds_refinement.specs.declared.cause.Cause.TheVariants as cause
use Rattle.ds_refinement.specs.Told.{code_in, own_in, is_store_code, size_at, told}
use Rattle.ds_refinement.specs.Inner.Told.{system_after}
use Rattle.ds_refinement.specs.Copying.{AwaitsCopy}
use Rattle.ds_refinement.specs.Units.{EndsUnit}
use Rattle.ds_refinement.proofs.Exceptions.{code_told, address_told}
use Rattle.ds_refinement.proofs.Refusals.{byte_answers}
use Rattle.ds_refinement.proofs.Leaving.{access_told}
use Rattle.ds_refinement.proofs.Denials.{IsLate}

-- EntryHi names the page of a store that was refused.

pub shows_store : (c : CoreState) (access : Kind) (address : ℕ) → (entered c.system (access_exception c access address Modified)).entry_hi ≡ with_field c.system.entry_hi 12 20 (bits address 12 20)
shows_store c access address = refl

pub page_below : (w a : ℕ) → nat_le (2 ^ 31) a ≡ false → bits (with_field w 12 20 (bits a 12 20)) 12 20 ≡ a / 2 ^ 12
page_below w a low = let below : a < 2 ^ 31 = grind (arith, nat_tests) in omega (arith, below)

-- What is allowed has an address of a user that suits its size.
by_tests : (aligned high : Bool) (access : Kind) (v : Verdict) (page offset : ℕ) → cond (not aligned) (Denied A (address_code access)) (cond high (Denied K (address_code access)) v) ≡ Allowed page offset
    → (aligned ≡ true) × (high ≡ false) × (v ≡ Allowed page offset)
by_tests false high access v page offset is = absurd cc
by_tests true true access v page offset is = absurd cc
by_tests true false access v page offset is = (refl, refl, is)

module _ (t : Table) (p : ℕ) (access : Kind) (size : Size) (address page offset : ℕ) (allowed : decide t p access size address ≡ Allowed page offset) where
  tests : (is_aligned size address ≡ true) × (nat_le (2 ^ 31) address ≡ false) × (by_entry (entry_at t p (page_address address)) access (address % 4096) ≡ Allowed page offset)
  tests = by_tests (is_aligned size address) (nat_le (2 ^ 31) address) access (by_entry (entry_at t p (page_address address)) access (address % 4096)) page offset allowed

  pub allowed_low : nat_le (2 ^ 31) address ≡ false
  allowed_low = tests.1

  pub allowed_byte : decide t p access Byte address ≡ Allowed page offset
  allowed_byte = byte_answers t p access size address tests.0 ∙ allowed

  pub allowed_entry : by_entry (entry_at t p (page_address address)) access (address % 4096) ≡ Allowed page offset
  allowed_entry = tests.2

-- The entry that allows a store has write right, and names its page.
pub record LetsStore (o : Option Grant) (page : ℕ) : Type 0 where
  pub grant : Grant
  pub is : o ≡ Some grant
  pub right : grant.right ≡ Write
  pub named : grant.page ≡ Some page

named_page : (named : Option ℕ) (offset page at : ℕ) → allowed_on named offset ≡ Allowed page at → named ≡ Some page
named_page None offset page at is = absurd cc
named_page (Some q) offset page at is = let same : q ≡ page = cc in ap (λ (n : ℕ). Some n) same

by_its_right : (right : Right) (grant : Grant) (offset page at : ℕ) → grant.right ≡ right → by_right right Store grant offset ≡ Allowed page at → LetsStore (Some grant) page
by_its_right Nothing grant offset page at is allowed = absurd cc
by_its_right Read grant offset page at is allowed = absurd cc
by_its_right Write grant offset page at is allowed = record { grant = grant; is = refl; right = is; named = named_page grant.page offset page at allowed }

pub lets_store : (o : Option Grant) (offset page at : ℕ) → by_entry o Store offset ≡ Allowed page at → LetsStore o page
lets_store None offset page at allowed = absurd cc
lets_store (Some grant) offset page at allowed = by_its_right grant.right grant offset page at refl allowed

-- A refused store to a page in whose frame another may lie waits for a copy.
module _ (c : CoreState) (g : GrantsState) (size : Size) (address p page offset : ℕ) (allowed : decide g.table p Store size address ≡ Allowed page offset) (shared : is_shared g page ≡ true) where
  abbrev s : System
  s = system_after c Store address Modified

  bad : s.bad_vaddr ≡ address
  bad = address_told c.system (access_exception c Store address Modified) address refl

  store_awaits : AwaitsCopy (system_after c Store address Modified) g p
  store_awaits = record {
    code = code_told c.system (access_exception c Store address Modified);
    address = ap (λ (w : ℕ). bits w 12 20) (shows_store c Store address) ∙ (page_below c.system.entry_hi address (allowed_low g.table p Store size address page offset allowed) ∙ ap (λ (a : ℕ). a / 2 ^ 12) (sym bad));
    page = page;
    offset = offset;
    allowed = ap (decide g.table p Store Byte) bad ∙ allowed_byte g.table p Store size address page offset allowed;
    shared = shared;
  }

pub late_awaits : (c : CoreState) (g : GrantsState) (access : Kind) (size : Size) (address : ℕ) (fault : Fault) (p page offset : ℕ) → IsLate g access fault page → decide g.table p access size address ≡ Allowed page offset
    → AwaitsCopy (system_after c access address fault) g p
late_awaits c g access size address fault p page offset late allowed =
    subst (λ (f : Fault). AwaitsCopy (system_after c access address f) g p) (sym late.refused)
    (subst (λ (k : Kind). AwaitsCopy (system_after c k address Modified) g p) (sym late.store)
    (store_awaits c g size address p page offset (ap (λ (k : Kind). decide g.table p k size address) (sym late.store) ∙ allowed) late.shared))

-- What waits for a copy is told as a store of a byte.
module _ (s : System) (g : GrantsState) (p : ℕ) (a : AwaitsCopy s g p) where
  pub told_store : (pages : PageState) → told s pages p ≡ cause.Access (record { kind = Store; size = Byte })
  told_store pages =
      let code : code_in s ≡ 1 = a.code in
      access_told s pages p (omega (arith, code)) (omega (arith, code))
      ∙ ap₂ (λ (k : Kind) (z : Size). cause.Access (record { kind = k; size = z }))
      (ap (λ (n : ℕ). cond (is_store_code n) Store (cond (s.bad_vaddr == own_in s) Fetch Load)) a.code)
      (ap (λ (n : ℕ). cond (nat_le n 3) Byte (cond (is_store_code n) (size_at pages p (own_in s)) (cond (s.bad_vaddr == own_in s) Word (size_at pages p (own_in s))))) a.code)

  pub grant_of : LetsStore (entry_at g.table p (page_address s.bad_vaddr)) a.page
  grant_of = lets_store (entry_at g.table p (page_address s.bad_vaddr)) (s.bad_vaddr % 4096) a.page a.offset (allowed_entry g.table p Store Byte s.bad_vaddr a.page a.offset a.allowed)

  -- and ends no unit
  pub never_ends : (pages : PageState) → pages.table ≡ g.table → EndsUnit pages p s.bad_vaddr (told s pages p) → ⊥
  never_ends pages same ends =
      let denied : EndsUnit pages p s.bad_vaddr (cause.Access (record { kind = Store; size = Byte })) = subst (EndsUnit pages p s.bad_vaddr) (told_store pages) ends in
      let no : Denied denied.0 denied.1 ≡ Allowed a.page a.offset = sym denied.2 ∙ (ap (λ (t : Table). decide t p Store Byte s.bad_vaddr) same ∙ a.allowed) in
      absurd cc
