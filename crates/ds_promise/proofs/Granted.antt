-- What the table allows is granted by an entry.
use Rattle.std.proofs.Common.{◌≡◌, ℕ, ◌%◌, Bool, true, false, cond, Option, Some, None, refl}
use Rattle.std.specs.Prelude.{◌^◌, not, nat_le}
use Rattle.ds_isa.specs.declared.instr.Kind.{Kind}
use Rattle.ds_isa.specs.declared.instr.Kind.TheVariants.{Fetch, Load, Store}
use Rattle.ds_isa.specs.declared.instr.Size.{Size}
use Rattle.ds_isa.specs.Access.{is_aligned}
use Rattle.ds_policy.specs.declared.access.Rule.{Rule}
use Rattle.ds_policy.specs.declared.access.Rule.TheVariants.{K, A}
use Rattle.ds_policy.specs.declared.access.Verdict.{Verdict}
use Rattle.ds_policy.specs.declared.access.Verdict.TheVariants.{Allowed, Denied}
use Rattle.ds_policy.specs.declared.grant.Right.{Right}
use Rattle.ds_policy.specs.declared.grant.Right.TheVariants.{Nothing, Read, Write}
use Rattle.ds_policy.specs.declared.grant.Grant.{Grant}
use Rattle.ds_policy.specs.Pages.{Table, decide, entry_at, page_address, by_entry, by_right, allowed_on, address_code}
use Rattle.ds_policy.specs.Grants.{is_some_right}
use Rattle.ds_promise.specs.Stores.{lets, Holds}

denied_is_not_allowed : {X : Type 0} (rule : Rule) (code page offset : ℕ) → Denied rule code ≡ Allowed page offset → X
denied_is_not_allowed rule code page offset e = absurd (no rule code page offset e)
  where
    no : (rule : Rule) (code page offset : ℕ) → Denied rule code ≡ Allowed page offset → ⊥
    no rule code page offset e = cc

-- the entry that allows an access
record EntryAllows (e : Option Grant) (kind : Kind) (place page offset : ℕ) : Type 0 where
  grant : Grant
  is : e ≡ Some grant
  right : lets grant.right kind ≡ true
  names : grant.page ≡ Some page
  lies : offset ≡ place

on_page : (o : Option ℕ) (place page offset : ℕ) → allowed_on o place ≡ Allowed page offset → (o ≡ Some page) × (offset ≡ place)
on_page None place page offset e = denied_is_not_allowed _ _ page offset e
on_page (Some q) place page offset e = (same_page q place page offset e, same_place q place page offset e)
  where
    same_page : (q place page offset : ℕ) → Allowed q place ≡ Allowed page offset → Some q ≡ Some page
    same_page q place page offset e = cc

    same_place : (q place page offset : ℕ) → Allowed q place ≡ Allowed page offset → offset ≡ place
    same_place q place page offset e = cc

by_page : (g : Grant) (kind : Kind) (place page offset : ℕ) → lets g.right kind ≡ true → allowed_on g.page place ≡ Allowed page offset → EntryAllows (Some g) kind place page offset
by_page g kind place page offset l e = let o = on_page g.page place page offset e in record { grant = g; is = refl; right = l; names = o.0; lies = o.1 }

by_right_allows : (r : Right) (kind : Kind) (g : Grant) (place page offset : ℕ) → g.right ≡ r → by_right r kind g place ≡ Allowed page offset → EntryAllows (Some g) kind place page offset
by_right_allows Nothing kind g place page offset is e = denied_is_not_allowed _ _ page offset e
by_right_allows Read Store g place page offset is e = denied_is_not_allowed _ _ page offset e
by_right_allows Read Load g place page offset is e = by_page g Load place page offset (rw is refl) e
by_right_allows Read Fetch g place page offset is e = by_page g Fetch place page offset (rw is refl) e
by_right_allows Write kind g place page offset is e = by_page g kind place page offset (rw is refl) e

by_entry_allows : (o : Option Grant) (kind : Kind) (place page offset : ℕ) → by_entry o kind place ≡ Allowed page offset → EntryAllows o kind place page offset
by_entry_allows None kind place page offset e = denied_is_not_allowed _ _ page offset e
by_entry_allows (Some g) kind place page offset e = by_right_allows g.right kind g place page offset refl e

unless : (b : Bool) (rule : Rule) (code : ℕ) (v : Verdict) (page offset : ℕ) → cond b (Denied rule code) v ≡ Allowed page offset → v ≡ Allowed page offset
unless true rule code v page offset e = denied_is_not_allowed rule code page offset e
unless false rule code v page offset e = e

entry_allows : (table : Table) (p : ℕ) (kind : Kind) (size : Size) (address page offset : ℕ) → decide table p kind size address ≡ Allowed page offset → EntryAllows (entry_at table p (page_address address)) kind (address % 4096) page offset
entry_allows table p kind size address page offset e =
    let v = by_entry (entry_at table p (page_address address)) kind (address % 4096) in
    by_entry_allows (entry_at table p (page_address address)) kind (address % 4096) page offset
    (unless (nat_le (2 ^ 31) address) K (address_code kind) v page offset
    (unless (not (is_aligned size address)) A (address_code kind) (cond (nat_le (2 ^ 31) address) (Denied K (address_code kind)) v) page offset e))

-- an access that is allowed is done for an entry of the process, with the right to it
pub allowed_holds : (table : Table) (p : ℕ) (kind : Kind) (size : Size) (address page offset : ℕ) → decide table p kind size address ≡ Allowed page offset → Holds table p kind address page
allowed_holds table p kind size address page offset e =
    let b = entry_allows table p kind size address page offset e in
    record { grant = b.grant; held = b.is; right = b.right; names = b.names }

-- at the offset of the address in its page
pub allowed_offset : (table : Table) (p : ℕ) (kind : Kind) (size : Size) (address page offset : ℕ) → decide table p kind size address ≡ Allowed page offset → offset ≡ address % 4096
allowed_offset table p kind size address page offset e = (entry_allows table p kind size address page offset e).lies

-- what lets anything be done is a right
pub lets_something : (r : Right) (kind : Kind) → lets r kind ≡ true → is_some_right r ≡ true
lets_something Nothing kind e = e
lets_something Read kind e = refl
lets_something Write kind e = refl
