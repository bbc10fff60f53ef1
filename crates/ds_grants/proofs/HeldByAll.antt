-- The entries that name each page, counted one after another.
use Rattle.std.proofs.Common.{◌≡◌, ◌∙◌, ap, refl, ℕ, zero, suc, true, ◌+◌, ◌-◌, ◌<◌, ◌≤◌, ◌==◌, ◌^◌, List, [], ◌∷◌, length, drop, get_or, Option, Some, None, IfSome, inl, inr, arith, slice_index}
use Rattle.std.specs.List.{All}
use Rattle.std.proofs.lemmas.Bool.{cases_lt}
use Rattle.std.proofs.lemmas.Bool.Decides.{nat_tests}
use Rattle.std.proofs.lemmas.List.{at_drop_more}
use Rattle.ds_policy.specs.declared.grant.Entry.{Entry}
use Rattle.ds_policy.specs.Pages.{Table, entries_of}
use Rattle.ds_grants.specs.Inner.Counts.{one_if_named, holders_in, holders_of}
use Rattle.ds_grants.specs.Inner.Sound.{IsGoodRow}
use Rattle.ds_grants.proofs.HolderCounts.{holders_few}

-- the entries before a place are counted, and those from there on aren't
pub record HaveHeld (entries : List Entry) (at : ℕ) (old new : List ℕ) : Type 0 where
  pub each : (page : ℕ) → slice_index new page + holders_in page (drop at entries) ≡ slice_index old page + holders_in page entries
  pub few : (page : ℕ) → slice_index new page ≤ slice_index old page + at
  pub size : length new ≡ length old

-- a page that is named is counted once
named_once : (page : ℕ) (named : Option ℕ) → named ≡ Some page → one_if_named page named ≡ 1
named_once page named is = let same : (page == page) ≡ true = grind (arith, nat_tests) in rw (is, same)

-- an entry that names a page is one of those that name it
counted_once : (page : ℕ) (entries : List Entry) (at : ℕ) (d : Entry) → at < length entries → (get_or entries at d).grant.page ≡ Some page → 1 ≤ holders_in page entries
counted_once page [] at d within is = absurd (omega arith)
counted_once page (e ∷ entries) zero d within is = let one = named_once page e.grant.page is in omega (arith, one)
counted_once page (e ∷ entries) (suc at) d within is = let rest = counted_once page entries at d (omega arith) is in omega (arith, rest)

-- so what it names, if anything, is one of the pages that are counted
some_within : (entries : List Entry) (at size : ℕ) (d : Entry) → at < length entries → ((page : ℕ) → size ≤ page → holders_in page entries ≡ 0) → (named : Option ℕ) → (get_or entries at d).grant.page ≡ named → IfSome named (λ q. q < size)
some_within entries at size d within none None is = tt
some_within entries at size d within none (Some page) is = elim (cases_lt page size) [
  | inl below ↦ below
  | inr above ↦ let some = counted_once page entries at d within is in let no = none page (omega arith) in omega (arith, some, no)
]

-- and so is what the entry at a place names
pub named_within : (entries : List Entry) (at size : ℕ) (d : Entry) → at < length entries → ((page : ℕ) → size ≤ page → holders_in page entries ≡ 0) → IfSome (get_or entries at d).grant.page (λ q. q < size)
named_within entries at size d within none = some_within entries at size d within none (get_or entries at d).grant.page refl

-- the entries of the rows before a place are counted, and those of the rows from there on aren't
pub record HaveHeldRows (table : Table) (at : ℕ) (old new : List ℕ) : Type 0 where
  pub each : (page : ℕ) → slice_index new page + holders_of (drop at table) page ≡ holders_of table page
  pub size : length new ≡ length old

-- the row at a place is the first of those from there on
row_first : (table : Table) (at page : ℕ) (row : List Entry) → at < length table → row ≡ entries_of table (at + 1) → holders_of (drop at table) page ≡ holders_in page row + holders_of (drop (at + 1) table) page
row_first table at page row within is =
    let place : at + 1 - 1 ≡ at = omega arith in
    let same : holders_in page row ≡ holders_in page (get_or table at []) = ap (holders_in page) (is ∙ ap (λ k. get_or table k []) place) in
    let first : holders_of (drop at table) page ≡ holders_in page (get_or table at []) + holders_of (drop (at + 1) table) page = at_drop_more (λ (t : Table). holders_of t page) table at [] within in
    omega (arith, same, first)

-- a row names no page that the table doesn't
pub row_within : (table : Table) (at page : ℕ) (row : List Entry) (old new : List ℕ) → at < length table → row ≡ entries_of table (at + 1) → HaveHeldRows table at old new → holders_of table page ≡ 0 → holders_in page row ≡ 0
row_within table at page row old new within is before none =
    let first = row_first table at page row within is in
    let held = before.each page in
    omega (arith, first, held, none)

-- there is room to count a row's entries
pub row_fits : (table : Table) (at page : ℕ) (row : List Entry) (old new : List ℕ) → length table ≤ 100 → All IsGoodRow table → length row ≤ 256 → HaveHeldRows table at old new → slice_index new page + length row < 2 ^ 32
row_fits table at page row old new processes good short before =
    let held = before.each page in
    let few = holders_few table page good in
    omega (arith, held, few)
