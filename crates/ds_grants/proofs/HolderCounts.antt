-- How many entries name a page, when an entry is put or removed; the promise is that of `AreCounted`.
use Rattle.std.proofs.Common.{zero, suc, ◌≡◌, ℕ, ◌+◌, ◌-◌, ◌*◌, ◌<◌, ◌≤◌, ◌==◌, ◌||◌, not, Bool, true, if◌then◌else◌, nat_lt, List, [], ◌∷◌, length, get_or, filter, Option, Some, None, refl, sym, ap, ap₂, ◌∙◌, inl, inr, arith, slice_index, slice_set, drop, IfSome, ◌^◌}
use Rattle.std.proofs.lemmas.List.Elements.{All-head, All-tail}
use Rattle.std.proofs.lemmas.List.{at_drop_more, drop_all}
use Rattle.std.specs.List.{list_any, All}
use Rattle.std.proofs.lemmas.Bool.{cases_Bool}
use Rattle.std.proofs.lemmas.Bool.Decides.{nat_tests}
use Rattle.ds_policy.specs.declared.grant.Entry.{Entry}
use Rattle.ds_policy.specs.declared.grant.Grant.{Grant}
use Rattle.ds_policy.specs.Pages.{Table, names, found, put, entries_of, entry_at, with_entry, erased_entry, is_named_by}
use Rattle.ds_grants.specs.Inner.Sound.{AreCounted, IsGoodRow}
use Rattle.ds_grants.specs.Inner.Counts.{one_if_named, page_of, holders_in, holders_of, AreOneMore, AreOneFewer}

-- one at most
one_at_most : (q : ℕ) (o : Option ℕ) → one_if_named q o ≤ 1
one_at_most q None = omega arith
one_at_most q (Some r) = elim (cases_Bool (r == q)) [
  | inl same ↦ rw same (omega arith)
  | inr other ↦ rw other (omega arith)
]

-- where an entry is put, it counts in the place of the one that was found
pub holders_put : (q : ℕ) (es : List Entry) (a : ℕ) (g : Grant) → holders_in q (put es a g) + one_if_named q (page_of (found es a)) ≡ holders_in q es + one_if_named q g.page
holders_put q [] a g = omega arith
holders_put q (e ∷ es) a g = elim (cases_Bool (e.address == a)) [
  | inl here ↦ rw here (omega arith)
  | inr there ↦ rw there (let rest = holders_put q es a g in omega arith)
]

-- where a process's entries are replaced, the new ones count in the place of the old ones
holders_set : (t : Table) (i q : ℕ) (es : List Entry) → i < length t → holders_of (slice_set t i es) q + holders_in q (get_or t i []) ≡ holders_of t q + holders_in q es
holders_set [] i q es h = absurd (omega (arith, h))
holders_set (row ∷ t) zero q es h = omega arith
holders_set (row ∷ t) (suc i) q es h = let rest = holders_set t i q es (omega (arith, h)) in omega arith

-- in the whole table
pub holders_with : (t : Table) (p a : ℕ) (g : Grant) (q : ℕ) → p - 1 < length t → holders_of (with_entry t p a g) q + one_if_named q (page_of (entry_at t p a)) ≡ holders_of t q + one_if_named q g.page
holders_with t p a g q within =
    let row = holders_put q (entries_of t p) a g in
    let all = holders_set t (p - 1) q (put (entries_of t p) a g) within in
    omega arith

-- how many of a process's entries at an address name a page
abbrev pub holders_at : ℕ → ℕ → List Entry → ℕ
holders_at page address [] = 0
holders_at page address (e ∷ rest) = (if e.address == address then one_if_named page e.grant.page else 0) + holders_at page address rest

-- those that stay and those at the address are all
holders_filter : (q : ℕ) (es : List Entry) (a : ℕ) → holders_in q (filter (λ (e : Entry). not (e.address == a)) es) + holders_at q a es ≡ holders_in q es
holders_filter q [] a = refl
holders_filter q (e ∷ es) a = elim (cases_Bool (e.address == a)) [
  | inl here ↦ rw here (let rest = holders_filter q es a in omega arith)
  | inr there ↦ rw there (let rest = holders_filter q es a in omega arith)
]

pub holders_erased : (t : Table) (p a q : ℕ) → p - 1 < length t → holders_of (erased_entry t p a) q + holders_at q a (entries_of t p) ≡ holders_of t q
holders_erased t p a q within =
    let row = holders_filter q (entries_of t p) a in
    let all = holders_set t (p - 1) q (filter (λ (e : Entry). not (e.address == a)) (entries_of t p)) within in
    omega arith

-- the holders among a process's entries are holders
pub row_holders : (t : Table) (i q : ℕ) → holders_in q (get_or t i []) ≤ holders_of t q
row_holders [] i q = omega arith
row_holders (row ∷ t) zero q = omega arith
row_holders (row ∷ t) (suc i) q = let rest = row_holders t i q in omega arith

-- the one that is found is a holder
pub found_holds : (q : ℕ) (es : List Entry) (a : ℕ) → one_if_named q (page_of (found es a)) ≤ holders_in q es
found_holds q [] a = omega arith
found_holds q (e ∷ es) a = elim (cases_Bool (e.address == a)) [
  | inl here ↦ rw here (omega arith)
  | inr there ↦ rw there (let rest = found_holds q es a in omega arith)
]

named_row : (q : ℕ) (es : List Entry) → list_any (λ (e : Entry). names q e.grant.page) es ≡ nat_lt 0 (holders_in q es)
named_row q [] = refl
named_row q (e ∷ es) = elim (cases_Bool (names q e.grant.page)) [
  | inl named ↦ rw named (let some : nat_lt 0 (1 + holders_in q es) ≡ true = grind (arith, nat_tests) in sym some)
  | inr other ↦ rw other (named_row q es ∙ ap (nat_lt 0) (let same : holders_in q es ≡ 0 + holders_in q es = omega arith in same))
]

either_some : (m n : ℕ) → (nat_lt 0 m || nat_lt 0 n) ≡ nat_lt 0 (m + n)
either_some m n = grind (arith, nat_tests)

-- a page is named where it has holders
pub named_by_holders : (t : Table) (q : ℕ) → is_named_by t q ≡ nat_lt 0 (holders_of t q)
named_by_holders [] q = refl
named_by_holders (es ∷ t) q = ap₂ (λ (b c : Bool). b || c) (named_row q es) (named_by_holders t q) ∙ either_some (holders_in q es) (holders_of t q)

-- no more holders than entries
row_few : (q : ℕ) (es : List Entry) → holders_in q es ≤ length es
row_few q [] = omega arith
row_few q (e ∷ es) = let rest = row_few q es in let one = one_at_most q e.grant.page in omega arith

-- no page has more holders than there are entries
pub holders_few : (t : Table) (q : ℕ) → All IsGoodRow t → holders_of t q ≤ 256 * length t
holders_few [] q good = omega arith
holders_few (es ∷ t) q good =
    let rest = holders_few t q (All-tail IsGoodRow es t good) in
    let row = row_few q es in
    let few = (All-head IsGoodRow es t good).few in
    omega arith

-- a page that is named has a count
pub counted_within : (holders : List ℕ) (q : ℕ) → 0 < slice_index holders q → q < length holders
counted_within [] q h = absurd (omega arith)
counted_within (n ∷ ns) zero h = omega arith
counted_within (n ∷ ns) (suc q) h = let rest = counted_within ns q h in omega arith

pub itself : (q : ℕ) → (q == q) ≡ true
itself q = grind (arith, nat_tests)

-- a page that has as many holders as one that is named has some
pub some_held : (o : Option ℕ) (holders : List ℕ) → ((q : ℕ) → one_if_named q o ≤ slice_index holders q) → IfSome o (λ q. 0 < slice_index holders q)
some_held None holders h = tt
some_held (Some q) holders h = let one = h q in let same = itself q in let is : one_if_named q (Some q) ≡ 1 = rw same refl in omega arith

-- while all entries are released, those that are left are still counted
abbrev pub AreAllReleased : List ℕ → List ℕ → List Entry → ℕ → Type 0
AreAllReleased old new es i = (q : ℕ) → slice_index new q + holders_in q es ≡ slice_index old q + holders_in q (drop i es)

-- of the entries that are left the first counts
in_step : (q : ℕ) (es : List Entry) (i : ℕ) (d : Entry) → i < length es → holders_in q (drop i es) ≡ one_if_named q (get_or es i d).grant.page + holders_in q (drop (i + 1) es)
in_step q es i d h = at_drop_more (holders_in q) es i d h

pub release_all_asks : (old new : List ℕ) (es : List Entry) (i : ℕ) (d : Entry) → i < length es → ((q : ℕ) → holders_in q es ≤ slice_index old q) → AreAllReleased old new es i → IfSome (get_or es i d).grant.page (λ q. 0 < slice_index new q)
release_all_asks old new es i d h enough so =
    some_held (get_or es i d).grant.page new (λ q.
    let all = enough q in
    let left = so q in
    let next = in_step q es i d h in
    omega arith)

pub release_all_step : (old new newer : List ℕ) (es : List Entry) (i : ℕ) (d : Entry) → i < length es → AreAllReleased old new es i → AreOneFewer (get_or es i d).grant.page new newer → AreAllReleased old newer es (i + 1)
release_all_step old new newer es i d h so fewer q =
    let left = so q in
    let next = in_step q es i d h in
    let one = fewer.each q in
    omega arith

-- all entries are released
pub release_all_end : (old new : List ℕ) (es : List Entry) (i : ℕ) → length es ≤ i → AreAllReleased old new es i → (q : ℕ) → slice_index new q + holders_in q es ≡ slice_index old q
release_all_end old new es i h so q =
    let left = so q in
    let none : holders_in q (drop i es) ≡ 0 = ap (holders_in q) (drop_all i es h) in
    omega arith

-- what a put leaves of the counts
pub put_counts : (t : Table) (p a : ℕ) (g : Grant) (old middle new : List ℕ) → 0 < p → p ≤ length t → AreCounted t old → AreOneFewer (page_of (entry_at t p a)) old middle → AreOneMore g.page middle new → AreCounted (with_entry t p a g) new
put_counts t p a g old middle new low high counted fewer more q =
    let here = counted q in
    let one = fewer.each q in
    let other = more.each q in
    let all = holders_with t p a g q (omega (arith, low, high)) in
    omega arith

-- what may be released by a put
pub put_asks : (t : Table) (p a : ℕ) (old : List ℕ) → 0 < p → p ≤ length t → AreCounted t old → IfSome (page_of (entry_at t p a)) (λ q. 0 < slice_index old q)
put_asks t p a old low high counted =
    some_held (page_of (entry_at t p a)) old (λ q.
    let here = counted q in
    let one = found_holds q (entries_of t p) a in
    let row = row_holders t (p - 1) q in
    omega arith)

-- counts have room for one more
pub few_held : (t : Table) (o o' : Option ℕ) (old middle : List ℕ) → All IsGoodRow t → length t ≤ 100 → AreCounted t old → AreOneFewer o old middle → IfSome o' (λ q. slice_index middle q + 1 < 2 ^ 32)
few_held t o None old middle good few counted fewer = tt
few_held t o (Some q) old middle good few counted fewer =
    let here = counted q in
    let one = fewer.each q in
    let bound = holders_few t q good in
    omega arith

-- what a removal leaves of the counts
pub erase_counts : (t : Table) (p a : ℕ) (old new : List ℕ) → 0 < p → p ≤ length t → AreCounted t old → ((q : ℕ) → slice_index new q + holders_at q a (entries_of t p) ≡ slice_index old q) → AreCounted (erased_entry t p a) new
erase_counts t p a old new low high counted fewer q =
    let here = counted q in
    let one = fewer q in
    let all = holders_erased t p a q (omega (arith, low, high)) in
    omega arith

-- what an end of a process leaves of the counts
pub end_counts : (t : Table) (p : ℕ) (old new : List ℕ) → 0 < p → p ≤ length t → AreCounted t old → ((q : ℕ) → slice_index new q + holders_in q (entries_of t p) ≡ slice_index old q) → AreCounted (slice_set t (p - 1) []) new
end_counts t p old new low high counted fewer q =
    let here = counted q in
    let one = fewer q in
    let all = holders_set t (p - 1) q [] (omega (arith, low, high)) in
    omega arith

-- without a process's entries no page has more holders
pub holders_fewer : (t : Table) (p q : ℕ) → 0 < p → p ≤ length t → holders_of (slice_set t (p - 1) []) q ≤ holders_of t q
holders_fewer t p q low high = let all = holders_set t (p - 1) q [] (omega (arith, low, high)) in omega arith

-- the entries of a process are counted
pub row_counted : (t : Table) (p : ℕ) (old : List ℕ) → 0 < p → p ≤ length t → AreCounted t old → (q : ℕ) → holders_in q (entries_of t p) ≤ slice_index old q
row_counted t p old low high counted q =
    let here = counted q in
    let row = row_holders t (p - 1) q in
    omega arith
