-- Which pages live, and the pages that lie in memory, when the table changes.
use Rattle.std.proofs.Common.{zero, suc, ◌≡◌, ℕ, ◌+◌, ◌-◌, ◌<◌, ◌≤◌, ◌||◌, Bool, true, false, cond, nat_lt, List, ◌∷◌, length, map, Option, Some, None, refl, sym, ap, ap₂, subst, ◌∙◌, inl, inr, arith}
use Rattle.std.specs.Prelude.{slice_index}
use Rattle.std.specs.List.{range_with_len}
use Rattle.std.proofs.lemmas.Bool.{cases_Bool, false≢true}
use Rattle.std.proofs.lemmas.Bool.Decides.{nat_tests}
use Rattle.std.proofs.lemmas.List.{same_lists}
use Rattle.std.proofs.lemmas.List.FromFn.{length-map-range_with_len, get_or-map-range_with_len}
use Rattle.ds_mem.specs.Memory.{frame_of}
use Rattle.ds_policy.specs.declared.grant.Grant.{Grant}
use Rattle.ds_policy.specs.declared.grant.Right.TheVariants.{Read}
use Rattle.ds_policy.specs.Pages.{Table, Pages, names, entry_at, entries_of, with_entry, erased_entry, is_named_by, kept}
use Rattle.ds_policy.specs.Families.{parent_of, without_entry}
use Rattle.ds_policy.specs.Grants.{granted, removed, live_only}
use Rattle.ds_grants.specs.State.{GrantsState, is_live, page_in, pages_in, page_state}
use Rattle.ds_grants.specs.Inner.State.{with_grant, without_grant}
use Rattle.ds_grants.specs.Inner.Represented.{IsLow}
use Rattle.ds_grants.specs.Inner.Counts.{one_if_named, page_of, holders_of}
use Rattle.ds_grants.proofs.Bare.{alike_holders, handed_alike}
use Rattle.ds_grants.proofs.HolderCounts.{holders_with, holders_erased, named_by_holders, found_holds, row_holders}

-- pages are the same where the same pages live
pages_from_same : (g g' : GrantsState) (memory : List ℕ) (at n : ℕ) → g'.lies ≡ g.lies → ((q : ℕ) → is_live g' q ≡ is_live g q) → map (page_in g' memory) (range_with_len at n) ≡ map (page_in g memory) (range_with_len at n)
pages_from_same g g' memory at n lies same =
    same_lists (map (page_in g' memory) (range_with_len at n)) (map (page_in g memory) (range_with_len at n))
    (length-map-range_with_len (page_in g' memory) at n ∙ sym (length-map-range_with_len (page_in g memory) at n))
    (λ k d h.
    let within : k < n = let size = length-map-range_with_len (page_in g' memory) at n in omega arith in
    get_or-map-range_with_len (page_in g' memory) at n k (at + k) d within refl
    ∙ ap₂ (λ (b : Bool) (ls : List ℕ). cond b (Some (frame_of memory (slice_index ls (at + k) + 402))) None) (same (at + k)) lies
    ∙ sym (get_or-map-range_with_len (page_in g memory) at n k (at + k) d within refl))

pub pages_same : (g g' : GrantsState) (memory : List ℕ) → g'.frames ≡ g.frames → g'.lies ≡ g.lies → ((q : ℕ) → is_live g' q ≡ is_live g q) → pages_in g' memory ≡ pages_in g memory
pages_same g g' memory size lies same = ap (λ n. map (page_in g' memory) (range_with_len 0 n)) size ∙ pages_from_same g g' memory 0 g.frames lies same

-- what changed in page tables leaves the page state
pub low_pages : (g : GrantsState) (old new : List ℕ) → IsLow old new → page_state g new ≡ page_state g old
low_pages g old new low =
    let size = length-map-range_with_len (page_in g new) 0 g.frames in
    let pages : pages_in g new ≡ pages_in g old = same_lists (pages_in g new) (pages_in g old) (size ∙ sym (length-map-range_with_len (page_in g old) 0 g.frames))
    (λ k d h.
    let within : k < g.frames = omega arith in
    get_or-map-range_with_len (page_in g new) 0 g.frames k k d within (omega arith)
    ∙ ap (λ (bytes : List ℕ). cond (is_live g k) (Some bytes) None) (low.1 (slice_index g.lies k + 402) (inr (omega arith)))
    ∙ sym (get_or-map-range_with_len (page_in g old) 0 g.frames k k d within (omega arith))) in
    ap (λ (pages : Pages). record { pages = pages; table = g.table; named = g.named }) pages

-- a page lives where the policy names it or it has holders
pub live_by_holders : (g : GrantsState) (q : ℕ) → is_live g q ≡ (nat_lt q g.named || nat_lt 0 (holders_of g.table q))
live_by_holders g q = ap (λ b. nat_lt q g.named || b) (named_by_holders g.table q)

pub some_of : (h : ℕ) → nat_lt 0 h ≡ true → 0 < h
some_of h is = grind (arith, nat_tests)

both_some : (h h' : ℕ) → (0 < h' → 0 < h) → (0 < h → 0 < h') → nat_lt 0 h' ≡ nat_lt 0 h
both_some zero zero down up = refl
both_some zero (suc h') down up = let impossible = down (omega arith) in absurd (omega arith)
both_some (suc h) zero down up = let impossible = up (omega arith) in absurd (omega arith)
both_some (suc h) (suc h') down up = grind (arith, nat_tests)

-- where a page is named, it counts as one
pub one_named : (q : ℕ) (o : Option ℕ) → names q o ≡ true → one_if_named q o ≡ 1
one_named q o h = rw h refl

pub none_named : (q : ℕ) (o : Option ℕ) → names q o ≡ false → one_if_named q o ≡ 0
none_named q o h = rw h refl

-- a page lives or not, whatever the policy names, by its holders
pub live_same : (g g' : GrantsState) (q : ℕ) → g'.named ≡ g.named → (nat_lt q g.named ≡ false → nat_lt 0 (holders_of g'.table q) ≡ nat_lt 0 (holders_of g.table q)) → is_live g' q ≡ is_live g q
live_same g g' q named same = elim (cases_Bool (nat_lt q g.named)) [
  | inl is ↦ rw (named, is) refl
  | inr not-named ↦ rw (named, not-named) (named_by_holders g'.table q ∙ (same not-named ∙ sym (named_by_holders g.table q)))
]

-- an entry that names a page that lives, and leaves no page without a holder, changes no page's life
pub put_live : (g : GrantsState) (p a : ℕ) (grant : Grant) → 0 < p → p ≤ length g.table
    → ((q : ℕ) → names q grant.page ≡ true → is_live g q ≡ true)
    → ((q : ℕ) → names q (page_of (entry_at g.table p a)) ≡ true → names q grant.page ≡ true)
    → (q : ℕ) → is_live (with_grant g p a grant) q ≡ is_live g q
put_live g p a grant low high lives keeps q =
    live_same g (with_grant g p a grant) q refl (λ unnamed.
    let all = holders_with g.table p a grant q (omega (arith, low, high)) in
    elim (cases_Bool (names q grant.page)) [
      | inl new ↦
          let live : 0 < holders_of g.table q = some_of (holders_of g.table q) (sym (named_by_holders g.table q) ∙ subst (λ b. (b || is_named_by g.table q) ≡ true) unnamed (lives q new)) in
          let more = one_named q grant.page new in
          elim (cases_Bool (names q (page_of (entry_at g.table p a)))) [
            | inl old ↦ let fewer = one_named q (page_of (entry_at g.table p a)) old in both_some (holders_of g.table q) (holders_of (with_entry g.table p a grant) q) (λ h. omega arith) (λ h. omega arith)
            | inr other ↦ let fewer = none_named q (page_of (entry_at g.table p a)) other in both_some (holders_of g.table q) (holders_of (with_entry g.table p a grant) q) (λ h. omega arith) (λ h. omega arith)
          ]
      | inr other ↦
          let more = none_named q grant.page other in
          elim (cases_Bool (names q (page_of (entry_at g.table p a)))) [
            | inl old ↦ absurd (false≢true (sym other ∙ keeps q old))
            | inr another ↦ let fewer = none_named q (page_of (entry_at g.table p a)) another in both_some (holders_of g.table q) (holders_of (with_entry g.table p a grant) q) (λ h. omega arith) (λ h. omega arith)
          ]
    ])

pub or_true : (b : Bool) → (b || true) ≡ true
or_true true = refl
or_true false = refl

-- so the page state is that of the table with the entry
pub put_state : (g : GrantsState) (p a : ℕ) (grant : Grant) (memory : List ℕ) → 0 < p → p ≤ length g.table
    → ((q : ℕ) → names q grant.page ≡ true → is_live g q ≡ true)
    → ((q : ℕ) → names q (page_of (entry_at g.table p a)) ≡ true → names q grant.page ≡ true)
    → page_state (with_grant g p a grant) memory ≡ granted (page_state g memory) p a grant
put_state g p a grant memory low high lives keeps =
    ap (λ (ps : Pages). granted (record { pages = ps; table = g.table; named = g.named }) p a grant)
    (pages_same g (with_grant g p a grant) memory refl refl (put_live g p a grant low high lives keeps))

-- what stays of a page, where fewer pages live
kept_page : (b c : Bool) (x : List ℕ) → (c ≡ true → b ≡ true) → cond c (cond b (Some x) None) None ≡ cond c (Some x) None
kept_page b false x h = refl
kept_page b true x h = rw (h refl) refl

either_still : (a b c : Bool) → (c ≡ true → b ≡ true) → (a || c) ≡ true → (a || b) ≡ true
either_still true b c h k = refl
either_still false b c h k = h k

-- the pages that are kept are those that live with the new table
pages_kept : (g : GrantsState) (t : Table) (memory : List ℕ) (n at : ℕ) → ((q : ℕ) → is_named_by t q ≡ true → is_named_by g.table q ≡ true)
    → kept (map (page_in g memory) (range_with_len at n)) t g.named at ≡ map (page_in (record g { table = t }) memory) (range_with_len at n)
pages_kept g t memory zero at fewer = refl
pages_kept g t memory (suc n) at fewer =
    ap₂ (λ (x : Option (List ℕ)) (xs : Pages). x ∷ xs)
    (kept_page (is_live g at) (nat_lt at g.named || is_named_by t at) (frame_of memory (slice_index g.lies at + 402)) (either_still (nat_lt at g.named) (is_named_by g.table at) (is_named_by t at) (fewer at)))
    (pages_kept g t memory n (at + 1) fewer)

-- so the page state with fewer holders is that of the pages that live on
pub fewer_state : (g : GrantsState) (t : Table) (memory : List ℕ) → ((q : ℕ) → holders_of t q ≤ holders_of g.table q)
    → page_state (record g { table = t }) memory ≡ live_only (record (page_state g memory) { table = t })
fewer_state g t memory fewer =
    ap (λ (ps : Pages). record { pages = ps; table = t; named = g.named })
    (sym (pages_kept g t memory g.frames 0 (λ q h.
    let some : 0 < holders_of t q = some_of (holders_of t q) (sym (named_by_holders t q) ∙ h) in
    let le = fewer q in
    named_by_holders g.table q ∙ (let more : nat_lt 0 (holders_of g.table q) ≡ true = grind (arith, nat_tests) in more))))

pub removed_state : (g : GrantsState) (p a : ℕ) (memory : List ℕ) → 0 < p → p ≤ length g.table → page_state (without_grant g p a) memory ≡ removed (page_state g memory) p a
removed_state g p a memory low high =
    fewer_state g (without_entry g.table p a) memory (λ q.
    let all = holders_erased g.table p a q (omega (arith, low, high)) in
    let same = alike_holders (erased_entry g.table p a) (without_entry g.table p a) q (handed_alike (erased_entry g.table p a) p a (parent_of (entry_at g.table p a))) in
    omega arith)

-- an entry without a page leaves fewer holders
pub revoked_state : (g : GrantsState) (p a : ℕ) (grant : Grant) (memory : List ℕ) → 0 < p → p ≤ length g.table → grant.page ≡ None → page_state (with_grant g p a grant) memory ≡ live_only (granted (page_state g memory) p a grant)
revoked_state g p a grant memory low high none =
    fewer_state g (with_entry g.table p a grant) memory (λ q.
    let all = holders_with g.table p a grant q (omega (arith, low, high)) in
    let nothing : one_if_named q grant.page ≡ 0 = rw none refl in
    omega arith)

-- a page that the policy doesn't name lives by its holders
pub unnamed_live : (g : GrantsState) (q n : ℕ) → n ≡ holders_of g.table q → g.named ≤ q → nat_lt 0 n ≡ is_live g q
unnamed_live g q n counted above =
    let unnamed : nat_lt q g.named ≡ false = grind (arith, nat_tests) in
    ap (nat_lt 0) counted ∙ (sym (named_by_holders g.table q) ∙ ap (λ b. b || is_named_by g.table q) (sym unnamed))

-- what an entry of the table names lives
pub found_lives : (g : GrantsState) (p a : ℕ) (grant : Grant) (q : ℕ) → entry_at g.table p a ≡ Some grant → names q grant.page ≡ true → is_live g q ≡ true
found_lives g p a grant q is named =
    let one = one_named q grant.page named in
    let found = found_holds q (entries_of g.table p) a in
    let as_found : one_if_named q (page_of (entry_at g.table p a)) ≡ one_if_named q grant.page = ap (λ o. one_if_named q (page_of o)) is in
    let row = row_holders g.table (p - 1) q in
    let some : nat_lt 0 (holders_of g.table q) ≡ true = grind (arith, nat_tests) in
    let by_table : is_named_by g.table q ≡ true = named_by_holders g.table q ∙ some in
    rw by_table (or_true (nat_lt q g.named))

-- an entry that keeps its page
pub narrowed_state : (g : GrantsState) (p a : ℕ) (grant : Grant) (memory : List ℕ) → 0 < p → p ≤ length g.table → entry_at g.table p a ≡ Some grant
    → page_state (with_grant g p a (record grant { right = Read })) memory ≡ granted (page_state g memory) p a (record grant { right = Read })
narrowed_state g p a grant memory low high is =
    put_state g p a (record grant { right = Read }) memory low high (λ q named. found_lives g p a grant q is named) (λ q named. subst (λ (o : Option Grant). names q (page_of o) ≡ true) is named)

-- an entry where none was, of a page that lives
pub shared_state : (g : GrantsState) (p a : ℕ) (grant : Grant) (memory : List ℕ) → 0 < p → p ≤ length g.table → page_of (entry_at g.table p a) ≡ None
    → ((q : ℕ) → names q grant.page ≡ true → is_live g q ≡ true)
    → page_state (with_grant g p a grant) memory ≡ granted (page_state g memory) p a grant
shared_state g p a grant memory low high none lives =
    put_state g p a grant memory low high lives (λ q named. absurd (false≢true (subst (λ (o : Option ℕ). names q o ≡ true) none named)))

-- the page that has this number is the one that is named
named_only : (q page : ℕ) → names q (Some page) ≡ true → page ≡ q
named_only q page named = grind (arith, nat_tests)

-- a page that is named alone lives where it does
pub one_lives : (g : GrantsState) (named : Option ℕ) (page : ℕ) → named ≡ Some page → is_live g page ≡ true → (q : ℕ) → names q named ≡ true → is_live g q ≡ true
one_lives g named page is lives q names_it = subst (λ n. is_live g n ≡ true) (named_only q page (subst (λ (o : Option ℕ). names q o ≡ true) is names_it)) lives

-- what the policy names lives
pub named_lives : (g : GrantsState) (page : ℕ) → page < g.named → is_live g page ≡ true
named_lives g page named = let is : nat_lt page g.named ≡ true = grind (arith, nat_tests) in rw is refl
