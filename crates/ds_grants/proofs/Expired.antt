-- What is granted, and the page state, when rights end.
use Rattle.std.proofs.Common.{◌≡◌, ℕ, ◌<◌, ◌≤◌, ◌∷◌, ◌||◌, Bool, true, false, Option, Some, None, IfSome, is_some, map, List, [], length, refl, sym, ap, ap₂, ◌∙◌, inl, inr}
use Rattle.std.specs.List.{list_any}
use Rattle.std.proofs.lemmas.Bool.{cases_Bool}
use Rattle.ds_policy.specs.declared.grant.Entry.{Entry}
use Rattle.ds_policy.specs.declared.grant.Grant.{Grant}
use Rattle.ds_policy.specs.Pages.{Table, entries_of, entry_at, put}
use Rattle.ds_policy.specs.Grants.{forbidden_by}
use Rattle.ds_policy.specs.Ends.{has_expired, expired_entry, has_some_expired, expired_table, expired}
use Rattle.ds_policy.specs.Inner.Ends.{first_expired}
use Rattle.ds_grants.specs.State.{GrantsState, page_state}
use Rattle.ds_grants.specs.Inner.State.{with_grant}
use Rattle.ds_grants.specs.Inner.Sound.{IsGoodRow}
use Rattle.ds_grants.specs.Inner.Order.{is_no_page}
use Rattle.ds_grants.specs.Inner.Changes.{places_in}
use Rattle.ds_grants.proofs.Living.{fewer_state}
use Rattle.ds_grants.proofs.FirstWhere.{first_where, first_found, first_page, put_others, put_places, none_changed, none_placed}
use Rattle.ds_grants.proofs.ChildRows.{changed_holders, rows_holders}
use Rattle.ds_grants.proofs.ChildSteps.{IsStep, with_table, row_step, user_page}

-- what is left of an entry once its right has ended
abbrev left_of : Entry → Grant
left_of e = forbidden_by e.grant.rule

first_is : (now : ℕ) (es : List Entry) → first_expired now es ≡ first_where (has_expired now) es
first_is now [] = refl
first_is now (e ∷ es) = elim (cases_Bool (has_expired now e)) [
  | inl is ↦ rw is refl
  | inr on ↦ rw on (first_is now es)
]

-- The first entry whose right has ended stands there, at the address of a page.
pub expired_no_page : (t : Table) (now q : ℕ) (o : Option Entry) → IsGoodRow (entries_of t q) → o ≡ first_expired now (entries_of t q) → IfSome o (λ e. is_no_page e.address ≡ false)
expired_no_page t now q None good is = tt
expired_no_page t now q (Some e) good is =
    let page = first_page (has_expired now) e (entries_of t q) good.pages (sym (first_is now (entries_of t q)) ∙ sym is) in
    user_page e.address page.whole page.user

pub expired_there : (t : Table) (now q : ℕ) (o : Option Entry) → o ≡ first_expired now (entries_of t q) → IfSome o (λ e. is_some (entry_at t q e.address) ≡ true)
expired_there t now q None is = tt
expired_there t now q (Some e) is = first_found (has_expired now) e (entries_of t q) (sym (first_is now (entries_of t q)) ∙ sym is)

-- its rule alone is left of it, and it is not found again
pub expired_step : (g h : GrantsState) (now q : ℕ) (e : Entry) → 0 < q → q ≤ length g.table → IsGoodRow (entries_of g.table q)
    → Some e ≡ first_expired now (entries_of g.table q) → h ≡ with_grant g q e.address (forbidden_by e.grant.rule)
    → IsStep g h (map (expired_entry now)) (has_expired now) q e.address
expired_step g h now q e low high good is value =
    let first : first_where (has_expired now) (entries_of g.table q) ≡ Some e = sym (first_is now (entries_of g.table q)) ∙ sym is in
    row_step g h (map (expired_entry now)) (has_expired now) q e.address (put (entries_of g.table q) e.address (left_of e)) low high value
    (put_others (has_expired now) left_of e (entries_of g.table q) refl good.places first)
    (put_places (has_expired now) (left_of e) e q (entries_of g.table q) refl good.places first)

-- Where none has ended, nothing is left to do.
pub none_left : (now : ℕ) (es : List Entry) → None ≡ first_expired now es → map (expired_entry now) es ≡ es
none_left now es is = none_changed (has_expired now) left_of es (sym (first_is now es) ∙ sym is)

pub none_placed_there : (now q : ℕ) (es : List Entry) → None ≡ first_expired now es → places_in (has_expired now) q es ≡ []
none_placed_there now q es is = none_placed (has_expired now) q es (sym (first_is now es) ∙ sym is)

-- The page state.

neither : (a b : Bool) → (a || b) ≡ false → (a ≡ false) × (b ≡ false)
neither true b is = absurd cc
neither false b is = (refl, is)

row_same : (now : ℕ) (es : List Entry) → list_any (has_expired now) es ≡ false → map (expired_entry now) es ≡ es
row_same now [] none = refl
row_same now (e ∷ es) none =
    let (on, rest) = neither (has_expired now e) (list_any (has_expired now) es) none in
    rw on (ap (λ (xs : List Entry). e ∷ xs) (row_same now es rest))

table_same : (now : ℕ) (t : Table) → has_some_expired now t ≡ false → expired_table now t ≡ t
table_same now [] none = refl
table_same now (es ∷ t) none =
    let (row, rest) = neither (list_any (has_expired now) es) (has_some_expired now t) none in
    ap₂ (λ (xs : List Entry) (rows : Table). xs ∷ rows) (row_same now es row) (table_same now t rest)

pub expired_state : (g : GrantsState) (now : ℕ) (memory : List ℕ) → page_state (with_table g (expired_table now g.table)) memory ≡ expired (page_state g memory) now
expired_state g now memory = elim (cases_Bool (has_some_expired now g.table)) [
  | inl some ↦
      rw some (fewer_state g (expired_table now g.table) memory (λ q.
      rows_holders q (map (expired_entry now)) (λ es. changed_holders q (has_expired now) left_of es (λ e. refl)) g.table))
  | inr none ↦ rw none (ap (λ (t : Table). page_state (with_table g t) memory) (table_same now g.table none))
]
