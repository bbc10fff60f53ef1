-- Families of shares, worked out: rows about the definitions alone.
use Rattle.std.proofs.Common.{◌≡◌, inl, inr, ℕ, true, refl, sym, ap, ◌∙◌, subst, arith, List, [], ◌∷◌, Option, Some, None}
use Rattle.ds_isa.specs.declared.instr.Kind.TheVariants.{Load}
use Rattle.ds_isa.specs.declared.instr.Size.TheVariants.{Word}
use Rattle.ds_policy.specs.declared.grant.Right.{Right}
use Rattle.ds_policy.specs.declared.grant.Right.TheVariants.{Read, Write}
use Rattle.ds_policy.specs.declared.grant.Grant.{Grant}
use Rattle.ds_policy.specs.declared.grant.Entry.{Entry}
use Rattle.ds_policy.specs.declared.grant.EntryPlace.{EntryPlace}
use Rattle.ds_policy.specs.Pages.{Table}
use Rattle.ds_promise.specs.Families.{CameOf, IsOrCameOf, IsOutOfReach, AllHaveOwnAddresses, PassesOn, IsNearest, none_above, stays, goes, HandsOn}
use Rattle.ds_promise.specs.Whole.{ArePagesWhole}
use Rattle.ds_policy.specs.Families.{comes_from}
use Rattle.ds_promise.proofs.Entries.{false_is_not_true}
use Rattle.ds_promise.proofs.Families.{comes_of_none}
use Rattle.ds_promise.proofs.Reach.{none_reached}

-- process p's entry at an address
abbrev place_of : ℕ → ℕ → EntryPlace
place_of p address = record { process = p; address = address }

-- leave to read page 0, shared from there
abbrev read_from : Option EntryPlace → Grant
read_from parent = record { right = Read; page = Some 0; rule = 1; give = true; giver = 0; parent = parent; until = None }

abbrev at : ℕ → Option EntryPlace → Entry
at address parent = record { address = address; grant = read_from parent }

-- process 1 shared an entry with process 2, who shared it with itself, and that with process 3; process 4
-- has one of its own
abbrev shared : Table
shared =
    (at 0x1000 None ∷ [])
    ∷ (at 0x2000 (Some (place_of 1 0x1000)) ∷ at 0x5000 (Some (place_of 2 0x2000)) ∷ [])
    ∷ (at 0x3000 (Some (place_of 2 0x5000)) ∷ [])
    ∷ (at 0x4000 None ∷ [])
    ∷ []

-- What came of what.

pub a_share_of_shares_came_of_the_first : CameOf shared 1 0x1000 3 0x3000
a_share_of_shares_came_of_the_first = record { grant = read_from (Some (place_of 2 0x5000)); held = refl; steps = 3; way = refl }

pub an_entry_is_of_itself : IsOrCameOf shared 1 0x1000 1 0x1000
an_entry_is_of_itself = inl (refl, refl)

one_grant : (g h : Grant) → ◌≡◌ {A = Option Grant} (Some g) (Some h) → g ≡ h
one_grant g h e = cc

pub an_entry_of_its_own_came_of_none : CameOf shared 1 0x1000 4 0x4000 → ⊥
an_entry_of_its_own_came_of_none came =
    let none : came.grant.parent ≡ None = ap (λ (g : Grant). g.parent) (sym (one_grant (read_from None) came.grant came.held)) in
    false_is_not_true (sym (comes_of_none shared 1 0x1000 came.steps) ∙ subst (λ (parent : Option EntryPlace). comes_from shared 1 0x1000 came.steps parent ≡ true) none came.way)

-- Reach.

-- what process 1 may read is in its reach, at each of its words
pub what_may_be_read_is_in_reach : IsOutOfReach shared 1 0x1000 → ⊥
what_may_be_read_is_in_reach out = out Load Word 0x1004 0 4 refl refl

pub where_nothing_is_granted_is_out_of_reach : IsOutOfReach shared 1 0x2000
where_nothing_is_granted_is_out_of_reach = none_reached shared 1 0x2000 refl

-- Own addresses.

abbrev doubled : Table
doubled = (at 0x1000 None ∷ at 0x2000 None ∷ at 0x2000 (Some (place_of 1 0x1000)) ∷ []) ∷ []

pub two_at_one_address_are_refused : AllHaveOwnAddresses doubled → ⊥
two_at_one_address_are_refused own = some_is_none (read_from (Some (place_of 1 0x1000))) (own 1).1.0
  where
    some_is_none : (g : Grant) → ◌≡◌ {A = Option Grant} (Some g) None → ⊥
    some_is_none g e = cc

pub a_table_with_two_at_one_address_is_refused : ArePagesWhole (record { pages = []; table = doubled; named = 0 }) → ⊥
a_table_with_two_at_one_address_is_refused k = two_at_one_address_are_refused k.places

-- The nearest.

apart_1_2 : ◌≡◌ {A = ℕ} 1 2 → ⊥
apart_1_2 e = cc

-- over two of process 2's own, one above the other
pub the_nearest_is_above_both : IsNearest shared 2 (Some (place_of 2 0x5000)) (Some (place_of 1 0x1000))
the_nearest_is_above_both =
    goes (place_of 2 0x5000) (read_from (Some (place_of 2 0x2000))) (Some (place_of 1 0x1000)) refl refl
    (goes (place_of 2 0x2000) (read_from (Some (place_of 1 0x1000))) (Some (place_of 1 0x1000)) refl refl
    (stays (place_of 1 0x1000) apart_1_2))

pub the_nearest_is_never_its_own : (t : Table) (p : ℕ) (parent up : Option EntryPlace) (place : EntryPlace) → place.process ≡ p → up ≡ Some place → IsNearest t p parent up → ⊥
the_nearest_is_never_its_own t p parent up place its e none_above = no_such place e
  where
    no_such : (place : EntryPlace) → ◌≡◌ {A = Option EntryPlace} None (Some place) → ⊥
    no_such place e = cc
the_nearest_is_never_its_own t p parent up place its e (stays other apart) = apart (ap (λ (x : EntryPlace). x.process) (same other place e) ∙ its)
  where
    same : (a b : EntryPlace) → ◌≡◌ {A = Option EntryPlace} (Some a) (Some b) → a ≡ b
    same a b e = cc
the_nearest_is_never_its_own t p parent up place its e (goes from g next is held way) = the_nearest_is_never_its_own t p g.parent next place its e way

-- Drops.

-- once process 2 has dropped the first of its two, with the other as it is left here
abbrev dropped : Option EntryPlace → Table
dropped parent = (at 0x1000 None ∷ []) ∷ (at 0x5000 parent ∷ []) ∷ (at 0x3000 (Some (place_of 2 0x5000)) ∷ []) ∷ (at 0x4000 None ∷ []) ∷ []

apart_address : ◌≡◌ {A = ℕ} 0x5000 0x2000 → ⊥
apart_address e = omega (arith, e)

pub a_drop_that_cuts_a_share_loose_is_refused : PassesOn shared (dropped None) 2 0x2000 → ⊥
a_drop_that_cuts_a_share_loose_is_refused h =
    let is = h.shared 2 0x5000 (read_from (Some (place_of 2 0x2000))) (omega arith) (inr apart_address) refl refl in
    none (place_of 1 0x1000) (ap (λ (g : Grant). g.parent) (one_grant (read_from None) (read_from (Some (place_of 1 0x1000))) is))
  where
    none : (place : EntryPlace) → ◌≡◌ {A = Option EntryPlace} None (Some place) → ⊥
    none place e = cc

pub a_drop_of_nothing_is_refused : PassesOn shared shared 2 0x2000 → ⊥
a_drop_of_nothing_is_refused h = some_is_none (read_from (Some (place_of 1 0x1000))) h.gone
  where
    some_is_none : (g : Grant) → ◌≡◌ {A = Option Grant} (Some g) None → ⊥
    some_is_none g e = cc

apart_3_2 : ◌≡◌ {A = ℕ} 3 2 → ⊥
apart_3_2 e = cc

-- with all that process 3 has
pub a_drop_that_takes_a_share_along_is_refused : PassesOn shared ((at 0x1000 None ∷ []) ∷ (at 0x5000 (Some (place_of 1 0x1000)) ∷ []) ∷ [] ∷ (at 0x4000 None ∷ []) ∷ []) 2 0x2000 → ⊥
a_drop_that_takes_a_share_along_is_refused h = none (read_from (Some (place_of 2 0x5000))) (h.others 3 0x3000 (read_from (Some (place_of 2 0x5000))) (omega arith) (inl apart_3_2) refl refl)
  where
    none : (g : Grant) → ◌≡◌ {A = Option Grant} None (Some g) → ⊥
    none g e = cc

-- Ends.

-- once process 2 has ended, with this left of process 3's
abbrev left_of : List Entry → Table
left_of es = (at 0x1000 None ∷ []) ∷ [] ∷ es ∷ (at 0x4000 None ∷ []) ∷ []

pub an_end_that_takes_a_share_along_is_refused : HandsOn shared (left_of []) 2 → ⊥
an_end_that_takes_a_share_along_is_refused h =
    let left = h.stay 3 0x3000 (read_from (Some (place_of 2 0x5000))) (omega arith) apart_3_2 refl in
    none (read_from left.parent) left.is
  where
    none : (g : Grant) → ◌≡◌ {A = Option Grant} None (Some g) → ⊥
    none g e = cc

pub an_end_that_cuts_a_share_loose_is_refused : HandsOn shared (left_of (at 0x3000 None ∷ [])) 2 → ⊥
an_end_that_cuts_a_share_loose_is_refused h =
    let is = h.nearest 3 0x3000 (read_from (Some (place_of 2 0x5000))) (Some (place_of 1 0x1000)) (omega arith) apart_3_2 refl the_nearest_is_above_both in
    none (place_of 1 0x1000) (ap (λ (g : Grant). g.parent) (one_grant (read_from None) (read_from (Some (place_of 1 0x1000))) is))
  where
    none : (place : EntryPlace) → ◌≡◌ {A = Option EntryPlace} None (Some place) → ⊥
    none place e = cc

-- one that gives process 3 leave to write
pub an_end_that_changes_a_right_is_refused : HandsOn shared (left_of (record { address = 0x3000; grant = record (read_from None) { right = Write } } ∷ [])) 2 → ⊥
an_end_that_changes_a_right_is_refused h =
    let left = h.stay 3 0x3000 (read_from (Some (place_of 2 0x5000))) (omega arith) apart_3_2 refl in
    other (ap (λ (g : Grant). g.right) (one_grant (record (read_from None) { right = Write }) (read_from left.parent) left.is))
  where
    other : ◌≡◌ {A = Right} Write Read → ⊥
    other e = cc

pub an_end_that_leaves_its_own_is_refused : HandsOn shared shared 2 → ⊥
an_end_that_leaves_its_own_is_refused h = some_is_none (read_from (Some (place_of 1 0x1000))) (h.gone 0x2000)
  where
    some_is_none : (g : Grant) → ◌≡◌ {A = Option Grant} (Some g) None → ⊥
    some_is_none g e = cc

pub an_end_that_brings_a_new_one_is_refused : HandsOn shared (left_of (at 0x3000 (Some (place_of 1 0x1000)) ∷ at 0x6000 None ∷ [])) 2 → ⊥
an_end_that_brings_a_new_one_is_refused h = some_is_none (read_from None) (h.new 3 0x6000 (omega arith) apart_3_2 refl)
  where
    some_is_none : (g : Grant) → ◌≡◌ {A = Option Grant} (Some g) None → ⊥
    some_is_none g e = cc
