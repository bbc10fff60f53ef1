-- Entries of a table of which one is erased, or of which each has another grant.
use Rattle.std.proofs.Common.{◌≡◌, ◌≢◌, ◌⊎◌, inl, inr, ℕ, zero, suc, ◌+◌, ◌-◌, ◌<◌, ◌≤◌, Bool, true, false, cond, not, ◌||◌, ◌==◌, List, [], ◌∷◌, filter, map, length, length-append, Option, Some, None, refl, sym, ap, ◌∙◌, arith}
use Rattle.std.specs.Prelude.{slice_set, slice_index_or, flat_map}
use Rattle.std.specs.Option.{option_map}
use Rattle.std.proofs.lemmas.Bool.{cases_eq}
use Rattle.std.proofs.lemmas.List.{get_or-set_other}
use Rattle.ds_policy.specs.declared.grant.Grant.{Grant}
use Rattle.ds_policy.specs.declared.grant.Entry.{Entry}
use Rattle.ds_policy.specs.declared.grant.EntryPlace.{EntryPlace}
use Rattle.ds_policy.specs.Pages.{Table, entries_of, found, put, entry_at, erased_entry}
use Rattle.ds_policy.specs.Families.{parent_of, is_place, is_child, with_parent, handed_on, all_handed_on, without_entry, count_entries}

-- Tests.

pub false_is_not_true : {X : Type 0} → false ≡ true → X
false_is_not_true e = absurd (no_such e)
  where
    no_such : false ≡ true → ⊥
    no_such e = cc

pub or_first : (a b : Bool) → a ≡ true → (a || b) ≡ true
or_first true b e = refl
or_first false b e = false_is_not_true e

pub or_second : (a b : Bool) → b ≡ true → (a || b) ≡ true
or_second true b e = refl
or_second false b e = e

pub one_grant : (g h : Grant) → ◌≡◌ {A = Option Grant} (Some g) (Some h) → h ≡ g
one_grant g h e = cc

pub no_grant_found : {X : Type 0} (h : Grant) → ◌≡◌ {A = Option Grant} None (Some h) → X
no_grant_found h e = absurd (no_such h e)
  where
    no_such : (h : Grant) → ◌≡◌ {A = Option Grant} None (Some h) → ⊥
    no_such h e = cc

-- Rows.

pub found_gone : (es : List Entry) (a : ℕ) → found (filter (λ e. not (e.address == a)) es) a ≡ None
found_gone [] a = refl
found_gone (e ∷ rest) a = grind (arith, found_gone rest a)

pub found_left : (es : List Entry) (a b : ℕ) → b ≢ a → found (filter (λ e. not (e.address == a)) es) b ≡ found es b
found_left [] a b apart = refl
found_left (e ∷ rest) a b apart = grind (arith, found_left rest a b apart)

pub found_put_same : (es : List Entry) (a : ℕ) (g : Grant) → found (put es a g) a ≡ Some g
found_put_same [] a g = grind arith
found_put_same (e ∷ rest) a g = grind (arith, found_put_same rest a g)

pub found_put_other : (es : List Entry) (a b : ℕ) (g : Grant) → b ≢ a → found (put es a g) b ≡ found es b
found_put_other [] a b g apart = grind arith
found_put_other (e ∷ rest) a b g apart = grind (arith, found_put_other rest a b g apart)

filter_shorter : (es : List Entry) (a : ℕ) → length (filter (λ e. not (e.address == a)) es) ≤ length es
filter_shorter [] a = omega arith
filter_shorter (e ∷ rest) a = by (e.address == a) (filter (λ e. not (e.address == a)) rest) (filter_shorter rest a)
  where
    by : (c : Bool) (left : List Entry) → length left ≤ length rest → length (cond (not c) (e ∷ left) left) ≤ suc (length rest)
    by true left l = omega (arith, l)
    by false left l = omega (arith, l)

-- a row is shorter without what is found in it
row_shorter : (es : List Entry) (a : ℕ) (g : Grant) → found es a ≡ Some g → length (filter (λ e. not (e.address == a)) es) < length es
row_shorter [] a g e = no_grant_found g e
row_shorter (x ∷ rest) a g e = by (x.address == a) (filter (λ e. not (e.address == a)) rest) (filter_shorter rest a) (row_shorter rest a g) e
  where
    by : (c : Bool) (left : List Entry) → length left ≤ length rest → (found rest a ≡ Some g → length left < length rest) → cond c (Some x.grant) (found rest a) ≡ Some g
        → length (cond (not c) (x ∷ left) left) < suc (length rest)
    by true left l less e = omega (arith, l)
    by false left l less e = let m = less e in omega (arith, m)

-- Tables.

-- what stands in a row that is made of the one before, which makes none of none
row_set : (f : List Entry → List Entry) → f [] ≡ [] → (t : Table) (i : ℕ) → slice_index_or (slice_set t i (f (slice_index_or t i []))) i [] ≡ f (slice_index_or t i [])
row_set f none [] i = sym none
row_set f none (row ∷ t) zero = refl
row_set f none (row ∷ t) (suc i) = row_set f none t i

-- the row of a table of which each is made of the one before
pub row_map : (f : List Entry → List Entry) → f [] ≡ [] → (t : Table) (i : ℕ) → slice_index_or (map f t) i [] ≡ f (slice_index_or t i [])
row_map f none [] i = sym none
row_map f none (row ∷ t) zero = refl
row_map f none (row ∷ t) (suc i) = row_map f none t i

-- process r's row is process q's
pub erased_gone : (t : Table) (q a r : ℕ) → r - 1 ≡ q - 1 → entry_at (erased_entry t q a) r a ≡ None
erased_gone t q a r is =
    ap (λ (i : ℕ). found (slice_index_or (erased_entry t q a) i []) a) is
    ∙ (ap (λ (es : List Entry). found es a) (row_set (λ (es : List Entry). filter (λ e. not (e.address == a)) es) refl t (q - 1))
    ∙ found_gone (entries_of t q) a)

pub erased_left : (t : Table) (q a r b : ℕ) → (r - 1 ≢ q - 1) ⊎ (b ≢ a) → entry_at (erased_entry t q a) r b ≡ entry_at t r b
erased_left t q a r b (inl other) = ap (λ (es : List Entry). found es b) (get_or-set_other t (q - 1) (r - 1) (filter (λ e. not (e.address == a)) (entries_of t q)) [] other)
erased_left t q a r b (inr apart) = elim (cases_eq (r - 1) (q - 1)) [
  | inr other ↦ ap (λ (es : List Entry). found es b) (get_or-set_other t (q - 1) (r - 1) (filter (λ e. not (e.address == a)) (entries_of t q)) [] other)
  | inl is ↦
      ap (λ (i : ℕ). found (slice_index_or (erased_entry t q a) i []) b) is
      ∙ (ap (λ (es : List Entry). found es b) (row_set (λ (es : List Entry). filter (λ e. not (e.address == a)) es) refl t (q - 1))
      ∙ (found_left (entries_of t q) a b apart ∙ ap (λ (i : ℕ). found (slice_index_or t i []) b) (sym is)))
]

-- two places are of one entry, or of two
pub same_place : (r b q a : ℕ) → ((r - 1 ≡ q - 1) × (b ≡ a)) ⊎ ((r - 1 ≢ q - 1) ⊎ (b ≢ a))
same_place r b q a = elim (cases_eq (r - 1) (q - 1)) [
  | inr other ↦ inr (inl other)
  | inl is ↦ elim (cases_eq b a) [
    | inr apart ↦ inr (inr apart)
    | inl same ↦ inl (is, same)
  ]
]

pub entry_same : (t : Table) (r b q a : ℕ) → r - 1 ≡ q - 1 → b ≡ a → entry_at t r b ≡ entry_at t q a
entry_same t r b q a is same = ap (λ (i : ℕ). found (slice_index_or t i []) b) is ∙ ap (entry_at t q) same

count_cons : (row : List Entry) (t : Table) → count_entries (row ∷ t) ≡ length row + count_entries t
count_cons row t = length-append row (flat_map (λ (es : List Entry). es) t)

-- a table has fewer entries without one that is found in it
count_shorter : (t : Table) (i a : ℕ) (g : Grant) → found (slice_index_or t i []) a ≡ Some g → count_entries (slice_set t i (filter (λ e. not (e.address == a)) (slice_index_or t i []))) < count_entries t
count_shorter [] i a g e = no_grant_found g e
count_shorter (row ∷ t) zero a g e = let l = row_shorter row a g e in omega (arith, count_cons row t, count_cons (filter (λ e. not (e.address == a)) row) t, l)
count_shorter (row ∷ t) (suc i) a g e =
    let l = count_shorter t i a g e in
    omega (arith, count_cons row t, count_cons row (slice_set t i (filter (λ e. not (e.address == a)) (slice_index_or t i []))), l)

pub erased_shorter : (t : Table) (q a : ℕ) (g : Grant) → entry_at t q a ≡ Some g → count_entries (erased_entry t q a) < count_entries t
erased_shorter t q a g e = count_shorter t (q - 1) a g e

-- Other grants.

-- what is found where each entry has another grant
pub found_map : (h : Entry → Entry) (k : Grant → Grant) → ((e : Entry) → (h e).address ≡ e.address) → ((e : Entry) → (h e).grant ≡ k e.grant) → (es : List Entry) (b : ℕ) → found (map h es) b ≡ option_map k (found es b)
found_map h k same new [] b = refl
found_map h k same new (e ∷ rest) b =
    ap (λ (n : ℕ). cond (n == b) (Some (h e).grant) (found (map h rest) b)) (same e) ∙ by (e.address == b) (new e) (found_map h k same new rest b)
  where
    by : (c : Bool) → (h e).grant ≡ k e.grant → found (map h rest) b ≡ option_map k (found rest b) → cond c (Some (h e).grant) (found (map h rest) b) ≡ option_map k (cond c (Some e.grant) (found rest b))
    by true made later = ap Some made
    by false made later = later

-- what a table has at a place where each entry of each process has another grant
pub entry_map : (h : Entry → Entry) (k : Grant → Grant) → ((e : Entry) → (h e).address ≡ e.address) → ((e : Entry) → (h e).grant ≡ k e.grant) → (t : Table) (q b : ℕ) → entry_at (map (map h) t) q b ≡ option_map k (entry_at t q b)
entry_map h k same new t q b = ap (λ (es : List Entry). found es b) (row_map (map h) refl t (q - 1)) ∙ found_map h k same new (entries_of t q) b

-- Parents.

-- a parent; where it is the entry of process p at a, another
abbrev pub handed : ℕ → ℕ → Option EntryPlace → Option EntryPlace → Option EntryPlace
handed p a other parent = cond (is_place p a parent) other parent

-- a grant with its parent handed on
abbrev pub handed_grant : ℕ → ℕ → Option EntryPlace → Grant → Grant
handed_grant p a other g = record g { parent = handed p a other g.parent }

pub handed_address : (p a : ℕ) (other : Option EntryPlace) (e : Entry) → (handed_on p a other e).address ≡ e.address
handed_address p a other e = by (is_child p a e)
  where
    by : (c : Bool) → (cond c (with_parent other e) e).address ≡ e.address
    by true = refl
    by false = refl

handed_is : (p a : ℕ) (other : Option EntryPlace) (e : Entry) → (handed_on p a other e).grant ≡ handed_grant p a other e.grant
handed_is p a other e = by (is_child p a e)
  where
    by : (c : Bool) → (cond c (with_parent other e) e).grant ≡ record e.grant { parent = cond c other e.grant.parent }
    by true = refl
    by false = refl

pub entry_handed : (t : Table) (p a : ℕ) (other : Option EntryPlace) (q b : ℕ) → entry_at (all_handed_on t p a other) q b ≡ option_map (handed_grant p a other) (entry_at t q b)
entry_handed t p a other q b = entry_map (handed_on p a other) (handed_grant p a other) (handed_address p a other) (handed_is p a other) t q b

-- what a table has at another place once an entry is gone
pub without_left : (t : Table) (p a q b : ℕ) → (q - 1 ≢ p - 1) ⊎ (b ≢ a) → entry_at (without_entry t p a) q b ≡ option_map (handed_grant p a (parent_of (entry_at t p a))) (entry_at t q b)
without_left t p a q b apart = entry_handed (erased_entry t p a) p a (parent_of (entry_at t p a)) q b ∙ ap (option_map (handed_grant p a (parent_of (entry_at t p a)))) (erased_left t p a q b apart)

pub without_gone : (t : Table) (p a q : ℕ) → q - 1 ≡ p - 1 → entry_at (without_entry t p a) q a ≡ None
without_gone t p a q is = entry_handed (erased_entry t p a) p a (parent_of (entry_at t p a)) q a ∙ ap (option_map (handed_grant p a (parent_of (entry_at t p a)))) (erased_gone t p a q is)
