-- Entries of the table, when others are changed.
use Rattle.std.proofs.Common.{◌≡◌, ◌≢◌, ℕ, ◌-◌, ◌<◌, ◌==◌, not, Bool, true, false, if◌then◌else◌, List, [], ◌∷◌, length, map, filter, set, Option, Some, None, refl, sym, ap, ◌∙◌, inl, inr, arith}
use Rattle.std.specs.Option.{option_map}
use Rattle.std.proofs.Math.ListN.{get_or-map}
use Rattle.std.proofs.lemmas.List.{get_or-set_same, get_or-set_other, set_past}
use Rattle.std.proofs.lemmas.Bool.{cases_eq, cases_lt, true≢false, not_from_false}
use Rattle.ds_policy.specs.declared.grant.Grant.{Grant}
use Rattle.ds_policy.specs.declared.grant.Entry.{Entry}
use Rattle.ds_policy.specs.declared.grant.EntryPlace.{EntryPlace}
use Rattle.ds_policy.specs.Pages.{Table, entries_of, found, put, entry_at, with_entry, erased_entry}
use Rattle.ds_policy.specs.Families.{parent_of, is_place, with_parent, handed_on, all_handed_on, without_entry, comes_from, count_entries, descends, forbidden_entry}
use Rattle.ds_pagemap.specs.Laws.{but_parent}

-- another address, when an entry is put
pub found-put_other : (es : List Entry) (a b : ℕ) (g : Grant) → b ≢ a → found (put es a g) b ≡ found es b
found-put_other [] a b g apart = grind arith
found-put_other (e ∷ rest) a b g apart = grind (arith, found-put_other rest a b g apart)

-- another address, when an entry is removed
pub found-filter_other : (es : List Entry) (a b : ℕ) → b ≢ a → found (filter (λ e. not (e.address == a)) es) b ≡ found es b
found-filter_other [] a b apart = refl
found-filter_other (e ∷ rest) a b apart = grind (arith, found-filter_other rest a b apart)

-- the address at which an entry is put
pub found-put_same : (es : List Entry) (a : ℕ) (g : Grant) → found (put es a g) a ≡ Some g
found-put_same [] a g = grind arith
found-put_same (e ∷ rest) a g = grind (arith, found-put_same rest a g)

-- the address from which an entry is removed
pub found-filter_same : (es : List Entry) (a : ℕ) → found (filter (λ e. not (e.address == a)) es) a ≡ None
found-filter_same [] a = refl
found-filter_same (e ∷ rest) a = grind (arith, found-filter_same rest a)

-- another process's entries
pub entry_at-set_other : (t : Table) (p q address : ℕ) (es : List Entry) → 0 < p → 0 < q → q ≢ p → entry_at (set t (p - 1) es) q address ≡ entry_at t q address
entry_at-set_other t p q address es p_above q_above apart = ap (λ es. found es address) (get_or-set_other t (p - 1) (q - 1) es [] (omega arith))

-- the process's own entries, changed elsewhere
entry_at-set_same : (t : Table) (p address : ℕ) (es : List Entry) → found es address ≡ found (entries_of t p) address → entry_at (set t (p - 1) es) p address ≡ entry_at t p address
entry_at-set_same t p address es same = elim (cases_lt (p - 1) (length t)) [
  | inl within ↦ ap (λ es. found es address) (get_or-set_same t (p - 1) es [] within) ∙ same
  | inr past ↦ ap (λ t. entry_at t p address) (set_past t (p - 1) es past)
]

-- an entry apart from the one that is put
pub entry_at-with_entry : (t : Table) (p address : ℕ) (g : Grant) (q b : ℕ) → 0 < p → 0 < q → (q ≡ p → b ≢ address) → entry_at (with_entry t p address g) q b ≡ entry_at t q b
entry_at-with_entry t p address g q b p_above q_above apart = elim (cases_eq q p) [
  | inl is ↦ rw is (entry_at-set_same t p b (put (entries_of t p) address g) (found-put_other (entries_of t p) address b g (apart is)))
  | inr other ↦ entry_at-set_other t p q b _ p_above q_above other
]

-- an entry apart from the one that is erased
pub entry_at-erased_entry : (t : Table) (p address : ℕ) (q b : ℕ) → 0 < p → 0 < q → (q ≡ p → b ≢ address) → entry_at (erased_entry t p address) q b ≡ entry_at t q b
entry_at-erased_entry t p address q b p_above q_above apart = elim (cases_eq q p) [
  | inl is ↦ rw is (entry_at-set_same t p b _ (found-filter_other (entries_of t p) address b (apart is)))
  | inr other ↦ entry_at-set_other t p q b _ p_above q_above other
]

-- what is found where each grant is changed
found-map : (h : Entry → Entry) (f : Grant → Grant) → ((e : Entry) → (h e).address ≡ e.address) → ((e : Entry) → (h e).grant ≡ f e.grant) → (es : List Entry) (b : ℕ) → found (map h es) b ≡ option_map f (found es b)
found-map h f stays new [] b = refl
found-map h f stays new (e ∷ rest) b = rw (stays e, new e) (either (e.address == b) e.grant (found rest b) (found (map h rest) b) (found-map h f stays new rest b))
  where
    either : (here : Bool) (g : Grant) (o after : Option Grant) → after ≡ option_map f o → (if here then Some (f g) else after) ≡ option_map f (if here then Some g else o)
    either true g o after is = refl
    either false g o after is = is

-- what stands at a place where each grant is changed
pub entry_at-map : (h : Entry → Entry) (f : Grant → Grant) → ((e : Entry) → (h e).address ≡ e.address) → ((e : Entry) → (h e).grant ≡ f e.grant) → (t : Table) (q b : ℕ) → entry_at (map (map h) t) q b ≡ option_map f (entry_at t q b)
entry_at-map h f stays new t q b = ap (λ es. found es b) (get_or-map (map h) t (q - 1) []) ∙ found-map h f stays new (entries_of t q) b

-- a grant; where it was shared from the entry of process p at an address, with another parent
abbrev pub with_handed_parent : ℕ → ℕ → Option EntryPlace → Grant → Grant
with_handed_parent p address parent g = if is_place p address g.parent then record g { parent = parent } else g

-- what stands at a place where parents are handed on
pub entry_at-all_handed_on : (t : Table) (p a : ℕ) (parent : Option EntryPlace) (q b : ℕ) → entry_at (all_handed_on t p a parent) q b ≡ option_map (with_handed_parent p a parent) (entry_at t q b)
entry_at-all_handed_on t p a parent q b =
    entry_at-map (handed_on p a parent) (with_handed_parent p a parent)
    (λ e. address e (is_place p a e.grant.parent)) (λ e. grant e (is_place p a e.grant.parent)) t q b
  where
    address : (e : Entry) (child : Bool) → (if child then with_parent parent e else e).address ≡ e.address
    address e true = refl
    address e false = refl

    grant : (e : Entry) (child : Bool) → (if child then with_parent parent e else e).grant ≡ (if child then record e.grant { parent = parent } else e.grant)
    grant e true = refl
    grant e false = refl

-- an entry apart from the one that is removed stays but for its parent
pub entry_at-without_entry : (t : Table) (p address : ℕ) (q b : ℕ) → 0 < p → 0 < q → (q ≡ p → b ≢ address) → but_parent (entry_at (without_entry t p address) q b) ≡ but_parent (entry_at t q b)
entry_at-without_entry t p address q b p_above q_above apart =
    let parent = parent_of (entry_at t p address) in
    ap but_parent (entry_at-all_handed_on (erased_entry t p address) p address parent q b ∙ ap (option_map (with_handed_parent p address parent)) (entry_at-erased_entry t p address q b p_above q_above apart))
    ∙ handed (entry_at t q b)
  where
    either : (g : Grant) (parent : Option EntryPlace) (child : Bool) → but_parent (Some (if child then record g { parent = parent } else g)) ≡ but_parent (Some g)
    either g parent true = refl
    either g parent false = refl

    handed : (o : Option Grant) → but_parent (option_map (with_handed_parent p address (parent_of (entry_at t p address))) o) ≡ but_parent o
    handed None = refl
    handed (Some g) = either g (parent_of (entry_at t p address)) (is_place p address g.parent)

-- a grant; where it descends from the entry of process p at an address, another one
abbrev pub with_forbidden : Table → ℕ → ℕ → Grant → Grant → Grant
with_forbidden table p address g own = if comes_from table p address (count_entries table) own.parent then g else own

-- what stands at a place where all that descends from an entry is forbidden
pub entry_at-all_forbidden : (t : Table) (p a : ℕ) (g : Grant) (q b : ℕ) → entry_at (map (map (forbidden_entry t p a g)) t) q b ≡ option_map (with_forbidden t p a g) (entry_at t q b)
entry_at-all_forbidden t p a g q b =
    entry_at-map (forbidden_entry t p a g) (with_forbidden t p a g)
    (λ e. address e (descends t p a e)) (λ e. grant e (descends t p a e)) t q b
  where
    address : (e : Entry) (below : Bool) → (if below then record e { grant = g } else e).address ≡ e.address
    address e true = refl
    address e false = refl

    grant : (e : Entry) (below : Bool) → (if below then record e { grant = g } else e).grant ≡ (if below then g else e.grant)
    grant e true = refl
    grant e false = refl

-- an entry that a filter keeps is found after it
found-filter : (p : Entry → Bool) (keeps : Grant → Bool) → ((e : Entry) → p e ≡ keeps e.grant) → (es : List Entry) (b : ℕ) (g : Grant) → keeps g ≡ true → found es b ≡ Some g → found (filter p es) b ≡ Some g
found-filter p keeps by [] b g kept has = has
found-filter p keeps by (e ∷ rest) b g kept has = either (p e) refl (found-filter p keeps by rest b g kept)
  where
    further : (here : Bool) (own rest after : Option Grant) → (rest ≡ Some g → after ≡ Some g) → (if here then own else rest) ≡ Some g → (if here then own else after) ≡ Some g
    further true own rest after later is = is
    further false own rest after later is = later is

    gone : (here : Bool) → p e ≡ false → (if here then Some e.grant else found rest b) ≡ Some g → found rest b ≡ Some g
    gone true is own = let same : e.grant ≡ g = cc in absurd (true≢false (sym kept ∙ (sym (ap keeps same) ∙ (sym (by e) ∙ is))))
    gone false is later = later

    either : (stays : Bool) → p e ≡ stays → (found rest b ≡ Some g → found (filter p rest) b ≡ Some g) → found (if stays then e ∷ filter p rest else filter p rest) b ≡ Some g
    either true is others = further (e.address == b) (Some e.grant) (found rest b) (found (filter p rest) b) others has
    either false is others = others (gone (e.address == b) is has)

-- an entry that does not descend from another stays when what descends from it is cut
pub entry_at-filter : (t : Table) (p a q b : ℕ) (g : Grant) → comes_from t p a (count_entries t) g.parent ≡ false → entry_at t q b ≡ Some g → entry_at (map (filter (λ e. not (descends t p a e))) t) q b ≡ Some g
entry_at-filter t p a q b g apart has =
    ap (λ es. found es b) (get_or-map (filter (λ e. not (descends t p a e))) t (q - 1) [])
    ∙ found-filter (λ e. not (descends t p a e)) (λ g. not (comes_from t p a (count_entries t) g.parent)) (λ e. refl) (entries_of t q) b g (not_from_false _ apart) has
