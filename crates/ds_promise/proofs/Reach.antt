-- What a take and a revoke leave of each entry.
use Rattle.std.proofs.Common.{◌≡◌, ◌≢◌, ◌⊎◌, inl, inr, ℕ, zero, suc, ◌-◌, Bool, true, false, cond, not, List, [], ◌∷◌, filter, map, Option, Some, None, refl, sym, ap, ◌∙◌, subst, arith}
use Rattle.std.specs.Prelude.{◌%◌, ◌^◌, nat_le, slice_set, slice_index_or}
use Rattle.std.specs.Option.{option_map}
use Rattle.std.proofs.lemmas.Bool.{cases_Bool, cases_eq}
use Rattle.std.proofs.lemmas.List.{get_or-set_other}
use Rattle.ds_isa.specs.declared.instr.Kind.{Kind}
use Rattle.ds_isa.specs.Access.{is_aligned}
use Rattle.ds_policy.specs.declared.access.Rule.{Rule}
use Rattle.ds_policy.specs.declared.access.Rule.TheVariants.{Number, A, K}
use Rattle.ds_policy.specs.declared.access.Verdict.{Verdict}
use Rattle.ds_policy.specs.declared.access.Verdict.TheVariants.{Allowed, Denied}
use Rattle.ds_policy.specs.declared.grant.Grant.{Grant}
use Rattle.ds_policy.specs.declared.grant.Entry.{Entry}
use Rattle.ds_policy.specs.declared.grant.EntryPlace.{EntryPlace}
use Rattle.ds_policy.specs.Pages.{Table, entries_of, found, put, entry_at, with_entry, by_entry, page_address, address_code, miss_code}
use Rattle.ds_policy.specs.Grants.{forbidden_by}
use Rattle.ds_policy.specs.Families.{parent_of, is_place, comes_from, count_entries, descends, without_entry, cut_entry, forbidden_entry, forbid_entry}
use Rattle.ds_promise.specs.Families.{CameOf, IsOutOfReach, HaveOwnAddresses, AllHaveOwnAddresses}
use Rattle.ds_promise.proofs.Entries.{false_is_not_true, or_first, no_grant_found, found_put_same, found_put_other, row_map, entry_map, handed_grant, same_place, entry_same, without_left, without_gone}
use Rattle.ds_promise.proofs.Families.{however_long}

-- Rows of which some entries go.

pub none_left : (f : Entry → Bool) (es : List Entry) (b : ℕ) → found es b ≡ None → found (filter f es) b ≡ None
none_left f [] b none = refl
none_left f (e ∷ rest) b none = grind (arith, none_left f rest b)

-- the only one at its address is not found once it goes
found_out : (k : Grant → Bool) (es : List Entry) (b : ℕ) (g : Grant) → HaveOwnAddresses es → found es b ≡ Some g → k g ≡ true → found (filter (λ e. not (k e.grant)) es) b ≡ None
found_out k [] b g own held goes = refl
found_out k (e ∷ rest) b g own held goes =
    let first = own.0 in
    let none : found rest e.address ≡ None → found (filter (λ e. not (k e.grant)) rest) e.address ≡ None = none_left (λ e. not (k e.grant)) rest e.address in
    let later : found rest b ≡ Some g → found (filter (λ e. not (k e.grant)) rest) b ≡ None = λ there. found_out k rest b g own.1 there goes in
    grind arith

found_in : (k : Grant → Bool) (es : List Entry) (b : ℕ) (g : Grant) → found es b ≡ Some g → k g ≡ false → found (filter (λ e. not (k e.grant)) es) b ≡ Some g
found_in k [] b g held stays = held
found_in k (e ∷ rest) b g held stays = grind (arith, found_in k rest b g)

-- Out of reach.

denied_not : (rule : Rule) (code page offset : ℕ) → Denied rule code ≢ Allowed page offset
denied_not rule code page offset = λ (e : Denied rule code ≡ Allowed page offset). no_such rule code page offset e
  where
    no_such : (rule : Rule) (code page offset : ℕ) → Denied rule code ≡ Allowed page offset → ⊥
    no_such rule code page offset e = cc

denied_or : (c d : Bool) (x y z : Verdict) (page offset : ℕ) → x ≢ Allowed page offset → y ≢ Allowed page offset → z ≢ Allowed page offset → cond c x (cond d y z) ≢ Allowed page offset
denied_or true d x y z page offset first second third = first
denied_or false true x y z page offset first second third = second
denied_or false false x y z page offset first second third = third

-- where an entry allows nothing its process may do nothing in the page
out_of_reach : (t : Table) (q b : ℕ) (o : Option Grant) → entry_at t q b ≡ o → ((kind : Kind) (at page offset : ℕ) → by_entry o kind at ≢ Allowed page offset) → IsOutOfReach t q b
out_of_reach t q b o is never kind size address page offset here =
    denied_or (not (is_aligned size address)) (nat_le (2 ^ 31) address) (Denied A (address_code kind)) (Denied K (address_code kind)) (by_entry (entry_at t q (page_address address)) kind (address % 4096)) page offset
    (denied_not A (address_code kind) page offset) (denied_not K (address_code kind) page offset)
    (subst (λ (x : Option Grant). by_entry x kind (address % 4096) ≢ Allowed page offset) (sym is ∙ ap (entry_at t q) (sym here)) (never kind (address % 4096) page offset))

pub none_reached : (t : Table) (q b : ℕ) → entry_at t q b ≡ None → IsOutOfReach t q b
none_reached t q b is = out_of_reach t q b None is (λ kind at page offset. denied_not (Number 0) (miss_code kind) page offset)

pub nothing_reached : (t : Table) (q b rule : ℕ) → entry_at t q b ≡ Some (forbidden_by rule) → IsOutOfReach t q b
nothing_reached t q b rule is = out_of_reach t q b (Some (forbidden_by rule)) is (λ kind at page offset. denied_not (Number rule) (miss_code kind) page offset)

-- Take.

no_grant_left : (k : Grant → Grant) (o : Option Grant) → o ≡ None → option_map k o ≡ None
no_grant_left k o e = ap (option_map k) e

-- the table without what descends from an entry
abbrev pub pruned : Table → ℕ → ℕ → Table
pruned t p a = map (filter (λ e. not (descends t p a e))) t

-- a grant came of process p's entry at a
abbrev came : Table → ℕ → ℕ → Grant → Bool
came t p a g = comes_from t p a (count_entries t) g.parent

pub pruned_at : (t : Table) (p a q b : ℕ) → entry_at (pruned t p a) q b ≡ found (filter (λ e. not (descends t p a e)) (entries_of t q)) b
pruned_at t p a q b = ap (λ (es : List Entry). found es b) (row_map (filter (λ e. not (descends t p a e))) refl t (q - 1))

pub none_without : (t : Table) (p a q b : ℕ) → entry_at t q b ≡ None → entry_at (without_entry t p a) q b ≡ None
none_without t p a q b none = elim (same_place q b p a) [
  | inl same ↦ ap (entry_at (without_entry t p a) q) same.1 ∙ without_gone t p a q same.0
  | inr apart ↦ without_left t p a q b apart ∙ no_grant_left (handed_grant p a (parent_of (entry_at t p a))) (entry_at t q b) none
]

pub taken_itself : (t : Table) (p a : ℕ) → entry_at (cut_entry t p a) p a ≡ None
taken_itself t p a = without_gone (pruned t p a) p a p refl

pub taken_gone : (t : Table) (p a q b : ℕ) → AllHaveOwnAddresses t → CameOf t p a q b → entry_at (cut_entry t p a) q b ≡ None
taken_gone t p a q b own came_of =
    let goes = however_long t q b came_of.grant p a came_of.steps came_of.held came_of.way in
    none_without (pruned t p a) p a q b (pruned_at t p a q b ∙ found_out (came t p a) (entries_of t q) b came_of.grant (own q) came_of.held goes)

-- what has not come of an entry descends from it by no number of steps
not_came : (t : Table) (p a q b : ℕ) (g : Grant) → entry_at t q b ≡ Some g → (CameOf t p a q b → ⊥) → came t p a g ≡ false
not_came t p a q b g held apart = elim (cases_Bool (came t p a g)) [
  | inl comes ↦ absurd (apart (record { grant = g; held = held; steps = count_entries t; way = comes }))
  | inr stays ↦ stays
]

-- a grant that hasn't come of an entry isn't shared from it
no_child : (t : Table) (p a q b : ℕ) (g : Grant) → entry_at t q b ≡ Some g → came t p a g ≡ false → is_place p a g.parent ≡ false
no_child t p a q b g held stays = by (cases_Bool (is_place p a g.parent))
  where
    one_step : (parent : Option EntryPlace) → is_place p a parent ≡ true → comes_from t p a 1 parent ≡ true
    one_step None e = false_is_not_true e
    one_step (Some place) e = or_first (is_place p a (Some place)) false e

    by : (is_place p a g.parent ≡ true) ⊎ (is_place p a g.parent ≡ false) → is_place p a g.parent ≡ false
    by (inl child) = false_is_not_true (sym stays ∙ however_long t q b g p a 1 held (one_step g.parent child))
    by (inr apart) = apart

-- what is neither the entry nor came of it stays as it was
pub taken_stays : (t : Table) (p a q b : ℕ) → (q - 1 ≢ p - 1) ⊎ (b ≢ a) → (CameOf t p a q b → ⊥) → entry_at (cut_entry t p a) q b ≡ entry_at t q b
taken_stays t p a q b apart other = by (entry_at t q b) refl
  where
    above : Option EntryPlace
    above = parent_of (entry_at (pruned t p a) p a)

    was : entry_at (cut_entry t p a) q b ≡ option_map (handed_grant p a above) (found (filter (λ e. not (descends t p a e)) (entries_of t q)) b)
    was = without_left (pruned t p a) p a q b apart ∙ ap (option_map (handed_grant p a above)) (pruned_at t p a q b)

    by : (o : Option Grant) → entry_at t q b ≡ o → entry_at (cut_entry t p a) q b ≡ o
    by None none = was ∙ no_grant_left (handed_grant p a above) _ (none_left (λ e. not (descends t p a e)) (entries_of t q) b none)
    by (Some g) held =
        let stays = not_came t p a q b g held other in
        was ∙ (ap (option_map (handed_grant p a above)) (found_in (came t p a) (entries_of t q) b g held stays)
        ∙ ap (λ (c : Bool). Some (record g { parent = cond c above g.parent })) (no_child t p a q b g held stays))

-- Revoke.

row_put : (t : Table) (i : ℕ) (es : List Entry) (a : ℕ) (g : Grant) → found (slice_index_or t i []) a ≡ Some g → slice_index_or (slice_set t i es) i [] ≡ es
row_put [] i es a g held = no_grant_found g held
row_put (row ∷ t) zero es a g held = refl
row_put (row ∷ t) (suc i) es a g held = row_put t i es a g held

-- a grant put in the place of another
pub put_there : (t : Table) (p a : ℕ) (g old : Grant) → entry_at t p a ≡ Some old → entry_at (with_entry t p a g) p a ≡ Some g
put_there t p a g old held = ap (λ (es : List Entry). found es a) (row_put t (p - 1) (put (entries_of t p) a g) a old held) ∙ found_put_same (entries_of t p) a g

put_apart : (t : Table) (p a : ℕ) (g : Grant) (q b : ℕ) → (q - 1 ≢ p - 1) ⊎ (b ≢ a) → (old : Grant) → entry_at t p a ≡ Some old → entry_at (with_entry t p a g) q b ≡ entry_at t q b
put_apart t p a g q b (inl other) old held = ap (λ (es : List Entry). found es b) (get_or-set_other t (p - 1) (q - 1) (put (entries_of t p) a g) [] other)
put_apart t p a g q b (inr apart) old held = elim (cases_eq (q - 1) (p - 1)) [
  | inr other ↦ ap (λ (es : List Entry). found es b) (get_or-set_other t (p - 1) (q - 1) (put (entries_of t p) a g) [] other)
  | inl is ↦
      ap (λ (i : ℕ). found (slice_index_or (with_entry t p a g) i []) b) is
      ∙ (ap (λ (es : List Entry). found es b) (row_put t (p - 1) (put (entries_of t p) a g) a old held)
      ∙ (found_put_other (entries_of t p) a b g apart ∙ ap (λ (i : ℕ). found (slice_index_or t i []) b) (sym is)))
]

-- a grant that came of an entry has become another
abbrev pub forbidden_grant : Table → ℕ → ℕ → Grant → Grant → Grant
forbidden_grant t p a new g = cond (came t p a g) new g

pub forbidden_address : (t : Table) (p a : ℕ) (new : Grant) (e : Entry) → (forbidden_entry t p a new e).address ≡ e.address
forbidden_address t p a new e = by (descends t p a e)
  where
    by : (c : Bool) → (cond c (record e { grant = new }) e).address ≡ e.address
    by true = refl
    by false = refl

forbidden_is : (t : Table) (p a : ℕ) (new : Grant) (e : Entry) → (forbidden_entry t p a new e).grant ≡ forbidden_grant t p a new e.grant
forbidden_is t p a new e = by (descends t p a e)
  where
    by : (c : Bool) → (cond c (record e { grant = new }) e).grant ≡ cond c new e.grant
    by true = refl
    by false = refl

module _ (t : Table) (p a : ℕ) (new : Grant) where
  -- the table with what came of the entry forbidden
  abbrev pub marked : Table
  marked = map (map (forbidden_entry t p a new)) t

  pub marked_at : (q b : ℕ) → entry_at marked q b ≡ option_map (forbidden_grant t p a new) (entry_at t q b)
  marked_at q b = entry_map (forbidden_entry t p a new) (forbidden_grant t p a new) (forbidden_address t p a new) (forbidden_is t p a new) t q b

  module _ (old : Grant) (there : entry_at t p a ≡ Some old) where
    marked_there : entry_at marked p a ≡ Some (forbidden_grant t p a new old)
    marked_there = marked_at p a ∙ ap (option_map (forbidden_grant t p a new)) there

    pub revoked_itself : entry_at (forbid_entry t p a new) p a ≡ Some new
    revoked_itself = put_there marked p a new (forbidden_grant t p a new old) marked_there

    pub revoked_came : (q b : ℕ) → CameOf t p a q b → entry_at (forbid_entry t p a new) q b ≡ Some new
    revoked_came q b came_of = elim (same_place q b p a) [
      | inl same ↦ entry_same (forbid_entry t p a new) q b p a same.0 same.1 ∙ revoked_itself
      | inr apart ↦
          let goes = however_long t q b came_of.grant p a came_of.steps came_of.held came_of.way in
          put_apart marked p a new q b apart (forbidden_grant t p a new old) marked_there
          ∙ (marked_at q b ∙ (ap (option_map (forbidden_grant t p a new)) came_of.held ∙ ap (λ (c : Bool). Some (cond c new came_of.grant)) goes))
    ]

    pub revoked_stays : (q b : ℕ) → (q - 1 ≢ p - 1) ⊎ (b ≢ a) → (CameOf t p a q b → ⊥) → entry_at (forbid_entry t p a new) q b ≡ entry_at t q b
    revoked_stays q b apart other = put_apart marked p a new q b apart (forbidden_grant t p a new old) marked_there ∙ (marked_at q b ∙ by (entry_at t q b) refl)
      where
        by : (o : Option Grant) → entry_at t q b ≡ o → option_map (forbidden_grant t p a new) o ≡ o
        by None none = refl
        by (Some g) held = ap (λ (c : Bool). Some (cond c new g)) (not_came t p a q b g held other)
