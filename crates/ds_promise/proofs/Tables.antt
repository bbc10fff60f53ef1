-- What changes of a table keep: what all of its grants meet, and that no process has two entries at
-- one address.
use Rattle.std.proofs.Common.{◌≡◌, ◌≢◌, ◌⊎◌, inl, inr, ℕ, zero, suc, ◌-◌, Bool, true, false, cond, not, ◌&&◌, ◌==◌, List, [], ◌∷◌, filter, map, Option, Some, None, refl, sym, ap, ◌∙◌, subst, arith}
use Rattle.std.specs.Prelude.{slice_set, slice_index_or}
use Rattle.std.specs.Option.{option_map}
use Rattle.std.proofs.lemmas.Bool.{cases_eq}
use Rattle.std.proofs.lemmas.Bool.Decides.{nat_tests}
use Rattle.ds_policy.specs.declared.grant.Grant.{Grant}
use Rattle.ds_policy.specs.declared.grant.Entry.{Entry}
use Rattle.ds_policy.specs.declared.grant.EntryPlace.{EntryPlace}
use Rattle.ds_policy.specs.Pages.{Table, entries_of, found, put, entry_at, with_entry, erased_entry}
use Rattle.ds_policy.specs.Grants.{is_some_right, forbidden_by}
use Rattle.ds_policy.specs.Ends.{is_reached, has_expired, expired_entry, expired_table}
use Rattle.ds_policy.specs.Families.{parent_of, handed_on, descends, without_entry, without_entries, cut_entry, forbidden_entry, forbid_entry}
use Rattle.ds_promise.specs.Families.{HaveOwnAddresses, AllHaveOwnAddresses}
use Rattle.ds_promise.proofs.Entries.{no_grant_found, one_grant, entry_map, found_put_same, found_put_other, row_map, handed, handed_grant, handed_address, same_place, without_left, without_gone}
use Rattle.ds_promise.proofs.Reach.{none_left, pruned, pruned_at, forbidden_grant, forbidden_address, marked, marked_at}

-- Own addresses.

own_put : (es : List Entry) (a : ℕ) (g : Grant) → HaveOwnAddresses es → HaveOwnAddresses (put es a g)
own_put [] a g own = (refl, tt)
own_put (e ∷ rest) a g own = by (e.address == a) refl (own_put rest a g own.1)
  where
    by : (c : Bool) → (e.address == a) ≡ c → HaveOwnAddresses (put rest a g) → HaveOwnAddresses (cond c (record { address = a; grant = g } ∷ rest) (e ∷ put rest a g))
    by true here later = (subst (λ (n : ℕ). found rest n ≡ None) (same (e.address) a here) own.0, own.1)
      where
        same : (x a : ℕ) → (x == a) ≡ true → x ≡ a
        same x a e = grind (arith, nat_tests)
    by false there later = (found_put_other rest a e.address g (apart e.address a there) ∙ own.0, later)
      where
        apart : (x a : ℕ) → (x == a) ≡ false → x ≢ a
        apart x a e = grind (arith, nat_tests)

own_filter : (f : Entry → Bool) (es : List Entry) → HaveOwnAddresses es → HaveOwnAddresses (filter f es)
own_filter f [] own = tt
own_filter f (e ∷ rest) own = by (f e) (own_filter f rest own.1)
  where
    by : (c : Bool) → HaveOwnAddresses (filter f rest) → HaveOwnAddresses (cond c (e ∷ filter f rest) (filter f rest))
    by true later = (none_left f rest e.address own.0, later)
    by false later = later

none_mapped : (h : Entry → Entry) → ((e : Entry) → (h e).address ≡ e.address) → (es : List Entry) (b : ℕ) → found es b ≡ None → found (map h es) b ≡ None
none_mapped h same [] b none = refl
none_mapped h same (e ∷ rest) b none = let s = same e in grind (arith, none_mapped h same rest b)

own_map : (h : Entry → Entry) → ((e : Entry) → (h e).address ≡ e.address) → (es : List Entry) → HaveOwnAddresses es → HaveOwnAddresses (map h es)
own_map h same [] own = tt
own_map h same (e ∷ rest) own = (none_mapped h same rest (h e).address (ap (found rest) (same e) ∙ own.0), own_map h same rest own.1)

own_row : (t : Table) (i j : ℕ) (es : List Entry) → HaveOwnAddresses es → HaveOwnAddresses (slice_index_or t j []) → HaveOwnAddresses (slice_index_or (slice_set t i es) j [])
own_row [] i j es new own = own
own_row (row ∷ t) zero zero es new own = new
own_row (row ∷ t) zero (suc j) es new own = own
own_row (row ∷ t) (suc i) zero es new own = own
own_row (row ∷ t) (suc i) (suc j) es new own = own_row t i j es new own

pub with_entry_table : (t : Table) (p a : ℕ) (g : Grant) → AllHaveOwnAddresses t → AllHaveOwnAddresses (with_entry t p a g)
with_entry_table t p a g own = λ q. own_row t (p - 1) (q - 1) (put (entries_of t p) a g) (own_put (entries_of t p) a g (own p)) (own q)

erased_table : (t : Table) (p a : ℕ) → AllHaveOwnAddresses t → AllHaveOwnAddresses (erased_entry t p a)
erased_table t p a own = λ q. own_row t (p - 1) (q - 1) (filter (λ e. not (e.address == a)) (entries_of t p)) (own_filter (λ e. not (e.address == a)) (entries_of t p) (own p)) (own q)

mapped_table : (t : Table) (h : Entry → Entry) → ((e : Entry) → (h e).address ≡ e.address) → AllHaveOwnAddresses t → AllHaveOwnAddresses (map (map h) t)
mapped_table t h same own = λ q. subst HaveOwnAddresses (sym (row_map (map h) refl t (q - 1))) (own_map h same (entries_of t q) (own q))

pub without_entry_table : (t : Table) (p a : ℕ) → AllHaveOwnAddresses t → AllHaveOwnAddresses (without_entry t p a)
without_entry_table t p a own =
    let above = parent_of (entry_at t p a) in
    mapped_table (erased_entry t p a) (handed_on p a above) (handed_address p a above) (erased_table t p a own)

pub without_entries_table : (p : ℕ) (es : List Entry) (t : Table) → AllHaveOwnAddresses t → AllHaveOwnAddresses (without_entries t p es)
without_entries_table p [] t own = own
without_entries_table p (e ∷ rest) t own = without_entries_table p rest (without_entry t p e.address) (without_entry_table t p e.address own)

pruned_table : (t : Table) (p a : ℕ) → AllHaveOwnAddresses t → AllHaveOwnAddresses (pruned t p a)
pruned_table t p a own = λ q. subst HaveOwnAddresses (sym (row_map (filter (λ e. not (descends t p a e))) refl t (q - 1))) (own_filter (λ e. not (descends t p a e)) (entries_of t q) (own q))

pub cut_table : (t : Table) (p a : ℕ) → AllHaveOwnAddresses t → AllHaveOwnAddresses (cut_entry t p a)
cut_table t p a own = without_entry_table (pruned t p a) p a (pruned_table t p a own)

pub forbid_table : (t : Table) (p a : ℕ) (g : Grant) → AllHaveOwnAddresses t → AllHaveOwnAddresses (forbid_entry t p a g)
forbid_table t p a g own = with_entry_table (marked t p a g) p a g (mapped_table t (forbidden_entry t p a g) (forbidden_address t p a g) own)

-- Ends.

-- what is left of a grant by a time
abbrev pub expired_grant : ℕ → Grant → Grant
expired_grant time g = cond (is_some_right g.right && is_reached time g.until) (forbidden_by g.rule) g

pub expired_address : (time : ℕ) (e : Entry) → (expired_entry time e).address ≡ e.address
expired_address time e = by (has_expired time e)
  where
    by : (c : Bool) → (cond c (record e { grant = forbidden_by e.grant.rule }) e).address ≡ e.address
    by true = refl
    by false = refl

pub expired_is : (time : ℕ) (e : Entry) → (expired_entry time e).grant ≡ expired_grant time e.grant
expired_is time e = by (has_expired time e)
  where
    by : (c : Bool) → (cond c (record e { grant = forbidden_by e.grant.rule }) e).grant ≡ cond c (forbidden_by e.grant.rule) e.grant
    by true = refl
    by false = refl

pub expired_at : (time : ℕ) (t : Table) (q b : ℕ) → entry_at (expired_table time t) q b ≡ option_map (expired_grant time) (entry_at t q b)
expired_at time t q b = entry_map (expired_entry time) (expired_grant time) (expired_address time) (expired_is time) t q b

pub expire_table : (time : ℕ) (t : Table) → AllHaveOwnAddresses t → AllHaveOwnAddresses (expired_table time t)
expire_table time t own = mapped_table t (expired_entry time) (expired_address time) own

-- All grants.

-- all that a table grants meets P
abbrev pub AllGrants : (Grant → Type 0) → Table → Type 0
AllGrants P t = (p address : ℕ) (g : Grant) → entry_at t p address ≡ Some g → P g

-- what is found once a grant is put is that grant, or was found before
put_cases : (es : List Entry) (a b : ℕ) (g h : Grant) → found (put es a g) b ≡ Some h → (h ≡ g) ⊎ (found es b ≡ Some h)
put_cases es a b g h e = elim (cases_eq b a) [
  | inl is ↦ inl (one_grant g h (sym (found_put_same es a g) ∙ subst (λ (place : ℕ). found (put es a g) place ≡ Some h) is e))
  | inr other ↦ inr (sym (found_put_other es a b g other) ∙ e)
]

-- what is found once a row is put stands in it, or was found before
pub row_cases : (t : Table) (i j b : ℕ) (es : List Entry) (h : Grant) → found (slice_index_or (slice_set t i es) j []) b ≡ Some h → (found es b ≡ Some h) ⊎ (found (slice_index_or t j []) b ≡ Some h)
row_cases [] i j b es h e = inr e
row_cases (row ∷ t) zero zero b es h e = inl e
row_cases (row ∷ t) zero (suc j) b es h e = inr e
row_cases (row ∷ t) (suc i) zero b es h e = inr e
row_cases (row ∷ t) (suc i) (suc j) b es h e = row_cases t i j b es h e

-- what is found among fewer was found before, where each has its own address
pub found_before : (f : Entry → Bool) (es : List Entry) (b : ℕ) (h : Grant) → HaveOwnAddresses es → found (filter f es) b ≡ Some h → found es b ≡ Some h
found_before f [] b h own e = e
found_before f (x ∷ rest) b h own e =
    let alone = own.0 in
    let later : found (filter f rest) b ≡ Some h → found rest b ≡ Some h = λ there. found_before f rest b h own.1 there in
    grind arith

-- a grant that became another
pub record WasAnother (k : Grant → Grant) (o : Option Grant) (h : Grant) : Type 0 where
  pub old : Grant
  pub was : o ≡ Some old
  pub is : h ≡ k old

pub was_another : (k : Grant → Grant) (o : Option Grant) (h : Grant) → option_map k o ≡ Some h → WasAnother k o h
was_another k None h e = no_grant_found h e
was_another k (Some g) h e = record { old = g; was = refl; is = one_grant (k g) h e }

pub with_entry_all : (P : Grant → Type 0) (t : Table) (p a : ℕ) (g : Grant) → AllGrants P t → P g → AllGrants P (with_entry t p a g)
with_entry_all P t p a g all new q b h e = elim (row_cases t (p - 1) (q - 1) b (put (entries_of t p) a g) h e) [
  | inl here ↦ elim (put_cases (entries_of t p) a b g h here) [
    | inl is ↦ subst P (sym is) new
    | inr before ↦ all p b h before
  ]
  | inr there ↦ all q b h there
]

-- where P says nothing of parents
module _ (P : Grant → Type 0) (any_parent : (g : Grant) (parent : Option EntryPlace) → P g → P (record g { parent = parent })) where
  pub without_entry_all : (t : Table) (p a : ℕ) → AllGrants P t → AllGrants P (without_entry t p a)
  without_entry_all t p a all q b h e = elim (same_place q b p a) [
    | inl same ↦ no_grant_found h (sym (without_gone t p a q same.0) ∙ (ap (entry_at (without_entry t p a) q) (sym same.1) ∙ e))
    | inr apart ↦
        let above = parent_of (entry_at t p a) in
        let w = was_another (handed_grant p a above) (entry_at t q b) h (sym (without_left t p a q b apart) ∙ e) in
        subst P (sym w.is) (any_parent w.old (handed p a above w.old.parent) (all q b w.old w.was))
  ]

  pub without_entries_all : (p : ℕ) (es : List Entry) (t : Table) → AllGrants P t → AllGrants P (without_entries t p es)
  without_entries_all p [] t all = all
  without_entries_all p (e ∷ rest) t all = without_entries_all p rest (without_entry t p e.address) (without_entry_all t p e.address all)

  pub cut_all : (t : Table) (p a : ℕ) → AllHaveOwnAddresses t → AllGrants P t → AllGrants P (cut_entry t p a)
  cut_all t p a own all = without_entry_all (pruned t p a) p a
      (λ q b h e. all q b h (found_before (λ x. not (descends t p a x)) (entries_of t q) b h (own q) (sym (pruned_at t p a q b) ∙ e)))

pub forbid_all : (P : Grant → Type 0) (t : Table) (p a : ℕ) (g : Grant) → AllGrants P t → P g → AllGrants P (forbid_entry t p a g)
forbid_all P t p a g all new = with_entry_all P (marked t p a g) p a g still new
  where
    either : (c : Bool) (old : Grant) → P old → P (cond c g old)
    either true old was = new
    either false old was = was

    still : AllGrants P (marked t p a g)
    still q b h e =
        let w = was_another (forbidden_grant t p a g) (entry_at t q b) h (sym (marked_at t p a g q b) ∙ e) in
        subst P (sym w.is) (either _ w.old (all q b w.old w.was))

pub expire_all : (P : Grant → Type 0) (time : ℕ) (t : Table) → AllGrants P t → ((rule : ℕ) → P (forbidden_by rule)) → AllGrants P (expired_table time t)
expire_all P time t all new q b h e =
    let w = was_another (expired_grant time) (entry_at t q b) h (sym (expired_at time t q b) ∙ e) in
    subst P (sym w.is) (either (is_some_right w.old.right && is_reached time w.old.until) w.old (all q b w.old w.was))
  where
    either : (c : Bool) (old : Grant) → P old → P (cond c (forbidden_by old.rule) old)
    either true old was = new old.rule
    either false old was = was
