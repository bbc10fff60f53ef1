-- The regions of a process's entries, counted by the different ones that were seen so far.
use Rattle.std.proofs.Common.{◌≡◌, ◌∙◌, sym, ap, refl, ℕ, Bool, true, false, ◌==◌, ◌<◌, ◌≤◌, ◌+◌, List, [], ◌∷◌, ◌++◌, inl, inr, arith, append_assoc, drop, get_or, length, map}
use Rattle.std.specs.List.{list_any}
use Rattle.std.specs.Prelude.{nat_lt}
use Rattle.std.proofs.lemmas.Bool.{cases_Bool}
use Rattle.std.proofs.lemmas.Bool.Decides.{nat_tests}
use Rattle.std.proofs.lemmas.List.{drop_more, drop_all, length_push}
use Rattle.ds_policy.specs.declared.grant.Entry.{Entry}
use Rattle.ds_policy.specs.Grants.{region, count_distinct}
use Rattle.ds_policy.proofs.DistinctCounts.{count_last}

-- the number is in the list
abbrev has : ℕ → List ℕ → Bool
has a xs = list_any (λ b. b == a) xs

-- the regions of entries
abbrev pub regions_of : List Entry → List ℕ
regions_of entries = map (λ e. region e.address) entries

-- what follows in a list is in it
has_after : (a : ℕ) (xs ys : List ℕ) → has a ys ≡ true → has a (xs ++ ys) ≡ true
has_after a [] ys there = there
has_after a (x ∷ xs) ys there = elim (cases_Bool (x == a)) [ inl is ↦ rw is | inr other ↦ rw other (has_after a xs ys there) ]

-- what stands in front makes the different ones no fewer
no_fewer : (xs ys : List ℕ) → count_distinct ys ≤ count_distinct (xs ++ ys)
no_fewer [] ys = omega arith
no_fewer (x ∷ xs) ys = let more = no_fewer xs ys in elim (cases_Bool (has x (xs ++ ys))) [ inl there ↦ rw there more | inr new ↦ rw new (omega (arith, more)) ]

-- the regions seen, with those of the entries from a place on, are as many as all of them with the address's
pub record HasSeen (address : ℕ) (entries : List Entry) (at : ℕ) (seen : List ℕ) : Type 0 where
  pub same : count_distinct (regions_of (drop at entries) ++ seen) ≡ count_distinct (region address ∷ regions_of entries)
  pub different : count_distinct seen ≡ length seen
  pub few : length seen ≤ 4

-- at the beginning the address's region alone was seen
pub seen_first : (address : ℕ) (entries : List Entry) → HasSeen address entries 0 (region address ∷ [])
seen_first address entries = record { same = count_last (region address) (regions_of entries); different = refl; few = omega arith }

-- the entry at a place is the first of those from there on
first_left : (entries : List Entry) (at r : ℕ) (d : Entry) (seen : List ℕ) → at < length entries → r ≡ region (get_or entries at d).address → regions_of (drop at entries) ++ seen ≡ r ∷ regions_of (drop (at + 1) entries) ++ seen
first_left entries at r d seen within is = ap (λ es. regions_of es ++ seen) (drop_more entries at d within) ∙ ap (λ (x : ℕ). x ∷ regions_of (drop (at + 1) entries) ++ seen) (sym is)

-- an entry in a region that was seen adds none
pub seen_already : (address : ℕ) (entries : List Entry) (at r : ℕ) (d : Entry) (seen : List ℕ) → at < length entries → r ≡ region (get_or entries at d).address → has r seen ≡ true → HasSeen address entries at seen → HasSeen address entries (at + 1) seen
seen_already address entries at r d seen within is there before =
    let again = has_after r (regions_of (drop (at + 1) entries)) seen there in
    let whole = sym (ap count_distinct (first_left entries at r d seen within is)) ∙ before.same in
    record { same = rw again at whole; different = before.different; few = before.few }

-- a region that was not seen is one more that is
different_push : (a : ℕ) (seen : List ℕ) → has a seen ≡ false → count_distinct seen ≡ length seen → count_distinct (seen ++ a ∷ []) ≡ length seen + 1
different_push a seen new different =
    let one_more : count_distinct (a ∷ seen) ≡ count_distinct seen + 1 = rw new in
    count_last a seen ∙ one_more ∙ ap (λ n. n + 1) different

-- it may be seen last as well as first
push_last : (a : ℕ) (left seen : List ℕ) → count_distinct (left ++ (seen ++ a ∷ [])) ≡ count_distinct (a ∷ left ++ seen)
push_last a left seen = ap count_distinct (sym (append_assoc left seen (a ∷ []))) ∙ count_last a (left ++ seen)

-- the different ones of all, where a region is seen that was not
all_with : (address : ℕ) (entries : List Entry) (at r : ℕ) (d : Entry) (seen : List ℕ) → at < length entries → r ≡ region (get_or entries at d).address → HasSeen address entries at seen → count_distinct (regions_of (drop (at + 1) entries) ++ (seen ++ r ∷ [])) ≡ count_distinct (region address ∷ regions_of entries)
all_with address entries at r d seen within is before = push_last r (regions_of (drop (at + 1) entries)) seen ∙ sym (ap count_distinct (first_left entries at r d seen within is)) ∙ before.same

-- an entry in a region that was not seen
pub seen_new : (address : ℕ) (entries : List Entry) (at r : ℕ) (d : Entry) (seen : List ℕ) → at < length entries → r ≡ region (get_or entries at d).address → has r seen ≡ false → length seen < 4 → HasSeen address entries at seen → HasSeen address entries (at + 1) (seen ++ r ∷ [])
seen_new address entries at r d seen within is new room before = record {
  same = all_with address entries at r d seen within is before;
  different = different_push r seen new before.different ∙ sym (length_push seen r);
  few = omega (arith, length_push seen r);
}

-- a region that was seen last is one of them
pub seen_last : (a : ℕ) (seen : List ℕ) → has a (seen ++ a ∷ []) ≡ true
seen_last a seen = has_after a seen (a ∷ []) (let here : (a == a) ≡ true = grind (arith, nat_tests) in rw here refl)

-- a fifth region beside four that were seen
pub seen_fifth : (address : ℕ) (entries : List Entry) (at r : ℕ) (d : Entry) (seen : List ℕ) → at < length entries → r ≡ region (get_or entries at d).address → has r seen ≡ false → length seen ≡ 4 → HasSeen address entries at seen → nat_lt 4 (count_distinct (region address ∷ regions_of entries)) ≡ true
seen_fifth address entries at r d seen within is new full before =
    let more = no_fewer (regions_of (drop (at + 1) entries)) (seen ++ r ∷ []) in
    let one_more = different_push r seen new before.different in
    let whole = all_with address entries at r d seen within is before in
    let many : 4 < count_distinct (region address ∷ regions_of entries) = omega (arith, more, one_more, whole, full) in
    grind (arith, nat_tests, many)

-- no more than four where all were seen
pub seen_all : (address : ℕ) (entries : List Entry) (at : ℕ) (seen : List ℕ) → length entries ≤ at → HasSeen address entries at seen → nat_lt 4 (count_distinct (region address ∷ regions_of entries)) ≡ false
seen_all address entries at seen past before =
    let none : count_distinct seen ≡ count_distinct (region address ∷ regions_of entries) = sym (ap (λ es. count_distinct (regions_of es ++ seen)) (drop_all at entries past)) ∙ before.same in
    let few : count_distinct (region address ∷ regions_of entries) ≤ 4 = (let d = before.different in let f = before.few in omega (arith, none)) in
    grind (arith, nat_tests, few)
