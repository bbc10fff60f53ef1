-- The entries of a process, removed one after the other, leave no entry of it, and of others the parents alone change.
use Rattle.std.proofs.Common.{◌≡◌, ℕ, ◌-◌, ◌<◌, ◌≤◌, ◌==◌, not, cond, Bool, true, false, List, [], ◌∷◌, length, length-set, filter, None, refl, sym, ap, subst, ◌∙◌, arith, slice_set}
use Rattle.std.specs.List.{All, AllByRecursion, IsDistinct}
use Rattle.std.proofs.lemmas.Bool.Decides.{nat_tests}
use Rattle.std.proofs.lemmas.List.{length-map, map-set, set-get_or, set-set, get_or-set_same}
use Rattle.std.proofs.lemmas.List.Elements.{All-get_or}
use Rattle.ds_policy.specs.declared.grant.Entry.{Entry}
use Rattle.ds_policy.specs.Pages.{Table, entries_of, entry_at, erased_entry}
use Rattle.ds_policy.specs.Families.{parent_of, with_parent, without_entry, without_entries}
use Rattle.ds_grants.specs.Inner.Parents.{bare, AreAlike}
use Rattle.ds_grants.specs.Inner.Sound.{has_same_address, IsGoodRow}
use Rattle.ds_grants.proofs.FifthRegion.{itself}
use Rattle.ds_grants.proofs.Bare.{bare_row, bare_entries, handed_alike}
use Rattle.ds_grants.proofs.Parents.{alike_length}

-- it is at another address
abbrev is_elsewhere : ℕ → Entry → Bool
is_elsewhere a e = not (e.address == a)

-- the table once the entries of process p at the addresses of these are erased
abbrev all_erased : Table → ℕ → List Entry → Table
all_erased t p [] = t
all_erased t p (e ∷ rest) = all_erased (erased_entry t p e.address) p rest

bare_filter : (a : ℕ) (es : List Entry) → bare_row (filter (is_elsewhere a) es) ≡ filter (is_elsewhere a) (bare_row es)
bare_filter a [] = refl
bare_filter a (e ∷ es) = step (is_elsewhere a e) (bare_filter a es)
  where
    step : (b : Bool) → bare_row (filter (is_elsewhere a) es) ≡ filter (is_elsewhere a) (bare_row es)
        → bare_row (cond b (e ∷ filter (is_elsewhere a) es) (filter (is_elsewhere a) es)) ≡ cond b (with_parent None e ∷ filter (is_elsewhere a) (bare_row es)) (filter (is_elsewhere a) (bare_row es))
    step true rest = ap (λ (xs : List Entry). with_parent None e ∷ xs) rest
    step false rest = rest

bare_erased : (t : Table) (p a : ℕ) → bare (erased_entry t p a) ≡ erased_entry (bare t) p a
bare_erased t p a =
    map-set bare_row t (p - 1) (filter (is_elsewhere a) (entries_of t p))
    ∙ ap (slice_set (bare t) (p - 1)) (bare_filter a (entries_of t p) ∙ sym (ap (filter (is_elsewhere a)) (bare_entries t p)))

-- without parents, to remove entries is to erase them
bare_removed : (t : Table) (p : ℕ) (es : List Entry) → bare (without_entries t p es) ≡ all_erased (bare t) p es
bare_removed t p [] = refl
bare_removed t p (e ∷ es) =
    bare_removed (without_entry t p e.address) p es
    ∙ ap (λ (x : Table). all_erased x p es) (handed_alike (erased_entry t p e.address) p e.address (parent_of (entry_at t p e.address)) ∙ bare_erased t p e.address)

turned : (a b : ℕ) → (a == b) ≡ false → (b == a) ≡ false
turned a b other = grind (arith, nat_tests)

-- entries at other addresses stay
others_stay : (x : Entry) (es : List Entry) → AllByRecursion (λ (y : Entry). has_same_address x y ≡ false) es → filter (is_elsewhere x.address) (bare_row es) ≡ bare_row es
others_stay x [] apart = refl
others_stay x (e ∷ es) apart = rw (turned x.address e.address apart.0) (ap (λ (xs : List Entry). with_parent None e ∷ xs) (others_stay x es apart.1))

-- a row whose entries are erased from the first on is empty
emptied : (es : List Entry) (t : Table) (p : ℕ) → p - 1 < length t → IsDistinct has_same_address es → entries_of t p ≡ bare_row es → all_erased t p es ≡ slice_set t (p - 1) []
unfolding IsDistinct
emptied [] t p within apart is = sym (set-get_or t (p - 1) []) ∙ ap (slice_set t (p - 1)) is
emptied (e ∷ es) t p within apart is =
    let rest : filter (is_elsewhere e.address) (bare_row (e ∷ es)) ≡ bare_row es = rw (itself e.address) (others_stay e es apart.0) in
    let step : erased_entry t p e.address ≡ slice_set t (p - 1) (bare_row es) = ap (slice_set t (p - 1)) (ap (filter (is_elsewhere e.address)) is ∙ rest) in
    ap (λ (x : Table). all_erased x p es) step
    ∙ (emptied es (slice_set t (p - 1) (bare_row es)) p (subst (λ (n : ℕ). p - 1 < n) (sym (length-set t (p - 1) (bare_row es))) within) apart.1 (get_or-set_same t (p - 1) (bare_row es) [] within)
    ∙ set-set t (p - 1) (bare_row es) [])

pub end_alike : (t : Table) (p : ℕ) → 0 < p → p ≤ length t → All IsGoodRow t → AreAlike (without_entries t p (entries_of t p)) (slice_set t (p - 1) [])
end_alike t p low high good =
    let within : p - 1 < length t = omega (arith, low, high) in
    bare_removed t p (entries_of t p)
    ∙ (emptied (entries_of t p) (bare t) p (subst (λ (n : ℕ). p - 1 < n) (sym (length-map t bare_row)) within) (All-get_or IsGoodRow t (p - 1) [] within good).places (bare_entries t p)
    ∙ sym (map-set bare_row t (p - 1) []))

pub end_long : (t : Table) (p : ℕ) → 0 < p → p ≤ length t → All IsGoodRow t → length (without_entries t p (entries_of t p)) ≡ length t
end_long t p low high good = alike_length (slice_set t (p - 1) []) (without_entries t p (entries_of t p)) (end_alike t p low high good) ∙ length-set t (p - 1) []
