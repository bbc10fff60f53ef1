-- What is left of an entry of one process where entries of another are removed, cut or forbidden.
use Rattle.std.proofs.Common.{◌≡◌, ◌≢◌, ℕ, zero, suc, ◌<◌, ◌==◌, not, Bool, true, false, if◌then◌else◌, List, [], ◌∷◌, map, filter, Option, Some, None, refl, ap, ◌∙◌, arith}
use Rattle.std.specs.Option.{option_map}
use Rattle.std.proofs.lemmas.Bool.{or_parts, and_left}
use Rattle.ds_policy.specs.declared.grant.Grant.{Grant}
use Rattle.ds_policy.specs.declared.grant.Entry.{Entry}
use Rattle.ds_policy.specs.declared.grant.EntryPlace.{EntryPlace}
use Rattle.ds_policy.specs.Pages.{Table, entry_at, erased_entry}
use Rattle.ds_policy.specs.Families.{parent_of, is_place, without_entry, without_entries, comes_from, count_entries, descends, forbidden_entry, cut_entry, forbid_entry}
use Rattle.ds_pagemap.specs.Laws.{is_held_by, but_parent}
use Rattle.ds_pagemap.proofs.Entries.{with_handed_parent, with_forbidden, entry_at-set_other, entry_at-erased_entry, entry_at-all_handed_on, entry_at-all_forbidden, entry_at-filter}
use Rattle.ds_pagemap.proofs.Descent.{Above, Within, within_itself, handed_above, within_without_entry}
use Rattle.ds_pagemap.proofs.Ancestors.{count_above}

-- a grant stays but for its parent, and wholly where the parent isn't lost
pub record Stays (lost : Bool) (g : Grant) (o : Option Grant) : Type 0 where
  pub new : Grant
  pub is : o ≡ Some new
  pub but_parent : but_parent (Some new) ≡ but_parent (Some g)
  pub same : lost ≡ false → new ≡ g

abbrev pub stays_same : (lost : Bool) (g : Grant) (o : Option Grant) → o ≡ Some g → Stays lost g o
stays_same lost g o is = record { new = g; is = is; but_parent = refl; same = λ e. refl }

-- and what is above the new parent in the new table was above the old one
pub record Follows (lost : Bool) (t u : Table) (g : Grant) (o : Option Grant) : Type 0 where
  pub stays : Stays lost g o
  pub line : (r c : ℕ) → Above u r c stays.new.parent → Above t r c g.parent

pub follows_same : (lost : Bool) (t u : Table) (g : Grant) (o : Option Grant) → Within u t → o ≡ Some g → Follows lost t u g o
follows_same lost t u g o within is = record { stays = stays_same lost g o is; line = λ r c above. within.up r c g.parent above }

-- one change after another
pub follows_again : (lost one two : Bool) (t u v : Table) (g : Grant) (o x : Option Grant) (first : Follows one t u g o) → Follows two u v first.stays.new x
    → (lost ≡ false → one ≡ false) → (lost ≡ false → first.stays.new ≡ g → two ≡ false) → Follows lost t v g x
follows_again lost one two t u v g o x first next of_one of_two = record {
  stays = record {
    new = next.stays.new;
    is = next.stays.is;
    but_parent = next.stays.but_parent ∙ first.stays.but_parent;
    same = λ e. let before : first.stays.new ≡ g = first.stays.same (of_one e) in next.stays.same (of_two e before) ∙ before;
  };
  line = λ r c above. first.line r c (next.line r c above);
}

-- one that isn't a parent's holder has none of the places that are the parent
pub held_elsewhere : (p a : ℕ) (parent : Option EntryPlace) → is_held_by p parent ≡ false → is_place p a parent ≡ false
held_elsewhere p a None e = refl
held_elsewhere p a (Some place) e = and_left (place.process == p) (place.address == a) e

-- where nothing is above within some steps, the place isn't the parent
place_elsewhere : (t : Table) (p a n : ℕ) (parent : Option EntryPlace) → 0 < n → comes_from t p a n parent ≡ false → is_place p a parent ≡ false
place_elsewhere t p a zero parent l e = absurd (omega arith)
place_elsewhere t p a (suc n) None l e = refl
place_elsewhere t p a (suc n) (Some place) l e = (or_parts (is_place p a (Some place)) (comes_from t p a n (parent_of (entry_at t place.process place.address))) e).0

handed_but_parent : (child : Bool) (g : Grant) (parent : Option EntryPlace) → but_parent (Some (if child then record g { parent = parent } else g)) ≡ but_parent (Some g)
handed_but_parent true g parent = refl
handed_but_parent false g parent = refl

handed_same : (child : Bool) (g : Grant) (parent : Option EntryPlace) → child ≡ false → (if child then record g { parent = parent } else g) ≡ g
handed_same true g parent e = absurd (cc)
handed_same false g parent e = refl

-- Entries of process p are changed, and q has another one at b.
module _ (p q b : ℕ) (p_above : 0 < p) (q_above : 0 < q) (apart : q ≢ p) where
  -- where one is erased and its children are handed on
  entry_at-without : (t : Table) (a : ℕ) → entry_at (without_entry t p a) q b ≡ option_map (with_handed_parent p a (parent_of (entry_at t p a))) (entry_at t q b)
  entry_at-without t a =
      entry_at-all_handed_on (erased_entry t p a) p a (parent_of (entry_at t p a)) q b
      ∙ ap (option_map (with_handed_parent p a (parent_of (entry_at t p a)))) (entry_at-erased_entry t p a q b p_above q_above (λ is. absurd (apart is)))

  pub removed_follows : (t : Table) (a : ℕ) (g : Grant) → entry_at t q b ≡ Some g → Follows (is_place p a g.parent) t (without_entry t p a) g (entry_at (without_entry t p a) q b)
  removed_follows t a g has =
      let parent = parent_of (entry_at t p a) in
      record {
        stays = record {
          new = with_handed_parent p a parent g;
          is = entry_at-without t a ∙ ap (option_map (with_handed_parent p a parent)) has;
          but_parent = handed_but_parent (is_place p a g.parent) g parent;
          same = λ e. handed_same (is_place p a g.parent) g parent e;
        };
        line = λ r c above. handed_above t p a r c g ((within_without_entry t p a).up r c (with_handed_parent p a parent g).parent above);
      }

  pub ended_follows : (es : List Entry) (t : Table) (g : Grant) → entry_at t q b ≡ Some g → Follows (is_held_by p g.parent) t (without_entries t p es) g (entry_at (without_entries t p es) q b)
  ended_follows [] t g has = follows_same (is_held_by p g.parent) t t g (entry_at t q b) (within_itself t) has
  ended_follows (e ∷ rest) t g has =
      let u = without_entry t p e.address in
      let v = without_entries u p rest in
      let first : Follows (is_place p e.address g.parent) t u g (entry_at u q b) = removed_follows t e.address g has in
      follows_again (is_held_by p g.parent) (is_place p e.address g.parent) (is_held_by p first.stays.new.parent) t u v g (entry_at u q b) (entry_at v q b) first
      (ended_follows rest u first.stays.new first.stays.is)
      (held_elsewhere p e.address g.parent) (λ none same. ap (λ h. is_held_by p h.parent) same ∙ none)

  -- what doesn't descend from the entry stays where it is forbidden
  pub forbidden_same : (t : Table) (a : ℕ) (x g : Grant) → comes_from t p a (count_entries t) g.parent ≡ false → entry_at t q b ≡ Some g → entry_at (forbid_entry t p a x) q b ≡ Some g
  forbidden_same t a x g not_below has =
      let all = map (map (forbidden_entry t p a x)) t in
      entry_at-set_other all p q b _ p_above q_above apart
      ∙ (entry_at-all_forbidden t p a x q b ∙ (ap (option_map (with_forbidden t p a x)) has
      ∙ ap (λ below. Some (if below then x else g)) not_below))

  -- and where there is none, none comes
  pub removed_none : (t : Table) (a : ℕ) → entry_at t q b ≡ None → entry_at (without_entry t p a) q b ≡ None
  removed_none t a none = entry_at-without t a ∙ ap (option_map (with_handed_parent p a (parent_of (entry_at t p a)))) none

  pub ended_none : (es : List Entry) (t : Table) → entry_at t q b ≡ None → entry_at (without_entries t p es) q b ≡ None
  ended_none [] t none = none
  ended_none (e ∷ rest) t none = ended_none rest (without_entry t p e.address) (removed_none t e.address none)

  pub forbidden_none : (t : Table) (a : ℕ) (x : Grant) → entry_at t q b ≡ None → entry_at (forbid_entry t p a x) q b ≡ None
  forbidden_none t a x none =
      entry_at-set_other (map (map (forbidden_entry t p a x)) t) p q b _ p_above q_above apart
      ∙ (entry_at-all_forbidden t p a x q b ∙ ap (option_map (with_forbidden t p a x)) none)

-- what doesn't descend from an entry, and is another one, stays where that one is cut
pub cut_same : (t : Table) (p a q b : ℕ) (g : Grant) → 0 < p → 0 < q → (q ≡ p → b ≢ a) → comes_from t p a (count_entries t) g.parent ≡ false → entry_at t q b ≡ Some g → entry_at (cut_entry t p a) q b ≡ Some g
cut_same t p a q b g p_above q_above apart not_below has =
    let left = map (filter (λ e. not (descends t p a e))) t in
    let parent = parent_of (entry_at left p a) in
    entry_at-all_handed_on (erased_entry left p a) p a parent q b
    ∙ (ap (option_map (with_handed_parent p a parent)) (entry_at-erased_entry left p a q b p_above q_above apart ∙ entry_at-filter t p a q b g not_below has)
    ∙ ap Some (handed_same (is_place p a g.parent) g parent (place_elsewhere t p a (count_entries t) g.parent (count_above t q b g has) not_below)))
