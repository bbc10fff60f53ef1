-- Whose the entries of a family are, worked out: each row is a theorem about the definitions alone.
use Rattle.std.proofs.Common.{◌≡◌, ℕ, ◌==◌, ◌&&◌, ◌||◌, true, false, Option, Some, None, is_some, refl, sym, ap, ◌∙◌, inl, inr, arith, eqb-true}
use Rattle.std.proofs.lemmas.Bool.{true≢false, and_parts, or_cases, false_from_ne_true}
use Rattle.ds_policy.specs.declared.grant.Grant.{Grant}
use Rattle.ds_policy.specs.Pages.{entry_at}
use Rattle.ds_pagemap.specs.Laws.{KeepsAllButParent, IsOfOthers}
use Rattle.ds_pagemap.specs.Rows.LawRows.{entry_of, shared, family, third, fourth}

pub its_giver_gave_it : IsOfOthers family 2 third → ⊥
its_giver_gave_it of = of.itself refl

pub who_gave_its_parent_gave_of_it : IsOfOthers family 1 third → ⊥
who_gave_its_parent_gave_of_it of = true≢false (of.above 2 0x00410000 (shared 1 (Some (entry_of 1))) (omega arith) refl refl)

pub who_gave_what_is_further_above_gave_of_it : IsOfOthers family 1 fourth → ⊥
who_gave_what_is_further_above_gave_of_it of = true≢false (of.above 2 0x00410000 (shared 1 (Some (entry_of 1))) (omega arith) refl refl)

-- the grant at a place of the family
at_place : (p holder address : ℕ) (x g : Grant) → entry_at family p 0x00410000 ≡ Some x → (p == holder && 0x00410000 == address) ≡ true → entry_at family holder address ≡ Some g → g.giver ≡ x.giver
at_place p holder address x g there is has =
    let parts = and_parts (p == holder) (0x00410000 == address) is in
    let same : Some x ≡ Some g = sym there ∙ (ap (λ n. entry_at family n 0x00410000) (eqb-true p holder parts.0) ∙ (ap (λ n. entry_at family holder n) (eqb-true 0x00410000 address parts.1) ∙ has)) in
    let one : x ≡ g = cc in
    ap (λ (g : Grant). g.giver) (sym one)

-- nothing above what process 3 has was given by it
none_above : (holder address : ℕ) (g : Grant) → entry_at family holder address ≡ Some g → g.giver ≡ 3 → (2 == holder && 0x00410000 == address || (1 == holder && 0x00410000 == address || false)) ≡ true → ⊥
none_above holder address g has gave is = elim (or_cases (2 == holder && 0x00410000 == address) (1 == holder && 0x00410000 == address || false) is) [
  | inl parent ↦ one_is_not_three (sym (at_place 2 holder address (shared 1 (Some (entry_of 1))) g refl parent has) ∙ gave)
  | inr further ↦ elim (or_cases (1 == holder && 0x00410000 == address) false further) [
    | inl first ↦ none_is_not_three (sym (at_place 1 holder address (shared 0 None) g refl first has) ∙ gave)
    | inr none ↦ true≢false (sym none)
  ]
]
  where
    one_is_not_three : ◌≡◌ {A = ℕ} 1 3 → ⊥
    one_is_not_three e = omega (arith, e)

    none_is_not_three : ◌≡◌ {A = ℕ} 0 3 → ⊥
    none_is_not_three e = omega (arith, e)

pub who_gave_nothing_above_it_gave_nothing_of_it : IsOfOthers family 3 third
who_gave_nothing_above_it_gave_nothing_of_it = record {
  itself = λ e. omega (arith, e);
  above = λ holder address g above has gave. false_from_ne_true (2 == holder && 0x00410000 == address || (1 == holder && 0x00410000 == address || false)) (none_above holder address g has gave);
}

-- a field of a grant, or what stands for it where there is none
field : {X : Type 0} → (Grant → X) → X → Option Grant → X
field f d None = d
field f d (Some g) = f g

pub all_but_the_parent_stays : (g h : Grant) → KeepsAllButParent (Some g) (Some h)
    → (h.right ≡ g.right) × (h.page ≡ g.page) × (h.rule ≡ g.rule) × (h.give ≡ g.give) × (h.giver ≡ g.giver)
unfolding field
all_but_the_parent_stays g h e = (
  ap (field (λ g. g.right) g.right) e,
  ap (field (λ g. g.page) g.page) e,
  ap (field (λ g. g.rule) g.rule) e,
  ap (field (λ g. g.give) g.give) e,
  ap (field (λ g. g.giver) g.giver) e,
)

pub it_does_not_go : (g : Grant) → KeepsAllButParent (Some g) None → ⊥
it_does_not_go g e = true≢false (sym (ap is_some e))
