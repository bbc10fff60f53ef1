-- Pages that are whole and pages that are not, and one word that differs: rows about the definitions alone.
use Rattle.std.proofs.Common.{◌≡◌, ◌⊎◌, ℕ, zero, suc, ◌+◌, ◌<◌, ◌≤◌, inl, inr, refl, sym, subst, arith, true, false, List, [], ◌∷◌, Option, Some, None}
use Rattle.std.specs.Prelude.{replicate, slice_index}
use Rattle.ds_isa.specs.declared.instr.Kind.TheVariants.{Load, Store}
use Rattle.ds_policy.specs.declared.grant.Right.TheVariants.{Read}
use Rattle.ds_policy.specs.declared.grant.Grant.{Grant}
use Rattle.ds_policy.specs.Grants.{PageState}
use Rattle.ds_promise.specs.Stores.{live_page, lets, Holds}
use Rattle.ds_promise.specs.Whole.{ArePagesWhole, OneWordDiffers}

-- One word.

abbrev eight : List ℕ
eight = 1 ∷ 2 ∷ 3 ∷ 4 ∷ 5 ∷ 6 ∷ 7 ∷ 8 ∷ []

pub the_first_word_may_differ : OneWordDiffers eight (9 ∷ 9 ∷ 9 ∷ 9 ∷ 5 ∷ 6 ∷ 7 ∷ 8 ∷ [])
the_first_word_may_differ = record { place = 0; within = omega arith; aligned = refl; size = refl; others = beyond }
  where
    beyond : (j : ℕ) → (j < 0) ⊎ (4 ≤ j) → slice_index (9 ∷ 9 ∷ 9 ∷ 9 ∷ 5 ∷ 6 ∷ 7 ∷ 8 ∷ []) j ≡ slice_index eight j
    beyond zero (inl h) = absurd (omega (arith, h))
    beyond zero (inr h) = absurd (omega (arith, h))
    beyond (suc zero) (inl h) = absurd (omega (arith, h))
    beyond (suc zero) (inr h) = absurd (omega (arith, h))
    beyond (suc (suc zero)) (inl h) = absurd (omega (arith, h))
    beyond (suc (suc zero)) (inr h) = absurd (omega (arith, h))
    beyond (suc (suc (suc zero))) (inl h) = absurd (omega (arith, h))
    beyond (suc (suc (suc zero))) (inr h) = absurd (omega (arith, h))
    beyond (suc (suc (suc (suc j)))) h = refl

nine_is_not_one : ◌≡◌ {A = ℕ} 9 1 → ⊥
nine_is_not_one e = cc

nine_is_not_eight : ◌≡◌ {A = ℕ} 9 8 → ⊥
nine_is_not_eight e = cc

pub two_words_that_differ_are_refused : OneWordDiffers eight (9 ∷ 2 ∷ 3 ∷ 4 ∷ 5 ∷ 6 ∷ 7 ∷ 9 ∷ []) → ⊥
two_words_that_differ_are_refused d = by d.place d.others
  where
    by : (place : ℕ) → ((j : ℕ) → (j < place) ⊎ (place + 4 ≤ j) → slice_index (9 ∷ 2 ∷ 3 ∷ 4 ∷ 5 ∷ 6 ∷ 7 ∷ 9 ∷ []) j ≡ slice_index eight j) → ⊥
    by zero others = nine_is_not_eight (others 7 (inr (omega arith)))
    by (suc place) others = nine_is_not_one (others 0 (inl (omega arith)))

-- Pages.

-- the grant of page 0, for reading
abbrev of_page_0 : Grant
of_page_0 = record { right = Read; page = Some 0; rule = 1; give = false; giver = 0; parent = None; until = None }

-- one page, which process 1 may read at address 0
abbrev one_page : Option (List ℕ) → PageState
one_page page = record { pages = page ∷ []; table = (record { address = 0; grant = of_page_0 } ∷ []) ∷ []; named = 0 }

pub a_short_page_is_refused : ArePagesWhole (one_page (Some (replicate 4095 0))) → ⊥
a_short_page_is_refused k = other (k.sizes 0 (replicate 4095 0) refl)
  where
    other : ◌≡◌ {A = ℕ} 4095 4096 → ⊥
    other e = omega (arith, e)

pub a_grant_of_a_dead_page_is_refused : ArePagesWhole (one_page None) → ⊥
a_grant_of_a_dead_page_is_refused k =
    let l = k.granted 1 0 of_page_0 refl refl in
    none (subst (λ (page : ℕ). live_page (None ∷ []) page ≡ Some l.lives.0) (sym (first_page l.page l.names)) l.lives.1)
  where
    first_page : (page : ℕ) → ◌≡◌ {A = Option ℕ} (Some 0) (Some page) → 0 ≡ page
    first_page page e = cc

    none : {bytes : List ℕ} → ◌≡◌ {A = Option (List ℕ)} None (Some bytes) → ⊥
    none e = cc

-- Leave.

pub a_reader_may_load : Holds (one_page None).table 1 Load 0x00000004 0
a_reader_may_load = record { grant = of_page_0; held = refl; right = refl; names = refl }

pub a_reader_may_not_store : Holds (one_page None).table 1 Store 0x00000004 0 → ⊥
a_reader_may_not_store h = denied (subst (λ (g : Grant). lets g.right Store ≡ true) (one of_page_0 h.grant h.held) h.right)
  where
    one : (g o : Grant) → ◌≡◌ {A = Option Grant} (Some g) (Some o) → o ≡ g
    one g o e = cc

    denied : false ≡ true → ⊥
    denied e = cc
