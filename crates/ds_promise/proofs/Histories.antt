-- A page over a whole run, and the bytes outside of a store.
use Rattle.std.proofs.Common.{◌≡◌, ◌≢◌, ℕ, suc, ◌+◌, ◌-◌, ◌%◌, ◌<◌, ◌≤◌, Bool, true, false, cond, List, [], ◌∷◌, length, take, drop, Option, Some, None, ◌⊎◌, inl, inr, refl, sym, ap, ◌∙◌, arith, append_assoc}
use Rattle.std.specs.Prelude.{slice_index}
use Rattle.std.proofs.lemmas.Bool.{cases_Bool}
use Rattle.std.proofs.lemmas.List.{get_or-set_other}
use Rattle.std.proofs.lemmas.List.Edits.{sets, sets-eq}
use Rattle.ds_word.specs.Bytes.{bytes_of_word, word_at, with_word}
use Rattle.ds_policy.specs.Grants.{PageState}
use Rattle.ds_pagemap.specs.Machine.{State}
use Rattle.ds_pagemap.specs.Run.{half_turn, goes_on, after}
use Rattle.ds_promise.specs.Stores.{live_page, Stored, StoresThere, StoresAlong, DiesAlong}
use Rattle.ds_promise.proofs.Stores.{one_page, along_only_stores, touched_memory}

gone_now : (n : ℕ) (choices : List Bool) (m : State) (page : ℕ) → live_page (after n choices m).memory.pages page ≡ None → DiesAlong n choices m page
unfolding after
gone_now n [] m page e = e
gone_now n (touch ∷ earlier) m page e = inl e

lives_or_not : (o : Option (List ℕ)) → (o ≡ None) ⊎ ((bytes : List ℕ) × (o ≡ Some bytes))
lives_or_not None = inl refl
lives_or_not (Some bytes) = inr (bytes, refl)

-- a step of a run that is over changes nothing
over_same : (on : Bool) (touch : Bool) (a : State) (page : ℕ) → on ≡ false → live_page (cond on (half_turn touch a) a).memory.pages page ≡ live_page a.memory.pages page
over_same true touch a page e = absurd (true_is_not_false e)
  where
    true_is_not_false : true ≡ false → ⊥
    true_is_not_false e = cc
over_same false touch a page e = refl

step_along : (n : ℕ) (touch : Bool) (earlier : List Bool) (m : State) (page : ℕ) (old new : List ℕ) → live_page (after n earlier m).memory.pages page ≡ Some old → live_page (after n (touch ∷ earlier) m).memory.pages page ≡ Some new
    → (new ≡ old) ⊎ StoresThere n touch earlier m page
unfolding after
step_along n touch earlier m page old new e f =
    let a = after n earlier m in
    elim (cases_Bool (goes_on n a)) [
      | inr over ↦ inl (one_page a.memory.pages page old new e (sym (over_same (goes_on n a) touch a page over) ∙ f))
      | inl on ↦ elim ((along_only_stores n (touch ∷ earlier) m).0 page old new (ap (λ (s : PageState). live_page s.pages page) (touched_memory touch a) ∙ e) f) [
        | inl same ↦ inl same
        | inr stores ↦ inr (record { old = old; new = new; on = on; lives_before = e; lives_after = f; stores = stores })
      ]
    ]

-- a page that lives at both ends of a run is the same, or was stored to on the way, or died
pub page_along : (n : ℕ) (choices : List Bool) (m : State) (page : ℕ) (old new : List ℕ) → live_page m.memory.pages page ≡ Some old → live_page (after n choices m).memory.pages page ≡ Some new
    → (new ≡ old) ⊎ (StoresAlong n choices m page ⊎ DiesAlong n choices m page)
unfolding after
page_along n [] m page old new e f = inl (one_page m.memory.pages page old new e f)
page_along n (touch ∷ earlier) m page old new e f =
    elim (lives_or_not (live_page (after n earlier m).memory.pages page)) [
      | inl gone ↦ inr (inr (inr (gone_now n earlier m page gone)))
      | inr mid ↦ elim (step_along n touch earlier m page mid.0 new mid.1 f) [
        | inr stores ↦ inr (inl (inl stores))
        | inl still ↦ elim (page_along n earlier m page old mid.0 e mid.1) [
          | inl same ↦ inl (still ∙ same)
          | inr before ↦ elim before [
            | inl stores ↦ inr (inl (inr stores))
            | inr dies ↦ inr (inr (inr dies))
          ]
        ]
      ]
    ]

-- The bytes outside of a store.

as_sets : (xs : List ℕ) (place w : ℕ) → place - place % 4 + 4 ≤ length xs → with_word xs place w ≡ sets xs (place - place % 4) (bytes_of_word w)
as_sets xs place w within =
    sym (sets-eq (bytes_of_word w) xs (place - place % 4) within ∙ append_assoc (take (place - place % 4) xs) (bytes_of_word w) (drop (place - place % 4 + 4) xs))

byte_apart : (xs : List ℕ) (p j a b c d : ℕ) → j ≢ p → j ≢ suc p → j ≢ suc (suc p) → j ≢ suc (suc (suc p)) → slice_index (sets xs p (a ∷ b ∷ c ∷ d ∷ [])) j ≡ slice_index xs j
byte_apart xs p j a b c d e f g h =
    get_or-set_other _ (suc (suc (suc p))) j d 0 h ∙ (get_or-set_other _ (suc (suc p)) j c 0 g ∙ (get_or-set_other _ (suc p) j b 0 f ∙ get_or-set_other xs p j a 0 e))

out_of_word : (xs : List ℕ) (p j a b c d : ℕ) → (j < p) ⊎ (p + 4 ≤ j) → slice_index (sets xs p (a ∷ b ∷ c ∷ d ∷ [])) j ≡ slice_index xs j
out_of_word xs p j a b c d (inl below) = byte_apart xs p j a b c d (λ (e : ◌≡◌ {A = ℕ} j p). omega (arith, below, e)) (λ (e : ◌≡◌ {A = ℕ} j (suc p)). omega (arith, below, e)) (λ (e : ◌≡◌ {A = ℕ} j (suc (suc p))). omega (arith, below, e)) (λ (e : ◌≡◌ {A = ℕ} j (suc (suc (suc p)))). omega (arith, below, e))
out_of_word xs p j a b c d (inr above) = byte_apart xs p j a b c d (λ (e : ◌≡◌ {A = ℕ} j p). omega (arith, above, e)) (λ (e : ◌≡◌ {A = ℕ} j (suc p)). omega (arith, above, e)) (λ (e : ◌≡◌ {A = ℕ} j (suc (suc p))). omega (arith, above, e)) (λ (e : ◌≡◌ {A = ℕ} j (suc (suc (suc p)))). omega (arith, above, e))

-- a store leaves each byte outside of its word
pub bytes_outside : (m : State) (p pc page : ℕ) (old new : List ℕ) → (s : Stored m p pc page old new) → length old ≡ 4096 → (j : ℕ) → (j < s.address % 4096 - s.address % 4096 % 4) ⊎ (s.address % 4096 - s.address % 4096 % 4 + 4 ≤ j) → slice_index new j ≡ slice_index old j
bytes_outside m p pc page old new s size j apart =
    let place : ℕ = s.address % 4096 in
    ap (λ (bs : List ℕ). slice_index bs j) (s.word ∙ as_sets old place (s.value (word_at old place)) (fits place size (small s.address)))
    ∙ out_of_word old (place - place % 4) j _ _ _ _ apart
  where
    small : (a : ℕ) → a % 4096 < 4096
    small a = omega arith

    fits : (place : ℕ) → length old ≡ 4096 → place < 4096 → place - place % 4 + 4 ≤ length old
    fits place e below = omega (arith, e, below)
