-- Bytes of memory, one after another.
use Rattle.std.proofs.Common.{◌≡◌, ℕ, suc, ◌+◌, ◌-◌, ◌<◌, ◌≤◌, List, [], ◌∷◌, ◌++◌, Option, Some, None, append_assoc, refl, sym, ap, ◌∙◌, arith}
use Rattle.std.proofs.lemmas.List.{append-nil}
use Rattle.ds_word.specs.Word.{word}
use Rattle.ds_bare.specs.Machine.{Machine}
use Rattle.ds_bare.specs.Sights.{byte_seen}
use Rattle.ds_bare_debug.specs.Looks.{before_others, bytes_seen}

one_left : (count i : ℕ) → i < count → count - i ≡ suc (count - (i + 1))
one_left count i within = omega (arith, within)

module _ (m : Machine) where
  bytes_step : (a n : ℕ) → before_others (byte_seen m a) (bytes_seen m (word (a + 1)) n) ≡ bytes_seen m a (suc n)
  unfolding bytes_seen
  bytes_step a n = refl

  bytes_none : (a : ℕ) → [] ≡ bytes_seen m a 0
  unfolding bytes_seen
  bytes_none a = refl

  -- what is left begins with the next
  left_first : (a i count : ℕ) (o : Option ℕ) → i < count → o ≡ byte_seen m a → bytes_seen m a (count - i) ≡ before_others o (bytes_seen m (word (a + 1)) (count - (i + 1)))
  left_first a i count o within is =
      let left : ℕ = count - (i + 1) in
      ap (bytes_seen m a) (one_left count i within) ∙ (sym (bytes_step a left) ∙ ap (λ (x : Option ℕ). before_others x (bytes_seen m (word (a + 1)) left)) (sym is))

  -- with one more taken
  pub bytes_more : (a next i count b : ℕ) (before all : List ℕ) → i < count → Some b ≡ byte_seen m a → next ≡ word (a + 1) → before ++ bytes_seen m a (count - i) ≡ all
      → (before ++ b ∷ []) ++ bytes_seen m next (count - (i + 1)) ≡ all
  bytes_more a next i count b before all within is on left =
      ap (λ (x : ℕ). (before ++ b ∷ []) ++ bytes_seen m x (count - (i + 1))) on
      ∙ (append_assoc before (b ∷ []) (bytes_seen m (word (a + 1)) (count - (i + 1)))
      ∙ (ap (λ (x : List ℕ). before ++ x) (sym (left_first a i count (Some b) within is)) ∙ left))

  -- or none is there
  pub bytes_stop : (a i count : ℕ) (before all : List ℕ) → i < count → None ≡ byte_seen m a → before ++ bytes_seen m a (count - i) ≡ all → before ≡ all
  bytes_stop a i count before all within is left =
      sym (append-nil before) ∙ (ap (λ (x : List ℕ). before ++ x) (sym (left_first a i count None within is)) ∙ left)

  -- or none is left
  pub bytes_end : (a i count : ℕ) (before all : List ℕ) → count ≤ i → before ++ bytes_seen m a (count - i) ≡ all → before ≡ all
  bytes_end a i count before all past left =
      let none : 0 ≡ count - i = omega (arith, past) in
      sym (append-nil before) ∙ (ap (λ (x : List ℕ). before ++ x) (bytes_none a) ∙ (ap (λ (n : ℕ). before ++ bytes_seen m a n) none ∙ left))
