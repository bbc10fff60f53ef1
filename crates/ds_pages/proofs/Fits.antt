-- What is known of places, when one of them changes.
use Rattle.std.proofs.Common.{◌≡◌, ◌≢◌, ℕ, ◌+◌, ◌/◌, ◌<◌, ◌≤◌, inl, inr, true, refl, arith, ap, ◌∙◌, sym, subst}
use Rattle.std.proofs.lemmas.Bool.{cases_eq}
use Rattle.ds_pages.specs.declared.does.Does.{Does}
use Rattle.ds_pages.specs.declared.places.Places.{Places}
use Rattle.ds_pages.specs.declared.turn.Stride.{Stride}
use Rattle.ds_pages.specs.Inner.Does.{steps, is_known, is_branch, has_slot}
use Rattle.ds_pages.specs.Inner.Turn.{first_of, second_of}
use Rattle.ds_pages.specs.Inner.Places.{Fields, does_at, turn_at, fields_at, length_at, target_at, done_by, done_at, offset_of, known_at, FitsAt, SameAt}
use Rattle.ds_pages.proofs.Done.{steps_short}

-- what is to be done follows from the operations
pub same_done : (p q : Places) (i : ℕ) → fields_at q i ≡ fields_at p i → fields_at q (i + 1) ≡ fields_at p (i + 1) → done_at q i ≡ done_at p i
same_done p q i here next = ap (λ (f : Fields). done_by i f (fields_at q (i + 1))) here ∙ ap (λ (f : Fields). done_by i (fields_at p i) f) next

-- what a turn does at the next place, where neither has changed
second_as : (t u : Stride) (d e : Does) → u ≡ t → e ≡ d → second_of t d ≡ d → second_of u e ≡ e
second_as t u d e turn next second = ap (λ (x : Stride). second_of x e) turn ∙ (ap (λ (x : Does). second_of t x) next ∙ (second ∙ sym next))

-- a place fits still where neither it nor the next has changed but in what is done there
pub still_fits : (p q : Places) (i : ℕ) → FitsAt p i → fields_at q i ≡ fields_at p i → fields_at q (i + 1) ≡ fields_at p (i + 1) →
    SameAt p q i → length_at q (i + 1) ≡ length_at p (i + 1) → does_at q (i + 1) ≡ does_at p (i + 1) → FitsAt q i
still_fits p q i fits here next same length after = record {
  done = λ known. same.done ∙ (fits.done (sym (ap is_known same.done) ∙ known) ∙ sym (same_done p q i here next));
  length = rw (same.length, same.done, length) fits.length;
  short = rw same.length fits.short;
  target = λ b. same.target ∙ (fits.target (sym (ap is_branch same.done) ∙ b) ∙ ap (λ (f : Fields). offset_of i f.immediate / 4) (sym here));
  first = ap first_of same.turn ∙ (fits.first ∙ sym same.done);
  second = second_as (turn_at p i) (turn_at q i) (does_at p (i + 1)) (does_at q (i + 1)) same.turn after fits.second;
}

-- a place fits where what follows from its operations was written there
pub fits_after : (p q : Places) (i t : ℕ) (d : Does) → i < 1024 → FitsAt p (i + 1) →
    fields_at q i ≡ fields_at p i → fields_at q (i + 1) ≡ fields_at p (i + 1) → SameAt p q (i + 1) →
    (is_known d ≡ true → d ≡ done_at p i) → (has_slot d ≡ true → i < 1023) → (is_branch d ≡ true → t ≡ offset_of i (fields_at p i).immediate / 4) →
    does_at q i ≡ d → length_at q i ≡ steps d (length_at p (i + 1)) → target_at q i ≡ t →
    first_of (turn_at q i) ≡ d → second_of (turn_at q i) (does_at p (i + 1)) ≡ does_at p (i + 1) → FitsAt q i
fits_after p q i t d inside after here next same is slot leads done length target first second = record {
  done = λ known. done ∙ (is (sym (ap is_known done) ∙ known) ∙ sym (same_done p q i here next));
  length = rw (length, done, same.length) refl;
  short = rw length (steps_short d (length_at p (i + 1)) i after.short inside slot);
  target = λ b. target ∙ (leads (sym (ap is_branch done) ∙ b) ∙ ap (λ (f : Fields). offset_of i f.immediate / 4) (sym here));
  first = first ∙ sym done;
  second = second_as (turn_at q i) (turn_at q i) (does_at p (i + 1)) (does_at q (i + 1)) refl same.done second;
}

-- after an operation was put at a place, all fit but this and the one before it
pub rest_fits : (p q : Places) (at : ℕ) → ((k : ℕ) → k ≤ 1024 → FitsAt p k) →
    ((k : ℕ) → k ≢ at → fields_at q k ≡ fields_at p k) → ((k : ℕ) → k ≢ at → SameAt p q k) →
    (k : ℕ) → k ≤ 1024 → k ≢ at → k + 1 ≢ at → FitsAt q k
rest_fits p q at before fields others k inside other apart =
    still_fits p q k (before k inside) (fields k other) (fields (k + 1) apart) (others k other) (others (k + 1) apart).length (others (k + 1) apart).done

-- after what follows from its operation was written, this fits too
pub others_fit : (p q : Places) (at : ℕ) → ((k : ℕ) → k ≤ 1024 → k ≢ at → k + 1 ≢ at → FitsAt p k) →
    ((k : ℕ) → fields_at q k ≡ fields_at p k) → ((k : ℕ) → k ≢ at → SameAt p q k) → FitsAt q at →
    (k : ℕ) → k ≤ 1024 → k + 1 ≢ at → FitsAt q k
others_fit p q at before fields others here k inside apart = elim (cases_eq k at) [
  | inl same ↦ subst (λ (n : ℕ). FitsAt q n) (sym same) here
  | inr other ↦ still_fits p q k (before k inside other apart) (fields k) (fields (k + 1)) (others k other) (others (k + 1) apart).length (others (k + 1) apart).done
]

-- and the one before it, where the length is as it was
pub all_fit : (p q : Places) (at : ℕ) → ((k : ℕ) → k ≤ 1024 → k ≢ at → FitsAt p k) →
    ((k : ℕ) → fields_at q k ≡ fields_at p k) → ((k : ℕ) → k ≢ at → SameAt p q k) → FitsAt q at → length_at q at ≡ length_at p at → does_at q at ≡ does_at p at →
    (k : ℕ) → k ≤ 1024 → FitsAt q k
all_fit p q at before fields others here length done k inside = elim (cases_eq (k + 1) at) [
  | inl same ↦ still_fits p q k (before k inside (λ e. omega arith)) (fields k) (fields (k + 1)) (others k (λ e. omega arith)) (subst (λ (n : ℕ). length_at q n ≡ length_at p n) (sym same) length) (subst (λ (n : ℕ). does_at q n ≡ does_at p n) (sym same) done)
  | inr apart ↦ others_fit p q at (λ n small other far. before n small other) fields others here k inside apart
]

-- the same places are known after one was written
pub known_after : (p q : Places) (at k : ℕ) → ((k : ℕ) → k ≢ at → SameAt p q k) → known_at q at ≡ known_at p at → known_at q k ≡ known_at p k
known_after p q at k others here = elim (cases_eq k at) [
  | inl same ↦ subst (λ (n : ℕ). known_at q n ≡ known_at p n) (sym same) here
  | inr other ↦ ap is_known (others k other).done
]
