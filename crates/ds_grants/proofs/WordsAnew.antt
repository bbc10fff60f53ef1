-- Page-table words that are written anew, one after the other.
use Rattle.std.proofs.Common.{◌≡◌, ℕ, suc, ◌+◌, ◌-◌, ◌*◌, ◌/◌, ◌%◌, ◌^◌, ◌<◌, ◌≤◌, ◌==◌, Bool, true, false, cond, List, [], ◌∷◌, length, Option, Some, None, refl, sym, ap, ap₂, subst, ◌∙◌, arith, inl, inr}
use Rattle.std.specs.List.{All}
use Rattle.std.specs.Prelude.{◌&&◌, ◌||◌, is_some, nat_lt}
use Rattle.std.proofs.lemmas.Bool.{cases_Bool}
use Rattle.std.proofs.lemmas.Bool.Decides.{nat_tests}
use Rattle.ds_word.specs.Bytes as bytes
use Rattle.ds_word.proofs.Bytes.{length-with_word, long-with_word}
use Rattle.ds_mem.proofs.Words.{frame_of-with_word_apart}
use Rattle.ds_tables.specs.Places.{Places, ArePlaces, region_of, region_place, page_of_table, frame_of_place, table_frame}
use Rattle.ds_tables.specs.Inner.Places.{free_place, has_place, opened}
use Rattle.ds_tables.specs.Tables.{HasEmptyTable, entry_word, table_word_place}
use Rattle.ds_tables.specs.Inner.Tables.{with_entry, with_entry_word}
use Rattle.ds_tables.proofs.PlaceLemmas.{is_place}
use Rattle.ds_tables.proofs.Map.{put_words, opened_old, table_old, put_entry_there}
use Rattle.ds_grants.specs.Inner.Represented.{IsLow}
use Rattle.ds_grants.specs.Inner.Rewords.{with_word}

-- the word of each page of each process
abbrev pub Words : Type 0
Words = ℕ → ℕ → ℕ

-- a process and an address of it
pub record Key : Type 0 where
  pub process : ℕ
  pub address : ℕ

-- one of the keys is of this page of the process
abbrev pub is_hit : ℕ → ℕ → List Key → Bool
is_hit q vpn [] = false
is_hit q vpn (key ∷ rest) = ((q == key.process) && (vpn == key.address / 2 ^ 12)) || is_hit q vpn rest

-- memory once the words of the keys are written
abbrev pub reworded : List ℕ → Places → Words → List Key → List ℕ
reworded memory t new [] = memory
reworded memory t new (key ∷ rest) = reworded (with_word memory t key.process key.address (new key.process (key.address / 2 ^ 12))) t new rest

-- a page's address of a process whose region has a table
pub record IsKey (t : Places) (new : Words) (key : Key) : Type 0 where
  pub live : 0 < key.process
  pub page : key.address % 2 ^ 12 ≡ 0
  pub user : key.address < 2 ^ 31
  pub table : is_some (region_place t key.process (region_of key.address)) ≡ true
  pub small : new key.process (key.address / 2 ^ 12) < 2 ^ 32

pub first_of : {A : Type 0} (P : A → Type 0) (x : A) (xs : List A) → All P (x ∷ xs) → P x
first_of P x xs all = all 0 x (omega arith)

pub rest_of : {A : Type 0} (P : A → Type 0) (x : A) (xs : List A) → All P (x ∷ xs) → All P xs
rest_of P x xs all = λ i d within. all (suc i) d (omega (arith, within))

pub same_number : (a b : ℕ) → (a == b) ≡ true → a ≡ b
same_number a b e = grind (arith, nat_tests)

pub both_true : (x y : Bool) → (x && y) ≡ true → (x ≡ true) × (y ≡ true)
both_true true y e = (refl, e)
both_true false y e = absurd cc

pub some_is : (o : Option ℕ) → is_some o ≡ true → (k : ℕ) × (o ≡ Some k)
some_is None e = absurd cc
some_is (Some k) e = (k, refl)

page_of : (vpn : ℕ) → vpn * 2 ^ 12 / 2 ^ 12 ≡ vpn
page_of vpn = omega arith

-- Where a region has a table, and where it has none.

above : (p i : ℕ) → nat_lt 1 (table_frame p i) ≡ true
above p i = grind (arith, nat_tests)

-- what a table's word changes is in a frame of tables
low_written : (memory : List ℕ) (frame a w : ℕ) → 2 ≤ frame → frame < 402 → 2 ^ 23 ≤ length memory → IsLow memory (bytes.with_word memory (table_word_place frame a) w)
low_written memory frame a w least most long =
    let x : ℕ = table_word_place frame a in
    let inside : x - x % 4 + 4 ≤ length memory = omega (arith, most, long) in
    (length-with_word memory x w inside, λ f apart. frame_of-with_word_apart memory x w f inside (elim apart [ inl low ↦ inl (omega (arith, low, least)) | inr high ↦ inr (omega (arith, high, most)) ]))

-- the same of a word that was put there
pub low_put_word : (memory new : List ℕ) (frame a w : ℕ) → 1 < frame → frame < 402 → new ≡ bytes.with_word memory (table_word_place frame a) w → length new ≡ 2 ^ 23 → IsLow memory new
low_put_word memory new frame a w least most is size =
    let x : ℕ = table_word_place frame a in
    let long = long-with_word memory x (2 ^ 23) w (omega (arith, most)) (subst (λ (n : ℕ). 2 ^ 23 ≤ n) (ap length is) (omega (arith, size))) in
    subst (IsLow memory) (sym is) (low_written memory frame a w (omega (arith, least)) most long)

low_by : (memory : List ℕ) (t : Places) (p a w : ℕ) (o : Option ℕ) → ArePlaces t → 2 ^ 23 ≤ length memory → region_place t p (region_of a) ≡ o → IsLow memory (cond (nat_lt 1 (frame_of_place p o)) (bytes.with_word memory (table_word_place (frame_of_place p o) a) w) memory)
low_by memory t p a w None are long at = (refl, λ f apart. refl)
low_by memory t p a w (Some i) are long at =
    let here = is_place t p (region_of a) i are at in
    let low = here.low in let few = here.few in let within = here.within in
    subst (λ (b : Bool). IsLow memory (cond b (bytes.with_word memory (table_word_place (table_frame p i) a) w) memory)) (sym (above p i))
    (low_written memory (table_frame p i) a w (omega arith) (omega (arith, few, within)) long)

pub low_word : (memory : List ℕ) (t : Places) (p a w : ℕ) → ArePlaces t → 2 ^ 23 ≤ length memory → IsLow memory (with_word memory t p a w)
low_word memory t p a w are long = low_by memory t p a w (region_place t p (region_of a)) are long refl

-- one word is written
module _ (memory : List ℕ) (t : Places) (new : Words) (key : Key) (are : ArePlaces t) (size : 2 ^ 23 ≤ length memory) (empty : HasEmptyTable memory) (k : IsKey t new key) where
  abbrev w : ℕ
  w = new key.process (key.address / 2 ^ 12)

  abbrev after : List ℕ
  after = with_word memory t key.process key.address w

  stands : (i : ℕ) × (region_place t key.process (region_of key.address) ≡ Some i)
  stands = some_is (region_place t key.process (region_of key.address)) k.table

  room : has_place t key.process (region_of key.address) ≡ true
  room = ap (λ (b : Bool). b || is_some (free_place t key.process)) k.table

  same_places : opened t key.process (region_of key.address) ≡ t
  same_places = opened_old t key.process (region_of key.address) stands.0 stands.1

  has_table : nat_lt 1 (page_of_table t key.process (region_of key.address)) ≡ true
  has_table = ap (λ (o : Option ℕ). nat_lt 1 (frame_of_place key.process o)) stands.1 ∙ above key.process stands.0

  is_entry : with_entry memory t key.process key.address w ≡ after
  is_entry =
      put_entry_there memory t key.process key.address w room
      ∙ (ap₂ (λ (m : List ℕ) (u : Places). with_entry_word m u key.process key.address w) (table_old memory t key.process (region_of key.address) stands.0 stands.1) same_places
      ∙ ap (λ (b : Bool). cond b (with_entry_word memory t key.process key.address w) memory) (sym has_table))

  pub one_written : (q vpn : ℕ) → entry_word after t q (vpn * 2 ^ 12) ≡ cond ((q == key.process) && (vpn == key.address / 2 ^ 12)) (new q vpn) (entry_word memory t q (vpn * 2 ^ 12))
  one_written q vpn =
      ap₂ (λ (m : List ℕ) (u : Places). entry_word m u q (vpn * 2 ^ 12)) (sym is_entry) (sym same_places)
      ∙ (put_words memory t key.process key.address w q (vpn * 2 ^ 12) are size k.small room empty
      ∙ (ap (λ (n : ℕ). cond ((q == key.process) && (n == key.address / 2 ^ 12)) w (entry_word memory t q (vpn * 2 ^ 12))) (page_of vpn)
      ∙ elim (cases_Bool ((q == key.process) && (vpn == key.address / 2 ^ 12))) [
        | inl hit ↦
            let both = both_true (q == key.process) (vpn == key.address / 2 ^ 12) hit in
            rw hit (ap₂ (λ (x y : ℕ). new x y) (sym (same_number q key.process both.0)) (sym (same_number vpn (key.address / 2 ^ 12) both.1)))
        | inr miss ↦ rw miss refl
      ]))

  low_here : IsLow memory after
  low_here = low_word memory t key.process key.address w are size

  pub still_long : 2 ^ 23 ≤ length after
  still_long = subst (λ (n : ℕ). 2 ^ 23 ≤ n) (sym low_here.0) size

  pub still_empty : HasEmptyTable after
  still_empty = low_here.1 1 (inl (omega arith)) ∙ empty

-- a word that is hit is the new one, and others are as before
written_by : (memory : List ℕ) (t : Places) (new : Words) (keys : List Key) → ArePlaces t → 2 ^ 23 ≤ length memory → HasEmptyTable memory → All (IsKey t new) keys → (q vpn : ℕ) → entry_word (reworded memory t new keys) t q (vpn * 2 ^ 12) ≡ cond (is_hit q vpn keys) (new q vpn) (entry_word memory t q (vpn * 2 ^ 12))
written_by memory t new [] are size empty all q vpn = refl
written_by memory t new (key ∷ keys) are size empty all q vpn =
    let k : IsKey t new key = first_of (IsKey t new) key keys all in
    written_by (with_word memory t key.process key.address (new key.process (key.address / 2 ^ 12))) t new keys are (still_long memory t new key are size empty k) (still_empty memory t new key are size empty k) (rest_of (IsKey t new) key keys all) q vpn
    ∙ (ap (λ (n : ℕ). cond (is_hit q vpn keys) (new q vpn) n) (one_written memory t new key are size empty k q vpn)
    ∙ joined ((q == key.process) && (vpn == key.address / 2 ^ 12)) (is_hit q vpn keys) (new q vpn) (entry_word memory t q (vpn * 2 ^ 12)))
  where
    joined : (a b : Bool) (x y : ℕ) → cond b x (cond a x y) ≡ cond (a || b) x y
    joined true true x y = refl
    joined true false x y = refl
    joined false true x y = refl
    joined false false x y = refl

-- where two words of a page differ only if one of the keys is of it, memory has the new ones
pub words_written : (memory : List ℕ) (t : Places) (old new : Words) (keys : List Key) → ArePlaces t → 2 ^ 23 ≤ length memory → HasEmptyTable memory → All (IsKey t new) keys
    → ((p vpn : ℕ) → 0 < p → vpn < 2 ^ 19 → entry_word memory t p (vpn * 2 ^ 12) ≡ old p vpn)
    → ((p vpn : ℕ) → 0 < p → is_hit p vpn keys ≡ false → new p vpn ≡ old p vpn)
    → (p vpn : ℕ) → 0 < p → vpn < 2 ^ 19 → entry_word (reworded memory t new keys) t p (vpn * 2 ^ 12) ≡ new p vpn
words_written memory t old new keys are size empty all has apart = λ p vpn live user. written_by memory t new keys are size empty all p vpn ∙ elim (cases_Bool (is_hit p vpn keys)) [
  | inl hit ↦ rw hit refl
  | inr miss ↦ rw miss (has p vpn live user ∙ sym (apart p vpn live miss))
]
