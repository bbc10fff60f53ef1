-- Page tables are a map: a word that is put is read, and all others are as before, also where a region's table is new or goes.
use Rattle.std.proofs.Common.{◌≡◌, ◌≢◌, ◌⊎◌, ℕ, ◌+◌, ◌-◌, ◌*◌, ◌/◌, ◌%◌, ◌^◌, ◌<◌, ◌≤◌, Bool, true, false, cond, List, length, replicate, refl, sym, ap, ap₂, subst, ◌∙◌, arith, inl, inr}
use Rattle.std.specs.Prelude.{Some, None, Option, nat_lt, ◌==◌, ◌&&◌, ◌||◌, is_some}
use Rattle.std.proofs.lemmas.Bool.{cases_Bool}
use Rattle.std.proofs.lemmas.Bool.Decides.{nat_tests}
use Rattle.ds_word.specs.Bytes.{word_at, with_word}
use Rattle.ds_mem.specs.Memory.{frame_of, with_frame, zeros}
use Rattle.ds_mem.proofs.Frames.{frame_of-with_frame, frame_of-with_frame_apart}
use Rattle.ds_mem.proofs.Zeros.{length-zeros}
use Rattle.ds_word.proofs.Bytes.{word_at-with_word, word_at-with_word_apart, long-with_word}
use Rattle.ds_mem.proofs.Words.{word_at-zero_frame, word_at-same_frame, frame_of-with_word_apart, length-with_frame, long-with_frame}
use Rattle.ds_tables.specs.Places.{Places, ArePlaces, region_of, region_place, frame_of_place, table_frame, page_of_table}
use Rattle.ds_tables.specs.Inner.Places.{free_place, has_place, with_place, opened_by, opened, closed}
use Rattle.ds_tables.specs.Tables.{table_word_place, entry_word, HasEmptyTable}
use Rattle.ds_tables.specs.Inner.Tables.{with_table_by, with_table, with_entry_word, with_entry, word_once_put, word_once_closed}
use Rattle.ds_tables.proofs.PlaceLemmas.{IsPlace, is_place, IsFree, is_free_place, one_region, unused_frame, region_place-new, region_place-other, placed, page_of_table-none, region_place-closed, region_place-kept}

-- A word in a table that stands.

table_small : (t : Places) (p r i : ℕ) → IsPlace t p r i → table_frame p i < 402
table_small t p r i here = let small = here.within in let few = here.few in omega arith

put_there : (memory : List ℕ) (t : Places) (p a b w i : ℕ) → 2 ^ 23 ≤ length memory → IsPlace t p (region_of a) i → region_place t p (region_of a) ≡ Some i → w < 2 ^ 32 → b / 2 ^ 12 ≡ a / 2 ^ 12
    → entry_word (with_entry_word memory t p a w) t p b ≡ w
put_there memory t p a b w i size here at small page =
    let region : region_of b ≡ region_of a = omega arith in
    let frame : page_of_table t p (region_of a) ≡ table_frame p i = ap (frame_of_place p) at in
    let bound = table_small t p (region_of a) i here in
    let same : table_word_place (page_of_table t p (region_of b)) b ≡ table_word_place (page_of_table t p (region_of a)) a = ap₂ (λ (r n : ℕ). page_of_table t p r * 2 ^ 12 + n % 2 ^ 10 * 4) region page in
    let x : ℕ = table_word_place (page_of_table t p (region_of a)) a in
    let within : x - x % 4 + 4 ≤ length memory = omega arith in
    ap (word_at (with_entry_word memory t p a w)) same ∙ word_at-with_word memory x w within small

put_elsewhere : (memory : List ℕ) (t : Places) (p q a b w i : ℕ) → ArePlaces t → 2 ^ 23 ≤ length memory → IsPlace t p (region_of a) i → region_place t p (region_of a) ≡ Some i
    → (q ≡ p → b / 2 ^ 12 ≡ a / 2 ^ 12 → ⊥) → entry_word (with_entry_word memory t p a w) t q b ≡ entry_word memory t q b
put_elsewhere memory t p q a b w i are size here at apart =
    let frame : page_of_table t p (region_of a) ≡ table_frame p i = ap (frame_of_place p) at in
    let bound = table_small t p (region_of a) i here in
    let x : ℕ = table_word_place (page_of_table t p (region_of a)) a in
    let y : ℕ = table_word_place (page_of_table t q (region_of b)) b in
    let within : x - x % 4 + 4 ≤ length memory = omega arith in
    word_at-with_word_apart memory x y w within (λ (e : ◌≡◌ {A = ℕ} (y / 4) (x / 4)).
    let frames : page_of_table t q (region_of b) ≡ page_of_table t p (region_of a) = omega arith in
    let words : b / 2 ^ 12 % 2 ^ 10 ≡ a / 2 ^ 12 % 2 ^ 10 = omega arith in
    let one = one_region t p q (region_of a) (region_of b) i (region_place t q (region_of b)) are here refl (frames ∙ frame) in
    let regions : b / 2 ^ 22 ≡ a / 2 ^ 22 = one.1 in
    apart one.0 (omega arith))

-- by whether the word is the one that is put
by_test : (x y w : ℕ) (b : Bool) → (b ≡ true → x ≡ w) → (b ≡ false → x ≡ y) → x ≡ (cond b w y)
by_test x y w true here there = here refl
by_test x y w false here there = there refl

same_page : (p q a b : ℕ) → ((q == p) && (b / 2 ^ 12 == a / 2 ^ 12)) ≡ true → (q ≡ p) × (b / 2 ^ 12 ≡ a / 2 ^ 12)
same_page p q a b e = (grind (arith, nat_tests), grind (arith, nat_tests))

other_page : (p q a b : ℕ) → ((q == p) && (b / 2 ^ 12 == a / 2 ^ 12)) ≡ false → q ≡ p → b / 2 ^ 12 ≡ a / 2 ^ 12 → ⊥
other_page p q a b e own page = grind (arith, nat_tests)

put_word : (memory : List ℕ) (t : Places) (p a w i q b : ℕ) → ArePlaces t → 2 ^ 23 ≤ length memory → region_place t p (region_of a) ≡ Some i → w < 2 ^ 32
    → entry_word (with_entry_word memory t p a w) t q b ≡ word_once_put memory t p a w q b
put_word memory t p a w i q b are size at small =
    let here = is_place t p (region_of a) i are at in
    by_test (entry_word (with_entry_word memory t p a w) t q b) (entry_word memory t q b) w ((q == p) && (b / 2 ^ 12 == a / 2 ^ 12))
    (λ e. let same = same_page p q a b e in ap (λ n. entry_word (with_entry_word memory t p a w) t n b) same.0 ∙ put_there memory t p a b w i size here at small same.1)
    (λ e. put_elsewhere memory t p q a b w i are size here at (other_page p q a b e))

-- A table that is new.

-- the words of a frame of zeros
zero_there : (memory : List ℕ) (f b : ℕ) → frame_of memory f ≡ zeros 4096 → word_at memory (table_word_place f b) ≡ 0
zero_there memory f b empty = word_at-zero_frame memory f (b / 2 ^ 12 % 2 ^ 10 * 4) (omega arith) empty

-- a frame that becomes zeros leaves the words of the others
others_stay : (memory : List ℕ) (f g b : ℕ) → 2 ^ 23 ≤ length memory → f < 402 → g ≢ f → word_at (with_frame memory f (zeros 4096)) (table_word_place g b) ≡ word_at memory (table_word_place g b)
others_stay memory f g b size small apart =
    word_at-same_frame memory (with_frame memory f (zeros 4096)) g (b / 2 ^ 12 % 2 ^ 10 * 4) (omega arith)
    (frame_of-with_frame_apart memory (zeros 4096) f g (length-zeros 4096) (omega arith) (beside f g apart))
  where
    beside : (f g : ℕ) → g ≢ f → (g * 4096 + 4096 ≤ f * 4096) ⊎ (f * 4096 + 4096 ≤ g * 4096)
    beside f g apart = elim (cases_Bool (nat_lt g f)) [
      | inl below ↦ let less : g < f = grind (arith, nat_tests) in inl (omega arith)
      | inr above ↦ let more : f ≤ g = grind (arith, nat_tests) in inr (omega arith)
    ]

new_table : (memory : List ℕ) (t : Places) (p r k q b : ℕ) → ArePlaces t → 2 ^ 23 ≤ length memory → IsFree t p k → region_place t p r ≡ None → HasEmptyTable memory
    → entry_word (with_frame memory (table_frame p k) (zeros 4096)) (with_place t p k r) q b ≡ entry_word memory t q b
new_table memory t p r k q b are size free none empty =
    let small = free.within in
    let few = free.few in
    let low = free.low in
    elim (cases_Bool ((q == p) && (region_of b == r))) [
      | inl here ↦
          let own : q ≡ p = grind (arith, nat_tests) in
          let region : region_of b ≡ r = grind (arith, nat_tests) in
          let place : region_place (with_place t p k r) p r ≡ Some k = region_place-new t p k r are free none in
          ap₂ (λ (x y : ℕ). word_at (with_frame memory (table_frame p k) (zeros 4096)) (table_word_place (page_of_table (with_place t p k r) x y) b)) own region
          ∙ ap (λ (o : Option ℕ). word_at (with_frame memory (table_frame p k) (zeros 4096)) (table_word_place (frame_of_place p o) b)) place
          ∙ zero_there (with_frame memory (table_frame p k) (zeros 4096)) (table_frame p k) b (frame_of-with_frame memory (zeros 4096) (table_frame p k) (length-zeros 4096) (omega arith))
          ∙ sym (ap₂ (λ (x y : ℕ). word_at memory (table_word_place (page_of_table t x y) b)) own region
          ∙ ap (λ (o : Option ℕ). word_at memory (table_word_place (frame_of_place p o) b)) none
          ∙ zero_there memory 1 b empty)
      | inr other ↦
          let place : region_place (with_place t p k r) q (region_of b) ≡ region_place t q (region_of b) =
          region_place-other t p q k r (region_of b) free (λ own region. grind (arith, nat_tests)) in
          ap (λ (o : Option ℕ). word_at (with_frame memory (table_frame p k) (zeros 4096)) (table_word_place (frame_of_place q o) b)) place
          ∙ others_stay memory (table_frame p k) (page_of_table t q (region_of b)) b size (omega arith) (unused_frame t p q (region_of b) k (region_place t q (region_of b)) are free refl)
    ]

-- What `put_entry` does.

pub put_by : (memory : List ℕ) (t : Places) (p a w q b : ℕ) (o f : Option ℕ) → ArePlaces t → 2 ^ 23 ≤ length memory → w < 2 ^ 32 → region_place t p (region_of a) ≡ o → free_place t p ≡ f → (is_some o || is_some f) ≡ true → HasEmptyTable memory
    → entry_word (with_entry_word (with_table_by memory p o f) (opened_by t p (region_of a) o f) p a w) (opened_by t p (region_of a) o f) q b ≡ word_once_put memory t p a w q b
put_by memory t p a w q b (Some i) f are size small at free some empty = put_word memory t p a w i q b are size at small
put_by memory t p a w q b None None are size small at free some empty = absurd cc
put_by memory t p a w q b None (Some k) are size small at free some empty =
    let r : ℕ = region_of a in
    let spot = is_free_place t p k are free in
    let few = spot.few in
    let place = spot.within in
    let same : length (with_frame memory (table_frame p k) (zeros 4096)) ≡ length memory = length-with_frame memory (zeros 4096) (table_frame p k) (length-zeros 4096) (omega arith) in
    put_word (with_frame memory (table_frame p k) (zeros 4096)) (with_place t p k (region_of a)) p a w k q b (placed t p k (region_of a) are spot.low spot.high) (omega arith) (region_place-new t p k (region_of a) are spot at) small
    ∙ ap (λ n. cond ((q == p) && (b / 2 ^ 12 == a / 2 ^ 12)) w n) (new_table memory t p (region_of a) k q b are size spot at empty)

pub put_words : (memory : List ℕ) (t : Places) (p a w q b : ℕ) → ArePlaces t → 2 ^ 23 ≤ length memory → w < 2 ^ 32 → has_place t p (region_of a) ≡ true → HasEmptyTable memory
    → entry_word (with_entry memory t p a w) (opened t p (region_of a)) q b ≡ word_once_put memory t p a w q b
put_words memory t p a w q b are size small some empty =
    ap (λ (u : Bool). entry_word (cond u (with_entry_word (with_table_by memory p (region_place t p (region_of a)) (free_place t p)) (opened t p (region_of a)) p a w) memory) (opened t p (region_of a)) q b) some
    ∙ put_by memory t p a w q b (region_place t p (region_of a)) (free_place t p) are size small refl refl some empty

-- the frames that hold no tables
frame_kept : (memory : List ℕ) (t : Places) (p a w i f : ℕ) → ArePlaces t → 2 ^ 23 ≤ length memory → region_place t p (region_of a) ≡ Some i → (f < 2) ⊎ (402 ≤ f)
    → frame_of (with_entry_word memory t p a w) f ≡ frame_of memory f
frame_kept memory t p a w i f are size at outside =
    let here = is_place t p (region_of a) i are at in
    let bound = table_small t p (region_of a) i here in
    let frame : page_of_table t p (region_of a) ≡ table_frame p i = ap (frame_of_place p) at in
    let x : ℕ = table_word_place (page_of_table t p (region_of a)) a in
    let within : x - x % 4 + 4 ≤ length memory = omega arith in
    frame_of-with_word_apart memory x w f within (elim outside [ inl low ↦ inl (omega arith) | inr high ↦ inr (omega arith) ])

pub frame_by : (memory : List ℕ) (t : Places) (p a w f : ℕ) (o e : Option ℕ) → ArePlaces t → 2 ^ 23 ≤ length memory → region_place t p (region_of a) ≡ o → free_place t p ≡ e → (is_some o || is_some e) ≡ true → (f < 2) ⊎ (402 ≤ f)
    → frame_of (with_entry_word (with_table_by memory p o e) (opened_by t p (region_of a) o e) p a w) f ≡ frame_of memory f
frame_by memory t p a w f (Some i) e are size at free some outside = frame_kept memory t p a w i f are size at outside
frame_by memory t p a w f None None are size at free some outside = absurd cc
frame_by memory t p a w f None (Some k) are size at free some outside =
    let spot = is_free_place t p k are free in
    let few = spot.few in
    let place = spot.within in
    let same : length (with_frame memory (table_frame p k) (zeros 4096)) ≡ length memory = length-with_frame memory (zeros 4096) (table_frame p k) (length-zeros 4096) (omega arith) in
    frame_kept (with_frame memory (table_frame p k) (zeros 4096)) (with_place t p k (region_of a)) p a w k f (placed t p k (region_of a) are spot.low spot.high) (omega arith) (region_place-new t p k (region_of a) are spot at) outside
    ∙ frame_of-with_frame_apart memory (zeros 4096) (table_frame p k) f (length-zeros 4096) (omega arith) (elim outside [ inl low ↦ inl (omega arith) | inr high ↦ inr (omega arith) ])

pub frames_kept : (memory : List ℕ) (t : Places) (p a w f : ℕ) → ArePlaces t → 2 ^ 23 ≤ length memory → (f < 2) ⊎ (402 ≤ f) → frame_of (with_entry memory t p a w) f ≡ frame_of memory f
frames_kept memory t p a w f are size outside = elim (cases_Bool (has_place t p (region_of a))) [
  | inl some ↦
      ap (λ (u : Bool). frame_of (cond u (with_entry_word (with_table_by memory p (region_place t p (region_of a)) (free_place t p)) (opened t p (region_of a)) p a w) memory) f) some
      ∙ frame_by memory t p a w f (region_place t p (region_of a)) (free_place t p) are size refl refl some outside
  | inr none ↦ ap (λ (u : Bool). frame_of (cond u (with_entry_word (with_table_by memory p (region_place t p (region_of a)) (free_place t p)) (opened t p (region_of a)) p a w) memory) f) none
]

-- What `close` does.

pub closed_words : (memory : List ℕ) (t : Places) (p r q b : ℕ) → HasEmptyTable memory → entry_word memory (closed t p r) q b ≡ word_once_closed memory t p r q b
closed_words memory t p r q b empty =
    by_test (entry_word memory (closed t p r) q b) (entry_word memory t q b) 0 ((q == p) && (region_of b == r))
    (λ e.
    let own : q ≡ p = grind (arith, nat_tests) in
    let region : region_of b ≡ r = grind (arith, nat_tests) in
    ap₂ (λ (x y : ℕ). word_at memory (table_word_place (page_of_table (closed t p r) x y) b)) own region
    ∙ ap (λ (o : Option ℕ). word_at memory (table_word_place (frame_of_place p o) b)) (region_place-closed t p r)
    ∙ zero_there memory 1 b empty)
    (λ e. ap (λ (o : Option ℕ). word_at memory (table_word_place (frame_of_place q o) b)) (region_place-kept t p q r (region_of b) (λ own region. grind (arith, nat_tests))))

-- Before any table.

pub none_words : (memory : List ℕ) (n q b : ℕ) → HasEmptyTable memory → entry_word memory (replicate n (replicate 4 None)) q b ≡ 0
none_words memory n q b empty = ap (λ f. word_at memory (table_word_place f b)) (page_of_table-none n q (region_of b)) ∙ zero_there memory 1 b empty

-- The definitions by cases.

pub opened_old : (t : Places) (p r k : ℕ) → region_place t p r ≡ Some k → opened t p r ≡ t
opened_old t p r k at = ap (λ o. opened_by t p r o (free_place t p)) at

pub opened_not : (t : Places) (p r : ℕ) → region_place t p r ≡ None → free_place t p ≡ None → opened t p r ≡ t
opened_not t p r at free = ap₂ (λ o f. opened_by t p r o f) at free

pub opened_new : (t : Places) (p r k : ℕ) → region_place t p r ≡ None → free_place t p ≡ Some k → opened t p r ≡ with_place t p k r
opened_new t p r k at free = ap₂ (λ o f. opened_by t p r o f) at free

pub table_old : (memory : List ℕ) (t : Places) (p r k : ℕ) → region_place t p r ≡ Some k → with_table memory t p r ≡ memory
table_old memory t p r k at = ap (λ o. with_table_by memory p o (free_place t p)) at

pub table_not : (memory : List ℕ) (t : Places) (p r : ℕ) → region_place t p r ≡ None → free_place t p ≡ None → with_table memory t p r ≡ memory
table_not memory t p r at free = ap₂ (λ o f. with_table_by memory p o f) at free

pub table_new : (memory : List ℕ) (t : Places) (p r k : ℕ) → region_place t p r ≡ None → free_place t p ≡ Some k → with_table memory t p r ≡ with_frame memory (table_frame p k) (zeros 4096)
table_new memory t p r k at free = ap₂ (λ o f. with_table_by memory p o f) at free

pub has_old : (t : Places) (p r k : ℕ) → region_place t p r ≡ Some k → has_place t p r ≡ true
has_old t p r k at = ap (λ o. is_some o || is_some (free_place t p)) at

pub has_not : (t : Places) (p r : ℕ) → region_place t p r ≡ None → free_place t p ≡ None → has_place t p r ≡ false
has_not t p r at free = ap₂ (λ (o f : Option ℕ). is_some o || is_some f) at free

pub has_new : (t : Places) (p r k : ℕ) → region_place t p r ≡ None → free_place t p ≡ Some k → has_place t p r ≡ true
has_new t p r k at free = ap₂ (λ (o f : Option ℕ). is_some o || is_some f) at free

refused_by : (memory : List ℕ) (p : ℕ) (o f : Option ℕ) → (is_some o || is_some f) ≡ false → with_table_by memory p o f ≡ memory
refused_by memory p None None e = refl
refused_by memory p None (Some k) e = absurd cc
refused_by memory p (Some i) f e = refl

-- refused, nothing changes
pub refused_table : (memory : List ℕ) (t : Places) (p r : ℕ) → has_place t p r ≡ false → with_table memory t p r ≡ memory
refused_table memory t p r none = refused_by memory p (region_place t p r) (free_place t p) none

opened_refused : (t : Places) (p r : ℕ) (o f : Option ℕ) → (is_some o || is_some f) ≡ false → opened_by t p r o f ≡ t
opened_refused t p r None None e = refl
opened_refused t p r None (Some k) e = absurd cc
opened_refused t p r (Some i) f e = refl

pub refused_places : (t : Places) (p r : ℕ) → has_place t p r ≡ false → opened t p r ≡ t
refused_places t p r none = opened_refused t p r (region_place t p r) (free_place t p) none

pub refused_entry : (memory : List ℕ) (t : Places) (p a w : ℕ) → has_place t p (region_of a) ≡ false → with_entry memory t p a w ≡ memory
refused_entry memory t p a w none = ap (λ (u : Bool). cond u (with_entry_word (with_table memory t p (region_of a)) (opened t p (region_of a)) p a w) memory) none

pub put_entry_there : (memory : List ℕ) (t : Places) (p a w : ℕ) → has_place t p (region_of a) ≡ true → with_entry memory t p a w ≡ with_entry_word (with_table memory t p (region_of a)) (opened t p (region_of a)) p a w
put_entry_there memory t p a w some = ap (λ (u : Bool). cond u (with_entry_word (with_table memory t p (region_of a)) (opened t p (region_of a)) p a w) memory) some

-- no table lies beyond frame 401
table_below : (t : Places) (p r : ℕ) (o : Option ℕ) → ArePlaces t → region_place t p r ≡ o → frame_of_place p o < 402
table_below t p r None are at = omega arith
table_below t p r (Some i) are at = table_small t p r i (is_place t p r i are at)

long_table : (memory : List ℕ) (p : ℕ) (o f : Option ℕ) → 2 ^ 23 ≤ length (with_table_by memory p o f) → 2 ^ 23 ≤ length memory
long_table memory p None None long = long
long_table memory p None (Some k) long = long-with_frame memory (zeros 4096) (table_frame p k) (2 ^ 23) long
long_table memory p (Some i) f long = long

-- memory that has its 8 MiB once a word is put had them before
pub long_before : (memory : List ℕ) (t : Places) (p a w : ℕ) → ArePlaces (opened t p (region_of a)) → 2 ^ 23 ≤ length (with_entry_word (with_table memory t p (region_of a)) (opened t p (region_of a)) p a w) → 2 ^ 23 ≤ length memory
long_before memory t p a w are long =
    let small = table_below (opened t p (region_of a)) p (region_of a) (region_place (opened t p (region_of a)) p (region_of a)) are refl in
    let x : ℕ = table_word_place (page_of_table (opened t p (region_of a)) p (region_of a)) a in
    let first = long-with_word (with_table memory t p (region_of a)) x (2 ^ 23) w (omega arith) long in
    long_table memory p (region_place t p (region_of a)) (free_place t p) first

zeros_are : zeros 4096 ≡ replicate 4096 0
unfolding zeros
zeros_are = refl

-- a frame that is filled
pub filled : (bytes : List ℕ) (n : ℕ) → n ≡ 4096 → bytes ≡ replicate n 0 → bytes ≡ zeros 4096
filled bytes n size all = all ∙ (ap (λ k. replicate k 0) size ∙ sym zeros_are)

-- What is known once a word is put.
pub record IsPut (memory new : List ℕ) (t u : Places) (p a w : ℕ) : Type 0 where
  pub is : new ≡ with_entry memory t p a w
  pub words : HasEmptyTable memory → (q b : ℕ) → entry_word new u q b ≡ word_once_put memory t p a w q b
  pub frames : (f : ℕ) → (f < 2) ⊎ (402 ≤ f) → frame_of new f ≡ frame_of memory f

pub put_done : (memory middle new : List ℕ) (t u : Places) (p a w r frame place : ℕ) → r ≡ region_of a → ArePlaces t → ArePlaces u → has_place t p r ≡ true → u ≡ opened t p r → middle ≡ with_table memory t p r
    → frame ≡ page_of_table u p r → place ≡ table_word_place frame a → new ≡ with_word middle place w → 2 ^ 23 ≤ length new → w < 2 ^ 32 → IsPut memory new t u p a w
put_done memory middle new t u p a w r frame place region are now some same table at there put long small =
    let room : has_place t p (region_of a) ≡ true = ap (λ s. has_place t p s) (sym region) ∙ some in
    let places : u ≡ opened t p (region_of a) = same ∙ ap (opened t p) region in
    let tables : middle ≡ with_table memory t p (region_of a) = table ∙ ap (with_table memory t p) region in
    let stands : place ≡ table_word_place (page_of_table (opened t p (region_of a)) p (region_of a)) a =
    there ∙ ap (λ f. table_word_place f a) (at ∙ ap₂ (λ (v : Places) (s : ℕ). page_of_table v p s) places region) in
    let word : new ≡ with_entry_word (with_table memory t p (region_of a)) (opened t p (region_of a)) p a w = put ∙ ap₂ (λ (m : List ℕ) (x : ℕ). with_word m x w) tables stands in
    let is = word ∙ sym (put_entry_there memory t p a w room) in
    let before = long_before memory t p a w (subst ArePlaces places now) (subst (λ (m : List ℕ). 2 ^ 23 ≤ length m) word long) in
    record {
      is = is;
      words = λ empty q b. ap₂ (λ (m : List ℕ) (v : Places). entry_word m v q b) is places ∙ put_words memory t p a w q b are before small room empty;
      frames = λ f outside. ap (λ (m : List ℕ). frame_of m f) is ∙ frames_kept memory t p a w f are before outside;
    }
