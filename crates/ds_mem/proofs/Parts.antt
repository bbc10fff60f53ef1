-- A byte or a half of memory as a part of its word.
use Rattle.std.proofs.Common.{◌≡◌, ◌≢◌, ℕ, zero, suc, ◌+◌, ◌-◌, ◌*◌, ◌/◌, ◌%◌, ◌<◌, ◌≤◌, ◌^◌, length, List, take, drop, set, refl, sym, ap, ◌∙◌, append_assoc, arith}
use Rattle.std.proofs.lemmas.List.{set-get_or, get_or-set_other}
use Rattle.std.proofs.lemmas.List.Edits.{sets, sets-eq}
use Rattle.std.specs.Prelude.{slice_index, slice_set}
use Rattle.ds_word.specs.Word.{bits}
use Rattle.ds_word.specs.Merge.{with_bits}
use Rattle.ds_word.specs.Bytes.{bytes_of_word, word_at, with_word}
use Rattle.ds_mem.specs.Inner.Memory.{AreBytes}

-- the word of four bytes
abbrev of_bytes : ℕ → ℕ → ℕ → ℕ → ℕ
of_bytes a b c d = a + 2 ^ 8 * b + 2 ^ 16 * c + 2 ^ 24 * d

-- the word that begins at a place
abbrev word_from : List ℕ → ℕ → ℕ
word_from xs p = of_bytes (slice_index xs p) (slice_index xs (p + 1)) (slice_index xs (p + 2)) (slice_index xs (p + 3))

-- a byte is a part of its word
byte_in : (a b c d : ℕ) → a < 2 ^ 8 → b < 2 ^ 8 → c < 2 ^ 8 → d < 2 ^ 8 →
    (a ≡ bits (of_bytes a b c d) 0 8) × (b ≡ bits (of_bytes a b c d) 8 8) × (c ≡ bits (of_bytes a b c d) 16 8) × (d ≡ bits (of_bytes a b c d) 24 8)
byte_in a b c d e f g h = (omega (arith, e), omega (arith, e, f), omega (arith, e, f, g), omega (arith, e, f, g, h))

byte_from : (xs : List ℕ) (p k : ℕ) → AreBytes xs → k < 4 → slice_index xs (p + k) ≡ bits (word_from xs p) (8 * k) 8
byte_from xs p zero small few = let e : p + 0 ≡ p = omega arith in rw e (byte_in (slice_index xs p) (slice_index xs (p + 1)) (slice_index xs (p + 2)) (slice_index xs (p + 3)) (small p) (small (p + 1)) (small (p + 2)) (small (p + 3))).0
byte_from xs p (suc zero) small few = (byte_in (slice_index xs p) (slice_index xs (p + 1)) (slice_index xs (p + 2)) (slice_index xs (p + 3)) (small p) (small (p + 1)) (small (p + 2)) (small (p + 3))).1
byte_from xs p (suc (suc zero)) small few = (byte_in (slice_index xs p) (slice_index xs (p + 1)) (slice_index xs (p + 2)) (slice_index xs (p + 3)) (small p) (small (p + 1)) (small (p + 2)) (small (p + 3))).2
byte_from xs p (suc (suc (suc zero))) small few = (byte_in (slice_index xs p) (slice_index xs (p + 1)) (slice_index xs (p + 2)) (slice_index xs (p + 3)) (small p) (small (p + 1)) (small (p + 2)) (small (p + 3))).3
byte_from xs p (suc (suc (suc (suc k)))) small few = absurd (omega (arith, few))

pub byte_of_word : (xs : List ℕ) (a : ℕ) → AreBytes xs → slice_index xs a ≡ bits (word_at xs a) (8 * (a % 4)) 8
byte_of_word xs a small =
    let whole : a - a % 4 + a % 4 ≡ a = omega arith in
    ap (slice_index xs) (sym whole) ∙ byte_from xs (a - a % 4) (a % 4) small (omega arith)

-- so is a half
half_in : (a b c d : ℕ) → a < 2 ^ 8 → b < 2 ^ 8 → c < 2 ^ 8 → d < 2 ^ 8 →
    (a + 2 ^ 8 * b ≡ bits (of_bytes a b c d) 0 16) × (c + 2 ^ 8 * d ≡ bits (of_bytes a b c d) 16 16)
half_in a b c d e f g h = (omega (arith, e, f), omega (arith, e, f, g, h))

half_from : (xs : List ℕ) (p k : ℕ) → AreBytes xs → k < 4 → k % 2 ≡ 0 → slice_index xs (p + k) + 2 ^ 8 * slice_index xs (p + k + 1) ≡ bits (word_from xs p) (8 * k) 16
half_from xs p zero small few even = let e : p + 0 ≡ p = omega arith in rw e (half_in (slice_index xs p) (slice_index xs (p + 1)) (slice_index xs (p + 2)) (slice_index xs (p + 3)) (small p) (small (p + 1)) (small (p + 2)) (small (p + 3))).0
half_from xs p (suc zero) small few even = absurd (omega (arith, even))
half_from xs p (suc (suc zero)) small few even = let e : p + 2 + 1 ≡ p + 3 = omega arith in rw e (half_in (slice_index xs p) (slice_index xs (p + 1)) (slice_index xs (p + 2)) (slice_index xs (p + 3)) (small p) (small (p + 1)) (small (p + 2)) (small (p + 3))).1
half_from xs p (suc (suc (suc zero))) small few even = absurd (omega (arith, even))
half_from xs p (suc (suc (suc (suc k)))) small few even = absurd (omega (arith, few))

pub half_of_word : (xs : List ℕ) (a : ℕ) → AreBytes xs → a % 2 ≡ 0 → slice_index xs a + 2 ^ 8 * slice_index xs (a + 1) ≡ bits (word_at xs a) (8 * (a % 4)) 16
half_of_word xs a small even =
    let whole : a - a % 4 + a % 4 ≡ a = omega arith in
    ap (λ (n : ℕ). slice_index xs n + 2 ^ 8 * slice_index xs (n + 1)) (sym whole) ∙ half_from xs (a - a % 4) (a % 4) small (omega arith) (omega (arith, even))

-- a byte that is there already is put
stays : (xs : List ℕ) (i v : ℕ) → v ≡ slice_index xs i → set xs i v ≡ xs
stays xs i v is = ap (set xs i) is ∙ set-get_or xs i 0

-- the same behind another byte that was put
stays_after : (xs : List ℕ) (j i u v : ℕ) → i ≢ j → v ≡ slice_index xs i → set (set xs j u) i v ≡ set xs j u
stays_after xs j i u v other is = stays (set xs j u) i v (is ∙ sym (get_or-set_other xs j i u 0 other))

later : (p i j : ℕ) → i < j → p + j ≢ p + i
later p i j below = λ (e : ◌≡◌ {A = ℕ} (p + j) (p + i)). omega (arith, e, below)

-- four bytes are put of which one is new
first : (xs : List ℕ) (p a b c d : ℕ) → b ≡ slice_index xs (p + 1) → c ≡ slice_index xs (p + 2) → d ≡ slice_index xs (p + 3)
    → set (set (set (set xs p a) (p + 1) b) (p + 2) c) (p + 3) d ≡ set xs p a
first xs p a b c d g h i =
    let e1 = stays_after xs p (p + 1) a b (λ (e : ◌≡◌ {A = ℕ} (p + 1) p). omega (arith, e)) g in
    let e2 = stays_after xs p (p + 2) a c (λ (e : ◌≡◌ {A = ℕ} (p + 2) p). omega (arith, e)) h in
    let e3 = stays_after xs p (p + 3) a d (λ (e : ◌≡◌ {A = ℕ} (p + 3) p). omega (arith, e)) i in
    ap (λ (l : List ℕ). set (set l (p + 2) c) (p + 3) d) e1 ∙ (ap (λ (l : List ℕ). set l (p + 3) d) e2 ∙ e3)

second : (xs : List ℕ) (p a b c d : ℕ) → a ≡ slice_index xs p → c ≡ slice_index xs (p + 2) → d ≡ slice_index xs (p + 3)
    → set (set (set (set xs p a) (p + 1) b) (p + 2) c) (p + 3) d ≡ set xs (p + 1) b
second xs p a b c d g h i =
    let e1 = stays xs p a g in
    let e2 = stays_after xs (p + 1) (p + 2) b c (later p 1 2 (omega arith)) h in
    let e3 = stays_after xs (p + 1) (p + 3) b d (later p 1 3 (omega arith)) i in
    ap (λ (l : List ℕ). set (set (set l (p + 1) b) (p + 2) c) (p + 3) d) e1 ∙ (ap (λ (l : List ℕ). set l (p + 3) d) e2 ∙ e3)

third : (xs : List ℕ) (p a b c d : ℕ) → a ≡ slice_index xs p → b ≡ slice_index xs (p + 1) → d ≡ slice_index xs (p + 3)
    → set (set (set (set xs p a) (p + 1) b) (p + 2) c) (p + 3) d ≡ set xs (p + 2) c
third xs p a b c d g h i =
    let e1 = stays xs p a g in
    let e2 = stays xs (p + 1) b h in
    let e3 = stays_after xs (p + 2) (p + 3) c d (later p 2 3 (omega arith)) i in
    ap (λ (l : List ℕ). set (set (set l (p + 1) b) (p + 2) c) (p + 3) d) e1 ∙ (ap (λ (l : List ℕ). set (set l (p + 2) c) (p + 3) d) e2 ∙ e3)

fourth : (xs : List ℕ) (p a b c d : ℕ) → a ≡ slice_index xs p → b ≡ slice_index xs (p + 1) → c ≡ slice_index xs (p + 2)
    → set (set (set (set xs p a) (p + 1) b) (p + 2) c) (p + 3) d ≡ set xs (p + 3) d
fourth xs p a b c d g h i =
    let e1 = stays xs p a g in
    let e2 = stays xs (p + 1) b h in
    let e3 = stays xs (p + 2) c i in
    ap (λ (l : List ℕ). set (set (set l (p + 1) b) (p + 2) c) (p + 3) d) e1 ∙ (ap (λ (l : List ℕ). set (set l (p + 2) c) (p + 3) d) e2 ∙ ap (λ (l : List ℕ). set l (p + 3) d) e3)

-- or one half
lower : (xs : List ℕ) (p a b c d : ℕ) → c ≡ slice_index xs (p + 2) → d ≡ slice_index xs (p + 3)
    → set (set (set (set xs p a) (p + 1) b) (p + 2) c) (p + 3) d ≡ set (set xs p a) (p + 1) b
lower xs p a b c d g h =
    let e1 = stays_after (set xs p a) (p + 1) (p + 2) b c (later p 1 2 (omega arith)) (g ∙ sym (get_or-set_other xs p (p + 2) a 0 (λ (e : ◌≡◌ {A = ℕ} (p + 2) p). omega (arith, e)))) in
    let e2 = stays_after (set xs p a) (p + 1) (p + 3) b d (later p 1 3 (omega arith)) (h ∙ sym (get_or-set_other xs p (p + 3) a 0 (λ (e : ◌≡◌ {A = ℕ} (p + 3) p). omega (arith, e)))) in
    ap (λ (l : List ℕ). set l (p + 3) d) e1 ∙ e2

upper : (xs : List ℕ) (p a b c d : ℕ) → a ≡ slice_index xs p → b ≡ slice_index xs (p + 1)
    → set (set (set (set xs p a) (p + 1) b) (p + 2) c) (p + 3) d ≡ set (set xs (p + 2) c) (p + 3) d
upper xs p a b c d g h =
    let e1 = stays xs p a g in
    let e2 = stays xs (p + 1) b h in
    ap (λ (l : List ℕ). set (set (set l (p + 1) b) (p + 2) c) (p + 3) d) e1 ∙ ap (λ (l : List ℕ). set (set l (p + 2) c) (p + 3) d) e2

-- four bytes one after the other, as those of a word are put
abbrev put_four : List ℕ → ℕ → ℕ → List ℕ
put_four xs p w = set (set (set (set xs p (w % 2 ^ 8)) (p + 1) (w / 2 ^ 8 % 2 ^ 8)) (p + 2) (w / 2 ^ 16 % 2 ^ 8)) (p + 3) (w / 2 ^ 24)

as_sets : (xs : List ℕ) (place w : ℕ) → place - place % 4 + 4 ≤ length xs → with_word xs place w ≡ put_four xs (place - place % 4) w
as_sets xs place w within =
    sym (sets-eq (bytes_of_word w) xs (place - place % 4) within ∙ append_assoc (take (place - place % 4) xs) (bytes_of_word w) (drop (place - place % 4 + 4) xs))
    ∙ steps (place - place % 4)
  where
    steps : (p : ℕ) → sets xs p (bytes_of_word w) ≡ put_four xs p w
    steps p =
        let one : suc p ≡ p + 1 = omega arith in
        let two : suc (suc p) ≡ p + 2 = omega arith in
        let three : suc (suc (suc p)) ≡ p + 3 = omega arith in
        rw (three, two, one) refl

-- a byte that is put is a part of its word that is put
byte_put : (xs : List ℕ) (p k v : ℕ) → AreBytes xs → k < 4 → slice_set xs (p + k) (v % 2 ^ 8) ≡ put_four xs p (with_bits (word_from xs p) (8 * k) 8 v)
byte_put xs p zero v small few =
    let e : p + 0 ≡ p = omega arith in
    let a = small p in let b = small (p + 1) in let c = small (p + 2) in let d = small (p + 3) in
    let is : v % 2 ^ 8 ≡ with_bits (word_from xs p) 0 8 v % 2 ^ 8 = omega arith in
    rw e (sym (first xs p _ _ _ _ (omega (arith, a, b, c, d)) (omega (arith, a, b, c, d)) (omega (arith, a, b, c, d)) ∙ ap (set xs p) (sym is)))
byte_put xs p (suc zero) v small few =
    let a = small p in let b = small (p + 1) in let c = small (p + 2) in let d = small (p + 3) in
    let is : v % 2 ^ 8 ≡ with_bits (word_from xs p) 8 8 v / 2 ^ 8 % 2 ^ 8 = omega (arith, a) in
    sym (second xs p _ _ _ _ (omega (arith, a, b, c, d)) (omega (arith, a, b, c, d)) (omega (arith, a, b, c, d)) ∙ ap (set xs (p + 1)) (sym is))
byte_put xs p (suc (suc zero)) v small few =
    let a = small p in let b = small (p + 1) in let c = small (p + 2) in let d = small (p + 3) in
    let is : v % 2 ^ 8 ≡ with_bits (word_from xs p) 16 8 v / 2 ^ 16 % 2 ^ 8 = omega (arith, a, b) in
    sym (third xs p _ _ _ _ (omega (arith, a, b, c, d)) (omega (arith, a, b, c, d)) (omega (arith, a, b, c, d)) ∙ ap (set xs (p + 2)) (sym is))
byte_put xs p (suc (suc (suc zero))) v small few =
    let a = small p in let b = small (p + 1) in let c = small (p + 2) in let d = small (p + 3) in
    let is : v % 2 ^ 8 ≡ with_bits (word_from xs p) 24 8 v / 2 ^ 24 = omega (arith, a, b, c, d) in
    sym (fourth xs p _ _ _ _ (omega (arith, a, b, c, d)) (omega (arith, a, b, c, d)) (omega (arith, a, b, c, d)) ∙ ap (set xs (p + 3)) (sym is))
byte_put xs p (suc (suc (suc (suc k)))) v small few = absurd (omega (arith, few))

pub byte_in_word : (xs : List ℕ) (a v : ℕ) → AreBytes xs → a - a % 4 + 4 ≤ length xs
    → slice_set xs a (v % 2 ^ 8) ≡ with_word xs a (with_bits (word_at xs a) (8 * (a % 4)) 8 v)
byte_in_word xs a v small within =
    let whole : a - a % 4 + a % 4 ≡ a = omega arith in
    ap (λ (n : ℕ). slice_set xs n (v % 2 ^ 8)) (sym whole)
    ∙ (byte_put xs (a - a % 4) (a % 4) v small (omega arith)
    ∙ sym (as_sets xs a (with_bits (word_at xs a) (8 * (a % 4)) 8 v) within))

-- so is a half
half_put : (xs : List ℕ) (p k v : ℕ) → AreBytes xs → k < 4 → k % 2 ≡ 0
    → slice_set (slice_set xs (p + k) (v % 2 ^ 8)) (p + k + 1) (v / 2 ^ 8 % 2 ^ 8) ≡ put_four xs p (with_bits (word_from xs p) (8 * k) 16 v)
half_put xs p zero v small few even =
    let e : p + 0 ≡ p = omega arith in
    let a = small p in let b = small (p + 1) in let c = small (p + 2) in let d = small (p + 3) in
    let low : v % 2 ^ 8 ≡ with_bits (word_from xs p) 0 16 v % 2 ^ 8 = omega arith in
    let high : v / 2 ^ 8 % 2 ^ 8 ≡ with_bits (word_from xs p) 0 16 v / 2 ^ 8 % 2 ^ 8 = omega arith in
    rw e (sym (lower xs p _ _ _ _ (omega (arith, a, b, c, d)) (omega (arith, a, b, c, d)) ∙ rw (sym low, sym high) refl))
half_put xs p (suc zero) v small few even = absurd (omega (arith, even))
half_put xs p (suc (suc zero)) v small few even =
    let a = small p in let b = small (p + 1) in let c = small (p + 2) in let d = small (p + 3) in
    let low : v % 2 ^ 8 ≡ with_bits (word_from xs p) 16 16 v / 2 ^ 16 % 2 ^ 8 = omega (arith, a, b) in
    let high : v / 2 ^ 8 % 2 ^ 8 ≡ with_bits (word_from xs p) 16 16 v / 2 ^ 24 = omega (arith, a, b, c, d) in
    let e : p + 2 + 1 ≡ p + 3 = omega arith in
    rw e (sym (upper xs p _ _ _ _ (omega (arith, a, b, c, d)) (omega (arith, a, b, c, d)) ∙ rw (sym low, sym high) refl))
half_put xs p (suc (suc (suc zero))) v small few even = absurd (omega (arith, even))
half_put xs p (suc (suc (suc (suc k)))) v small few even = absurd (omega (arith, few))

pub half_in_word : (xs : List ℕ) (a v : ℕ) → AreBytes xs → a % 2 ≡ 0 → a - a % 4 + 4 ≤ length xs
    → slice_set (slice_set xs a (v % 2 ^ 8)) (a + 1) (v / 2 ^ 8 % 2 ^ 8) ≡ with_word xs a (with_bits (word_at xs a) (8 * (a % 4)) 16 v)
half_in_word xs a v small even within =
    let whole : a - a % 4 + a % 4 ≡ a = omega arith in
    ap (λ (n : ℕ). slice_set (slice_set xs n (v % 2 ^ 8)) (n + 1) (v / 2 ^ 8 % 2 ^ 8)) (sym whole)
    ∙ (half_put xs (a - a % 4) (a % 4) v small (omega arith) (omega (arith, even))
    ∙ sym (as_sets xs a (with_bits (word_at xs a) (8 * (a % 4)) 16 v) within))
