-- A word among bytes replaced: it is read, the words of other places and the length are as before.
use Rattle.std.proofs.Common.{◌≡◌, ◌≢◌, ℕ, suc, ◌++◌, length-append, ◌+◌, ◌-◌, ◌*◌, ◌/◌, ◌%◌, ◌<◌, ◌≤◌, ◌^◌, length, List, [], ◌∷◌, take, drop, set, refl, sym, ap, ◌∙◌, append_assoc, arith, length-set}
use Rattle.std.proofs.lemmas.List.{get_or-set_same, get_or-set_other, get_or-replicate, length-take, length-take-le, length-drop}
use Rattle.std.proofs.lemmas.List.Edits.{sets, sets-eq}
use Rattle.std.proofs.Math.Dec.{lit<}
use Rattle.std.specs.Prelude.{slice_index, replicate}
use Rattle.ds_word.specs.Bytes.{bytes_of_word, word_at, with_word}

-- a word is four stores of bytes
as_sets : (xs : List ℕ) (place w : ℕ) → place - place % 4 + 4 ≤ length xs → with_word xs place w ≡ sets xs (place - place % 4) (bytes_of_word w)
as_sets xs place w within =
    sym (sets-eq (bytes_of_word w) xs (place - place % 4) within ∙ append_assoc (take (place - place % 4) xs) (bytes_of_word w) (drop (place - place % 4 + 4) xs))

-- four bytes stored one after the other
byte_apart : (xs : List ℕ) (p j a b c d : ℕ) → j ≢ p → j ≢ suc p → j ≢ suc (suc p) → j ≢ suc (suc (suc p)) → slice_index (sets xs p (a ∷ b ∷ c ∷ d ∷ [])) j ≡ slice_index xs j
byte_apart xs p j a b c d e f g h =
    get_or-set_other _ (suc (suc (suc p))) j d 0 h ∙ (get_or-set_other _ (suc (suc p)) j c 0 g ∙ (get_or-set_other _ (suc p) j b 0 f ∙ get_or-set_other xs p j a 0 e))

-- a byte of another word
other_byte : (xs : List ℕ) (p j a b c d : ℕ) → p % 4 ≡ 0 → j / 4 ≢ p / 4 → slice_index (sets xs p (a ∷ b ∷ c ∷ d ∷ [])) j ≡ slice_index xs j
other_byte xs p j a b c d whole apart =
    byte_apart xs p j a b c d (λ (e : ◌≡◌ {A = ℕ} j p). apart (omega arith)) (λ (e : ◌≡◌ {A = ℕ} j (suc p)). apart (omega arith))
    (λ (e : ◌≡◌ {A = ℕ} j (suc (suc p))). apart (omega arith)) (λ (e : ◌≡◌ {A = ℕ} j (suc (suc (suc p)))). apart (omega arith))

-- words of the same bytes
pub same_bytes : (a b c d e f g h : ℕ) → a ≡ e → b ≡ f → c ≡ g → d ≡ h → a + 2 ^ 8 * b + 2 ^ 16 * c + 2 ^ 24 * d ≡ e + 2 ^ 8 * f + 2 ^ 16 * g + 2 ^ 24 * h
same_bytes a b c d e f g h i j k l = rw (i, j, k, l) refl

of_word : (place other i : ℕ) → i < 4 → other / 4 ≢ place / 4 → (other - other % 4 + i) / 4 ≢ (place - place % 4) / 4
of_word place other i few apart = λ (e : ◌≡◌ {A = ℕ} ((other - other % 4 + i) / 4) ((place - place % 4) / 4)). apart (omega arith)

of_first : (place other : ℕ) → other / 4 ≢ place / 4 → (other - other % 4) / 4 ≢ (place - place % 4) / 4
of_first place other apart = λ (e : ◌≡◌ {A = ℕ} ((other - other % 4) / 4) ((place - place % 4) / 4)). apart (omega arith)

-- a word that was put leaves the words of other places
pub word_at-with_word_apart : (memory : List ℕ) (place other w : ℕ) → place - place % 4 + 4 ≤ length memory → other / 4 ≢ place / 4 → word_at (with_word memory place w) other ≡ word_at memory other
word_at-with_word_apart memory place other w within apart =
    let p : ℕ = place - place % 4 in
    let q : ℕ = other - other % 4 in
    let whole : (place - place % 4) % 4 ≡ 0 = omega arith in
    ap (λ (l : List ℕ). word_at l other) (as_sets memory place w within)
    ∙ same_bytes _ _ _ _ _ _ _ _
    (other_byte memory p q _ _ _ _ whole (of_first place other apart)) (other_byte memory p (q + 1) _ _ _ _ whole (of_word place other 1 (lit< tt) apart))
    (other_byte memory p (q + 2) _ _ _ _ whole (of_word place other 2 (lit< tt) apart)) (other_byte memory p (q + 3) _ _ _ _ whole (of_word place other 3 (lit< tt) apart))

unlike : (i j : ℕ) → i < j → i ≢ j
unlike i j below = λ (e : ◌≡◌ {A = ℕ} i j). omega arith

byte_0 : (xs : List ℕ) (p a b c d : ℕ) → p + 4 ≤ length xs → slice_index (sets xs p (a ∷ b ∷ c ∷ d ∷ [])) p ≡ a
byte_0 xs p a b c d within =
    get_or-set_other _ (suc (suc (suc p))) p d 0 (unlike p _ (omega arith)) ∙ (get_or-set_other _ (suc (suc p)) p c 0 (unlike p _ (omega arith)) ∙ (get_or-set_other _ (suc p) p b 0 (unlike p _ (omega arith)) ∙ get_or-set_same xs p a 0 (omega arith)))

byte_1 : (xs : List ℕ) (p a b c d j : ℕ) → p + 4 ≤ length xs → j ≡ suc p → slice_index (sets xs p (a ∷ b ∷ c ∷ d ∷ [])) j ≡ b
byte_1 xs p a b c d j within is =
    let long = length-set xs p a in
    rw is (get_or-set_other _ (suc (suc (suc p))) (suc p) d 0 (unlike (suc p) _ (omega arith)) ∙ (get_or-set_other _ (suc (suc p)) (suc p) c 0 (unlike (suc p) _ (omega arith)) ∙ get_or-set_same (set xs p a) (suc p) b 0 (omega arith)))

byte_2 : (xs : List ℕ) (p a b c d j : ℕ) → p + 4 ≤ length xs → j ≡ suc (suc p) → slice_index (sets xs p (a ∷ b ∷ c ∷ d ∷ [])) j ≡ c
byte_2 xs p a b c d j within is =
    let long = length-set xs p a in
    let longer = length-set (set xs p a) (suc p) b in
    rw is (get_or-set_other _ (suc (suc (suc p))) (suc (suc p)) d 0 (unlike (suc (suc p)) _ (omega arith)) ∙ get_or-set_same (set (set xs p a) (suc p) b) (suc (suc p)) c 0 (omega arith))

byte_3 : (xs : List ℕ) (p a b c d j : ℕ) → p + 4 ≤ length xs → j ≡ suc (suc (suc p)) → slice_index (sets xs p (a ∷ b ∷ c ∷ d ∷ [])) j ≡ d
byte_3 xs p a b c d j within is =
    let long = length-set xs p a in
    let longer = length-set (set xs p a) (suc p) b in
    let longest = length-set (set (set xs p a) (suc p) b) (suc (suc p)) c in
    rw is (get_or-set_same (set (set (set xs p a) (suc p) b) (suc (suc p)) c) (suc (suc (suc p))) d 0 (omega arith))

bytes_are : (w : ℕ) → w < 2 ^ 32 → w % 2 ^ 8 + 2 ^ 8 * (w / 2 ^ 8 % 2 ^ 8) + 2 ^ 16 * (w / 2 ^ 16 % 2 ^ 8) + 2 ^ 24 * (w / 2 ^ 24) ≡ w
bytes_are w small = omega arith

-- a word that was put is read
pub word_at-with_word : (memory : List ℕ) (place w : ℕ) → place - place % 4 + 4 ≤ length memory → w < 2 ^ 32 → word_at (with_word memory place w) place ≡ w
word_at-with_word memory place w within small =
    let p : ℕ = place - place % 4 in
    ap (λ (l : List ℕ). word_at l place) (as_sets memory place w within)
    ∙ (same_bytes _ _ _ _ _ _ _ _
    (byte_0 memory p _ _ _ _ within) (byte_1 memory p _ _ _ _ (p + 1) within (omega arith)) (byte_2 memory p _ _ _ _ (p + 2) within (omega arith)) (byte_3 memory p _ _ _ _ (p + 3) within (omega arith))
    ∙ bytes_are w small)

-- a byte of zeros
zero_byte : (n at : ℕ) → at < n → slice_index (replicate n 0) at ≡ 0
zero_byte n at within = get_or-replicate {A = ℕ} n at 0 0 within

-- a word of zeros
pub word_at-zeros : (n at : ℕ) → at - at % 4 + 4 ≤ n → word_at (replicate n 0) at ≡ 0
word_at-zeros n at within =
    let i : ℕ = at - at % 4 in
    same_bytes _ _ _ _ 0 0 0 0 (zero_byte n i (omega arith)) (zero_byte n (i + 1) (omega arith)) (zero_byte n (i + 2) (omega arith)) (zero_byte n (i + 3) (omega arith))

-- the length stays
pub length-with_word : (memory : List ℕ) (place w : ℕ) → place - place % 4 + 4 ≤ length memory → length (with_word memory place w) ≡ length memory
length-with_word memory place w within =
    omega (arith, length-append (take (place - place % 4) memory) (bytes_of_word w ++ drop (place - place % 4 + 4) memory), length-append (bytes_of_word w) (drop (place - place % 4 + 4) memory), length-take-le (place - place % 4) memory (omega arith), length-drop (place - place % 4 + 4) memory)

-- bytes that are many once a word is put were many before
pub long-with_word : (memory : List ℕ) (place n w : ℕ) → place - place % 4 + 4 < n → n ≤ length (with_word memory place w) → n ≤ length memory
long-with_word memory place n w short long =
    omega (arith, long, length-append (take (place - place % 4) memory) (bytes_of_word w ++ drop (place - place % 4 + 4) memory), length-append (bytes_of_word w) (drop (place - place % 4 + 4) memory), length-take (place - place % 4) memory, length-drop (place - place % 4 + 4) memory)
