-- Words put one after the other are read, and all else of memory stays.
use Rattle.std.proofs.Common.{◌≡◌, ℕ, zero, suc, ◌+◌, ◌*◌, ◌/◌, ◌%◌, ◌^◌, ◌<◌, ◌≤◌, Bool, true, List, [], ◌∷◌, ◌++◌, length, take, inr, refl, sym, ap, ap₂, subst, ◌∙◌, arith}
use Rattle.std.proofs.Math.Seq.{take-suc}
use Rattle.std.proofs.lemmas.List.{length-take-le}
use Rattle.std.specs.Prelude.{slice_index, nat_lt, ◌&&◌}
use Rattle.std.proofs.lemmas.Bool.Decides.{nat_tests}
use Rattle.ds_word.specs.Bytes.{word_at, with_word}
use Rattle.ds_mem.specs.Memory.{frame_of}
use Rattle.ds_word.proofs.Bytes.{word_at-with_word, word_at-with_word_apart, length-with_word, long-with_word}
use Rattle.ds_mem.proofs.Words.{frame_of-with_word_apart}
use Rattle.ds_refill.specs.Handler.{words, HasWords}
use Rattle.ds_refill.specs.Inner.Handler.{with_words}

-- whether each is a word
abbrev are_words : List ℕ → Bool
are_words [] = true
are_words (w ∷ ws) = nat_lt w (2 ^ 32) && are_words ws

-- one more word after the others
pub with_words-push : (memory : List ℕ) (place w : ℕ) (ws : List ℕ) → with_words memory place (ws ++ w ∷ []) ≡ with_word (with_words memory place ws) (place + 4 * length ws) w
with_words-push memory place w [] = let e : place ≡ place + 4 * 0 = omega arith in ap (λ p. with_word memory p w) e
with_words-push memory place w (x ∷ xs) =
    let e : place + 4 + 4 * length xs ≡ place + 4 * suc (length xs) = omega arith in
    with_words-push (with_word memory place x) (place + 4) w xs ∙ ap (λ p. with_word (with_words (with_word memory place x) (place + 4) xs) p w) e

pub length-with_words : (memory : List ℕ) (place : ℕ) (ws : List ℕ) → place % 4 ≡ 0 → place + 4 * length ws ≤ length memory → length (with_words memory place ws) ≡ length memory
length-with_words memory place [] whole within = refl
length-with_words memory place (w ∷ ws) whole within =
    let size = length-with_word memory place w (omega arith) in
    length-with_words (with_word memory place w) (place + 4) ws (omega arith) (omega arith) ∙ size

-- memory that is long once words are put was long before
pub long_before : (memory : List ℕ) (place n : ℕ) (ws : List ℕ) → place % 4 ≡ 0 → place + 4 * length ws < n → n ≤ length (with_words memory place ws) → n ≤ length memory
long_before memory place n [] whole short long = long
long_before memory place n (w ∷ ws) whole short long =
    let rest = long_before (with_word memory place w) (place + 4) n ws (omega arith) (omega arith) long in
    long-with_word memory place n w (omega arith) rest

-- words before the place stay
stays_before : (memory : List ℕ) (place other : ℕ) (ws : List ℕ) → place % 4 ≡ 0 → other < place → place + 4 * length ws ≤ length memory → word_at (with_words memory place ws) other ≡ word_at memory other
stays_before memory place other [] whole before within = refl
stays_before memory place other (w ∷ ws) whole before within =
    let size = length-with_word memory place w (omega arith) in
    stays_before (with_word memory place w) (place + 4) other ws (omega arith) (omega arith) (omega arith)
    ∙ word_at-with_word_apart memory place other w (omega arith) (λ (e : ◌≡◌ {A = ℕ} (other / 4) (place / 4)). omega arith)

-- each word that was put is read
reads : (memory : List ℕ) (place k : ℕ) (ws : List ℕ) → place % 4 ≡ 0 → k < length ws → are_words ws ≡ true → place + 4 * length ws ≤ length memory → word_at (with_words memory place ws) (place + 4 * k) ≡ slice_index ws k
reads memory place k [] whole few fit within = absurd (omega arith)
reads memory place zero (w ∷ ws) whole few fit within =
    let size = length-with_word memory place w (omega arith) in
    let small : w < 2 ^ 32 = grind (arith, nat_tests) in
    let at : place + 4 * 0 ≡ place = omega arith in
    ap (word_at (with_words (with_word memory place w) (place + 4) ws)) at
    ∙ stays_before (with_word memory place w) (place + 4) place ws (omega arith) (omega arith) (omega arith)
    ∙ word_at-with_word memory place w (omega arith) small
reads memory place (suc k) (w ∷ ws) whole few fit within =
    let size = length-with_word memory place w (omega arith) in
    let rest : are_words ws ≡ true = grind (arith, nat_tests) in
    let at : place + 4 * suc k ≡ place + 4 + 4 * k = omega arith in
    ap (word_at (with_words (with_word memory place w) (place + 4) ws)) at
    ∙ reads (with_word memory place w) (place + 4) k ws (omega arith) (omega arith) rest (omega arith)

pub has_words : (memory : List ℕ) → 36 ≤ length memory → HasWords (with_words memory 0 words)
has_words memory within = record { at = λ k few. let place : 4 * k ≡ 0 + 4 * k = omega arith in ap (word_at (with_words memory 0 words)) place ∙ reads memory 0 k words refl few refl within }

-- frames beyond the words stay
pub frame_stays : (memory : List ℕ) (place f : ℕ) (ws : List ℕ) → place % 4 ≡ 0 → place + 4 * length ws ≤ f * 4096 → place + 4 * length ws ≤ length memory → frame_of (with_words memory place ws) f ≡ frame_of memory f
frame_stays memory place f [] whole before within = refl
frame_stays memory place f (w ∷ ws) whole before within =
    let size = length-with_word memory place w (omega arith) in
    frame_stays (with_word memory place w) (place + 4) f ws (omega arith) (omega arith) (omega arith)
    ∙ frame_of-with_word_apart memory place w f (omega arith) (inr (omega arith))

-- Words put by a loop.

-- one more of the handler's words
pub one_more : (memory : List ℕ) (k n x : ℕ) → k < 9 → n ≡ k + 1 → x ≡ slice_index words k → with_word (with_words memory 0 (take k words)) (4 * k) x ≡ with_words memory 0 (take n words)
one_more memory k n x few next is =
    let size : length (take k words) ≡ k = length-take-le k words (omega (arith, nine)) in
    let place : 0 + 4 * length (take k words) ≡ 4 * k = omega arith in
    let after : n ≡ suc k = omega arith in
    sym (ap (λ i. with_words memory 0 (take i words)) after
    ∙ ap (with_words memory 0) (take-suc words k 0 (omega (arith, nine)))
    ∙ with_words-push memory 0 (slice_index words k) (take k words)
    ∙ ap₂ (λ p w. with_word (with_words memory 0 (take k words)) p w) place (sym is))
  where
    nine : length words ≡ 9
    nine = refl

-- all of them
pub all_put : (memory : List ℕ) (n : ℕ) → n ≡ 9 → with_words memory 0 (take n words) ≡ with_words memory 0 words
all_put memory n all = ap (λ i. with_words memory 0 (take i words)) all

pub installed : (memory new : List ℕ) → new ≡ with_words memory 0 words → 8388608 ≤ length new → HasWords new
installed memory new is long =
    let before = long_before memory 0 8388608 words refl (omega arith) (subst (λ (m : List ℕ). 8388608 ≤ length m) is long) in
    subst HasWords (sym is) (has_words memory (omega arith))

pub other_frames : (memory new : List ℕ) (f : ℕ) → new ≡ with_words memory 0 words → 8388608 ≤ length new → 0 < f → frame_of new f ≡ frame_of memory f
other_frames memory new f is long some =
    let before = long_before memory 0 8388608 words refl (omega arith) (subst (λ (m : List ℕ). 8388608 ≤ length m) is long) in
    ap (λ m. frame_of m f) is ∙ frame_stays memory 0 f words refl (omega arith) (omega arith)
