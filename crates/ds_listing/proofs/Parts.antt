-- The parts of a line, where it is known which characters stand in it.
use Rattle.std.proofs.Common.{◌≡◌, ◌∙◌, ap, sym, refl, ℕ, ◌+◌, ◌-◌, Bool, true, false, not, ◌==◌, nat_lt, List, [], ◌∷◌, ◌++◌, length, length-append, Some, None, arith, append-nil, append_assoc}
use Rattle.std.specs.List.{list_all, prefix_len, suffix_len, position_or_len, after_first}
use Rattle.std.proofs.lemmas.Bool.{and_parts, and_from, lt-ltb, le-ltb, not-true}
use Rattle.std.proofs.lemmas.List.{take_all, reverse-append}
use Rattle.std.proofs.lemmas.List.Folds.{list_all-append}
use Rattle.std.proofs.Math.Seq.{take-append_seam, drop-append-add}
use Rattle.ds_asm.specs.Characters.{is_blank, without_front_blanks, without_back_blanks, trimmed, until, text_after}
use Rattle.ds_asm.specs.Lines.{statement_of, with_label, line_parts, line_of}
use Rattle.ds_listing.specs.Inner.Laws.{alone}

-- a weaker test passes too
pub all_weaker : (p q : ℕ → Bool) → ((c : ℕ) → p c ≡ true → q c ≡ true) → (xs : List ℕ) → list_all p xs ≡ true → list_all q xs ≡ true
all_weaker p q weaker [] h = refl
all_weaker p q weaker (x ∷ xs) h = let (a, b) = and_parts (p x) (list_all p xs) h in and_from (q x) (list_all q xs) (weaker x a) (all_weaker p q weaker xs b)

-- all of two lists pass
pub all_both : (p : ℕ → Bool) (xs ys : List ℕ) → list_all p xs ≡ true → list_all p ys ≡ true → list_all p (xs ++ ys) ≡ true
all_both p xs ys h k = list_all-append p xs ys ∙ and_from (list_all p xs) (list_all p ys) h k

-- a prefix that passes is gone through
through : (q : ℕ → Bool) (xs ys : List ℕ) → list_all q xs ≡ true → prefix_len q (xs ++ ys) ≡ length xs + prefix_len q ys
through q [] ys h = omega arith
through q (x ∷ xs) ys h = let (a, b) = and_parts (q x) (list_all q xs) h in let r = through q xs ys b in rw a (omega arith)

-- and stops where the test fails
pub stops : (q : ℕ → Bool) (xs ys : List ℕ) (y : ℕ) → list_all q xs ≡ true → q y ≡ false → prefix_len q (xs ++ y ∷ ys) ≡ length xs
stops q xs ys y h f = let r = through q xs (y ∷ ys) h in let z : prefix_len q (y ∷ ys) ≡ 0 = rw f refl in omega arith

pub passes : (q : ℕ → Bool) (xs : List ℕ) → list_all q xs ≡ true → prefix_len q xs ≡ length xs
passes q xs h = ap (prefix_len q) (sym (append-nil xs)) ∙ (let r = through q xs [] h in omega arith)

-- whether a character is another than this
abbrev pub is_other : ℕ → ℕ → Bool
is_other c b = not (b == c)

-- what stands before a character and after it
pub until_seam : (c : ℕ) (xs ys : List ℕ) → list_all (is_other c) xs ≡ true → (c == c) ≡ true → until c (xs ++ c ∷ ys) ≡ xs
until_seam c xs ys h itself = rw (stops (is_other c) xs ys c h (ap not itself)) (take-append_seam xs (c ∷ ys))

pub after_some : (c : ℕ) (xs ys : List ℕ) → list_all (is_other c) xs ≡ true → (c == c) ≡ true → text_after c (xs ++ c ∷ ys) ≡ Some ys
after_some c xs ys h itself =
    let long : nat_lt (length xs) (length (xs ++ c ∷ ys)) ≡ true = lt-ltb _ _ (omega (arith, length-append xs (c ∷ ys))) in
    rw (stops (is_other c) xs ys c h (ap not itself), long) (ap (λ zs. Some zs) (drop-append-add xs (c ∷ ys) 1))

pub after_seam : (c : ℕ) (xs ys : List ℕ) → list_all (is_other c) xs ≡ true → (c == c) ≡ true → after_first (λ b. b == c) (xs ++ c ∷ ys) ≡ ys
after_seam c xs ys h itself = rw (stops (is_other c) xs ys c h (ap not itself)) (drop-append-add xs (c ∷ ys) 1)

pub seam_there : (c : ℕ) (xs ys : List ℕ) → list_all (is_other c) xs ≡ true → (c == c) ≡ true → nat_lt (position_or_len (λ b. b == c) (xs ++ c ∷ ys)) (length (xs ++ c ∷ ys)) ≡ true
seam_there c xs ys h itself =
    let place = stops (is_other c) xs ys c h (ap not itself) in
    lt-ltb _ _ (omega (arith, length-append xs (c ∷ ys)))

-- where the character does not stand
pub until_none : (c : ℕ) (xs : List ℕ) → list_all (is_other c) xs ≡ true → until c xs ≡ xs
until_none c xs h = rw (passes (is_other c) xs h) (take_all (length xs) xs (omega arith))

pub after_none : (c : ℕ) (xs : List ℕ) → list_all (is_other c) xs ≡ true → text_after c xs ≡ None
after_none c xs h = let short : nat_lt (length xs) (length xs) ≡ false = le-ltb _ _ (omega arith) in rw (passes (is_other c) xs h, short) refl

-- no blanks stand at the end after a text without them
pub no_back_blanks : (xs : List ℕ) (y : ℕ) (ys : List ℕ) → list_all (λ c. not (is_blank c)) (y ∷ ys) ≡ true → suffix_len is_blank (xs ++ y ∷ ys) ≡ 0
no_back_blanks xs y [] h =
    let (a, b) = and_parts (not (is_blank y)) true h in
    let f : is_blank y ≡ false = not-true (is_blank y) a in
    rw (reverse-append xs (y ∷ []), f) refl
no_back_blanks xs y (z ∷ zs) h =
    let (a, b) = and_parts (not (is_blank y)) (list_all (λ c. not (is_blank c)) (z ∷ zs)) h in
    ap (suffix_len is_blank) (sym (append_assoc xs (y ∷ []) (z ∷ zs))) ∙ no_back_blanks (xs ++ y ∷ []) z zs b

-- a text is trimmed where no blank stands at its ends
pub trimmed_itself : (c : ℕ) (cs : List ℕ) → is_blank c ≡ false → suffix_len is_blank (c ∷ cs) ≡ 0 → trimmed (c ∷ cs) ≡ c ∷ cs
trimmed_itself c cs f e =
    let same : without_front_blanks (c ∷ cs) ≡ c ∷ cs = rw f refl in
    ap without_back_blanks same ∙ (rw e (take_all (length (c ∷ cs) - 0) (c ∷ cs) (omega arith)))

-- and so it is with a blank after it
pub trimmed_blank : (c : ℕ) (cs : List ℕ) → is_blank c ≡ false → suffix_len is_blank (c ∷ cs) ≡ 0 → trimmed (c ∷ cs ++ 32 ∷ []) ≡ c ∷ cs
trimmed_blank c cs f e =
    let same : without_front_blanks (c ∷ cs ++ 32 ∷ []) ≡ c ∷ cs ++ 32 ∷ [] = rw f refl in
    let more : suffix_len is_blank ((c ∷ cs) ++ 32 ∷ []) ≡ 1 = rw (reverse-append (c ∷ cs) (32 ∷ [])) (ap (λ (n : ℕ). 1 + n) e) in
    let size : length ((c ∷ cs) ++ 32 ∷ []) - 1 ≡ length (c ∷ cs) = omega (arith, length-append (c ∷ cs) (32 ∷ [])) in
    ap without_back_blanks same ∙ (rw (more, size) (take-append_seam (c ∷ cs) (32 ∷ [])))

-- a text without blanks is trimmed
pub trimmed_dense : (c : ℕ) (cs : List ℕ) → list_all (λ b. not (is_blank b)) (c ∷ cs) ≡ true → trimmed (c ∷ cs) ≡ c ∷ cs
trimmed_dense c cs h =
    let (a, b) = and_parts (not (is_blank c)) (list_all (λ b. not (is_blank b)) cs) h in
    trimmed_itself c cs (not-true (is_blank c) a) (no_back_blanks [] c cs h)

-- a text in which neither a comment nor a label stands, nor blanks at its ends
pub record IsBody (text : List ℕ) : Type 0 where
  pub first : ℕ
  pub others : List ℕ
  pub whole : text ≡ first ∷ others
  pub front : is_blank first ≡ false
  pub back : suffix_len is_blank text ≡ 0
  pub no_comment : list_all (is_other 35) text ≡ true
  pub no_label : list_all (is_other 58) text ≡ true

parts_of : (c : ℕ) (cs : List ℕ) → list_all (is_other 58) (c ∷ cs) ≡ true → line_parts (c ∷ cs) ≡ alone (statement_of (c ∷ cs))
parts_of c cs h = ap (with_label (c ∷ cs)) (after_none 58 (c ∷ cs) h)

-- a line says what its statement says
pub body_line : (text : List ℕ) → IsBody text → line_of text ≡ alone (statement_of text)
unfolding line_of
body_line text b =
    let body = trimmed_itself b.first b.others b.front (ap (suffix_len is_blank) (sym b.whole) ∙ b.back) in
    ap (λ t. line_parts (trimmed t)) (until_none 35 text b.no_comment ∙ b.whole)
    ∙ (ap line_parts body ∙ (parts_of b.first b.others (ap (list_all (is_other 58)) (sym b.whole) ∙ b.no_label) ∙ ap (λ t. alone (statement_of t)) (sym b.whole)))

-- also with a comment after it
pub commented_line : (text comment : List ℕ) → IsBody text → line_of (text ++ 32 ∷ 35 ∷ comment) ≡ alone (statement_of text)
unfolding line_of
commented_line text comment b =
    let shift : text ++ 32 ∷ 35 ∷ comment ≡ (text ++ 32 ∷ []) ++ 35 ∷ comment = sym (append_assoc text (32 ∷ []) (35 ∷ comment)) in
    let front : list_all (is_other 35) (text ++ 32 ∷ []) ≡ true = all_both (is_other 35) text (32 ∷ []) b.no_comment refl in
    let body = trimmed_blank b.first b.others b.front (ap (suffix_len is_blank) (sym b.whole) ∙ b.back) in
    ap (λ t. line_parts (trimmed t)) (ap (until 35) shift ∙ (until_seam 35 (text ++ 32 ∷ []) comment front refl ∙ ap (λ t. t ++ 32 ∷ []) b.whole))
    ∙ (ap line_parts body ∙ (parts_of b.first b.others (ap (list_all (is_other 58)) (sym b.whole) ∙ b.no_label) ∙ ap (λ t. alone (statement_of t)) (sym b.whole)))
