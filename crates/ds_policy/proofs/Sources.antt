-- Each source once, in the order of first mention.
use Rattle.std.proofs.Common.{◌≡◌, ◌∙◌, ℕ, Bool, true, false, not, ◌||◌, bytes_eq, List, [], ◌∷◌, ◌++◌, filter, Some, None, refl, sym, ap, subst, inl, inr, append_assoc, append-nil, arith, suc, Option, ◌≤◌, length, IfSome}
use Rattle.std.specs.List.{All, AllByRecursion, IsDistinct}
use Rattle.std.proofs.lemmas.Bool.{cases_Bool}
use Rattle.std.proofs.lemmas.List.Folds.{list_any-append}
use Rattle.std.proofs.lemmas.List.Elements.{All-cons}
use Rattle.std.proofs.lemmas.List.Sums.{length-filter, count_by-le-length}
use Rattle.std.proofs.lemmas.Slice.Eq.{bytes_eq-Decides}
use Rattle.ds_policy.specs.declared.policy.PolicyPage.{PolicyPage}
use Rattle.ds_policy.specs.declared.policy.Source.{Source}
use Rattle.ds_policy.specs.Document.{is_among}
use Rattle.ds_policy.specs.PolicyParts.{with_name, first_mentions, source_names, sources_of}
use Rattle.ds_policy.specs.Inner.PolicyParts.{with_source}

abbrev pub sources_from : List (List ℕ) → List PolicyPage → List (List ℕ)
sources_from known [] = known
sources_from known (p ∷ pages) = sources_from (with_source known p.source) pages

-- those that aren't known yet
abbrev others : List (List ℕ) → List (List ℕ) → List (List ℕ)
others known names = filter (λ y. not (is_among known y)) names

others_none : (names : List (List ℕ)) → others [] names ≡ names
others_none [] = refl
others_none (x ∷ names) = ap (λ xs. x ∷ xs) (others_none names)

among_same : (known : List (List ℕ)) (x y : List ℕ) → bytes_eq x y ≡ true → is_among known x ≡ true → is_among known y ≡ true
among_same known x y e h = subst (λ z. is_among known z ≡ true) ((bytes_eq-Decides x y).0 e) h

-- one that is known takes nothing more away
others_known : (known : List (List ℕ)) (x : List ℕ) (names : List (List ℕ)) → is_among known x ≡ true → others known (filter (λ y. not (bytes_eq x y)) names) ≡ others known names
others_known known x [] h = refl
others_known known x (y ∷ names) h =
    elim (cases_Bool (bytes_eq x y)) [
      | inl same ↦ rw (same, among_same known x y same h) (others_known known x names h)
      | inr other ↦ elim (cases_Bool (is_among known y)) [
        | inl is ↦ rw (other, is) (others_known known x names h)
        | inr new ↦ rw (other, new) (ap (λ xs. y ∷ xs) (others_known known x names h))
      ]
    ]

-- one more is known
others_more : (known : List (List ℕ)) (x : List ℕ) (names : List (List ℕ)) → others (known ++ x ∷ []) names ≡ others known (filter (λ y. not (bytes_eq x y)) names)
others_more known x [] = refl
others_more known x (y ∷ names) =
    elim (cases_Bool (bytes_eq x y)) [
      | inl same ↦ elim (cases_Bool (is_among known y)) [
        | inl is ↦ rw (list_any-append (λ z. bytes_eq z y) known (x ∷ []), same, is) (others_more known x names)
        | inr new ↦ rw (list_any-append (λ z. bytes_eq z y) known (x ∷ []), same, new) (others_more known x names)
      ]
      | inr other ↦ elim (cases_Bool (is_among known y)) [
        | inl is ↦ rw (list_any-append (λ z. bytes_eq z y) known (x ∷ []), other, is) (others_more known x names)
        | inr new ↦ rw (list_any-append (λ z. bytes_eq z y) known (x ∷ []), other, new) (ap (λ xs. y ∷ xs) (others_more known x names))
      ]
    ]

sources_then : (known : List (List ℕ)) (pages : List PolicyPage) → sources_from known pages ≡ known ++ others known (first_mentions (source_names pages))
sources_then known [] = sym (append-nil known)
sources_then known (p ∷ pages) =
    elim p.source as (λ s. sources_from (with_source known s) pages ≡ known ++ others known (first_mentions (with_name s (source_names pages)))) [
      | None ↦ sources_then known pages
      | Some s ↦ elim (cases_Bool (is_among known s.name)) [
        | inl is ↦ rw is (sources_then known pages ∙ ap (λ xs. known ++ xs) (sym (others_known known s.name (first_mentions (source_names pages)) is)))
        | inr new ↦ rw new (sources_then (known ++ s.name ∷ []) pages ∙ append_assoc known (s.name ∷ []) _ ∙ ap (λ xs. known ++ s.name ∷ xs) (others_more known s.name (first_mentions (source_names pages))))
      ]
    ]

-- from none known, they are the distinct names in the order of first mention
pub sources_all : (pages : List PolicyPage) → sources_from [] pages ≡ sources_of pages
sources_all pages = sources_then [] pages ∙ others_none (first_mentions (source_names pages))

-- no more sources than pages

mentions_few : (names : List (List ℕ)) → length (first_mentions names) ≤ length names
mentions_few [] = omega arith
mentions_few (x ∷ names) =
    let ih = mentions_few names in
    let kept = length-filter (λ y. not (bytes_eq x y)) (first_mentions names) in
    let fewer = count_by-le-length (λ y. not (bytes_eq x y)) (first_mentions names) in
    omega (arith, ih, kept, fewer)

names_few : (pages : List PolicyPage) → length (source_names pages) ≤ length pages
names_few [] = omega arith
names_few (p ∷ pages) =
    let ih = names_few pages in
    elim p.source as (λ s. length (with_name s (source_names pages)) ≤ suc (length pages)) [ None ↦ omega (arith, ih) | Some s ↦ omega (arith, ih) ]

pub sources_few : (pages : List PolicyPage) → length (sources_of pages) ≤ length pages
sources_few pages = let a = mentions_few (source_names pages) in let b = names_few pages in omega (arith, a, b)

-- no two sources alike

rest_apart : (p : List ℕ → Bool) (x : List ℕ) (names : List (List ℕ)) → AllByRecursion (λ y. bytes_eq x y ≡ false) names → AllByRecursion (λ y. bytes_eq x y ≡ false) (filter p names)
rest_apart p x [] all = tt
rest_apart p x (y ∷ names) all = elim (cases_Bool (p y)) [
  | inl stays ↦ rw stays (all.0, rest_apart p x names all.1)
  | inr goes ↦ rw goes (rest_apart p x names all.1)
]

distinct_filter : (p : List ℕ → Bool) (names : List (List ℕ)) → IsDistinct bytes_eq names → IsDistinct bytes_eq (filter p names)
unfolding IsDistinct
distinct_filter p [] d = tt
distinct_filter p (y ∷ names) d = elim (cases_Bool (p y)) [
  | inl stays ↦ rw stays (rest_apart p y names d.0, distinct_filter p names d.1)
  | inr goes ↦ rw goes (distinct_filter p names d.1)
]

others_apart : (x : List ℕ) (names : List (List ℕ)) → AllByRecursion (λ y. bytes_eq x y ≡ false) (filter (λ y. not (bytes_eq x y)) names)
others_apart x [] = tt
others_apart x (y ∷ names) = elim (cases_Bool (bytes_eq x y)) [
  | inl same ↦ rw same (others_apart x names)
  | inr other ↦ rw other (other, others_apart x names)
]

pub mentions_distinct : (names : List (List ℕ)) → IsDistinct bytes_eq (first_mentions names)
unfolding IsDistinct
mentions_distinct [] = tt
mentions_distinct (x ∷ names) = (others_apart x (first_mentions names), distinct_filter (λ y. not (bytes_eq x y)) (first_mentions names) (mentions_distinct names))

-- each page's source is there

among_others : (x n : List ℕ) (names : List (List ℕ)) → bytes_eq x n ≡ false → is_among (filter (λ y. not (bytes_eq x y)) names) n ≡ is_among names n
among_others x n [] h = refl
among_others x n (y ∷ names) h = elim (cases_Bool (bytes_eq x y)) [
  | inl same ↦ rw (same, subst (λ z. bytes_eq z n ≡ false) ((bytes_eq-Decides x y).0 same) h) (among_others x n names h)
  | inr other ↦ rw other (ap (λ b. bytes_eq y n || b) (among_others x n names h))
]

among_mentions : (n : List ℕ) (names : List (List ℕ)) → is_among (first_mentions names) n ≡ is_among names n
among_mentions n [] = refl
among_mentions n (x ∷ names) = elim (cases_Bool (bytes_eq x n)) [
  | inl same ↦ rw same refl
  | inr other ↦ rw other (among_others x n (first_mentions names) other ∙ among_mentions n names)
]

abbrev IsAmong : List (List ℕ) → PolicyPage → Type 0
IsAmong names p = IfSome p.source (λ s. is_among names s.name ≡ true)

among_with : (n : List ℕ) (s : Option Source) (names : List (List ℕ)) → is_among names n ≡ true → is_among (with_name s names) n ≡ true
among_with n None names h = h
among_with n (Some s) names h = rw h (elim (cases_Bool (bytes_eq s.name n)) [ inl same ↦ rw same refl | inr other ↦ rw other refl ])

named : (names : List (List ℕ)) (s : Option Source) (rest : List (List ℕ)) → ((n : List ℕ) → is_among (with_name s rest) n ≡ true → is_among names n ≡ true) → IfSome s (λ s. is_among names s.name ≡ true)
named names None rest h = tt
named names (Some s) rest h = h s.name (rw ((bytes_eq-Decides s.name s.name).1 refl) refl)

all_among : (names : List (List ℕ)) (pages : List PolicyPage) → ((n : List ℕ) → is_among (source_names pages) n ≡ true → is_among names n ≡ true) → All (IsAmong names) pages
all_among names [] h = λ k d less. absurd (omega arith)
all_among names (p ∷ pages) h =
    All-cons (IsAmong names) p pages
    (named names p.source (source_names pages) h)
    (all_among names pages (λ n is. h n (among_with n p.source (source_names pages) is)))

-- the name of each page's source is among the sources
pub sources_each : (pages : List PolicyPage) → All (IsAmong (sources_of pages)) pages
sources_each pages = all_among (sources_of pages) pages (λ n is. among_mentions n (source_names pages) ∙ is)
