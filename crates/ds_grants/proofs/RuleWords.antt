-- The words of rules, one after the other.
use Rattle.std.proofs.Common.{◌≡◌, ◌≢◌, ◌⊎◌, ℕ, zero, suc, ◌+◌, ◌-◌, ◌*◌, ◌%◌, ◌^◌, ◌<◌, ◌≤◌, ◌==◌, Bool, true, false, cond, not, List, [], ◌∷◌, ◌++◌, length, replicate, take, Option, Some, None, get_or, refl, sym, ap, ap₂, subst, ◌∙◌, arith, inl, inr, length-set, get_or-set_same, get_or-set_other}
use Rattle.std.specs.Prelude.{◌||◌, nat_lt, map, filter, is_some, IfSome, position, slice_index}
use Rattle.std.specs.List.{All, list_any}
use Rattle.std.proofs.lemmas.Bool.{cases_Bool}
use Rattle.std.proofs.lemmas.Bool.Decides.{nat_tests}
use Rattle.std.proofs.lemmas.List.{take_more, length-replicate, length-take, get_or-take, get_or-replicate}
use Rattle.std.proofs.lemmas.List.FromFn.{get_or-range_with_len}
use Rattle.ds_policy.specs.declared.grant.Entry.{Entry}
use Rattle.ds_policy.specs.declared.grant.Grant.{Grant}
use Rattle.ds_policy.specs.declared.policy.PolicyRule.{PolicyRule}
use Rattle.ds_policy.specs.Pages.{Table, entries_of, found, put, with_entry}
use Rattle.ds_policy.specs.Grants.{region, count_distinct}
use Rattle.ds_policy.specs.PolicyParts as rules
use Rattle.ds_policy.specs.PolicyFacts.{IsGoodRule, HasFewRegions}
use Rattle.ds_policy.specs.FirstTable.{granted_by, with_rule, with_rules}
use Rattle.ds_tables.specs.Places.{Places, region_of, holds, places_of, region_place}
use Rattle.ds_tables.specs.Inner.Places.{has_place, opened}
use Rattle.ds_tables.specs.Inner.Tables as tables
use Rattle.ds_tables.specs.Tables.{HasEmptyTable}
use Rattle.ds_tables.proofs.PlaceLemmas.{places_at, four_places, none_placed}
use Rattle.ds_tables.proofs.Map.{frames_kept, none_words}
use Rattle.ds_grants.specs.State.{GrantsState}
use Rattle.ds_grants.specs.Inner.State.{place_of_page}
use Rattle.ds_grants.specs.Inner.First.{no_grants, first_place}
use Rattle.ds_grants.specs.Words.{word_of_grant, regions_taken, WordsHold}
use Rattle.ds_grants.specs.Represented.{TablesHaveWords}
use Rattle.ds_grants.specs.Inner.Represented.{HasRegion}
use Rattle.ds_grants.proofs.FifthRegion.{has, subset, regions_of, fifth_by_places}
use Rattle.ds_grants.proofs.Puts.{put_holds, same_word}
use Rattle.ds_grants.proofs.Kept.{opened_places, few_pages, word_small}

-- this table, with each page in the frame of its number
abbrev pub over : Table → GrantsState
over table = record (no_grants 0 1024 0) { table = table }

lies_over : (q : ℕ) → q < 1024 → slice_index (over []).lies q ≡ q
lies_over q low = get_or-range_with_len 0 1024 q 0 low ∙ (let e : 0 + q ≡ q = omega arith in e)

pub place_over : (table : Table) (page : Option ℕ) → IfSome page (λ q. q < 1024) → place_of_page (over table) page ≡ first_place page
place_over table None low = refl
place_over table (Some q) low = ap₂ (λ (f : ℕ) (b : Bool). Some (record { frame = f; shared = b })) (lies_over q low) (get_or-replicate 1024 q false false low)

frames_over : (page : Option ℕ) → IfSome page (λ q. q < 1024) → IfSome page (λ q. slice_index (over []).lies q < 1024)
frames_over None low = tt
frames_over (Some q) low = subst (λ (n : ℕ). n < 1024) (sym (lies_over q low)) low

-- one word more
written : (memory : List ℕ) (t : Places) (table : Table) (p a : ℕ) (grant : Grant) → TablesHaveWords memory t (over table) → 2 ^ 23 ≤ length memory → 0 < p → p ≤ length table → a % 4096 ≡ 0 → IfSome grant.page (λ q. q < 1024) → HasRegion (over table) p a
    → TablesHaveWords (tables.with_entry memory t p a (word_of_grant (over []) (Some grant))) (opened t p (region_of a)) (over (with_entry table p a grant))
written memory t table p a grant k long low high page small region-free =
    let w : word_of_grant (over []) (Some grant) ≡ word_of_grant (over table) (Some grant) = same_word (over table) [] [] (Some grant) in
    let high_places : p ≤ length t = subst (λ (n : ℕ). p ≤ n) (sym k.words.same) high in
    let room : has_place t p (region_of a) ≡ true = turned (has_place t p (region_of a)) (sym (fifth_by_places t p (region_of a) (entries_of table p) (four_places t p k.places low high_places) (k.words.distinct p) (λ s. k.words.regions p s low)) ∙ region-free) in
    record {
      words = subst (λ (n : ℕ). WordsHold (tables.with_entry memory t p a n) (opened t p (region_of a)) (over (with_entry table p a grant))) (sym w)
          (put_holds memory t (over table) p a k.words k.places long k.empty low high page grant (subst (λ (n : ℕ). n < 2 ^ 32) w (word_small (over []) grant (frames_over grant.page small))) room);
      places = opened_places t p (region_of a) k.places;
      empty = frames_kept memory t p a (word_of_grant (over []) (Some grant)) 1 k.places long (inl (omega arith)) ∙ k.empty;
    }
  where
    turned : (b : Bool) → not b ≡ false → b ≡ true
    turned true e = refl
    turned false e = absurd cc

-- The regions of rules.

or_true : (x : Bool) → (x || true) ≡ true
or_true true = refl
or_true false = refl

either : (x y : Bool) → (x || y) ≡ true → (x ≡ true) ⊎ (y ≡ true)
either true y e = inl refl
either false y e = inr e

put_region : (b : ℕ) (es : List Entry) (a : ℕ) (g : Grant) → has b (regions_of (put es a g)) ≡ true → ((region a == b) || has b (regions_of es)) ≡ true
put_region b [] a g e = e
put_region b (x ∷ es) a g e = by (put_region b es a g) (x.address == a) e
  where
    by : (has b (regions_of (put es a g)) ≡ true → ((region a == b) || has b (regions_of es)) ≡ true) → (here : Bool) → has b (regions_of (cond here (record { address = a; grant = g } ∷ es) (x ∷ put es a g))) ≡ true
        → ((region a == b) || ((region x.address == b) || has b (regions_of es))) ≡ true
    by rest true e = elim (either (region a == b) (has b (regions_of es)) e) [
      | inl new ↦ ap (λ (c : Bool). c || ((region x.address == b) || has b (regions_of es))) new
      | inr old ↦ ap (λ (c : Bool). (region a == b) || ((region x.address == b) || c)) old ∙ (ap (λ (c : Bool). (region a == b) || c) (or_true (region x.address == b)) ∙ or_true (region a == b))
    ]
    by rest false e = elim (either (region x.address == b) (has b (regions_of (put es a g))) e) [
      | inl this ↦ ap (λ (c : Bool). (region a == b) || (c || has b (regions_of es))) this ∙ or_true (region a == b)
      | inr more ↦ elim (either (region a == b) (has b (regions_of es)) (rest more)) [
        | inl new ↦ ap (λ (c : Bool). c || ((region x.address == b) || has b (regions_of es))) new
        | inr old ↦ ap (λ (c : Bool). (region a == b) || ((region x.address == b) || c)) old ∙ (ap (λ (c : Bool). (region a == b) || c) (or_true (region x.address == b)) ∙ or_true (region a == b))
      ]
    ]

-- a rule's region is the only new one
rule_region : (b q n : ℕ) (t : Table) (r : PolicyRule) (rest : List PolicyRule) → 0 < q → 0 < r.process → r.process ≤ length t
    → has b (regions_of (entries_of (with_rule t n r) q)) ≡ true → (has b (regions_of (entries_of t q)) || has b (rules.regions_of q (r ∷ rest))) ≡ true
rule_region b q n t r rest live low high e = elim (cases_Bool (r.process == q)) [
  | inl own ↦
      let same : q ≡ r.process = grind (arith, nat_tests) in
      let row : entries_of (with_rule t n r) r.process ≡ put (entries_of t r.process) r.address (granted_by n r) = get_or-set_same t (r.process - 1) (put (entries_of t r.process) r.address (granted_by n r)) [] (omega (arith, low, high)) in
      let here : has b (regions_of (put (entries_of t r.process) r.address (granted_by n r))) ≡ true = sym (ap (λ (es : List Entry). has b (regions_of es)) row) ∙ (ap (λ (m : ℕ). has b (regions_of (entries_of (with_rule t n r) m))) (sym same) ∙ e) in
      rw own (elim (either (region r.address == b) (has b (regions_of (entries_of t r.process))) (put_region b (entries_of t r.process) r.address (granted_by n r) here)) [
        | inl new ↦ ap (λ (c : Bool). has b (regions_of (entries_of t q)) || (c || has b (rules.regions_of q rest))) new ∙ or_true (has b (regions_of (entries_of t q)))
        | inr old ↦ ap (λ (c : Bool). c || ((region r.address == b) || has b (rules.regions_of q rest))) (ap (λ (m : ℕ). has b (regions_of (entries_of t m))) same ∙ old)
      ])
  | inr other ↦
      let apart : q - 1 ≢ r.process - 1 = grind (arith, nat_tests) in
      let row : entries_of (with_rule t n r) q ≡ entries_of t q = get_or-set_other t (r.process - 1) (q - 1) (put (entries_of t r.process) r.address (granted_by n r)) [] apart in
      ap (λ (c : Bool). c || has b (rules.regions_of q (r ∷ rest))) (sym (ap (λ (es : List Entry). has b (regions_of es)) row) ∙ e)
]

more_rule : (b q : ℕ) (r : PolicyRule) (rest : List PolicyRule) → has b (rules.regions_of q rest) ≡ true → has b (rules.regions_of q (r ∷ rest)) ≡ true
more_rule b q r rest e = by (r.process == q)
  where
    by : (own : Bool) → has b (map (λ (s : PolicyRule). region s.address) (cond own (r ∷ filter (λ (s : PolicyRule). s.process == q) rest) (filter (λ (s : PolicyRule). s.process == q) rest))) ≡ true
    by true = ap (λ (c : Bool). (region r.address == b) || c) e ∙ or_true (region r.address == b)
    by false = e

rules_region : (b q n : ℕ) (t : Table) (rs : List PolicyRule) → 0 < q → All (λ (r : PolicyRule). (0 < r.process) × (r.process ≤ length t)) rs
    → has b (regions_of (entries_of (with_rules t n rs) q)) ≡ true → (has b (regions_of (entries_of t q)) || has b (rules.regions_of q rs)) ≡ true
rules_region b q n t [] live all e = ap (λ (c : Bool). c || has b (rules.regions_of q [])) e
rules_region b q n t (r ∷ rest) live all e =
    let one = all 0 r (omega arith) in
    let same : length (with_rule t n r) ≡ length t = length-set t (r.process - 1) (put (entries_of t r.process) r.address (granted_by n r)) in
    let later : All (λ (s : PolicyRule). (0 < s.process) × (s.process ≤ length (with_rule t n r))) rest = λ i d within. (let it = all (suc i) d (omega (arith, within)) in (it.0, subst (λ (m : ℕ). (get_or rest i d).process ≤ m) (sym same) it.1)) in
    elim (either (has b (regions_of (entries_of (with_rule t n r) q))) (has b (rules.regions_of q rest)) (rules_region b q (n + 1) (with_rule t n r) rest live later e)) [
      | inl row ↦ rule_region b q n t r rest live one.0 one.1 row
      | inr more ↦ ap (λ (c : Bool). has b (regions_of (entries_of t q)) || c) (more_rule b q r rest more) ∙ or_true (has b (regions_of (entries_of t q)))
    ]

prefix_region : (b q i : ℕ) (rs : List PolicyRule) → has b (rules.regions_of q (take i rs)) ≡ true → has b (rules.regions_of q rs) ≡ true
prefix_region b q zero rs e = absurd cc
prefix_region b q (suc i) [] e = e
prefix_region b q (suc i) (r ∷ rs) e = by (prefix_region b q i rs) (r.process == q) e
  where
    by : (has b (rules.regions_of q (take i rs)) ≡ true → has b (rules.regions_of q rs) ≡ true) → (own : Bool)
        → has b (map (λ (s : PolicyRule). region s.address) (cond own (r ∷ filter (λ (s : PolicyRule). s.process == q) (take i rs)) (filter (λ (s : PolicyRule). s.process == q) (take i rs)))) ≡ true
        → has b (map (λ (s : PolicyRule). region s.address) (cond own (r ∷ filter (λ (s : PolicyRule). s.process == q) rs) (filter (λ (s : PolicyRule). s.process == q) rs))) ≡ true
    by rest true e = elim (either (region r.address == b) (has b (rules.regions_of q (take i rs))) e) [
      | inl this ↦ ap (λ (c : Bool). c || has b (rules.regions_of q rs)) this
      | inr more ↦ ap (λ (c : Bool). (region r.address == b) || c) (rest more) ∙ or_true (region r.address == b)
    ]
    by rest false e = rest e

itself : (a : ℕ) → (a == a) ≡ true
itself a = grind (arith, nat_tests)

own_region : (i : ℕ) (rs : List PolicyRule) (d : PolicyRule) → i < length rs → has (region (get_or rs i d).address) (rules.regions_of (get_or rs i d).process rs) ≡ true
own_region i [] d within = absurd (omega (arith, within))
own_region zero (r ∷ rs) d within = rw (itself r.process) (ap (λ (c : Bool). c || has (region r.address) (rules.regions_of r.process rs)) (itself (region r.address)))
own_region (suc i) (r ∷ rs) d within = more_rule (region (get_or rs i d).address) (get_or rs i d).process r rs (own_region i rs d (omega (arith, within)))

empty_row : (n q : ℕ) → entries_of (replicate {A = List Entry} n []) q ≡ []
empty_row n q = by n (q - 1)
  where
    by : (n i : ℕ) → get_or (replicate {A = List Entry} n []) i [] ≡ []
    by zero zero = refl
    by zero (suc i) = refl
    by (suc n) zero = refl
    by (suc n) (suc i) = by_again n i
      where
        by_again : (n i : ℕ) → get_or (replicate {A = List Entry} n []) i [] ≡ []
        by_again zero zero = refl
        by_again zero (suc i) = refl
        by_again (suc n) zero = refl
        by_again (suc n) (suc i) = by_again n i

all_taken : (processes i : ℕ) (rs : List PolicyRule) → All (IsGoodRule processes 1024) rs → All (λ (r : PolicyRule). (0 < r.process) × (r.process ≤ length (replicate {A = List Entry} processes []))) (take i rs)
all_taken processes i rs good = λ j d within. (
    let short : j < i = (let n = length-take i rs in omega (arith, within, n)) in
    let inside : j < length rs = (let n = length-take i rs in omega (arith, within, n)) in
    let it = good j d inside in
    let at : get_or (take i rs) j d ≡ get_or rs j d = get_or-take i rs j d short in
    let p = it.process in
    let long : length (replicate {A = List Entry} processes []) ≡ processes = length-replicate processes [] in
    (subst (λ (r : PolicyRule). 0 < r.process) (sym at) (omega (arith, p)), subst (λ (r : PolicyRule). r.process ≤ length (replicate {A = List Entry} processes [])) (sym at) (omega (arith, p, long))))

-- The next rule opens no fifth region.
region_for : (processes i : ℕ) (rs : List PolicyRule) (d : PolicyRule) → i < length rs → All (IsGoodRule processes 1024) rs → HasFewRegions rs
    → HasRegion (over (with_rules (replicate processes []) 1 (take i rs))) (get_or rs i d).process (get_or rs i d).address
region_for processes i rs d within good few =
    let r : PolicyRule = get_or rs i d in
    let p = (good i d within).process in
    let live : 0 < r.process = omega (arith, p) in
    let most = few r.process in
    let sub = subset (region r.address ∷ regions_of (entries_of (with_rules (replicate processes []) 1 (take i rs)) r.process)) (rules.regions_of r.process rs) (λ b e. elim (either (region r.address == b) (has b (regions_of (entries_of (with_rules (replicate processes []) 1 (take i rs)) r.process))) e) [
      | inl this ↦ subst (λ (n : ℕ). has n (rules.regions_of r.process rs) ≡ true) (same (region r.address) b this) (own_region i rs d within)
      | inr old ↦ elim (either (has b (regions_of (entries_of (replicate {A = List Entry} processes []) r.process))) (has b (rules.regions_of r.process (take i rs))) (rules_region b r.process 1 (replicate processes []) (take i rs) live (all_taken processes i rs good) old)) [
        | inl none ↦ (let no : false ≡ true = sym (ap (λ (es : List Entry). has b (regions_of es)) (empty_row processes r.process)) ∙ none in absurd cc)
        | inr before ↦ prefix_region b r.process i rs before
      ]
    ]) in
    few_are (count_distinct (region r.address ∷ regions_of (entries_of (with_rules (replicate processes []) 1 (take i rs)) r.process))) (omega (arith, sub, most))
  where
    same : (a b : ℕ) → (a == b) ≡ true → a ≡ b
    same a b e = grind (arith, nat_tests)

    few_are : (n : ℕ) → n ≤ 4 → nat_lt 4 n ≡ false
    few_are n e = grind (arith, nat_tests)

-- one rule more
one_more : (t : Table) (n : ℕ) (rs : List PolicyRule) (r : PolicyRule) (m : ℕ) → with_rules t n (rs ++ r ∷ []) ≡ with_rule (with_rules t n rs) (n + length rs) r
one_more t n [] r m = ap (λ (k : ℕ). with_rule t k r) (omega arith)
one_more t n (x ∷ rs) r m = one_more (with_rule t n x) (n + 1) rs r m ∙ ap (λ (k : ℕ). with_rule (with_rules t n (x ∷ rs)) k r) (omega arith)

as_long : (t : Table) (n : ℕ) (rs : List PolicyRule) → length (with_rules t n rs) ≡ length t
as_long t n [] = refl
as_long t n (r ∷ rs) = as_long (with_rule t n r) (n + 1) rs ∙ length-set t (r.process - 1) (put (entries_of t r.process) r.address (granted_by n r))

pub rule_written : (processes i : ℕ) (rs : List PolicyRule) (d : PolicyRule) (memory : List ℕ) (t : Places) → i < length rs → All (IsGoodRule processes 1024) rs → HasFewRegions rs → 2 ^ 23 ≤ length memory
    → TablesHaveWords memory t (over (with_rules (replicate processes []) 1 (take i rs)))
    → TablesHaveWords (tables.with_entry memory t (get_or rs i d).process (get_or rs i d).address (word_of_grant (over []) (Some (granted_by 0 (get_or rs i d))))) (opened t (get_or rs i d).process (region_of (get_or rs i d).address)) (over (with_rules (replicate processes []) 1 (take (i + 1) rs)))
rule_written processes i rs d memory t within good few long k =
    let r : PolicyRule = get_or rs i d in
    let it = good i d within in
    let p = it.process in
    let before : Table = with_rules (replicate processes []) 1 (take i rs) in
    let rows : length (with_rules (replicate processes []) 1 (take i rs)) ≡ processes = as_long (replicate processes []) 1 (take i rs) ∙ length-replicate processes [] in
    subst (λ (table : Table). TablesHaveWords (tables.with_entry memory t r.process r.address (word_of_grant (over []) (Some (granted_by 0 r)))) (opened t r.process (region_of r.address)) (over table))
    (sym (ap (with_rules (replicate processes []) 1) (take_more rs i d within) ∙ one_more (replicate processes []) 1 (take i rs) r 0))
    (written memory t before r.process r.address (granted_by (1 + length (take i rs)) r) k long (omega (arith, p)) (omega (arith, p, rows)) it.aligned it.page (region_for processes i rs d within good few))

-- Before any rule.
pub nothing_written : (processes places : ℕ) (memory : List ℕ) → places ≡ processes → processes ≤ 100 → HasEmptyTable memory → TablesHaveWords memory (replicate places (replicate 4 None)) (over (replicate processes []))
nothing_written processes places memory same few empty = subst (λ (n : ℕ). TablesHaveWords memory (replicate n (replicate 4 None)) (over (replicate processes []))) (sym same) (record {
  words = record {
    words = λ p vpn live user. none_words memory processes p (vpn * 2 ^ 12) empty ∙ sym (ap (λ (es : List Entry). word_of_grant (over (replicate processes [])) (found es (vpn * 2 ^ 12))) (empty_row processes p));
    regions = λ p r live. no_place processes p r ∙ sym (ap (list_any (λ (e : Entry). region_of e.address == r)) (empty_row processes p));
    distinct = λ p. none_taken processes p;
    same = length-replicate processes (replicate 4 None) ∙ sym (length-replicate processes []);
  };
  places = none_placed processes few;
  empty = empty;
})
  where
    row_by : (n i : ℕ) → (get_or (replicate {A = List (Option ℕ)} n (replicate 4 None)) i [] ≡ replicate 4 None) ⊎ (get_or (replicate {A = List (Option ℕ)} n (replicate 4 None)) i [] ≡ [])
    row_by zero zero = inr refl
    row_by zero (suc i) = inr refl
    row_by (suc n) zero = inl refl
    row_by (suc n) (suc i) = row_by n i

    places_by : (n p : ℕ) → (places_of (replicate n (replicate 4 None)) p ≡ replicate 4 None) ⊎ (places_of (replicate n (replicate 4 None)) p ≡ [])
    places_by n zero = inr refl
    places_by n (suc p) = elim (row_by n (suc p - 1)) [
      | inl four ↦ inl (places_at (replicate n (replicate 4 None)) (suc p) (omega arith) ∙ four)
      | inr none ↦ inr (places_at (replicate n (replicate 4 None)) (suc p) (omega arith) ∙ none)
    ]

    no_place : (n p r : ℕ) → is_some (region_place (replicate n (replicate 4 None)) p r) ≡ false
    no_place n p r = elim (places_by n p) [
      | inl four ↦ ap (λ (ps : List (Option ℕ)). is_some (position (holds r) ps)) four
      | inr none ↦ ap (λ (ps : List (Option ℕ)). is_some (position (holds r) ps)) none
    ]

    none_taken : (n p : ℕ) → count_distinct (regions_taken (places_of (replicate n (replicate 4 None)) p)) ≡ length (regions_taken (places_of (replicate n (replicate 4 None)) p))
    none_taken n p = elim (places_by n p) [
      | inl four ↦ subst (λ (ps : List (Option ℕ)). count_distinct (regions_taken ps) ≡ length (regions_taken ps)) (sym four) refl
      | inr none ↦ subst (λ (ps : List (Option ℕ)). count_distinct (regions_taken ps) ≡ length (regions_taken ps)) (sym none) refl
    ]

pub written_as : {memory n : List ℕ} {t u : Places} {table : Table} → n ≡ memory → u ≡ t → TablesHaveWords memory t (over table) → TablesHaveWords n u (over table)
written_as {memory} {n} {t} {u} {table} e f k = subst (λ (m : List ℕ). TablesHaveWords m u (over table)) (sym e) (subst (λ (v : Places). TablesHaveWords memory v (over table)) (sym f) k)

-- rules over fewer pages are rules over more
pub more_pages : (processes pages : ℕ) (rs : List PolicyRule) → pages ≤ 1024 → All (IsGoodRule processes pages) rs → All (IsGoodRule processes 1024) rs
more_pages processes pages rs few good = λ i d within.
    let it = good i d within in
    record { process = it.process; aligned = it.aligned; user = it.user; page = few_pages (get_or rs i d).page pages few it.page; right = it.right; until = it.until }
