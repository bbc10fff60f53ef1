-- The rows as keys, one after the other.
use Rattle.std.proofs.Common.{◌≡◌, ◌≢◌, ℕ, zero, suc, ◌+◌, ◌-◌, ◌*◌, ◌/◌, ◌%◌, ◌^◌, ◌<◌, ◌≤◌, ◌⊎◌, ◌==◌, Bool, true, false, cond, List, [], ◌∷◌, ◌++◌, length, Option, Some, None, refl, sym, ap, ap₂, subst, ◌∙◌, arith, inl, inr}
use Rattle.std.specs.Prelude.{◌&&◌, ◌||◌, is_some, get_or, not, nat_lt, slice_get, slice_index}
use Rattle.std.specs.List.{All, IsDistinct, AllByRecursion, list_any}
use Rattle.std.proofs.lemmas.Bool.{cases_Bool}
use Rattle.std.proofs.lemmas.List.{get_or_past}
use Rattle.std.proofs.lemmas.Bool.Decides.{nat_tests}
use Rattle.std.proofs.lemmas.List.Elements.{All-append, All-cons, All-nil}
use Rattle.std.proofs.lemmas.List.Folds.{list_any_at}
use Rattle.std.proofs.lemmas.Map.Keys.{IsDistinct-head, IsDistinct-tail}
use Rattle.std.proofs.lemmas.Option.{slice_get-get_or, slice_get_within}
use Rattle.ds_word.specs.Word.{bits, bit}
use Rattle.ds_tlb.specs.declared.entry.Entry.{Entry}
use Rattle.ds_tlb.specs.Entries.{empty_entry}
use Rattle.ds_tlb.specs.Words.{entry_of}
use Rattle.ds_policy.specs.declared.grant.Entry as granted
use Rattle.ds_policy.specs.declared.grant.Grant.{Grant}
use Rattle.ds_policy.specs.declared.grant.Right.{Right}
use Rattle.ds_policy.specs.declared.grant.Right.TheVariants.{Nothing, Read, Write}
use Rattle.ds_policy.specs.Pages.{Table, entries_of, entry_at, found, names}
use Rattle.ds_policy.specs.Grants.{is_some_right, is_write}
use Rattle.ds_asid.specs.Spaces.{Spaces, space_number}
use Rattle.ds_asid.specs.Inner.Spaces.{number_held}
use Rattle.ds_tables.specs.Places.{Places, region_of, region_place}
use Rattle.ds_tables.specs.Tables.{entry_word}
use Rattle.ds_grants.specs.declared.layout.Place.{Place}
use Rattle.ds_grants.specs.State.{GrantsState, is_shared}
use Rattle.ds_grants.specs.Words.{word_of_right, word_of_grant, granted_word, WordsHold}
use Rattle.ds_grants.specs.Buffer.{hi_of, lo_of, IsMapped, IsBacked}
use Rattle.ds_grants.specs.Inner.Sound.{IsGoodRow, IsAtPage, has_same_address}
use Rattle.ds_grants.specs.Copies.{AreRewritten}
use Rattle.ds_grants.specs.Inner.Copies.{LiesOtherwise}
use Rattle.ds_grants.specs.Represented.{IsRepresented}
use Rattle.ds_grants.specs.Inner.Represented.{IsLow}
use Rattle.ds_grants.specs.Inner.Rewords.{word_at, with_word, with_entry_lo, buffer_at, memory_of_row, buffer_of_row, memory_of_rows, buffer_of_rows}
use Rattle.ds_grants.proofs.Fields.{user_lo, lo_own}
use Rattle.ds_grants.proofs.WordsAnew.{Words, Key, is_hit, reworded, IsKey, first_of, rest_of, words_written}
use Rattle.ds_grants.proofs.EntriesAnew.{refreshed, AreOwn, HasEntries, entries_written, entry_keys, same_keys, more_keys}

abbrev key : ℕ → granted.Entry → Key
key p e = record { process = p; address = e.address }

abbrev keys_in : ℕ → ℕ → List granted.Entry → List Key
keys_in page p [] = []
keys_in page p (e ∷ es) = cond (names page e.grant.page) (key p e ∷ keys_in page p es) (keys_in page p es)

abbrev keys_of : ℕ → ℕ → Table → List Key
keys_of page p [] = []
keys_of page p (row ∷ rows) = keys_in page p row ++ keys_of page (p + 1) rows

reworded_append : (memory : List ℕ) (t : Places) (new : Words) (xs ys : List Key) → reworded memory t new (xs ++ ys) ≡ reworded (reworded memory t new xs) t new ys
reworded_append memory t new [] ys = refl
reworded_append memory t new (x ∷ xs) ys = reworded_append (with_word memory t x.process x.address (new x.process (x.address / 2 ^ 12))) t new xs ys

refreshed_append : (entries : List Entry) (s : Spaces) (new : Words) (xs ys : List Key) → refreshed entries s new (xs ++ ys) ≡ refreshed (refreshed entries s new xs) s new ys
refreshed_append entries s new [] ys = refl
refreshed_append entries s new (x ∷ xs) ys = refreshed_append (with_entry_lo entries (x.address / 2 ^ 12) (number_held s x.process) (new x.process (x.address / 2 ^ 12))) s new xs ys

hit_append : (q vpn : ℕ) (xs ys : List Key) → is_hit q vpn (xs ++ ys) ≡ (is_hit q vpn xs || is_hit q vpn ys)
hit_append q vpn [] ys = refl
hit_append q vpn (x ∷ xs) ys = ap (λ (b : Bool). ((q == x.process) && (vpn == x.address / 2 ^ 12)) || b) (hit_append q vpn xs ys) ∙ joined ((q == x.process) && (vpn == x.address / 2 ^ 12)) (is_hit q vpn xs) (is_hit q vpn ys)
  where
    joined : (a b c : Bool) → (a || (b || c)) ≡ ((a || b) || c)
    joined true b c = refl
    joined false b c = refl

or_true : (x : Bool) → (x || true) ≡ true
or_true true = refl
or_true false = refl

named_is : (page : ℕ) (o : Option ℕ) → names page o ≡ true → o ≡ Some page
named_is page None e = absurd cc
named_is page (Some q) e = let same : q ≡ page = grind (arith, nat_tests) in ap Some same

small_word : (place : Place) (right : Right) → place.frame < 1024 → word_at place right < 2 ^ 32
small_word place Nothing few = omega arith
small_word place Read few = omega arith
small_word place Write few = by place.shared
  where
    by : (b : Bool) → (place.frame + 402) * 2 ^ 12 + bit 10 (not b) + bit 9 true < 2 ^ 32
    by true = omega arith
    by false = omega arith

-- Entries of a good row.

-- an entry of a process: the only one at its address, of a page of a user's, in a region that has a table
record IsRowEntry (t : Places) (table : Table) (p : ℕ) (e : granted.Entry) : Type 0 where
  pub found : entry_at table p e.address ≡ Some e.grant
  pub page : e.address % 2 ^ 12 ≡ 0
  pub user : e.address < 2 ^ 31
  pub region : is_some (region_place t p (region_of e.address)) ≡ true

other_address : (e : granted.Entry) (es : List granted.Entry) (i : ℕ) (d : granted.Entry) → AllByRecursion (λ f. has_same_address e f ≡ false) es → i < length es → (e.address == (get_or es i d).address) ≡ false
other_address e [] i d all within = absurd (omega (arith, within))
other_address e (f ∷ es) zero d all within = all.0
other_address e (f ∷ es) (suc i) d all within = other_address e es i d all.1 (omega (arith, within))

pub found_itself : (es : List granted.Entry) (i : ℕ) (d : granted.Entry) → IsDistinct has_same_address es → i < length es → found es (get_or es i d).address ≡ Some (get_or es i d).grant
found_itself [] i d apart within = absurd (omega (arith, within))
found_itself (e ∷ es) zero d apart within = let here : (e.address == e.address) ≡ true = grind (arith, nat_tests) in ap (λ (b : Bool). cond b (Some e.grant) (found es e.address)) here
found_itself (e ∷ es) (suc i) d apart within =
    ap (λ (b : Bool). cond b (Some e.grant) (found es (get_or es i d).address)) (other_address e es i d (IsDistinct-head has_same_address e es apart) (omega (arith, within)))
    ∙ found_itself es i d (IsDistinct-tail has_same_address e es apart) (omega (arith, within))

-- a region has a table exactly where an entry of the process lies in it
abbrev HaveTables : Places → Table → Type 0
HaveTables t table = (p r : ℕ) → 0 < p → is_some (region_place t p r) ≡ list_any (λ (e : granted.Entry). region_of e.address == r) (entries_of table p)

row_entries : (t : Places) (table : Table) (p : ℕ) → 0 < p → HaveTables t table → IsGoodRow (entries_of table p) → All (IsRowEntry t table p) (entries_of table p)
row_entries t table p live tables good = λ i d within. (let at : IsAtPage (get_or (entries_of table p) i d) = good.pages i d within in record {
  found = found_itself (entries_of table p) i d good.places within;
  page = at.whole;
  user = at.user;
  region = tables p (region_of (get_or (entries_of table p) i d).address) live
      ∙ list_any_at (λ (e : granted.Entry). region_of e.address == region_of (get_or (entries_of table p) i d).address) (entries_of table p) i d within (itself (region_of (get_or (entries_of table p) i d).address));
})
  where
    itself : (a : ℕ) → (a == a) ≡ true
    itself a = grind (arith, nat_tests)

-- Whatever the rows, each slot keeps its page and its address space.

row_keys : (entries : List Entry) (held : Option ℕ) (page : ℕ) (place : Place) (es : List granted.Entry) → AreRewritten entries (buffer_of_row entries held page place es)
row_keys entries held page place [] = same_keys entries
row_keys entries held page place (e ∷ es) =
    more_keys entries (buffer_at entries held page place e) (buffer_of_row entries held page place (e ∷ es)) (one (names page e.grant.page)) (row_keys (buffer_at entries held page place e) held page place es)
  where
    one : (b : Bool) → AreRewritten entries (cond b (with_entry_lo entries (e.address / 2 ^ 12) held (word_at place e.grant.right)) entries)
    one true = entry_keys entries (e.address / 2 ^ 12) held (word_at place e.grant.right)
    one false = same_keys entries

pub rows_keys : (entries : List Entry) (s : Spaces) (page : ℕ) (place : Place) (n : ℕ) (rows : Table) → AreRewritten entries (buffer_of_rows entries s page place n rows)
rows_keys entries s page place n [] = same_keys entries
rows_keys entries s page place n (row ∷ rows) =
    more_keys entries (buffer_of_row entries (number_held s n) page place row) (buffer_of_rows entries s page place n (row ∷ rows)) (row_keys entries (number_held s n) page place row)
    (rows_keys (buffer_of_row entries (number_held s n) page place row) s page place (n + 1) rows)

-- One page lies otherwise.
module _ (t : Places) (old new : GrantsState) (page : ℕ) (place : Place) (few : place.frame < 1024) (moved : LiesOtherwise page old new) (lies : slice_index new.lies page ≡ place.frame) (shared : is_shared new page ≡ place.shared) where
  abbrev table : Table
  table = new.table

  abbrev words : Words
  words = granted_word new

  word_there : (right : Right) → word_of_right new right (Some page) ≡ word_at place right
  word_there right = ap₂ (λ (f : ℕ) (b : Bool). cond (is_some_right right) ((f + 402) * 2 ^ 12 + bit 10 (is_write right && not b) + bit 9 true) 0) lies shared

  word_here : (p : ℕ) (e : granted.Entry) → IsRowEntry t table p e → names page e.grant.page ≡ true → words p (e.address / 2 ^ 12) ≡ word_at place e.grant.right
  word_here p e k hit =
      let whole = k.page in
      let same : e.address / 2 ^ 12 * 2 ^ 12 ≡ e.address = omega (arith, whole) in
      ap (λ (a : ℕ). word_of_grant new (entry_at table p a)) same
      ∙ (ap (word_of_grant new) k.found
      ∙ (ap (word_of_right new e.grant.right) (named_is page e.grant.page hit)
      ∙ word_there e.grant.right))

  is_key : (p : ℕ) (e : granted.Entry) → 0 < p → IsRowEntry t table p e → names page e.grant.page ≡ true → IsKey t words (key p e)
  is_key p e live k hit = record {
    live = live;
    page = k.page;
    user = k.user;
    table = k.region;
    small = subst (λ (n : ℕ). n < 2 ^ 32) (sym (word_here p e k hit)) (small_word place e.grant.right few);
  }

  keys_are : (p : ℕ) (es : List granted.Entry) → 0 < p → All (IsRowEntry t table p) es → All (IsKey t words) (keys_in page p es)
  keys_are p [] live all = All-nil (IsKey t words)
  keys_are p (e ∷ es) live all = by (keys_are p es live (rest_of (IsRowEntry t table p) e es all)) (names page e.grant.page) refl
    where
      by : All (IsKey t words) (keys_in page p es) → (b : Bool) → names page e.grant.page ≡ b → All (IsKey t words) (cond b (key p e ∷ keys_in page p es) (keys_in page p es))
      by rest true is = All-cons (IsKey t words) (key p e) (keys_in page p es) (is_key p e live (first_of (IsRowEntry t table p) e es all) is) rest
      by rest false is = rest

  row_is : (memory : List ℕ) (p : ℕ) (es : List granted.Entry) → All (IsRowEntry t table p) es → memory_of_row memory t p page place es ≡ reworded memory t words (keys_in page p es)
  row_is memory p [] all = refl
  row_is memory p (e ∷ es) all = by (λ m. row_is m p es (rest_of (IsRowEntry t table p) e es all)) (names page e.grant.page) refl
    where
      by : ((m : List ℕ) → memory_of_row m t p page place es ≡ reworded m t words (keys_in page p es)) → (b : Bool) → names page e.grant.page ≡ b → memory_of_row (cond b (with_word memory t p e.address (word_at place e.grant.right)) memory) t p page place es ≡ reworded memory t words (cond b (key p e ∷ keys_in page p es) (keys_in page p es))
      by rest true is =
          let k = first_of (IsRowEntry t table p) e es all in
          ap (λ (m : List ℕ). memory_of_row m t p page place es) (ap (with_word memory t p e.address) (sym (word_here p e k is)))
          ∙ rest (with_word memory t p e.address (words p (e.address / 2 ^ 12)))
      by rest false is = rest memory

  row_entries_are : (entries : List Entry) (s : Spaces) (p : ℕ) (es : List granted.Entry) → All (IsRowEntry t table p) es → buffer_of_row entries (number_held s p) page place es ≡ refreshed entries s words (keys_in page p es)
  row_entries_are entries s p [] all = refl
  row_entries_are entries s p (e ∷ es) all = by (λ slots. row_entries_are slots s p es (rest_of (IsRowEntry t table p) e es all)) (names page e.grant.page) refl
    where
      at : ℕ → List Entry
      at w = with_entry_lo entries (e.address / 2 ^ 12) (number_held s p) w

      by : ((slots : List Entry) → buffer_of_row slots (number_held s p) page place es ≡ refreshed slots s words (keys_in page p es)) → (b : Bool) → names page e.grant.page ≡ b → buffer_of_row (cond b (at (word_at place e.grant.right)) entries) (number_held s p) page place es ≡ refreshed entries s words (cond b (key p e ∷ keys_in page p es) (keys_in page p es))
      by rest true is =
          let k = first_of (IsRowEntry t table p) e es all in
          ap (λ (slots : List Entry). buffer_of_row slots (number_held s p) page place es) (ap at (sym (word_here p e k is)))
          ∙ rest (at (words p (e.address / 2 ^ 12)))
      by rest false is = rest entries

  -- these are the rows of process n and of those after it
  abbrev Rows : ℕ → Table → Type 0
  Rows n rows = (i p : ℕ) → p ≡ n + i → All (IsRowEntry t table p) (get_or rows i [])

  later_rows : (n : ℕ) (row : List granted.Entry) (rows : Table) → Rows n (row ∷ rows) → Rows (n + 1) rows
  later_rows n row rows all = λ i p at. all (suc i) p (omega (arith, at))

  first_row : (n : ℕ) (row : List granted.Entry) (rows : Table) → Rows n (row ∷ rows) → All (IsRowEntry t table n) row
  first_row n row rows all = all 0 n (omega arith)

  all_keys_are : (n : ℕ) (rows : Table) → 0 < n → Rows n rows → All (IsKey t words) (keys_of page n rows)
  all_keys_are n [] live all = All-nil (IsKey t words)
  all_keys_are n (row ∷ rows) live all = All-append (IsKey t words) (keys_in page n row) (keys_of page (n + 1) rows) (keys_are n row live (first_row n row rows all)) (all_keys_are (n + 1) rows (omega arith) (later_rows n row rows all))

  rows_are : (memory : List ℕ) (n : ℕ) (rows : Table) → Rows n rows → memory_of_rows memory t page place n rows ≡ reworded memory t words (keys_of page n rows)
  rows_are memory n [] all = refl
  rows_are memory n (row ∷ rows) all =
      ap (λ (m : List ℕ). memory_of_rows m t page place (n + 1) rows) (row_is memory n row (first_row n row rows all))
      ∙ (rows_are (reworded memory t words (keys_in page n row)) (n + 1) rows (later_rows n row rows all)
      ∙ sym (reworded_append memory t words (keys_in page n row) (keys_of page (n + 1) rows)))

  rows_entries_are : (entries : List Entry) (s : Spaces) (n : ℕ) (rows : Table) → Rows n rows → buffer_of_rows entries s page place n rows ≡ refreshed entries s words (keys_of page n rows)
  rows_entries_are entries s n [] all = refl
  rows_entries_are entries s n (row ∷ rows) all =
      ap (λ (es : List Entry). buffer_of_rows es s page place (n + 1) rows) (row_entries_are entries s n row (first_row n row rows all))
      ∙ (rows_entries_are (refreshed entries s words (keys_in page n row)) s (n + 1) rows (later_rows n row rows all)
      ∙ sym (refreshed_append entries s words (keys_in page n row) (keys_of page (n + 1) rows)))

  -- An entry that names the page is hit.

  hit_in : (p vpn : ℕ) (grant : Grant) (es : List granted.Entry) → found es (vpn * 2 ^ 12) ≡ Some grant → names page grant.page ≡ true → is_hit p vpn (keys_in page p es) ≡ true
  hit_in p vpn grant [] at named = absurd cc
  hit_in p vpn grant (e ∷ es) at named = by (λ it. hit_in p vpn grant es it named) (e.address == vpn * 2 ^ 12) (names page e.grant.page) refl refl at
    where
      by : (found es (vpn * 2 ^ 12) ≡ Some grant → is_hit p vpn (keys_in page p es) ≡ true) → (here b : Bool) → (e.address == vpn * 2 ^ 12) ≡ here → names page e.grant.page ≡ b → cond here (Some e.grant) (found es (vpn * 2 ^ 12)) ≡ Some grant → is_hit p vpn (cond b (key p e ∷ keys_in page p es) (keys_in page p es)) ≡ true
      by rest true true here is it =
          let address : e.address ≡ vpn * 2 ^ 12 = grind (arith, nat_tests) in
          let at_page : vpn ≡ e.address / 2 ^ 12 = omega (arith, address) in
          let one : (p == p) ≡ true = grind (arith, nat_tests) in
          let two : (vpn == e.address / 2 ^ 12) ≡ true = grind (arith, nat_tests) in
          ap₂ (λ (x y : Bool). (x && y) || is_hit p vpn (keys_in page p es)) one two
      by rest true false here is it = (let same : e.grant ≡ grant = cc in let no : false ≡ true = sym is ∙ (ap (λ (g : Grant). names page g.page) same ∙ named) in absurd cc)
      by rest false true here is it = ap (λ (x : Bool). ((p == p) && (vpn == e.address / 2 ^ 12)) || x) (rest it) ∙ or_true ((p == p) && (vpn == e.address / 2 ^ 12))
      by rest false false here is it = rest it

  hit_rows : (vpn n i p : ℕ) (rows : Table) → p ≡ n + i → is_hit p vpn (keys_in page p (get_or rows i [])) ≡ true → is_hit p vpn (keys_of page n rows) ≡ true
  hit_rows vpn n zero p [] at hit = absurd cc
  hit_rows vpn n (suc i) p [] at hit = absurd cc
  hit_rows vpn n zero p (row ∷ rows) at hit =
      let same : p ≡ n = omega (arith, at) in
      hit_append p vpn (keys_in page n row) (keys_of page (n + 1) rows)
      ∙ ap (λ (b : Bool). b || is_hit p vpn (keys_of page (n + 1) rows)) (ap (λ (m : ℕ). is_hit p vpn (keys_in page m row)) (sym same) ∙ hit)
  hit_rows vpn n (suc i) p (row ∷ rows) at hit =
      hit_append p vpn (keys_in page n row) (keys_of page (n + 1) rows)
      ∙ (ap (λ (b : Bool). is_hit p vpn (keys_in page n row) || b) (hit_rows vpn (n + 1) i p rows (omega (arith, at)) hit) ∙ or_true (is_hit p vpn (keys_in page n row)))

  others_same : (p vpn : ℕ) → 0 < p → is_hit p vpn (keys_of page 1 table) ≡ false → words p vpn ≡ granted_word old p vpn
  others_same p vpn live miss = by_grant (entry_at table p (vpn * 2 ^ 12)) refl ∙ ap (λ (rows : Table). word_of_grant old (entry_at rows p (vpn * 2 ^ 12))) moved.table
    where
      by_page : (grant : Grant) (o : Option ℕ) → grant.page ≡ o → entry_at table p (vpn * 2 ^ 12) ≡ Some grant → word_of_right new grant.right o ≡ word_of_right old grant.right o
      by_page grant None is at = refl
      by_page grant (Some q) is at = elim (cases_Bool (q == page)) [
        | inl named ↦ (
            let hit = hit_rows vpn 1 (p - 1) p table (omega (arith, live)) (hit_in p vpn grant (entries_of table p) at (ap (names page) is ∙ named)) in
            let no : false ≡ true = sym miss ∙ hit in absurd cc)
        | inr other ↦ (let apart : q ≢ page = grind (arith, nat_tests) in ap₂ (λ (f : ℕ) (b : Bool). cond (is_some_right grant.right) ((f + 402) * 2 ^ 12 + bit 10 (is_write grant.right && not b) + bit 9 true) 0) (moved.lies q apart) (moved.shared q apart))
      ]

      by_grant : (o : Option Grant) → entry_at table p (vpn * 2 ^ 12) ≡ o → word_of_grant new o ≡ word_of_grant old o
      by_grant None at = refl
      by_grant (Some grant) at = by_page grant grant.page refl at

  -- All that is granted.
  module _ (good : All IsGoodRow table) (entries : List Entry) (memory : List ℕ) (s : Spaces) (size : 2 ^ 23 ≤ length memory) (low : IsLow memory (memory_of_rows memory t page place 1 table)) (k : IsRepresented entries memory t s old) where
    tables : HaveTables t table
    tables = subst (HaveTables t) (sym moved.table) k.words.regions

    no_rows : (p : ℕ) (es : List granted.Entry) → es ≡ [] → All (IsRowEntry t table p) es
    no_rows p es none = subst (All (IsRowEntry t table p)) (sym none) (All-nil (IsRowEntry t table p))

    one_row : (p : ℕ) → 0 < p → All (IsRowEntry t table p) (entries_of table p)
    one_row p live = elim (cases_Bool (nat_lt (p - 1) (length table))) [
      | inl within ↦ (let low : p - 1 < length table = grind (arith, nat_tests) in row_entries t table p live tables (good (p - 1) [] low))
      | inr past ↦ (let high : length table ≤ p - 1 = grind (arith, nat_tests) in no_rows p (entries_of table p) (get_or_past table (p - 1) [] high))
    ]

    all_rows : Rows 1 table
    all_rows = λ i p at. (let live : 0 < p = omega (arith, at) in let there : p - 1 ≡ i = omega (arith, at) in subst (λ (n : ℕ). All (IsRowEntry t table p) (get_or table n [])) there (one_row p live))

    all_keys : All (IsKey t words) (keys_of page 1 table)
    all_keys = all_keys_are 1 table (omega arith) all_rows

    abbrev after : List ℕ
    after = memory_of_rows memory t page place 1 table

    abbrev refilled : List Entry
    refilled = buffer_of_rows entries s page place 1 table

    words_hold : WordsHold after t new
    words_hold = record {
      words = subst (λ (m : List ℕ). (p vpn : ℕ) → 0 < p → vpn < 2 ^ 19 → entry_word m t p (vpn * 2 ^ 12) ≡ words p vpn) (sym (rows_are memory 1 table all_rows))
          (words_written memory t (granted_word old) words (keys_of page 1 table) k.places size k.empty all_keys k.words.words others_same);
      regions = tables;
      distinct = k.words.distinct;
      same = k.words.same ∙ ap length (sym moved.table);
    }

    are_own : AreOwn words
    are_own p vpn user = ap (λ (w : ℕ). bits w 8 1 == 1) (sym (user_lo new t p vpn user)) ∙ lo_own 0 new t p vpn

    first_entries : HasEntries entries entries s (granted_word old)
    first_entries = record {
      single = k.buffer.single;
      own = k.buffer.own;
      backed = λ slot e p at live some number user. (k.buffer.backed slot e p at live some number).words ∙ ap (entry_of (hi_of e.vpn e.asid)) (user_lo old t p e.vpn user);
      tables = λ slot e at high. at;
    }

    has_entries : HasEntries entries refilled s words
    has_entries = subst (λ (es : List Entry). HasEntries entries es s words) (sym (rows_entries_are entries s 1 table all_rows))
        (entries_written entries s (granted_word old) words (keys_of page 1 table) t k.spaces are_own all_keys first_entries others_same)

    rewritten : AreRewritten entries refilled
    rewritten = rows_keys entries s page place 1 table

    -- what stood there
    stood : (slot : ℕ) (f : Entry) → slice_get refilled slot ≡ Some f → (e : Entry) × (slice_get entries slot ≡ Some e) × (f.vpn ≡ e.vpn) × (f.asid ≡ e.asid)
    stood slot f at =
        let within = slice_get_within refilled slot f at in
        let size = rewritten.1 in
        let e : Entry = get_or entries slot f in
        let was : slice_get entries slot ≡ Some e = slice_get-get_or entries slot f (omega (arith, within, size)) in
        let is = rewritten.0 slot e was in
        let same : Some f ≡ Some is.0 = sym at ∙ is.1 in
        let it : f ≡ is.0 = cc in
        (e, was, ap (λ (x : Entry). x.vpn) it ∙ is.2, ap (λ (x : Entry). x.asid) it ∙ is.3)

    -- what is of no user's page is what it was
    same_table : (slot : ℕ) (e f : Entry) → slice_get entries slot ≡ Some e → slice_get refilled slot ≡ Some f → 2 ^ 19 ≤ e.vpn → f ≡ e
    same_table slot e f was is high = (let both : Some f ≡ Some e = sym is ∙ has_entries.tables slot e was high in cc)

    lo_same : (p vpn : ℕ) → 2 ^ 19 ≤ vpn → lo_of old t p vpn ≡ lo_of new t p vpn
    lo_same p vpn high = (let above : nat_lt vpn (2 ^ 19) ≡ false = grind (arith, nat_tests) in rw above refl)

    backed : (slot : ℕ) (f : Entry) (p : ℕ) → slice_get refilled slot ≡ Some f → 0 < p → 0 < f.asid → space_number s p ≡ f.asid → IsBacked new t p f
    backed slot f p at live some number = elim (cases_Bool (nat_lt f.vpn (2 ^ 19))) [
      | inl low ↦
          let user : f.vpn < 2 ^ 19 = grind (arith, nat_tests) in
          record { mapped = inl user; words = has_entries.backed slot f p at live some number user ∙ ap (entry_of (hi_of f.vpn f.asid)) (sym (user_lo new t p f.vpn user)) }
      | inr high ↦
          let was = stood slot f at in
          let page_was = was.2 in
          let above : 2 ^ 19 ≤ was.0.vpn = grind (arith, nat_tests) in
          let same : f ≡ was.0 = same_table slot was.0 f was.1 at above in
          let b = k.buffer.backed slot f p (was.1 ∙ ap Some (sym same)) live some number in
          record { mapped = b.mapped; words = b.words ∙ ap (entry_of (hi_of f.vpn f.asid)) (lo_same p f.vpn (omega (arith, above, page_was))) }
    ]

    apart : (slot : ℕ) (f : Entry) → slice_get refilled slot ≡ Some f → IsMapped f.vpn ⊎ (f ≡ empty_entry slot)
    apart slot f at =
        let was = stood slot f at in
        elim (k.buffer.apart slot was.0 was.1) [
          | inl mapped ↦ inl (subst IsMapped (sym was.2) mapped)
          | inr start ↦
              let page_is : was.0.vpn ≡ 2 ^ 19 + slot = ap (λ (x : Entry). x.vpn) start in
              inr (same_table slot was.0 f was.1 at (omega (arith, page_is)) ∙ start)
        ]

    pub page_reworded : IsRepresented refilled after t s new
    page_reworded = record {
      buffer = record {
        few = subst (λ (n : ℕ). n ≤ 64) (sym rewritten.1) k.buffer.few;
        single = has_entries.single;
        apart = apart;
        own = has_entries.own;
        backed = backed;
        used = λ slot f at some. (let was = stood slot f at in subst (λ (n : ℕ). n < s.next) (sym was.3) (k.buffer.used slot was.0 was.1 (subst (λ (n : ℕ). 0 < n) was.3 some)));
      };
      words = words_hold;
      places = k.places;
      empty = low.1 1 (inl (omega arith)) ∙ k.empty;
      spaces = k.spaces;
    }

-- the same for what code made of them
pub page_reworded_as : (t : Places) (old new : GrantsState) (page : ℕ) (place : Place) → place.frame < 1024 → LiesOtherwise page old new → slice_index new.lies page ≡ place.frame → is_shared new page ≡ place.shared
    → (entries refilled : List Entry) (memory after : List ℕ) (s : Spaces) (rows : Table) → new.table ≡ rows → All IsGoodRow rows → 2 ^ 23 ≤ length memory → IsLow memory after
    → after ≡ memory_of_rows memory t page place 1 rows → refilled ≡ buffer_of_rows entries s page place 1 rows
    → IsRepresented entries memory t s old → IsRepresented refilled after t s new
page_reworded_as t old new page place few moved lies shared entries refilled memory after s rows is good size low there slots k =
    let written : after ≡ memory_of_rows memory t page place 1 new.table = there ∙ ap (memory_of_rows memory t page place 1) (sym is) in
    let filled : refilled ≡ buffer_of_rows entries s page place 1 new.table = slots ∙ ap (buffer_of_rows entries s page place 1) (sym is) in
    subst (λ (m : List ℕ). IsRepresented refilled m t s new) (sym written)
    (subst (λ (es : List Entry). IsRepresented es (memory_of_rows memory t page place 1 new.table) t s new) (sym filled)
    (page_reworded t old new page place few moved lies shared (subst (All IsGoodRow) (sym is) good) entries memory s size (subst (IsLow memory) written low) k))
