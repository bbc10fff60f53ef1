-- All entries of a process go: their regions have no tables, and what the buffer has of it is nobody's.
use Rattle.std.proofs.Common.{◌≡◌, ◌≢◌, ◌∙◌, refl, sym, ap, subst, ℕ, ◌+◌, ◌-◌, ◌*◌, ◌^◌, ◌<◌, ◌≤◌, ◌==◌, Bool, true, false, List, [], ◌∷◌, length, length-set, get_or, drop, map, replicate, None, inl, inr, arith}
use Rattle.std.specs.Prelude.{slice_set, ◌||◌, is_some}
use Rattle.std.specs.List.{All}
use Rattle.std.proofs.lemmas.Bool.{cases_Bool, cases_eq}
use Rattle.std.proofs.lemmas.List.{at_drop_more, drop_all, get_or-set_same}
use Rattle.ds_word.specs.Bytes.{word_at}
use Rattle.ds_tlb.specs.declared.entry.Entry.{Entry}
use Rattle.ds_tlb.specs.Words.{entry_of}
use Rattle.ds_policy.specs.declared.grant.Entry as granted
use Rattle.ds_policy.specs.Pages.{found, entries_of, entry_at}
use Rattle.ds_policy.specs.Families.{without_entries}
use Rattle.ds_policy.specs.Grants.{end_process, count_distinct}
use Rattle.ds_pagemap.proofs.Entries.{entry_at-set_other}
use Rattle.ds_asid.specs.Spaces.{Spaces, space_number}
use Rattle.ds_asid.specs.Inner.Spaces.{given_up}
use Rattle.ds_asid.proofs.Apart.{given_up_apart, gone_there, others_stay}
use Rattle.ds_tables.specs.Places.{Places, ArePlaces, region_of, places_of, region_place, frame_of_place, page_of_table}
use Rattle.ds_tables.specs.Inner.Places.{freed, closed}
use Rattle.ds_tables.specs.Tables.{HasEmptyTable, entry_word, table_word_place}
use Rattle.ds_tables.proofs.PlaceLemmas.{closed_row, region_place-closed, region_place-kept}
use Rattle.ds_tables.proofs.Map.{none_words}
use Rattle.ds_grants.specs.State.{GrantsState, page_state}
use Rattle.ds_grants.specs.Words.{word_of_grant, granted_word, regions_taken, WordsHold}
use Rattle.ds_grants.specs.Buffer.{hi_of, lo_of, read_only, IsMapped, BufferHolds}
use Rattle.ds_grants.specs.Inner.Changes.{all_closed}
use Rattle.ds_grants.specs.Represented.{IsRepresented}
use Rattle.ds_grants.specs.Inner.Sound.{IsGoodRow}
use Rattle.ds_grants.proofs.Bare.{alike_holders}
use Rattle.ds_grants.proofs.Parents.{alike_represented}
use Rattle.ds_grants.proofs.Emptying.{end_alike}
use Rattle.ds_grants.proofs.HolderCounts.{holders_fewer}
use Rattle.ds_grants.proofs.Living.{fewer_state}
use Rattle.ds_grants.proofs.FifthRegion.{same_number, itself, either}
use Rattle.ds_grants.proofs.Puts.{used, none_is, foreign_row, closed_distinct, same_word}
use Rattle.ds_grants.proofs.Fields.{user_lo, table_lo}
use Rattle.ds_grants.proofs.Kept.{closed_places}

-- the grants with no entry of a process that has ended, and with all others as they were
abbrev without_process : GrantsState → ℕ → GrantsState
without_process g p = record g { table = slice_set g.table (p - 1) []; ended = slice_set g.ended (p - 1) true }

-- the grants after the end of a process: what was shared from its entries has other parents
abbrev pub ended_grants : GrantsState → ℕ → GrantsState
ended_grants g p = record g { table = without_entries g.table p (entries_of g.table p); ended = slice_set g.ended (p - 1) true }

pub ended_state : (g : GrantsState) (p : ℕ) (memory : List ℕ) → 0 < p → p ≤ length g.table → All IsGoodRow g.table → page_state (ended_grants g p) memory ≡ end_process (page_state g memory) p
ended_state g p memory low high good = fewer_state g (without_entries g.table p (entries_of g.table p)) memory (λ q.
    let fewer = holders_fewer g.table p q low high in
    let same = alike_holders (slice_set g.table (p - 1) []) (without_entries g.table p (entries_of g.table p)) q (end_alike g.table p low high good) in
    omega arith)

-- the regions of the entries from a place on are closed one after another
pub close_step : (t : Places) (p : ℕ) (es : List granted.Entry) (i : ℕ) (d : granted.Entry) → i < length es
    → all_closed t p (drop i es) ≡ all_closed (closed t p (region_of (get_or es i d).address)) p (drop (i + 1) es)
close_step t p es i d within = at_drop_more (all_closed t p) es i d within

pub close_end : (t : Places) (p : ℕ) (es : List granted.Entry) (i : ℕ) → length es ≤ i → all_closed t p (drop i es) ≡ t
close_end t p es i past = ap (all_closed t p) (drop_all i es past)

-- Places once the regions of entries are closed.

-- a number that is not another
differs : (a b : ℕ) → (b ≡ a → ⊥) → (a == b) ≡ false
differs a b other = elim (cases_Bool (a == b)) [ inl is ↦ absurd (other (sym (same_number a b is))) | inr apart ↦ apart ]

neither : (a b : Bool) → a ≡ false → b ≡ false → (a || b) ≡ false
neither a b e f = ap (λ (x : Bool). x || b) e ∙ f

place_gone : (es : List granted.Entry) (t : Places) (p r : ℕ) → region_place t p r ≡ None → region_place (all_closed t p es) p r ≡ None
place_gone [] t p r none = none
place_gone (x ∷ es) t p r none = place_gone es (closed t p (region_of x.address)) p r (elim (cases_eq r (region_of x.address)) [
  | inl here ↦ ap (region_place (closed t p (region_of x.address)) p) here ∙ region_place-closed t p (region_of x.address)
  | inr other ↦ region_place-kept t p p (region_of x.address) r (λ own same. other same) ∙ none
])

place_closed : (es : List granted.Entry) (t : Places) (p r : ℕ) → used r es ≡ true → region_place (all_closed t p es) p r ≡ None
place_closed [] t p r e = absurd cc
place_closed (x ∷ es) t p r e = elim (cases_Bool (region_of x.address == r)) [
  | inl here ↦ place_gone es (closed t p (region_of x.address)) p r (ap (region_place (closed t p (region_of x.address)) p) (sym (same_number (region_of x.address) r here)) ∙ region_place-closed t p (region_of x.address))
  | inr other ↦ place_closed es (closed t p (region_of x.address)) p r (sym (ap (λ (b : Bool). b || used r es) other) ∙ e)
]

place_kept : (es : List granted.Entry) (t : Places) (p q r : ℕ) → (q ≡ p → used r es ≡ false) → region_place (all_closed t p es) q r ≡ region_place t q r
place_kept [] t p q r other = refl
place_kept (x ∷ es) t p q r other =
    place_kept es (closed t p (region_of x.address)) p q r (λ own. (either (region_of x.address == r) (used r es) (other own)).1)
    ∙ region_place-kept t p q (region_of x.address) r (λ own same. (
    let miss = either (region_of x.address == r) (used r es) (other own) in
    let no : true ≡ false = sym (ap (λ (n : ℕ). region_of x.address == n) same ∙ itself (region_of x.address)) ∙ miss.0 in
    absurd cc))

closed_long : (t : Places) (p r : ℕ) → 0 < p → length (closed t p r) ≡ length t
closed_long t p r low = ap (λ (u : Places). length u) (closed_row t p r low) ∙ length-set t (p - 1) (map (freed r) (places_of t p))

all_closed_long : (es : List granted.Entry) (t : Places) (p : ℕ) → 0 < p → length (all_closed t p es) ≡ length t
all_closed_long [] t p low = refl
all_closed_long (x ∷ es) t p low = all_closed_long es (closed t p (region_of x.address)) p low ∙ closed_long t p (region_of x.address) low

all_closed_places : (es : List granted.Entry) (t : Places) (p : ℕ) → 0 < p → p ≤ length t → ArePlaces t → ArePlaces (all_closed t p es)
all_closed_places [] t p low high are = are
all_closed_places (x ∷ es) t p low high are =
    all_closed_places es (closed t p (region_of x.address)) p low (subst (λ (n : ℕ). p ≤ n) (sym (closed_long t p (region_of x.address) low)) high) (closed_places t p (region_of x.address) are low high)

all_closed_distinct : (es : List granted.Entry) (t : Places) (p : ℕ) → 0 < p → p ≤ length t → ((q : ℕ) → count_distinct (regions_taken (places_of t q)) ≡ length (regions_taken (places_of t q)))
    → (q : ℕ) → count_distinct (regions_taken (places_of (all_closed t p es) q)) ≡ length (regions_taken (places_of (all_closed t p es) q))
all_closed_distinct [] t p low high distinct = distinct
all_closed_distinct (x ∷ es) t p low high distinct =
    all_closed_distinct es (closed t p (region_of x.address)) p low (subst (λ (n : ℕ). p ≤ n) (sym (closed_long t p (region_of x.address) low)) high) (closed_distinct t p (region_of x.address) low high distinct)

-- What is represented once a process has ended.
module _ (g : GrantsState) (t : Places) (p : ℕ) (low : 0 < p) (high : p ≤ length g.table) where
  abbrev es : List granted.Entry
  es = entries_of g.table p

  abbrev u : Places
  u = all_closed t p (entries_of g.table p)

  abbrev h : GrantsState
  h = without_process g p

  own_entries : entries_of h.table p ≡ []
  own_entries = get_or-set_same g.table (p - 1) [] [] (omega (arith, low, high))

  other_word : (q vpn : ℕ) → 0 < q → q ≢ p → granted_word h q vpn ≡ granted_word g q vpn
  other_word q vpn live other = same_word g h.table h.ended (entry_at h.table q (vpn * 2 ^ 12)) ∙ ap (word_of_grant g) (entry_at-set_other g.table p q (vpn * 2 ^ 12) [] low live other)

  other_table : (q r : ℕ) → q ≢ p → page_of_table u q r ≡ page_of_table t q r
  other_table q r other = ap (frame_of_place q) (place_kept es t p q r (λ own. absurd (other own)))

  -- what others have stays, and nothing is of a process that has given its number up
  pub buffer_ended : (entries : List Entry) (s : Spaces) → BufferHolds entries s g t → BufferHolds entries (given_up s p) h u
  buffer_ended entries s k = record {
    few = k.few;
    single = k.single;
    apart = k.apart;
    own = k.own;
    backed = λ slot e q at live some number. elim (cases_eq q p) [
      | inl own ↦ absurd (none_left s p e.asid some (sym (ap (space_number (given_up s p)) own) ∙ number))
      | inr other ↦
          let b = k.backed slot e q at live some (sym (others_stay s p q other) ∙ number) in
          record { mapped = b.mapped; words = b.words ∙ ap (entry_of (hi_of e.vpn e.asid)) (same e.vpn q live other b.mapped) }
    ];
    used = k.used;
  }
    where
      none_left : (s : Spaces) (p n : ℕ) → 0 < n → space_number (given_up s p) p ≡ n → ⊥
      none_left s p n some is = let none = gone_there s p in omega (arith, none, is, some)

      same : (vpn q : ℕ) → 0 < q → q ≢ p → IsMapped vpn → lo_of g t q vpn ≡ lo_of h u q vpn
      same vpn q live other (inl user) = user_lo g t q vpn user ∙ (sym (other_word q vpn live other) ∙ sym (user_lo h u q vpn user))
      same vpn q live other (inr table) =
          let low_page = table.0 in
          let is : vpn ≡ 0xC0000 + (vpn - 0xC0000) = omega (arith, low_page) in
          subst (λ (n : ℕ). lo_of g t q n ≡ lo_of h u q n) (sym is)
          (table_lo g t q (vpn - 0xC0000) ∙ (ap (λ (f : ℕ). read_only f) (sym (other_table q (vpn - 0xC0000) other)) ∙ sym (table_lo h u q (vpn - 0xC0000))))

  module _ (memory : List ℕ) (empty : HasEmptyTable memory) (k : WordsHold memory t g) where
    own_place : (r : ℕ) → region_place u p r ≡ None
    own_place r = elim (cases_Bool (used r es)) [
      | inl there ↦ place_closed es t p r there
      | inr none ↦ place_kept es t p p r (λ own. none) ∙ none_is (region_place t p r) (k.regions p r low ∙ none)
    ]

    -- a process without tables reads as one of whom nothing is placed
    one_row : (r : ℕ) → page_of_table (replicate 1 (replicate 4 None)) 1 r ≡ 1
    one_row r = refl

    own_word : (vpn : ℕ) → entry_word memory u p (vpn * 2 ^ 12) ≡ granted_word h p vpn
    own_word vpn =
        ap (λ (f : ℕ). word_at memory (table_word_place f (vpn * 2 ^ 12))) (ap (frame_of_place p) (own_place (region_of (vpn * 2 ^ 12))) ∙ sym (one_row (region_of (vpn * 2 ^ 12))))
        ∙ (none_words memory 1 1 (vpn * 2 ^ 12) empty
        ∙ sym (ap (λ (xs : List granted.Entry). word_of_grant h (found xs (vpn * 2 ^ 12))) own_entries))

    pub words_ended : WordsHold memory u h
    words_ended = record {
      words = λ q vpn live user. elim (cases_eq q p) [
        | inl own ↦ subst (λ (n : ℕ). entry_word memory u n (vpn * 2 ^ 12) ≡ granted_word h n vpn) (sym own) (own_word vpn)
        | inr other ↦
            ap (λ (f : ℕ). word_at memory (table_word_place f (vpn * 2 ^ 12))) (other_table q (region_of (vpn * 2 ^ 12)) other)
            ∙ (k.words q vpn live user ∙ sym (other_word q vpn live other))
      ];
      regions = λ q r live. elim (cases_eq q p) [
        | inl own ↦ subst (λ (n : ℕ). is_some (region_place u n r) ≡ used r (entries_of h.table n)) (sym own) (ap is_some (own_place r) ∙ sym (ap (used r) own_entries))
        | inr other ↦
            ap is_some (place_kept es t p q r (λ own. absurd (other own)))
            ∙ (k.regions q r live ∙ sym (ap (used r) (foreign_row g.table p q [] low live other)))
      ];
      distinct = all_closed_distinct es t p low (subst (λ (n : ℕ). p ≤ n) (sym k.same) high) k.distinct;
      same = all_closed_long es t p low ∙ (k.same ∙ sym (length-set g.table (p - 1) []));
    }

  emptied_represented : (entries : List Entry) (memory : List ℕ) (s : Spaces) → IsRepresented entries memory t s g → IsRepresented entries memory u (given_up s p) h
  emptied_represented entries memory s k = record {
    buffer = buffer_ended entries s k.buffer;
    words = words_ended memory k.empty k.words;
    places = all_closed_places es t p low (subst (λ (n : ℕ). p ≤ n) (sym k.words.same) high) k.places;
    empty = k.empty;
    spaces = given_up_apart s p k.spaces;
  }

  pub end_represented : (entries : List Entry) (memory : List ℕ) (s : Spaces) → All IsGoodRow g.table → IsRepresented entries memory t s g → IsRepresented entries memory u (given_up s p) (ended_grants g p)
  end_represented entries memory s good k =
      alike_represented entries memory u (given_up s p) h (without_entries g.table p (entries_of g.table p)) (end_alike g.table p low high good) (emptied_represented entries memory s k)
