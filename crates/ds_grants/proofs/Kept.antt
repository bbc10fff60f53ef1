-- What is represented after an entry is put, and after one is removed.
use Rattle.std.proofs.Common.{◌≡◌, ◌≢◌, ◌⊎◌, ℕ, ◌+◌, ◌-◌, ◌*◌, ◌/◌, ◌%◌, ◌^◌, ◌<◌, ◌≤◌, Bool, true, false, cond, not, List, length, Option, Some, None, refl, sym, ap, subst, ◌∙◌, arith, inl, inr}
use Rattle.std.specs.Prelude.{IfSome, ◌||◌, ◌==◌, nat_le, is_some, slice_index}
use Rattle.std.proofs.lemmas.Bool.{cases_Bool}
use Rattle.std.proofs.lemmas.Bool.Decides.{nat_tests}
use Rattle.std.proofs.lemmas.List.{length-map}
use Rattle.ds_mem.specs.Memory.{zeros}
use Rattle.ds_mem.proofs.Zeros.{length-zeros}
use Rattle.ds_mem.proofs.Words.{length-with_frame, word_at-same_frame, frame_of-with_word_apart}
use Rattle.ds_word.specs.Bytes.{with_word}
use Rattle.ds_word.proofs.Bytes.{length-with_word}
use Rattle.ds_tlb.specs.declared.entry.Entry.{Entry}
use Rattle.ds_policy.specs.declared.grant.Grant.{Grant}
use Rattle.ds_policy.specs.declared.grant.Right.{Right}
use Rattle.ds_policy.specs.declared.grant.Right.TheVariants.{Nothing, Read, Write}
use Rattle.ds_policy.specs.Pages.{entries_of, entry_at, with_entry, erased_entry}
use Rattle.ds_pagemap.proofs.Entries.{entry_at-with_entry, entry_at-erased_entry}
use Rattle.ds_grants.specs.State.{GrantsState, is_shared}
use Rattle.ds_grants.specs.Inner.State.{with_grant, erased_grant}
use Rattle.ds_grants.specs.Sound.{AreLaidOut}
use Rattle.ds_tables.specs.Places.{Places, ArePlaces, region_of, region_place, frame_of_place, page_of_table, table_frame, places_of}
use Rattle.ds_tables.specs.Inner.Places.{free_place, has_place, opened, closed, with_place, freed}
use Rattle.ds_asid.specs.Spaces.{Spaces}
use Rattle.ds_asid.specs.Inner.Spaces.{number_held}
use Rattle.ds_tables.specs.Inner.Tables as tables
use Rattle.ds_tables.specs.Tables.{HasEmptyTable, table_word_place, entry_word}
use Rattle.ds_tables.specs.Inner.Tables.{with_table_by, with_table, with_entry_word}
use Rattle.ds_tables.proofs.PlaceLemmas.{is_place, is_free_place, placed, region_place-other, region_place-kept, row_placed, closed_row, four_places}
use Rattle.ds_tables.proofs.Map.{frames_kept, opened_old, opened_not, opened_new}
use Rattle.ds_grants.specs.Words.{word_of_right, word_of_grant, WordsHold}
use Rattle.ds_grants.specs.Inner.Changes.{both_forgotten, is_used, memory_without, places_without, IsChangedAt}
use Rattle.ds_grants.specs.Represented.{IsRepresented}
use Rattle.ds_grants.specs.Inner.Represented.{Keeps, HasPlace, IsLow, IsHigh}
use Rattle.ds_grants.specs.Inner.Order.{is_no_page}
use Rattle.ds_grants.proofs.FifthRegion.{either, fifth_by_places}
use Rattle.ds_grants.proofs.Puts.{put_holds, removed_holds, same_word, found_used, some_is, used_before}
use Rattle.ds_grants.proofs.Forgets.{buffer_changed}

-- Places after a region is opened, and after one is closed.

opened_by : (t : Places) (p r : ℕ) (o f : Option ℕ) → region_place t p r ≡ o → free_place t p ≡ f → (opened t p r ≡ t) ⊎ ((k : ℕ) × (free_place t p ≡ Some k) × (region_place t p r ≡ None) × (opened t p r ≡ with_place t p k r))
opened_by t p r (Some i) f at free = inl (opened_old t p r i at)
opened_by t p r None None at free = inl (opened_not t p r at free)
opened_by t p r None (Some k) at free = inr (k, free, at, opened_new t p r k at free)

pub opened_places : (t : Places) (p r : ℕ) → ArePlaces t → ArePlaces (opened t p r)
opened_places t p r are = elim (opened_by t p r (region_place t p r) (free_place t p) refl refl) [
  | inl same ↦ subst ArePlaces (sym same) are
  | inr new ↦ (let spot = is_free_place t p new.0 are new.1 in subst ArePlaces (sym new.3) (placed t p new.0 r are spot.low spot.high))
]

opened_tables : (t : Places) (p r q s : ℕ) → ArePlaces t → (q ≡ p → s ≡ r → ⊥) → page_of_table (opened t p r) q s ≡ page_of_table t q s
opened_tables t p r q s are other = elim (opened_by t p r (region_place t p r) (free_place t p) refl refl) [
  | inl same ↦ ap (λ (u : Places). page_of_table u q s) same
  | inr new ↦ ap (λ (u : Places). page_of_table u q s) new.3 ∙ ap (frame_of_place q) (region_place-other t p q new.0 r s (is_free_place t p new.0 are new.1) other)
]

pub closed_places : (t : Places) (p r : ℕ) → ArePlaces t → 0 < p → p ≤ length t → ArePlaces (closed t p r)
closed_places t p r are low high = subst ArePlaces (sym (closed_row t p r low)) (row_placed t (p - 1) _ are (length-map (places_of t p) (freed r) ∙ four_places t p are low high))

-- A page's address.

pub aligned : (a : ℕ) → is_no_page a ≡ false → a % 2 ^ 12 ≡ 0
aligned a page = by_test (either (not (a % 4096 == 0)) (nat_le (2 ^ 31) a) page).0
  where
    by_test : not (a % 4096 == 0) ≡ false → a % 2 ^ 12 ≡ 0
    by_test e = grind (arith, nat_tests)

-- A page that is granted lies in memory.

pub few_pages : (page : Option ℕ) (frames : ℕ) → frames ≤ 1024 → IfSome page (λ q. q < frames) → IfSome page (λ q. q < 1024)
few_pages None frames few within = tt
few_pages (Some q) frames few within = omega (arith, few, within)

pub few_frames : (g : GrantsState) (page : Option ℕ) → g.frames ≤ 1024 → AreLaidOut g → IfSome page (λ q. q < g.frames) → IfSome page (λ q. slice_index g.lies q < 1024)
few_frames g None few laid within = tt
few_frames g (Some q) few laid within = let low = laid.within q within in omega (arith, few, low)

-- A page-table word has 32 bits.

pub word_small : (g : GrantsState) (grant : Grant) → IfSome grant.page (λ page. slice_index g.lies page < 1024) → word_of_grant g (Some grant) < 2 ^ 32
word_small g grant few = by_page grant.page few
  where
    flagged : (right : Right) (q : ℕ) → slice_index g.lies q < 1024 → word_of_right g right (Some q) < 2 ^ 32
    flagged Nothing q low = omega arith
    flagged Read q low = omega arith
    flagged Write q low = elim (cases_Bool (is_shared g q)) [ inl marked ↦ rw marked (omega arith) | inr alone ↦ rw alone (omega arith) ]

    by_page : (page : Option ℕ) → IfSome page (λ page. slice_index g.lies page < 1024) → word_of_right g grant.right page < 2 ^ 32
    by_page None low = omega arith
    by_page (Some q) low = flagged grant.right q low

module _ (entries : List Entry) (memory : List ℕ) (t : Places) (s : Spaces) (g : GrantsState) (p a : ℕ) (k : IsRepresented entries memory t s g)
    (long : 2 ^ 23 ≤ length memory) (low : 0 < p) (high : p ≤ length g.table) (page : a % 2 ^ 12 ≡ 0) where
  high_places : p ≤ length t
  high_places = subst (λ (n : ℕ). p ≤ n) (sym k.words.same) high

  elsewhere : (vpn : ℕ) → vpn ≢ a / 2 ^ 12 → vpn * 2 ^ 12 ≢ a
  elsewhere vpn other = λ (e : ◌≡◌ {A = ℕ} (vpn * 2 ^ 12) a). other (omega (arith, e))

  pub put_represented : (grant : Grant) → IfSome grant.page (λ page. slice_index g.lies page < 1024) → HasPlace g p a
      → IsRepresented (both_forgotten entries a (number_held s p)) (tables.with_entry memory t p a (word_of_grant g (Some grant))) (opened t p (region_of a)) s (with_grant g p a grant)
  put_represented grant small region =
      let room : has_place t p (region_of a) ≡ true = room_for region in
      let changed : IsChangedAt g (with_grant g p a grant) t (opened t p (region_of a)) p a = record {
        words = λ q vpn live other. same_word g (with_entry g.table p a grant) g.ended (entry_at (with_entry g.table p a grant) q (vpn * 2 ^ 12)) ∙ ap (word_of_grant g) (entry_at-with_entry g.table p a grant q (vpn * 2 ^ 12) low live (λ own. elsewhere vpn (other own)));
        tables = λ q r live other. opened_tables t p (region_of a) q r k.places (λ own same. other own same);
      } in
      record {
        buffer = buffer_changed g (with_grant g p a grant) t (opened t p (region_of a)) p a changed entries s k.buffer;
        words = put_holds memory t g p a k.words k.places long k.empty low high page grant (word_small g grant small) room;
        places = opened_places t p (region_of a) k.places;
        empty = frames_kept memory t p a (word_of_grant g (Some grant)) 1 k.places long (inl (omega arith)) ∙ k.empty;
        spaces = k.spaces;
      }
    where
      turned : (b : Bool) → not b ≡ false → b ≡ true
      turned true e = refl
      turned false e = absurd cc

      room_for : HasPlace g p a → has_place t p (region_of a) ≡ true
      room_for (inl region) = turned (has_place t p (region_of a)) (sym (fifth_by_places t p (region_of a) (entries_of g.table p) (four_places t p k.places low high_places) (k.words.distinct p) (λ s. k.words.regions p s low)) ∙ region)
      room_for (inr there) = ap (λ (b : Bool). b || is_some (free_place t p)) (k.words.regions p (region_of a) low ∙ found_used (entries_of g.table p) a there)

  pub remove_represented : IsRepresented (both_forgotten entries a (number_held s p)) (memory_without memory t g p a) (places_without t g p a) s (erased_grant g p a)
  remove_represented =
      let changed : IsChangedAt g (erased_grant g p a) t (places_without t g p a) p a = record {
        words = λ q vpn live other. same_word g (erased_entry g.table p a) g.ended (entry_at (erased_entry g.table p a) q (vpn * 2 ^ 12)) ∙ ap (word_of_grant g) (entry_at-erased_entry g.table p a q (vpn * 2 ^ 12) low live (λ own. elsewhere vpn (other own)));
        tables = λ q r live other. by_used (is_used (erased_grant g p a) p (region_of a)) q r (λ own same. other own same);
      } in
      record {
        buffer = buffer_changed g (erased_grant g p a) t (places_without t g p a) p a changed entries s k.buffer;
        words = removed_holds memory t g p a k.words k.places long k.empty low high page;
        places = places_by (is_used (erased_grant g p a) p (region_of a));
        empty = empty_by (is_used (erased_grant g p a) p (region_of a));
        spaces = k.spaces;
      }
    where
      by_used : (b : Bool) (q r : ℕ) → (q ≡ p → r ≡ region_of a → ⊥) → page_of_table (cond b t (closed t p (region_of a))) q r ≡ page_of_table t q r
      by_used true q r other = refl
      by_used false q r other = ap (frame_of_place q) (region_place-kept t p q (region_of a) r other)

      places_by : (b : Bool) → ArePlaces (cond b t (closed t p (region_of a)))
      places_by true = k.places
      places_by false = closed_places t p (region_of a) k.places low high_places

      empty_by : (b : Bool) → HasEmptyTable (cond b (tables.with_entry memory t p a 0) memory)
      empty_by true = frames_kept memory t p a 0 1 k.places long (inl (omega arith)) ∙ k.empty
      empty_by false = k.empty

-- a region that stays open had a table
pub still_open : (memory : List ℕ) (t : Places) (g : GrantsState) (p a : ℕ) → WordsHold memory t g → 0 < p → p ≤ length g.table → is_used (erased_grant g p a) p (region_of a) ≡ true → opened t p (region_of a) ≡ t
still_open memory t g p a k low high stays =
    let there = some_is (region_place t p (region_of a)) (k.regions p (region_of a) low ∙ used_before g.table p a low high stays) in
    opened_old t p (region_of a) there.0 there.1

-- Memory of which tables alone changed, and memory of which pages alone did.

table_in_memory : (t : Places) (p r : ℕ) (o : Option ℕ) → ArePlaces t → region_place t p r ≡ o → frame_of_place p o < 402
table_in_memory t p r None are at = omega arith
table_in_memory t p r (Some i) are at = let here = is_place t p r i are at in let few = here.few in let low = here.low in let within = here.within in omega arith

as_long_table : (memory : List ℕ) (t : Places) (p : ℕ) (o f : Option ℕ) → ArePlaces t → free_place t p ≡ f → 2 ^ 23 ≤ length memory → length (with_table_by memory p o f) ≡ length memory
as_long_table memory t p (Some i) f are free long = refl
as_long_table memory t p None None are free long = refl
as_long_table memory t p None (Some k) are free long =
    let spot = is_free_place t p k are free in
    let few = spot.few in let within = spot.within in
    length-with_frame memory (zeros 4096) (table_frame p k) (length-zeros 4096) (omega arith)

pub low_put : (memory : List ℕ) (t : Places) (p a w : ℕ) → ArePlaces t → 2 ^ 23 ≤ length memory → IsLow memory (tables.with_entry memory t p a w)
low_put memory t p a w are long = (as_long (has_place t p (region_of a)), λ f apart. frames_kept memory t p a w f are long apart)
  where
    middle : length (with_table memory t p (region_of a)) ≡ length memory
    middle = as_long_table memory t p (region_place t p (region_of a)) (free_place t p) are refl long

    frame : page_of_table (opened t p (region_of a)) p (region_of a) < 402
    frame = table_in_memory (opened t p (region_of a)) p (region_of a) (region_place (opened t p (region_of a)) p (region_of a)) (opened_places t p (region_of a) are) refl

    as_long : (b : Bool) → length (cond b (with_entry_word (with_table memory t p (region_of a)) (opened t p (region_of a)) p a w) memory) ≡ length memory
    as_long true =
        let x : ℕ = table_word_place (page_of_table (opened t p (region_of a)) p (region_of a)) a in
        let within : x - x % 4 + 4 ≤ length (with_table memory t p (region_of a)) = omega (arith, middle, frame, long) in
        length-with_word (with_table memory t p (region_of a)) x w within ∙ middle
    as_long false = refl

pub low_removed : (memory : List ℕ) (t : Places) (g : GrantsState) (p a : ℕ) → ArePlaces t → 2 ^ 23 ≤ length memory → IsLow memory (memory_without memory t g p a)
low_removed memory t g p a are long = by_used (is_used (erased_grant g p a) p (region_of a))
  where
    by_used : (b : Bool) → IsLow memory (cond b (tables.with_entry memory t p a 0) memory)
    by_used true = low_put memory t p a 0 are long
    by_used false = (refl, λ f page. refl)

pub word_kept : (old new : List ℕ) (t : Places) (p a : ℕ) → ArePlaces t → IsHigh old new → entry_word new t p a ≡ entry_word old t p a
word_kept old new t p a are high =
    word_at-same_frame old new (page_of_table t p (region_of a)) (a / 2 ^ 12 % 2 ^ 10 * 4) (omega arith)
    (high.1 (page_of_table t p (region_of a)) (table_in_memory t p (region_of a) (region_place t p (region_of a)) are refl))

pub high_kept : (entries : List Entry) (old new : List ℕ) (t : Places) (s : Spaces) (g : GrantsState) → IsHigh old new → IsRepresented entries old t s g → IsRepresented entries new t s g
high_kept entries old new t s g high k = record {
  buffer = k.buffer;
  words = record {
    words = λ p vpn live user. word_kept old new t p (vpn * 2 ^ 12) k.places high ∙ k.words.words p vpn live user;
    regions = k.words.regions;
    distinct = k.words.distinct;
    same = k.words.same;
  };
  places = k.places;
  empty = high.1 1 (omega arith) ∙ k.empty;
  spaces = k.spaces;
}

pub high_stored : (memory : List ℕ) (place w : ℕ) → length memory ≡ 2 ^ 23 → 402 * 4096 ≤ place → place < 2 ^ 23 → IsHigh memory (with_word memory place w)
high_stored memory place w size low high =
    let inside : place - place % 4 + 4 ≤ length memory = omega (arith, size, high) in
    (length-with_word memory place w inside, λ f table. frame_of-with_word_apart memory place w f inside (inl (omega (arith, table, low))))

-- memory and places as others are
pub represented_as : {entries : List Entry} {memory n : List ℕ} {t u : Places} {s : Spaces} {g : GrantsState} → n ≡ memory → u ≡ t → IsRepresented entries memory t s g → IsRepresented entries n u s g
represented_as {entries} {memory} {n} {t} {u} {s} {g} e f k = subst (λ (m : List ℕ). IsRepresented entries m u s g) (sym e) (subst (λ (v : Places). IsRepresented entries memory v s g) (sym f) k)

-- Changes one after the other, and none.

pub keeps_then : {es fs gs : List Entry} {m n o : List ℕ} {t u v : Places} {r s q : Spaces} {g h i : GrantsState} → Keeps es m t r g fs n u s h → Keeps fs n u s h gs o v q i → Keeps es m t r g gs o v q i
keeps_then first second = λ k. second (first k)

pub keeps_same : (es fs : List Entry) (m n : List ℕ) (t u : Places) (r s : Spaces) (g h : GrantsState) → fs ≡ es → n ≡ m → u ≡ t → s ≡ r → h ≡ g → Keeps es m t r g fs n u s h
keeps_same es fs m n t u r s g h entries memory places spaces grants = λ k. rw (entries, memory, places, spaces, grants) k
