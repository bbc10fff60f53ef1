-- Where Random and the turn of the first eight slots stood.
use Rattle.std.proofs.Common.{◌≡◌, ◌≢◌, ℕ, zero, suc, ◌+◌, ◌-◌, ◌<◌, ◌≤◌, Bool, true, List, [], ◌∷◌, length, ap, ◌∙◌, arith, set, length-set, get_or, refl, subst, sym}
use Rattle.std.specs.Prelude.{slice_set, slice_index_or, Some, None, IsSome, not}
use Rattle.std.proofs.lemmas.Bool.Decides.{nat_tests}
use Rattle.std.proofs.lemmas.Option.{slice_get-get_or, slice_get_within, get_or_from_slice_get}
use Rattle.std.proofs.lemmas.List.{get_or-set_same}
use Rattle.ds_tlb.specs.declared.entry.Entry.{Entry}
use Rattle.ds_tlb.specs.Entries.{random_after, matches, find}
use Rattle.ds_tlb.proofs.Matches.{missed_match}
use Rattle.ds_refinement.specs.KeptEntries.{IsKept}
use Rattle.ds_refinement.proofs.Keeping.{begins, past_first, found, goes_on, other_stays, page_matches, steps}
use Rattle.ds_refinement.specs.CourseSteps.{next_wired, later}
use Rattle.ds_grants.specs.Copies.{HasKeys}
use Rattle.ds_refinement.specs.Tally.{turns, IsTableKept, Stood, AllStood, IsSince}

-- Random.

pub ticked_low : (random : ℕ) → 8 ≤ random → random < 64 → 8 ≤ random_after 64 8 random
ticked_low random a b = grind (arith, nat_tests)

pub ticked_high : (random : ℕ) → 8 ≤ random → random < 64 → random_after 64 8 random < 64
ticked_high random a b = grind (arith, nat_tests)

stood_ticks : (slot random spent : ℕ) → 8 ≤ random → random < 64 → spent ≤ 60 → Stood slot random (spent - 7) → Stood slot (random_after 64 8 random) (spent + 1 - 7)
stood_ticks slot random spent a b few s =
    let since = s.since in
    let most = s.few in
    let e = goes_on slot random (spent - 7) a b s.low s.high (omega arith) most in
    record { low = s.low; high = s.high; since = omega arith; few = omega arith }

pub all_stood_tick : (slots : List ℕ) (random spent : ℕ) → 8 ≤ random → random < 64 → spent ≤ 60 → AllStood slots random (spent - 7) → AllStood slots (random_after 64 8 random) (spent + 1 - 7)
all_stood_tick [] random spent a b few all = tt
all_stood_tick (slot ∷ more) random spent a b few all = (stood_ticks slot random spent a b few all.0, all_stood_tick more random spent a b few all.1)

pub stood_first : (random spent : ℕ) → 8 ≤ random → random < 64 → 7 ≤ spent → Stood random (random_after 64 8 random) (spent + 1 - 7)
stood_first random spent a b begun = let e = past_first random a b in record { low = a; high = b; since = omega arith; few = omega arith }

weaker : (entries : List Entry) (random n k vpn asid : ℕ) → n ≤ k → IsKept entries random n vpn asid → IsKept entries random k vpn asid
weaker entries random n k vpn asid less kept =
    let few = kept.few in
    record { slot = kept.slot; entry = kept.entry; at = kept.at; page = kept.page; space = kept.space; low = kept.low; high = kept.high; since = kept.since; few = omega arith }

pub kept_ticks : (entries : List Entry) (random spent vpn asid : ℕ) → 8 ≤ random → random < 64 → spent ≤ 60 → IsKept entries random (spent - 7) vpn asid → IsKept entries (random_after 64 8 random) (spent + 1 - 7) vpn asid
kept_ticks entries random spent vpn asid a b few kept =
    let since = kept.since in
    let most = kept.few in
    weaker entries (random_after 64 8 random) (spent - 7 + 1) (spent + 1 - 7) vpn asid (omega arith) (steps entries random (spent - 7) vpn asid a b (omega arith) kept)

pub kept_first : (entries : List Entry) (e : Entry) (random spent : ℕ) → length entries ≡ 64 → 8 ≤ random → random < 64 → 7 ≤ spent → IsKept (slice_set entries random e) (random_after 64 8 random) (spent + 1 - 7) e.vpn e.asid
kept_first entries e random spent size a b begun = weaker (slice_set entries random e) (random_after 64 8 random) 1 (spent + 1 - 7) e.vpn e.asid (omega arith) (begins entries e random size a b)

-- The turn of the first eight slots.

pub turn_small : (wired : ℕ) → wired < 8 → next_wired wired < 8
turn_small wired a = grind (arith, nat_tests)

pub turn_on : (slot wired n : ℕ) → slot < 8 → wired < 8 → n < 8 → turns slot wired ≤ n → turns slot (next_wired wired) ≤ n + 1
turn_on slot wired n a b c d = grind (arith, nat_tests)

pub turn_first : (wired n : ℕ) → wired < 8 → turns wired (next_wired wired) ≤ n + 1
turn_first wired n a = grind (arith, nat_tests)

pub turn_apart : (slot wired n : ℕ) → n < 8 → turns slot wired ≤ n → slot ≢ wired
turn_apart slot wired n a b = λ (e : ◌≡◌ {A = ℕ} slot wired). grind (arith, nat_tests)

pub table_first : (entries : List Entry) (e : Entry) (wired n : ℕ) → length entries ≡ 64 → wired < 8 → IsTableKept (slice_set entries wired e) (next_wired wired) (n + 1) e.vpn e.asid
table_first entries e wired n size low =
    let same = length-set entries wired e in
    record {
      slot = wired;
      entry = e;
      at = slice_get-get_or (set entries wired e) wired e (omega arith) ∙ ap (λ (x : Entry). Some x) (get_or-set_same entries wired e e (omega arith));
      vpn = refl;
      space = refl;
      high = low;
      few = turn_first wired n low;
    }

pub table_turns : (entries : List Entry) (e : Entry) (wired n vpn asid : ℕ) → wired < 8 → n < 8 → IsTableKept entries wired n vpn asid → IsTableKept (slice_set entries wired e) (next_wired wired) (n + 1) vpn asid
table_turns entries e wired n vpn asid low less k = record {
  slot = k.slot;
  entry = k.entry;
  at = other_stays entries wired k.slot k.entry e (turn_apart k.slot wired n less k.few) k.at;
  vpn = k.vpn;
  space = k.space;
  high = k.high;
  few = turn_on k.slot wired n k.high low less k.few;
}

-- a refill writes elsewhere
pub table_stays : (entries : List Entry) (e : Entry) (random wired n vpn asid : ℕ) → 8 ≤ random → IsTableKept entries wired n vpn asid → IsTableKept (slice_set entries random e) wired n vpn asid
table_stays entries e random wired n vpn asid low k =
    let high = k.high in
    let apart : k.slot ≢ random = λ (e : ◌≡◌ {A = ℕ} k.slot random). omega arith in
    record { slot = k.slot; entry = k.entry; at = other_stays entries random k.slot k.entry e apart k.at; vpn = k.vpn; space = k.space; high = high; few = k.few }

-- what is kept is found
pub table_found : (entries : List Entry) (wired n vpn asid : ℕ) → IsTableKept entries wired n vpn asid → find entries vpn asid ≡ None → ⊥
table_found entries wired n vpn asid k is =
    let all = (missed_match vpn asid entries None (sym is)).0 refl in
    let within = slice_get_within entries k.slot k.entry k.at in
    let no : not (matches vpn asid (get_or entries k.slot k.entry)) ≡ true = all k.slot k.entry within in
    let here : get_or entries k.slot k.entry ≡ k.entry = get_or_from_slice_get entries k.slot k.entry k.entry k.at in
    let wrong : not true ≡ true = subst (λ (b : Bool). not b ≡ true) (page_matches k.entry vpn asid k.vpn k.space) (subst (λ (x : Entry). not (matches vpn asid x) ≡ true) here no) in
    absurd cc

pub kept_found : (entries : List Entry) (random n vpn asid : ℕ) → IsKept entries random n vpn asid → find entries vpn asid ≡ None → ⊥
kept_found entries random n vpn asid k is = let some : IsSome (find entries vpn asid) = found entries random n vpn asid k in absurd cc

-- Entries whose keys stay.

pub kept_keys : (old new : List Entry) (random n vpn asid : ℕ) → HasKeys old new → IsKept old random n vpn asid → IsKept new random n vpn asid
kept_keys old new random n vpn asid keys k =
    let f = keys k.slot k.entry k.at in
    record { slot = k.slot; entry = f.0; at = f.1; page = f.2 ∙ k.page; space = f.3 ∙ k.space; low = k.low; high = k.high; since = k.since; few = k.few }

pub table_keys : (old new : List Entry) (wired n vpn asid : ℕ) → HasKeys old new → IsTableKept old wired n vpn asid → IsTableKept new wired n vpn asid
table_keys old new wired n vpn asid keys k =
    let f = keys k.slot k.entry k.at in
    record { slot = k.slot; entry = f.0; at = f.1; vpn = f.2 ∙ k.vpn; space = f.3 ∙ k.space; high = k.high; few = k.few }

-- Steps of Random since the first refill.

pub since_ticks : (slots : List ℕ) (since spent : ℕ) → IsSince slots since spent → IsSince slots (later slots since) (spent + 1)
since_ticks [] since spent s = s
since_ticks (slot ∷ more) since spent s = omega arith

pub since_writes : (slots : List ℕ) (slot since spent : ℕ) → 7 ≤ spent → IsSince slots since spent → IsSince (slot ∷ slots) (since + 1) (spent + 1)
since_writes [] slot since spent begun s = omega arith
since_writes (other ∷ more) slot since spent begun s = omega arith

-- a slot among these is where Random stood
pub stood_among : (slots : List ℕ) (random n slot k : ℕ) → AllStood slots random n → k < length slots → slice_index_or slots k slot ≡ slot → Stood slot random n
stood_among [] random n slot k all within is = absurd (omega arith)
stood_among (first ∷ more) random n slot zero all within is = subst (λ (x : ℕ). Stood x random n) is all.0
stood_among (first ∷ more) random n slot (suc k) all within is = stood_among more random n slot k all.1 (omega arith) is

pub stood_apart : (slot random n : ℕ) → Stood slot random n → slot ≢ random
stood_apart slot random n s = let since = s.since in λ (e : ◌≡◌ {A = ℕ} slot random). grind (arith, nat_tests)
