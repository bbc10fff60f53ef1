-- What was written stays while fewer than 56 steps of Random pass.
use Rattle.std.proofs.Common.{◌≡◌, ◌≢◌, ℕ, ◌+◌, ◌<◌, ◌≤◌, Bool, true, List, length, ap, ◌∙◌, arith, set, length-set, get_or, refl, subst, sym}
use Rattle.std.specs.Prelude.{slice_get, slice_set, Option, Some, None, IsSome, not}
use Rattle.std.proofs.lemmas.Bool.Decides.{nat_tests}
use Rattle.std.proofs.lemmas.Option.{slice_get-get_or, slice_get_within, get_or_from_slice_get}
use Rattle.std.proofs.lemmas.List.{get_or-set_same}
use Rattle.ds_tlb.specs.declared.entry.Entry.{Entry}
use Rattle.ds_tlb.specs.Entries.{random_after, matches, find}
use Rattle.ds_tlb.proofs.Bits.{read_set_other}
use Rattle.ds_tlb.proofs.Matches.{missed_match}
use Rattle.ds_refinement.specs.KeptEntries.{steps_since, IsKept}

-- what stands at another place stays
pub other_stays : (entries : List Entry) (at slot : ℕ) (e other : Entry) → slot ≢ at → slice_get entries slot ≡ Some e → slice_get (slice_set entries at other) slot ≡ Some e
other_stays entries at slot e other apart is = read_set_other entries at slot other apart ∙ is

-- Random stands nowhere where it stood lately
apart : (slot random : ℕ) → 1 ≤ steps_since slot random → slot ≢ random
apart slot random since = λ (e : ◌≡◌ {A = ℕ} slot random). grind (arith, nat_tests)

-- Random goes a step on
pub goes_on : (slot random n : ℕ) → 8 ≤ random → random < 64 → 8 ≤ slot → slot < 64 → n < 55 → steps_since slot random ≤ n → steps_since slot (random_after 64 8 random) ≡ steps_since slot random + 1
goes_on slot random n a b c d e f = grind (arith, nat_tests)

pub past_first : (random : ℕ) → 8 ≤ random → random < 64 → steps_since random (random_after 64 8 random) ≡ 1
past_first random a b = grind (arith, nat_tests)

pub begins : (entries : List Entry) (e : Entry) (random : ℕ) → length entries ≡ 64 → 8 ≤ random → random < 64 → IsKept (slice_set entries random e) (random_after 64 8 random) 1 e.vpn e.asid
begins entries e random size low high =
    let same = length-set entries random e in
    let first = past_first random low high in
    record {
      slot = random;
      entry = e;
      at = slice_get-get_or (set entries random e) random e (omega arith) ∙ ap (λ (x : Entry). Some x) (get_or-set_same entries random e e (omega arith));
      page = refl;
      space = refl;
      low = low;
      high = high;
      since = omega arith;
      few = omega arith;
    }

pub steps : (entries : List Entry) (random n vpn asid : ℕ) → 8 ≤ random → random < 64 → n < 55 → IsKept entries random n vpn asid → IsKept entries (random_after 64 8 random) (n + 1) vpn asid
steps entries random n vpn asid a b c k =
    let e = goes_on k.slot random n a b k.low k.high c k.few in
    let since = k.since in
    let few = k.few in
    record { slot = k.slot; entry = k.entry; at = k.at; page = k.page; space = k.space; low = k.low; high = k.high; since = omega arith; few = omega arith }

pub writes : (entries : List Entry) (random n vpn asid : ℕ) (other : Entry) → IsKept entries random n vpn asid → IsKept (slice_set entries random other) random n vpn asid
writes entries random n vpn asid other k = record {
  slot = k.slot;
  entry = k.entry;
  at = other_stays entries random k.slot k.entry other (apart k.slot random k.since) k.at;
  page = k.page;
  space = k.space;
  low = k.low;
  high = k.high;
  since = k.since;
  few = k.few;
}

pub wired : (entries : List Entry) (random n vpn asid slot : ℕ) (other : Entry) → slot < 8 → IsKept entries random n vpn asid → IsKept (slice_set entries slot other) random n vpn asid
wired entries random n vpn asid slot other h k =
    let low = k.low in
    let apart : k.slot ≢ slot = λ (e : ◌≡◌ {A = ℕ} k.slot slot). omega arith in
    record {
      slot = k.slot;
      entry = k.entry;
      at = other_stays entries slot k.slot k.entry other apart k.at;
      page = k.page;
      space = k.space;
      low = k.low;
      high = k.high;
      since = k.since;
      few = k.few;
    }

-- an entry of the page matches
pub page_matches : (e : Entry) (vpn asid : ℕ) → e.vpn ≡ vpn → e.asid ≡ asid → matches vpn asid e ≡ true
page_matches e vpn asid page space = grind (arith, nat_tests)

pub found : (entries : List Entry) (random n vpn asid : ℕ) → IsKept entries random n vpn asid → IsSome (find entries vpn asid)
found entries random n vpn asid k = by_answer (find entries vpn asid) refl
  where
    by_answer : (o : Option ℕ) → find entries vpn asid ≡ o → IsSome o
    by_answer (Some slot) is = refl
    by_answer None is =
        let all = (missed_match vpn asid entries None (sym is)).0 refl in
        let within = slice_get_within entries k.slot k.entry k.at in
        let no : not (matches vpn asid (get_or entries k.slot k.entry)) ≡ true = all k.slot k.entry within in
        let here : get_or entries k.slot k.entry ≡ k.entry = get_or_from_slice_get entries k.slot k.entry k.entry k.at in
        let wrong : not true ≡ true = subst (λ (b : Bool). not b ≡ true) (page_matches k.entry vpn asid k.page k.space) (subst (λ (x : Entry). not (matches vpn asid x) ≡ true) here no) in
        absurd (cc)
