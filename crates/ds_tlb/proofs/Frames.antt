-- The frames of pages after a write to a slot, and what windows remember of them.
use Rattle.std.proofs.Common.{◌≡◌, ◌≢◌, ℕ, ◌+◌, ◌-◌, ◌*◌, ◌/◌, ◌%◌, ◌^◌, ◌<◌, ◌≤◌, ◌==◌, ◌&&◌, ◌||◌, not, cond, arith, inl, inr, false, true, Bool, List, length, replicate, set, Option, Some, None, get_or, refl, sym, ap, ◌∙◌, length-set}
use Rattle.std.specs.List.{position_or_len}
use Rattle.std.proofs.lemmas.Bool.{cases_eq, eq-eqb, ne_eqb}
use Rattle.std.proofs.lemmas.List.{get_or-replicate, get_or-set_same, get_or-set_other}
use Rattle.std.proofs.lemmas.Option.{get_or_from_slice_get}
use Rattle.std.proofs.lemmas.List.Folds.{position_or_len-set}
use Rattle.ds_tlb.specs.declared.entry.Entry.{Entry}
use Rattle.ds_tlb.specs.Entries.{matches, find}
use Rattle.ds_tlb.specs.Inner.Frames.{base_in, entry_in, base_of}
use Rattle.ds_word.specs.Word.{word, minus}
use Rattle.ds_isa.specs.declared.instr.Size.{Size}
use Rattle.ds_isa.specs.declared.instr.Size.TheVariants.{Byte, Half, Word, Part}
use Rattle.ds_isa.specs.declared.instr.Kind.{Kind}
use Rattle.ds_isa.specs.Access.{is_store, is_aligned}
use Rattle.std.specs.Prelude.{IfSome}
use Rattle.ds_tlb.specs.Inner.Windows.{window_place, tag_of, rest_of, Remembers, IsFound, AreRight, Forgets, ForgetsBoth}
use Rattle.ds_tlb.proofs.Bits.{no_entry, read_set_other}
use Rattle.ds_tlb.proofs.Matches.{found_matches, entry_of_match}

-- a search for what neither entry answers for finds what it found
found_still : (entries : List Entry) (slot vpn asid : ℕ) (entry : Entry) → matches vpn asid (get_or entries slot no_entry) ≡ false → matches vpn asid entry ≡ false →
    find (set entries slot entry) vpn asid ≡ find entries vpn asid
found_still entries slot vpn asid entry old new =
    let place : position_or_len (matches vpn asid) (set entries slot entry) ≡ position_or_len (matches vpn asid) entries = position_or_len-set (matches vpn asid) entries slot entry no_entry (new ∙ sym old) in
    let long : length (set entries slot entry) ≡ length entries = length-set entries slot entry in
    rw (place, long) refl

-- the entry that is found for it is the same
read_still : (entries : List Entry) (slot vpn asid : ℕ) (entry : Entry) → matches vpn asid (get_or entries slot no_entry) ≡ false →
    (found : Option ℕ) → find entries vpn asid ≡ found → entry_in (set entries slot entry) found ≡ entry_in entries found
read_still entries slot vpn asid entry old None is = refl
read_still entries slot vpn asid entry old (Some place) is =
    read_set_other entries slot place entry (λ same.
    let at = entry_of_match vpn asid entries place (found_matches vpn asid entries place is) in
    let read : get_or entries place no_entry ≡ at.0 = get_or_from_slice_get entries place at.0 no_entry at.1 in
    let hit : matches vpn asid (get_or entries slot no_entry) ≡ true = rw (sym same, read) at.2 in
    absurd (cc))

-- what neither the old entry of a slot nor its new one answers for keeps its frame
pub base_still : (entries : List Entry) (store : Bool) (slot vpn asid : ℕ) (entry : Entry) → matches vpn asid (get_or entries slot no_entry) ≡ false → matches vpn asid entry ≡ false →
    base_of (set entries slot entry) store vpn asid ≡ base_of entries store vpn asid
base_still entries store slot vpn asid entry old new =
    rw (found_still entries slot vpn asid entry old new) (ap (base_in store) (read_still entries slot vpn asid entry old (find entries vpn asid) refl))

-- windows that forgot what both entries answer for are right after the write
pub right_after : (entries : List Entry) (store : Bool) (slot : ℕ) (was entry : Entry) (old_tags old_distances tags distances : List ℕ) →
    was ≡ get_or entries slot no_entry → ForgetsBoth was entry old_tags old_distances tags distances →
    AreRight old_tags old_distances store entries → AreRight tags distances store (set entries slot entry)
right_after entries store slot was entry old_tags old_distances tags distances is forgets right = record {
  each = λ vpn asid base low small remembers.
      let before = right.each vpn asid base low small (forgets.first.before vpn asid base low small remembers) in
      let old : matches vpn asid (get_or entries slot no_entry) ≡ false = rw is at (forgets.first.gone vpn asid base before.0 small remembers) in
      let new : matches vpn asid entry ≡ false = forgets.second.gone vpn asid base before.0 small remembers in
      (before.0, base_still entries store slot vpn asid entry old new ∙ before.1, before.2);
}

-- no page has the tag of a window that remembers nothing
no_tag : (tags distances : List ℕ) (vpn asid base : ℕ) → vpn < 2 ^ 20 → asid < 2 ^ 8 → get_or tags (window_place vpn asid) 0 ≡ 0x400 → Remembers tags distances vpn asid base → ⊥
no_tag tags distances vpn asid base low small blank remembers =
    let same : 0x400 ≡ tag_of vpn asid = sym blank ∙ remembers.tag in
    omega (arith, same, low, small)

-- windows without tags remember nothing
blank_is_none : (tags distances : List ℕ) (vpn asid base : ℕ) → vpn < 2 ^ 20 → asid < 2 ^ 8 → tags ≡ replicate 64 0x400 → Remembers tags distances vpn asid base → ⊥
blank_is_none tags distances vpn asid base low small is remembers =
    no_tag tags distances vpn asid base low small (rw is (get_or-replicate 64 (window_place vpn asid) 0x400 0 (omega arith))) remembers

-- so they are right
pub blank_is_right : (tags distances : List ℕ) (store : Bool) (entries : List Entry) → tags ≡ replicate 64 0x400 → AreRight tags distances store entries
blank_is_right tags distances store entries is = record {
  each = λ vpn asid base low small remembers. absurd (blank_is_none tags distances vpn asid base low small is remembers);
}

-- and have forgotten whatever an entry answers for
pub blank_forgets : (entry : Entry) (old_tags old_distances tags distances : List ℕ) → tags ≡ replicate 64 0x400 → Forgets entry old_tags old_distances tags distances
blank_forgets entry old_tags old_distances tags distances is = record {
  before = λ vpn asid base low small remembers. absurd (blank_is_none tags distances vpn asid base low small is remembers);
  gone = λ vpn asid base low small remembers. absurd (blank_is_none tags distances vpn asid base (omega (arith, low)) small is remembers);
}

-- an entry answers for no other page
other_page : (vpn asid : ℕ) (entry : Entry) → vpn ≢ entry.vpn → matches vpn asid entry ≡ false
other_page vpn asid entry other = rw (ne_eqb entry.vpn vpn (λ same. other (sym same))) refl

-- and in no other address space, where it is not for all
other_space : (vpn asid : ℕ) (entry : Entry) → entry.g ≡ false → asid ≢ entry.asid → matches vpn asid entry ≡ false
other_space vpn asid entry own other =
    let space : (entry.asid == asid) ≡ false = ne_eqb entry.asid asid (λ same. other (sym same)) in
    elim (cases_eq entry.vpn vpn) [
      | inl same ↦ rw (own, space, eq-eqb entry.vpn vpn same) refl
      | inr apart ↦ rw (ne_eqb entry.vpn vpn apart) refl
    ]

-- an entry of the upper half of the addresses is not remembered
pub upper_forgets : (entry : Entry) (tags distances : List ℕ) → 2 ^ 19 ≤ entry.vpn → Forgets entry tags distances tags distances
upper_forgets entry tags distances upper = record {
  before = λ vpn asid base low small remembers. remembers;
  gone = λ vpn asid base low small remembers. other_page vpn asid entry (λ same. absurd (omega (arith, same, low, upper)));
}

-- an entry of one address space is forgotten with its window
pub one_forgets : (entry : Entry) (tags distances : List ℕ) (place : ℕ) → length tags ≡ 64 → entry.g ≡ false → place ≡ window_place entry.vpn entry.asid → Forgets entry tags distances (set tags place 0x400) distances
one_forgets entry tags distances place long own at =
    let inside : place < length tags = omega (arith, at, long) in
    let here : (vpn asid base : ℕ) → vpn < 2 ^ 20 → asid < 2 ^ 8 → window_place vpn asid ≡ place → Remembers (set tags place 0x400) distances vpn asid base → ⊥ =
    λ vpn asid base low small same remembers. no_tag (set tags place 0x400) distances vpn asid base low small (rw same (get_or-set_same tags place 0x400 0 inside)) remembers in
    record {
      before = λ vpn asid base low small remembers. elim (cases_eq (window_place vpn asid) place) [
        | inl same ↦ absurd (here vpn asid base low small same remembers)
        | inr other ↦ record {
          tag = sym (get_or-set_other tags place (window_place vpn asid) 0x400 0 other) ∙ remembers.tag;
          frame = remembers.frame;
        }
      ];
      gone = λ vpn asid base low small remembers. elim (cases_eq vpn entry.vpn) [
        | inr page ↦ other_page vpn asid entry page
        | inl page ↦ elim (cases_eq asid entry.asid) [
          | inr space ↦ other_space vpn asid entry own space
          | inl space ↦ absurd (here vpn asid base (omega (arith, low)) small (rw (page, space) (sym at)) remembers)
        ]
      ];
    }

-- what is forgotten for one entry and then for another is forgotten for both
pub both_forgotten : (was now : Entry) (tags distances tags1 distances1 tags2 distances2 : List ℕ) → Forgets was tags distances tags1 distances1 → Forgets now tags1 distances1 tags2 distances2 → ForgetsBoth was now tags distances tags2 distances2
both_forgotten was now tags distances tags1 distances1 tags2 distances2 first second =
    let before : (vpn asid base : ℕ) → vpn < 2 ^ 20 → asid < 2 ^ 8 → Remembers tags2 distances2 vpn asid base → Remembers tags distances vpn asid base =
    λ vpn asid base low small remembers. first.before vpn asid base low small (second.before vpn asid base low small remembers) in
    record {
      first = record {
        before = before;
        gone = λ vpn asid base low small remembers. first.gone vpn asid base low small (second.before vpn asid base (omega (arith, low)) small remembers);
      };
      second = record { before = before; gone = second.gone };
    }

-- a page that is remembered with the frame that the entries have for it
pub right_with : (entries : List Entry) (store : Bool) (tags distances : List ℕ) (place tag distance vpn asid base : ℕ) → length tags ≡ 64 → length distances ≡ 64 →
    place ≡ window_place vpn asid → tag ≡ tag_of vpn asid → distance ≡ minus base (vpn * 2 ^ 12) → vpn < 2 ^ 19 → asid < 2 ^ 8 → base + 4096 ≤ 2 ^ 23 →
    base_of entries store vpn asid ≡ Some base → AreRight tags distances store entries → AreRight (set tags place tag) (set distances place distance) store entries
right_with entries store tags distances place tag distance vpn asid base long_tags long_distances at known far lower small inside found right = record {
  each = λ v a b low fits remembers. elim (cases_eq (window_place v a) place) [
    | inl same ↦
        let tags_here : get_or (set tags place tag) (window_place v a) 0 ≡ tag = rw same (get_or-set_same tags place tag 0 (omega arith)) in
        let distances_here : get_or (set distances place distance) (window_place v a) 0 ≡ distance = rw same (get_or-set_same distances place distance 0 (omega arith)) in
        let tags_equal : tag_of vpn asid ≡ tag_of v a = sym known ∙ (sym tags_here ∙ remembers.tag) in
        let page : v ≡ vpn = omega (arith, tags_equal, small, fits) in
        let space : a ≡ asid = omega (arith, tags_equal, small, fits) in
        let frame : word (v * 2 ^ 12 + distance) ≡ b = ap (λ (d : ℕ). word (v * 2 ^ 12 + d)) (sym distances_here) ∙ remembers.frame in
        let is : base ≡ b = omega (arith, frame, far, page, lower, inside) in
        (omega (arith, page, lower), rw (page, space, sym is) found, omega (arith, is, inside))
    | inr other ↦ right.each v a b low fits (record {
      tag = sym (get_or-set_other tags place (window_place v a) tag 0 other) ∙ remembers.tag;
      frame = ap (λ (d : ℕ). word (v * 2 ^ 12 + d)) (sym (get_or-set_other distances place (window_place v a) distance 0 other)) ∙ remembers.frame;
    })
  ];
}

-- an address that leaves nothing suits the size
pub suits : (size : Size) (address : ℕ) → rest_of size address ≡ 0 → is_aligned size address ≡ true
suits Byte address none = refl
suits Half address none = eq-eqb (address % 2) 0 none
suits Word address none = eq-eqb (address % 4) 0 none
suits Part address none = refl

rest_is_small : (size : Size) (address : ℕ) → rest_of size address < 4
rest_is_small Byte address = omega arith
rest_is_small Half address = omega arith
rest_is_small Word address = omega arith
rest_is_small Part address = omega arith

-- an access whose key is the tag of the window that the key names is found there
pub is_found : (tags distances : List ℕ) (size : Size) (address asid key window place : ℕ) → address < 2 ^ 32 → asid < 2 ^ 8 →
    key ≡ word (tag_of (address / 2 ^ 12) asid + rest_of size address) → window ≡ key / 2 ^ 12 % 64 → get_or tags window 0 ≡ key → get_or tags window 0 % 4 ≡ 0 →
    place ≡ word (address + get_or distances window 0) → IsFound tags distances size address asid place
is_found tags distances size address asid key window place fits small is at same whole is_place =
    let few : rest_of size address < 4 = rest_is_small size address in
    let none : rest_of size address ≡ 0 = omega (arith, is, same, whole, few, fits, small) in
    let tag : key ≡ tag_of (address / 2 ^ 12) asid = omega (arith, is, none) in
    let here : window ≡ window_place (address / 2 ^ 12) asid = omega (arith, at, tag, fits, small) in
    record {
      aligned = suits size address none;
      tag = ap (λ (n : ℕ). get_or tags n 0) (sym here) ∙ (same ∙ tag);
      frame = ap (λ (n : ℕ). word (address + get_or distances n 0)) (sym here) ∙ sym is_place;
    }

-- a frame begins at a multiple of 4,096
whole_in : (store : Bool) (found : Option Entry) (base : ℕ) → base_in store found ≡ Some base → base % 4096 ≡ 0
whole_in store None base is = absurd cc
whole_in store (Some e) base is = by_flags (e.v && (not store || e.d)) is
  where
    by_flags : (b : Bool) → cond b (Some (e.pfn % 2 ^ 20 * 2 ^ 12)) None ≡ Some base → base % 4096 ≡ 0
    by_flags true is = let b : e.pfn % 2 ^ 20 * 2 ^ 12 ≡ base = cc in omega (arith, b)
    by_flags false is = absurd cc

-- an access that is found by right windows
found_frame : (entries : List Entry) (store : Bool) (tags distances : List ℕ) (size : Size) (address asid place : ℕ) → address < 2 ^ 32 → asid < 2 ^ 8 →
    AreRight tags distances store entries → IsFound tags distances size address asid place →
    (address < 2 ^ 31) × (base_of entries store (address / 2 ^ 12) asid ≡ Some (place - address % 2 ^ 12)) × (place % 2 ^ 12 ≡ address % 2 ^ 12) × (place < 2 ^ 23)
found_frame entries store tags distances size address asid place fits small right found =
    let vpn : ℕ = address / 2 ^ 12 in
    let distance : ℕ = get_or distances (window_place vpn asid) 0 in
    let base : ℕ = word (vpn * 2 ^ 12 + distance) in
    let is = right.each vpn asid base (omega (arith, fits)) small (record { tag = found.tag; frame = refl }) in
    let whole : base % 4096 ≡ 0 = whole_in store (entry_in entries (find entries vpn asid)) base is.1 in
    let lower : vpn < 2 ^ 19 = is.0 in
    let inside : base + 4096 ≤ 2 ^ 23 = is.2 in
    let at : word (address + distance) ≡ place = found.frame in
    let frame : base ≡ place - address % 2 ^ 12 = omega (arith, at, whole, inside) in
    (omega (arith, lower), is.1 ∙ ap Some frame, omega (arith, at, whole, inside), omega (arith, at, whole, inside))

-- it lies in the lower half of the addresses
pub found_lower : (entries : List Entry) (store : Bool) (tags distances : List ℕ) (size : Size) (address asid place : ℕ) → address < 2 ^ 32 → asid < 2 ^ 8 →
    AreRight tags distances store entries → IsFound tags distances size address asid place → address < 2 ^ 31
found_lower entries store tags distances size address asid place fits small right found = (found_frame entries store tags distances size address asid place fits small right found).0

-- its place lies in the frame that the entries have for its page
pub found_base : (entries : List Entry) (store : Bool) (tags distances : List ℕ) (size : Size) (address asid place : ℕ) → address < 2 ^ 32 → asid < 2 ^ 8 →
    AreRight tags distances store entries → IsFound tags distances size address asid place → base_of entries store (address / 2 ^ 12) asid ≡ Some (place - address % 2 ^ 12)
found_base entries store tags distances size address asid place fits small right found = (found_frame entries store tags distances size address asid place fits small right found).1

-- the same of a kind of access
pub found_for : (entries : List Entry) (kind : Kind) (store : Bool) (tags distances : List ℕ) (size : Size) (address asid : ℕ) (found : Option ℕ) → is_store kind ≡ store → address < 2 ^ 32 → asid < 2 ^ 8 →
    AreRight tags distances store entries → IfSome found (λ place. IsFound tags distances size address asid place) →
    IfSome found (λ place. base_of entries (is_store kind) (address / 2 ^ 12) asid ≡ Some (place - address % 2 ^ 12))
found_for entries kind store tags distances size address asid None is fits small right found = tt
found_for entries kind store tags distances size address asid (Some place) is fits small right found = rw is (found_base entries store tags distances size address asid place fits small right found)

-- where the address lies in its page
pub found_offset : (entries : List Entry) (store : Bool) (tags distances : List ℕ) (size : Size) (address asid place : ℕ) → address < 2 ^ 32 → asid < 2 ^ 8 →
    AreRight tags distances store entries → IsFound tags distances size address asid place → place % 2 ^ 12 ≡ address % 2 ^ 12
found_offset entries store tags distances size address asid place fits small right found = (found_frame entries store tags distances size address asid place fits small right found).2

-- in memory
pub found_inside : (entries : List Entry) (store : Bool) (tags distances : List ℕ) (size : Size) (address asid place : ℕ) → address < 2 ^ 32 → asid < 2 ^ 8 →
    AreRight tags distances store entries → IsFound tags distances size address asid place → place < 2 ^ 23
found_inside entries store tags distances size address asid place fits small right found = (found_frame entries store tags distances size address asid place fits small right found).3
