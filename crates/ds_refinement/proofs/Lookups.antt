-- What the buffer lets a user reach is what the table grants: what an entry lets go is granted, by its page-table word.
use Rattle.std.proofs.Common.{◌≡◌, ℕ, ◌+◌, ◌-◌, ◌*◌, ◌/◌, ◌%◌, ◌^◌, ◌<◌, Bool, true, false, cond, List, refl, sym, ap, subst, ◌∙◌, arith, get_or, Option, Some, None}
use Rattle.std.specs.Prelude.{Result, Ok, Err, nat_le, nat_lt, not, ◌&&◌, ◌==◌, slice_get}
use Rattle.std.proofs.lemmas.Bool.Decides.{nat_tests}
use Rattle.std.proofs.lemmas.Option.{get_or_from_slice_get, slice_get-get_or}
use Rattle.std.proofs.lemmas.List.Quantifiers.{position-Some}
use Rattle.ds_word.specs.Word.{bits, bit}
use Rattle.ds_isa.specs.declared.instr.Size.{Size}
use Rattle.ds_isa.specs.declared.instr.Kind.{Kind}
use Rattle.ds_isa.specs.declared.instr.Kind.TheVariants.{Fetch, Load, Store}
use Rattle.ds_isa.specs.Access.{is_store, is_aligned}
use Rattle.ds_tlb.specs.declared.entry.Entry.{Entry}
use Rattle.ds_tlb.specs.Entries.{matches, find, empty_entry}
use Rattle.ds_tlb.specs.Words.{entry_of}
use Rattle.ds_cp0.specs.System.{asid_of, is_user}
use Rattle.ds_amap.specs.declared.map.Physical.{Physical}
use Rattle.ds_amap.specs.declared.map.Fault.{Fault}
use Rattle.ds_amap.specs.declared.map.Fault.TheVariants.{Address, Refill, Invalid, Modified}
use Rattle.ds_amap.specs.Map.{through, through_slot, through_found, at_physical, place}
use Rattle.ds_policy.specs.declared.access.Verdict.TheVariants.{Allowed}
use Rattle.ds_policy.specs.declared.grant.Grant.{Grant}
use Rattle.ds_policy.specs.declared.grant.Right.{Right}
use Rattle.ds_policy.specs.declared.grant.Right.TheVariants.{Nothing, Read, Write}
use Rattle.ds_policy.specs.Pages.{names, allowed_on, by_right, entry_at, page_address}
use Rattle.ds_policy.specs.Grants.{is_write, is_some_right}
use Rattle.ds_grants.specs.State.{GrantsState, is_live, is_shared, frame_of_page}
use Rattle.ds_grants.specs.Words.{word_of_right, word_of_grant, granted_word}
use Rattle.ds_grants.specs.Buffer.{hi_of, BufferHolds}
use Rattle.ds_grants.specs.Sound.{NamesPages}
use Rattle.ds_grants.proofs.Fields.{user_lo}
use Rattle.ds_grants.proofs.Living.{found_lives}
use Rattle.ds_asid.specs.Spaces.{Spaces, space_number}
use Rattle.ds_tables.specs.Places.{Places}
use Rattle.ds_core.specs.Core.{CoreState}
use Rattle.ds_core.specs.Access.{reached}
use Rattle.ds_refinement.specs.Held.{Kept, space_of}
use Rattle.ds_refinement.specs.Inner.Granted.{IsGranted}

-- a page that an entry of the table names lives
pub named_page_lives : (g : GrantsState) (p address page : ℕ) (grant : Grant) → entry_at g.table p address ≡ Some grant → grant.page ≡ Some page → is_live g page ≡ true
named_page_lives g p address page grant granted named =
    let itself : (page == page) ≡ true = grind (arith, nat_tests) in
    found_lives g p address grant page granted (ap (names page) named ∙ itself)

both : (a b : Bool) → (a && b) ≡ true → (a ≡ true) × (b ≡ true)
both true b e = (refl, e)
both false b e = absurd cc

-- what is found is of the page and of the address space
pub found_of : (entries : List Entry) (vpn asid slot : ℕ) (e : Entry) → find entries vpn asid ≡ Some slot → slice_get entries slot ≡ Some e → e.g ≡ false → (e.vpn ≡ vpn) × (e.asid ≡ asid)
found_of entries vpn asid slot e found at own =
    let read = get_or_from_slice_get entries slot e e at in
    let m : matches vpn asid (get_or entries slot e) ≡ true = (position-Some (matches vpn asid) entries slot e found).1 in
    let is : matches vpn asid e ≡ true = subst (λ (x : Entry). matches vpn asid x ≡ true) read m in
    (keys is own)
  where
    keys : matches vpn asid e ≡ true → e.g ≡ false → (e.vpn ≡ vpn) × (e.asid ≡ asid)
    keys is own = (grind (arith, nat_tests), grind (arith, nat_tests))

-- a right allows an access on the entry's page
allowed_by : (access : Kind) (right : Right) (g : Grant) (page offset : ℕ) → is_some_right right ≡ true → (access ≡ Store → is_write right ≡ true) → g.page ≡ Some page → by_right right access g offset ≡ Allowed page offset
allowed_by access Nothing g page offset some writes e = absurd cc
allowed_by Fetch Read g page offset some writes e = ap (λ (p : Option ℕ). allowed_on p offset) e
allowed_by Load Read g page offset some writes e = ap (λ (p : Option ℕ). allowed_on p offset) e
allowed_by Store Read g page offset some writes e = let wrong : false ≡ true = writes refl in absurd cc
allowed_by access Write g page offset some writes e = ap (λ (p : Option ℕ). allowed_on p offset) e

-- an entry that lets an access go is valid, and dirty for a store
lets_go : (v d : Bool) (access : Kind) (there place : Physical) → cond (not v) (Err Invalid) (cond (is_store access && not d) (Err Modified) (Ok there)) ≡ Ok place → (there ≡ place) × (access ≡ Store → d ≡ true)
lets_go false d access there place is = absurd cc
lets_go true d Fetch there place is = (cc, λ (e : Fetch ≡ Store). absurd cc)
lets_go true d Load there place is = (cc, λ (e : Load ≡ Store). absurd cc)
lets_go true true Store there place is = (cc, λ _. refl)
lets_go true false Store there place is = absurd cc

-- both flags of a word's D
may_and_alone : (writes shared : Bool) → (writes && not shared) ≡ true → (writes ≡ true) × (shared ≡ false)
may_and_alone true false e = (refl, refl)
may_and_alone true true e = absurd cc
may_and_alone false shared e = absurd cc

-- What a word lets go: a page of a right, in its frame, where no other page lies if it is stored to.
pub record LetsGo (g : GrantsState) (o : Option Grant) (access : Kind) (address place : ℕ) : Type 0 where
  pub grant : Grant
  pub page : ℕ
  pub is : o ≡ Some grant
  pub named : grant.page ≡ Some page
  pub right : is_some_right grant.right ≡ true
  pub writes : access ≡ Store → is_write grant.right ≡ true
  pub alone : access ≡ Store → is_shared g page ≡ false
  pub lies : place ≡ frame_of_page g page % 2 ^ 20 * 2 ^ 12 + address % 2 ^ 12

-- the frame and the flags of a page's word
pub frame_flags : (frame : ℕ) (d : Bool) → let w = frame * 2 ^ 12 + bit 10 d + bit 9 true in (bits w 12 20 ≡ frame % 2 ^ 20) × ((bits w 10 1 == 1) ≡ d) × ((bits w 9 1 == 1) ≡ true)
frame_flags frame true = (omega arith, grind (arith, nat_tests), grind (arith, nat_tests))
frame_flags frame false = (omega arith, grind (arith, nat_tests), grind (arith, nat_tests))

-- What an entry of a word lets go.
module _ (g : GrantsState) (hi address : ℕ) (access : Kind) (there : Physical) where
  none_goes : (w : ℕ) → w ≡ 0 → through (entry_of hi w) access address ≡ Ok there → ⊥
  none_goes w zero is = let wrong : ◌≡◌ {A = Result Physical Fault} (Err Invalid) (Ok there) = sym (ap (λ (x : ℕ). through (entry_of hi x) access address) zero) ∙ is in cc

  page_goes : (grant : Grant) (q : ℕ) (d : Bool) (o : Option Grant) → o ≡ Some grant → grant.page ≡ Some q → is_some_right grant.right ≡ true → (d ≡ true → (is_write grant.right ≡ true) × (is_shared g q ≡ false))
      → through (entry_of hi (frame_of_page g q * 2 ^ 12 + bit 10 d + bit 9 true)) access address ≡ Ok there → LetsGo g o access address there.0
  page_goes grant q d o at named right write is =
      let flags = frame_flags (frame_of_page g q) d in
      let e : Entry = entry_of hi (frame_of_page g q * 2 ^ 12 + bit 10 d + bit 9 true) in
      let goes = lets_go e.v e.d access (at_physical (e.pfn % 2 ^ 20 * 2 ^ 12 + address % 2 ^ 12)) there is in
      let frame : e.pfn ≡ frame_of_page g q % 2 ^ 20 = flags.0 in
      record {
        grant = grant;
        page = q;
        is = at;
        named = named;
        right = right;
        writes = λ store. (write (sym flags.1 ∙ goes.1 store)).0;
        alone = λ store. (write (sym flags.1 ∙ goes.1 store)).1;
        lies = sym (ap (λ (x : Physical). x.0) goes.0) ∙ ap (λ (n : ℕ). n * 2 ^ 12 + address % 2 ^ 12) (ap (λ (n : ℕ). n % 2 ^ 20) frame ∙ twice (frame_of_page g q));
      }
    where
      twice : (n : ℕ) → n % 2 ^ 20 % 2 ^ 20 ≡ n % 2 ^ 20
      twice n = omega arith

  right_goes : (grant : Grant) (right : Right) (q : ℕ) (o : Option Grant) → o ≡ Some grant → grant.page ≡ Some q → grant.right ≡ right → through (entry_of hi (word_of_right g right (Some q))) access address ≡ Ok there → LetsGo g o access address there.0
  right_goes grant Nothing q o at named same is = absurd (none_goes 0 refl is)
  right_goes grant Read q o at named same is = page_goes grant q false o at named (ap is_some_right same) (λ e. absurd cc) is
  right_goes grant Write q o at named same is = page_goes grant q (not (is_shared g q)) o at named (ap is_some_right same) (λ alone. (ap is_write same, (may_and_alone true (is_shared g q) alone).1)) is

  named_goes : (grant : Grant) (page : Option ℕ) (o : Option Grant) → o ≡ Some grant → grant.page ≡ page → through (entry_of hi (word_of_right g grant.right page)) access address ≡ Ok there → LetsGo g o access address there.0
  named_goes grant None o at named is = absurd (none_goes 0 refl is)
  named_goes grant (Some q) o at named is = right_goes grant grant.right q o at named refl is

  word_goes : (o : Option Grant) → through (entry_of hi (word_of_grant g o)) access address ≡ Ok there → LetsGo g o access address there.0
  word_goes None is = absurd (none_goes 0 refl is)
  word_goes (Some grant) is = named_goes grant grant.page (Some grant) refl refl is

-- a page lies in a frame of memory
pub frame_small : (g : GrantsState) (page : ℕ) → NamesPages g → page < g.frames → frame_of_page g page < 2048
frame_small g page names low = let within = names.layout.within page low in let few = names.frames in omega (arith, within, few)

in_frame : (frame address : ℕ) → frame < 2048 → frame % 2 ^ 20 * 2 ^ 12 + address % 2 ^ 12 ≡ frame * 4096 + address % 4096
in_frame frame address small = omega (arith, small)

place_small : (frame address : ℕ) → frame < 2048 → frame * 4096 + address % 4096 < 2 ^ 23
place_small frame address small = omega (arith, small)

pub page_of_number : (address vpn : ℕ) → vpn ≡ address / 2 ^ 12 → address - address % 4096 ≡ vpn * 2 ^ 12
page_of_number address vpn is = omega arith

-- An access of a user, whose process has this address space.
module _ (c : CoreState) (g : GrantsState) (t : Places) (spaces : Spaces) (p : ℕ) (holds : BufferHolds c.entries spaces g t) (names : NamesPages g) (some : 0 < p) (number : 0 < space_number spaces p) (access : Kind) (size : Size) (address : ℕ) (place : Physical) where
  -- what an entry lets go is granted
  by_slot : (slot : ℕ) (e : Entry) → find c.entries (address / 2 ^ 12) (space_number spaces p) ≡ Some slot → slice_get c.entries slot ≡ Some e → through e access address ≡ Ok place → is_aligned size address ≡ true → nat_le (2 ^ 31) address ≡ false → IsGranted g p access size address place.0
  by_slot slot e found at is aligned low =
      let of = found_of c.entries (address / 2 ^ 12) (space_number spaces p) slot e found at (holds.own slot e at) in
      let small : address < 2 ^ 31 = grind (arith, nat_tests) in
      let page : e.vpn ≡ address / 2 ^ 12 = of.0 in
      let user : e.vpn < 2 ^ 19 = omega (arith, small, page) in
      let b = holds.backed slot e p at some (subst (λ (n : ℕ). 0 < n) (sym of.1) number) (sym of.1) in
      let words : e ≡ entry_of (hi_of e.vpn e.asid) (granted_word g p e.vpn) = b.words ∙ ap (entry_of (hi_of e.vpn e.asid)) (user_lo g t p e.vpn user) in
      let w = word_goes g (hi_of e.vpn e.asid) address access place (entry_at g.table p (e.vpn * 2 ^ 12)) (subst (λ (x : Entry). through x access address ≡ Ok place) words is) in
      let below : w.page < g.frames = names.named p (e.vpn * 2 ^ 12) w.page w.grant w.is w.named in
      let frame : frame_of_page g w.page < 2048 = frame_small g w.page names below in
      let lies : place.0 ≡ frame_of_page g w.page * 4096 + address % 4096 = w.lies ∙ in_frame (frame_of_page g w.page) address frame in
      let granted : entry_at g.table p (page_address address) ≡ Some w.grant = ap (entry_at g.table p) (page_of_number address e.vpn of.0) ∙ w.is in
      record {
        page = w.page;
        allowed = rw (aligned, low, granted) (allowed_by access w.grant.right w.grant w.page (address % 4096) w.right w.writes w.named);
        lives = named_page_lives g p (e.vpn * 2 ^ 12) w.page w.grant w.is w.named;
        low = below;
        lies = lies;
        small = subst (λ (n : ℕ). n < 2 ^ 23) (sym lies) (place_small (frame_of_page g w.page) address frame);
        alone = w.alone;
      }

  by_entry_at : (slot : ℕ) (at : Option Entry) → find c.entries (address / 2 ^ 12) (space_number spaces p) ≡ Some slot → slice_get c.entries slot ≡ at → through_slot at access address ≡ Ok place → is_aligned size address ≡ true → nat_le (2 ^ 31) address ≡ false → IsGranted g p access size address place.0
  by_entry_at slot None found at is aligned low = absurd cc
  by_entry_at slot (Some e) found at is aligned low = by_slot slot e found at is aligned low

  by_found : (found : Option ℕ) → find c.entries (address / 2 ^ 12) (space_number spaces p) ≡ found → through_found c.entries found access address ≡ Ok place → is_aligned size address ≡ true → nat_le (2 ^ 31) address ≡ false → IsGranted g p access size address place.0
  by_found None found is aligned low = absurd cc
  by_found (Some slot) found is aligned low = by_entry_at slot (slice_get c.entries slot) found refl is aligned low

  -- alignment, the user's half, and the buffer
  by_tests : (aligned high : Bool) → is_aligned size address ≡ aligned → nat_le (2 ^ 31) address ≡ high
      → cond (not aligned) (Err Address) (cond (not (not (high && true))) (Err Address) (cond (high && nat_lt address 0xC0000000) (Ok (at_physical (address % 2 ^ 29))) (through_found c.entries (find c.entries (address / 2 ^ 12) (space_number spaces p)) access address))) ≡ Ok place
      → IsGranted g p access size address place.0
  by_tests false high a h is = absurd cc
  by_tests true true a h is = absurd cc
  by_tests true false a h is = by_found (find c.entries (address / 2 ^ 12) (space_number spaces p)) refl is a h

-- what a user reaches is granted, whatever number its process has
number_reaches : (c : CoreState) (g : GrantsState) (t : Places) (spaces : Spaces) (p : ℕ) → is_user c.system ≡ true → BufferHolds c.entries spaces g t → NamesPages g → 0 < p → 0 < space_number spaces p
    → asid_of c.system ≡ space_number spaces p → (access : Kind) (size : Size) (address : ℕ) (place : Physical) → reached c access size address ≡ Ok place → IsGranted g p access size address place.0
number_reaches c g t spaces p user holds names some number space access size address place is =
    by_tests c g t spaces p holds names some number access size address place (is_aligned size address) (nat_le (2 ^ 31) address) refl refl (rw (user, space) at is)

-- so it is in the address spaces that are kept
pub user_reaches : (c : CoreState) (k : Kept) (p : ℕ) → is_user c.system ≡ true → BufferHolds c.entries k.spaces k.grants k.tables → NamesPages k.grants → 0 < p → 0 < space_of k p → asid_of c.system ≡ space_of k p
    → (access : Kind) (size : Size) (address : ℕ) (place : Physical) → reached c access size address ≡ Ok place → IsGranted k.grants p access size address place.0
user_reaches c k p user holds names some number space = number_reaches c k.grants k.tables k.spaces p user holds names some number space

-- A refill is asked for where nothing answers.

missed_entry : (o : Option Entry) (access : Kind) (address : ℕ) → (e : Entry) → o ≡ Some e → through_slot o access address ≡ Err Refill → ⊥
missed_entry None access address e at is = absurd cc
missed_entry (Some x) access address e at is = by_flags x.v (is_store access && not x.d) is
  where
    by_flags : (v m : Bool) → cond (not v) (Err Invalid) (cond m (Err Modified) (Ok (at_physical (place x address)))) ≡ Err Refill → ⊥
    by_flags false m e = cc
    by_flags true true e = cc
    by_flags true false e = cc

found_none : (entries : List Entry) (vpn asid : ℕ) (found : Option ℕ) (access : Kind) (address : ℕ) → find entries vpn asid ≡ found → through_found entries found access address ≡ Err Refill → found ≡ None
found_none entries vpn asid None access address at is = refl
found_none entries vpn asid (Some slot) access address at is = absurd (by_entry (slice_get entries slot) refl)
  where
    by_entry : (o : Option Entry) → slice_get entries slot ≡ o → ⊥
    by_entry None none = stands none
      where
        stands : slice_get entries slot ≡ None → ⊥
        stands gone = let within = (position-Some (matches vpn asid) entries slot (empty_entry 0) at).0 in let there = slice_get-get_or entries slot (empty_entry 0) within in let wrong : ◌≡◌ {A = Option Entry} None (Some (get_or entries slot (empty_entry 0))) = sym gone ∙ there in cc
    by_entry (Some e) some = missed_entry (slice_get entries slot) access address e some is

missed_by : (c : CoreState) (access : Kind) (address : ℕ) (aligned high : Bool) → nat_le (2 ^ 31) address ≡ high
    → cond (not aligned) (Err Address) (cond (not (not (high && true))) (Err Address) (cond (high && nat_lt address 0xC0000000) (Ok (at_physical (address % 2 ^ 29))) (through_found c.entries (find c.entries (address / 2 ^ 12) (asid_of c.system)) access address))) ≡ Err Refill
    → (address < 2 ^ 31) × (find c.entries (address / 2 ^ 12) (asid_of c.system) ≡ None)
missed_by c access address false high h is = absurd cc
missed_by c access address true true h is = absurd cc
missed_by c access address true false h is = (grind (arith, nat_tests), found_none c.entries (address / 2 ^ 12) (asid_of c.system) (find c.entries (address / 2 ^ 12) (asid_of c.system)) access address refl is)

pub user_misses : (c : CoreState) (access : Kind) (size : Size) (address : ℕ) → is_user c.system ≡ true → reached c access size address ≡ Err Refill → (address < 2 ^ 31) × (find c.entries (address / 2 ^ 12) (asid_of c.system) ≡ None)
user_misses c access size address user is = missed_by c access address (is_aligned size address) (nat_le (2 ^ 31) address) refl (rw user at is)
