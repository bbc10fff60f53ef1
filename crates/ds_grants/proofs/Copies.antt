-- The first page that is free, and the page state with a copy that lies in the frame of its page.
use Rattle.std.proofs.Common.{zero, suc, ◌≡◌, ◌≢◌, ◌⊎◌, ℕ, ◌+◌, ◌*◌, ◌<◌, ◌≤◌, ◌==◌, Bool, true, false, cond, nat_lt, nat_le, List, [], ◌∷◌, length, map, get_or, is_some, Option, Some, None, refl, sym, ap, subst, ◌∙◌, inl, inr, arith, slice_set, length-set, IfSome, IsNone, is_none, not, drop}
use Rattle.std.specs.List.{range_with_len}
use Rattle.std.proofs.lemmas.Bool.{cases_Bool, cases_eq, cases_lt, false≢true}
use Rattle.std.proofs.lemmas.Bool.Decides.{nat_tests}
use Rattle.std.proofs.lemmas.List.{same_lists, get_or-set_same, get_or-set_other, length-take-le, length-drop}
use Rattle.std.proofs.lemmas.List.FromFn.{length-map-range_with_len, get_or-map-range_with_len}
use Rattle.ds_mem.specs.Memory.{frame_of, with_frame}
use Rattle.ds_mem.proofs.Frames.{frame_of-with_frame_apart}
use Rattle.ds_policy.specs.declared.grant.Grant.{Grant}
use Rattle.ds_policy.specs.declared.grant.Right.TheVariants.{Write}
use Rattle.ds_policy.specs.Pages.{Pages, entry_at, is_named_by, bytes_of, count_live, fresh}
use Rattle.ds_policy.specs.Grants.{granted, copied}
use Rattle.std.specs.Prelude.{slice_index}
use Rattle.ds_grants.specs.State.{GrantsState, is_live, page_in, pages_in, page_state}
use Rattle.ds_grants.specs.Inner.State.{with_grant}
use Rattle.ds_grants.specs.Inner.Copies.{with_copy}
use Rattle.ds_grants.specs.Inner.Counts.{one_if_named, page_of, holders_of}
use Rattle.ds_grants.specs.Inner.Free.{IsFirstFree}
use Rattle.ds_grants.proofs.HolderCounts.{holders_with, named_by_holders, itself}
use Rattle.ds_grants.proofs.Living.{live_same, or_true}

-- the pages from one number on, of which the n-th is the first that doesn't live
fresh_from : (g : GrantsState) (memory : List ℕ) (size at n : ℕ) → n < size → is_live g (at + n) ≡ false → ((q : ℕ) → at ≤ q → q < at + n → is_live g q ≡ true)
    → fresh (map (page_in g memory) (range_with_len at size)) ≡ n
fresh_from g memory zero at n within free below = absurd (omega arith)
fresh_from g memory (suc size) at zero within free below =
    let here : is_live g at ≡ false = subst (λ m. is_live g m ≡ false) (let e : at + 0 ≡ at = omega arith in e) free in
    rw here refl
fresh_from g memory (suc size) at (suc n) within free below =
    let here : is_live g at ≡ true = below at (omega arith) (omega arith) in
    let rest = fresh_from g memory size (at + 1) n (omega arith) (subst (λ m. is_live g m ≡ false) (let e : at + suc n ≡ at + 1 + n = omega arith in e) free) (λ q low high. below q (omega arith) (omega arith)) in
    rw here (let next : fresh (map (page_in g memory) (range_with_len (at + 1) size)) + 1 ≡ suc n = omega arith in next)

pub fresh_is : (g : GrantsState) (memory : List ℕ) (n : ℕ) → IsFirstFree g n → fresh (pages_in g memory) ≡ n
fresh_is g memory n k = fresh_from g memory g.frames 0 n k.within (subst (λ m. is_live g m ≡ false) (let e : n ≡ 0 + n = omega arith in e) k.free) (λ q low high. k.below q (omega arith))

-- no more pages live than there are
live_within : (ps : Pages) → count_live ps ≤ length ps
live_within [] = omega arith
live_within (None ∷ ps) = let rest = live_within ps in omega arith
live_within (Some b ∷ ps) = let rest = live_within ps in omega arith

fewer_from : (g : GrantsState) (memory : List ℕ) (size at n : ℕ) → n < size → is_live g (at + n) ≡ false → count_live (map (page_in g memory) (range_with_len at size)) < size
fewer_from g memory zero at n within free = absurd (omega arith)
fewer_from g memory (suc size) at zero within free =
    let here : is_live g at ≡ false = subst (λ m. is_live g m ≡ false) (let e : at + 0 ≡ at = omega arith in e) free in
    let most = live_within (map (page_in g memory) (range_with_len (at + 1) size)) in
    let long = length-map-range_with_len (page_in g memory) (at + 1) size in
    rw here (omega arith)
fewer_from g memory (suc size) at (suc n) within free =
    let rest = fewer_from g memory size (at + 1) n (omega arith) (subst (λ m. is_live g m ≡ false) (let e : at + suc n ≡ at + 1 + n = omega arith in e) free) in
    elim (cases_Bool (is_live g at)) [
      | inl lives ↦ rw lives (omega arith)
      | inr free ↦ rw free (omega arith)
    ]

-- where a page is free, fewer live than may
pub room_is : (g : GrantsState) (memory : List ℕ) (n : ℕ) → IsFirstFree g n → nat_le (length (pages_in g memory)) (count_live (pages_in g memory)) ≡ false
room_is g memory n k =
    let fewer = fewer_from g memory g.frames 0 n k.within (subst (λ m. is_live g m ≡ false) (let e : n ≡ 0 + n = omega arith in e) k.free) in
    let long = length-map-range_with_len (page_in g memory) 0 g.frames in
    grind (arith, nat_tests)

all_from : (g : GrantsState) (memory : List ℕ) (size at : ℕ) → ((q : ℕ) → q < at + size → is_live g q ≡ true) → count_live (map (page_in g memory) (range_with_len at size)) ≡ size
all_from g memory zero at all = refl
all_from g memory (suc size) at all =
    let here : is_live g at ≡ true = all at (omega arith) in
    let rest = all_from g memory size (at + 1) (λ q h. all q (omega arith)) in
    rw here (let next : count_live (map (page_in g memory) (range_with_len (at + 1) size)) + 1 ≡ suc size = omega arith in next)

-- where none is free, as many live as may
pub no_room : (g : GrantsState) (memory : List ℕ) → ((q : ℕ) → q < g.frames → is_live g q ≡ true) → nat_le (length (pages_in g memory)) (count_live (pages_in g memory)) ≡ true
no_room g memory all =
    let every = all_from g memory g.frames 0 (λ q h. all q (omega arith)) in
    let long = length-map-range_with_len (page_in g memory) 0 g.frames in
    grind (arith, nat_tests)

-- what a search for a free page tells of the room
pub none_free : (g : GrantsState) (r : Option ℕ) (memory : List ℕ) → IfSome r (λ n. IsFirstFree g n) → (IsNone r → (q : ℕ) → q < g.frames → is_live g q ≡ true) → is_none r ≡ nat_le (length (pages_in g memory)) (count_live (pages_in g memory))
none_free g None memory some none = sym (no_room g memory (none refl))
none_free g (Some n) memory some none = sym (room_is g memory n some)

pub none_told : (r : Option ℕ) (b : Bool) → is_some r ≡ not b → b ≡ is_none r
none_told None true h = refl
none_told None false h = absurd (false≢true h)
none_told (Some n) true h = absurd (false≢true (sym h))
none_told (Some n) false h = refl

apart_either : (j n : ℕ) → j ≢ n → (j < n) ⊎ (n < j)
apart_either zero zero apart = absurd (apart refl)
apart_either zero (suc n) apart = inl (omega arith)
apart_either (suc j) zero apart = inr (omega arith)
apart_either (suc j) (suc n) apart = elim (apart_either j n (λ same. apart (ap suc same))) [ inl below ↦ inl (omega arith) | inr above ↦ inr (omega arith) ]

-- the pages with a copy that lies in the frame of its page
pub pages_copied : (g h : GrantsState) (memory : List ℕ) (k n : ℕ) → h.frames ≡ g.frames → h.lies ≡ slice_set g.lies n (slice_index g.lies k) → length g.lies ≡ g.frames
    → k < g.frames → is_live g k ≡ true → n < g.frames → is_live h n ≡ true
    → ((q : ℕ) → q ≢ n → is_live h q ≡ is_live g q)
    → pages_in h memory ≡ slice_set (pages_in g memory) n (Some (bytes_of (pages_in g memory) k))
pages_copied g h memory k n size lies all source lives target born others =
    let long = length-map-range_with_len (page_in g memory) 0 g.frames in
    let long' = length-map-range_with_len (page_in h memory) 0 h.frames in
    let set_long = length-set (pages_in g memory) n (Some (bytes_of (pages_in g memory) k)) in
    let page : get_or (pages_in g memory) k None ≡ Some (frame_of memory (slice_index g.lies k + 402)) = get_or-map-range_with_len (page_in g memory) 0 g.frames k k None source (omega arith) ∙ rw lives refl in
    let bytes : bytes_of (pages_in g memory) k ≡ frame_of memory (slice_index g.lies k + 402) = rw page refl in
    same_lists (pages_in h memory) (slice_set (pages_in g memory) n (Some (bytes_of (pages_in g memory) k))) (omega arith)
    (λ j d within.
    let inside : j < h.frames = omega arith in
    let left : get_or (pages_in h memory) j d ≡ page_in h memory j = get_or-map-range_with_len (page_in h memory) 0 h.frames j j d inside (omega arith) in
    elim (cases_eq j n) [
      | inl here ↦
          let right : get_or (slice_set (pages_in g memory) n (Some (bytes_of (pages_in g memory) k))) j d ≡ Some (frame_of memory (slice_index g.lies k + 402)) =
          ap (λ i. get_or (slice_set (pages_in g memory) n (Some (bytes_of (pages_in g memory) k))) i d) here
          ∙ get_or-set_same (pages_in g memory) n (Some (bytes_of (pages_in g memory) k)) d (omega arith)
          ∙ ap (λ (b : List ℕ). Some b) bytes in
          let at : slice_index h.lies n ≡ slice_index g.lies k = ap (λ (ls : List ℕ). slice_index ls n) lies ∙ get_or-set_same g.lies n (slice_index g.lies k) 0 (omega arith) in
          let now : page_in h memory n ≡ Some (frame_of memory (slice_index g.lies k + 402)) = rw born (ap (λ (f : ℕ). Some (frame_of memory (f + 402))) at) in
          left ∙ ap (page_in h memory) here ∙ now ∙ sym right
      | inr apart ↦
          let right : get_or (slice_set (pages_in g memory) n (Some (bytes_of (pages_in g memory) k))) j d ≡ page_in g memory j =
          get_or-set_other (pages_in g memory) n j (Some (bytes_of (pages_in g memory) k)) d apart
          ∙ get_or-map-range_with_len (page_in g memory) 0 g.frames j j d (omega arith) (omega arith) in
          let same : slice_index h.lies j ≡ slice_index g.lies j = ap (λ (ls : List ℕ). slice_index ls j) lies ∙ get_or-set_other g.lies n j (slice_index g.lies k) 0 apart in
          left ∙ (rw (others j apart) (ap (λ (f : ℕ). cond (is_live g j) (Some (frame_of memory (f + 402))) None) same)) ∙ sym right
    ])

module _ (g : GrantsState) (p a : ℕ) (grant : Grant) (n : ℕ) (low : 0 < p) (high : p ≤ length g.table) (none : entry_at g.table p a ≡ None) (named : grant.page ≡ Some n) where
  abbrev after : GrantsState
  after = with_grant g p a grant

  counts : (q : ℕ) → holders_of after.table q ≡ holders_of g.table q + one_if_named q (Some n)
  counts q =
      let all = holders_with g.table p a grant q (omega (arith, low, high)) in
      let nothing : one_if_named q (page_of (entry_at g.table p a)) ≡ 0 = ap (λ (o : Option Grant). one_if_named q (page_of o)) none in
      let as_named : one_if_named q grant.page ≡ one_if_named q (Some n) = ap (one_if_named q) named in
      omega arith

  -- the page that is named for the first time lives
  pub born_lives : is_live after n ≡ true
  born_lives =
      let count = counts n in
      let one : one_if_named n (Some n) ≡ 1 = rw (itself n) refl in
      let some : nat_lt 0 (holders_of after.table n) ≡ true = grind (arith, nat_tests) in
      let by_table : is_named_by after.table n ≡ true = named_by_holders after.table n ∙ some in
      rw by_table (or_true (nat_lt n g.named))

  -- and all others as they did
  pub others_live : (q : ℕ) → q ≢ n → is_live after q ≡ is_live g q
  others_live q apart =
      live_same g after q refl (λ unnamed.
      let count = counts q in
      let not_it : (n == q) ≡ false = grind (arith, nat_tests) in
      let none_more : one_if_named q (Some n) ≡ 0 = rw not_it refl in
      ap (nat_lt 0) (let same : holders_of after.table q ≡ holders_of g.table q = omega arith in same))

-- the page state with a copy
pub copied_state : (g : GrantsState) (p a : ℕ) (grant : Grant) (k n caller : ℕ) (memory : List ℕ) → 0 < p → p ≤ length g.table → entry_at g.table p a ≡ None
    → grant.page ≡ Some k → k < g.frames → is_live g k ≡ true → IsFirstFree g n → length g.lies ≡ g.frames
    → page_state (with_grant (with_copy g k n) p a (record grant { right = Write; page = Some n; giver = caller; parent = None; until = None })) memory
    ≡ granted (copied (page_state g memory) grant.page) p a (record grant { right = Write; page = Some (fresh (pages_in g memory)); giver = caller; parent = None; until = None })
copied_state g p a grant k n caller memory low high none named source lives free all =
    let number = fresh_is g memory n free in
    let pages = pages_copied g (with_grant (with_copy g k n) p a (record grant { right = Write; page = Some n; giver = caller; parent = None; until = None })) memory k n refl refl all source lives free.within
    (born_lives g p a (record grant { right = Write; page = Some n; giver = caller; parent = None; until = None }) n low high none refl) (others_live g p a (record grant { right = Write; page = Some n; giver = caller; parent = None; until = None }) n low high none refl) in
    rw (number, named) (ap (λ (ps : Pages). granted (record { pages = ps; table = g.table; named = g.named }) p a (record grant { right = Write; page = Some n; giver = caller; parent = None; until = None })) pages)

-- there is none
pub none_there : (o : Option Grant) → IsNone o → o ≡ None
none_there None h = refl
none_there (Some g) h = absurd (false≢true (sym h))

-- a frame within memory has 4,096 bytes
pub frame_long : (memory : List ℕ) (f : ℕ) → f * 4096 + 4096 ≤ length memory → length (frame_of memory f) ≡ 4096
frame_long memory f large = length-take-le 4096 (drop (f * 4096) memory) (let rest = length-drop (f * 4096) memory in omega (arith, rest, large))

-- a copy leaves the other frames alone
pub frames_apart : (memory new : List ℕ) (k n f : ℕ) → 8388608 ≤ length memory → k < 1024 → n < 1024 → f ≢ n + 402
    → new ≡ with_frame memory (n + 402) (frame_of memory (k + 402)) → frame_of new f ≡ frame_of memory f
frames_apart memory new k n f large source target apart is =
    let frame = frame_long memory (k + 402) (omega (arith, large, source)) in
    ap (λ (m : List ℕ). frame_of m f) is ∙ frame_of-with_frame_apart memory (frame_of memory (k + 402)) (n + 402) f frame (omega arith) (elim (cases_lt f (n + 402)) [
      | inl below ↦ inl (omega arith)
      | inr above ↦ inr (omega arith)
    ])
