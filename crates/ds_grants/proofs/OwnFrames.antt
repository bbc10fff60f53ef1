-- Frames that no page or one page lies in, and what pages have after one of them got a frame of its own.
use Rattle.std.proofs.Common.{◌≡◌, ◌≢◌, ℕ, zero, suc, ◌+◌, ◌-◌, ◌^◌, ◌<◌, ◌≤◌, ◌==◌, Bool, true, false, cond, List, [], ◌∷◌, length, length-set, replicate, take, Some, None, refl, sym, ap, ap₂, subst, ◌∙◌, inl, inr, arith}
use Rattle.std.specs.Prelude.{◌&&◌, slice_index, slice_set}
use Rattle.std.proofs.lemmas.Bool.{cases_eq, cases_lt}
use Rattle.std.proofs.lemmas.Bool.Decides.{nat_tests}
use Rattle.std.proofs.lemmas.List.{get_or-set_same, get_or-set_other, same_lists, length-replicate, get_or_past, length-take-le, get_or-take}
use Rattle.std.proofs.lemmas.List.FromFn.{length-map-range_with_len, get_or-map-range_with_len}
use Rattle.std.proofs.lemmas.List.Sums.{sum_by-take-le}
use Rattle.ds_word.specs.Word.{truth}
use Rattle.ds_mem.specs.Memory.{frame_of, with_frame}
use Rattle.ds_mem.proofs.Frames.{frame_of-with_frame}
use Rattle.ds_mem.proofs.Words.{length-with_frame, long-with_frame}
use Rattle.ds_policy.specs.declared.grant.Entry.{Entry}
use Rattle.ds_policy.specs.declared.grant.Grant.{Grant}
use Rattle.ds_policy.specs.declared.grant.Right.TheVariants.{Write}
use Rattle.ds_policy.specs.Grants.{is_some_right}
use Rattle.ds_policy.specs.Pages.{Table, Pages, entry_at, found}
use Rattle.ds_grants.specs.State.{GrantsState, is_live, is_shared, page_in, pages_in, page_state}
use Rattle.ds_grants.specs.Sound.{AreLaidOut}
use Rattle.ds_grants.specs.Inner.Sound.{AreCounted, IsSound}
use Rattle.ds_grants.specs.Inner.Counts.{page_of}
use Rattle.ds_grants.specs.Inner.Copies.{with_own_frame, LiesOtherwise}
use Rattle.ds_grants.specs.Inner.Frames.{count_lying, AreLying, total}
use Rattle.ds_grants.proofs.FreeFrames.{free, sums}
use Rattle.ds_grants.specs.Inner.Represented.{IsHigh}
use Rattle.ds_grants.proofs.Copies.{frame_long, frames_apart}
use Rattle.ds_grants.proofs.Sizes.{has_page}

-- Counts.

pub truth_small : (b : Bool) → truth b ≤ 1
truth_small true = omega arith
truth_small false = omega arith

-- a page that lives and lies there counts as one
lies_there : (g : GrantsState) (frame page : ℕ) → is_live g page ≡ true → slice_index g.lies page ≡ frame → truth (is_live g page && (slice_index g.lies page == frame)) ≡ 1
lies_there g frame page live lies =
    let same : (slice_index g.lies page == frame) ≡ true = grind (arith, nat_tests) in
    ap₂ (λ (a b : Bool). truth (a && b)) live same

-- a page that lives and lies there is counted
one_lies : (g : GrantsState) (frame n page : ℕ) → page < n → is_live g page ≡ true → slice_index g.lies page ≡ frame → 1 ≤ count_lying g frame n
one_lies g frame zero page within live lies = absurd (omega (arith, within))
one_lies g frame (suc n) page within live lies = elim (cases_eq page n) [
  | inl last ↦ (let one = lies_there g frame n (subst (λ (q : ℕ). is_live g q ≡ true) last live) (subst (λ (q : ℕ). slice_index g.lies q ≡ frame) last lies) in omega (arith, one))
  | inr other ↦ (let before = one_lies g frame n page (omega (arith, within, other)) live lies in omega (arith, before))
]

-- two such pages count as two
pub two_lie : (g : GrantsState) (frame n j k : ℕ) → j < n → k < n → j ≢ k → is_live g j ≡ true → is_live g k ≡ true → slice_index g.lies j ≡ frame → slice_index g.lies k ≡ frame → 2 ≤ count_lying g frame n
two_lie g frame zero j k first second apart one other lies too = absurd (omega (arith, first))
two_lie g frame (suc n) j k first second apart one other lies too = elim (cases_eq j n) [
  | inl last ↦
      let here = lies_there g frame n (subst (λ (q : ℕ). is_live g q ≡ true) last one) (subst (λ (q : ℕ). slice_index g.lies q ≡ frame) last lies) in
      let before = one_lies g frame n k (omega (arith, second, last, apart)) other too in
      omega (arith, here, before)
  | inr earlier ↦ elim (cases_eq k n) [
    | inl last ↦
        let here = lies_there g frame n (subst (λ (q : ℕ). is_live g q ≡ true) last other) (subst (λ (q : ℕ). slice_index g.lies q ≡ frame) last too) in
        let before = one_lies g frame n j (omega (arith, first, earlier)) one lies in
        omega (arith, here, before)
    | inr sooner ↦ (let before = two_lie g frame n j k (omega (arith, first, earlier)) (omega (arith, second, sooner)) apart one other lies too in omega (arith, before))
  ]
]

pub few_lie : (g : GrantsState) (frame n : ℕ) → count_lying g frame n ≤ n
few_lie g frame zero = omega arith
few_lie g frame (suc n) = let here = truth_small (is_live g n && (slice_index g.lies n == frame)) in let before = few_lie g frame n in omega (arith, here, before)

none_in_all : (n : ℕ) → total (replicate n 0) ≡ 0
none_in_all zero = refl
none_in_all (suc n) = sums 0 (replicate n 0) ∙ (let before = none_in_all n in let none : 0 + total (replicate n 0) ≡ 0 = omega (arith, before) in none)

none_at : (n i : ℕ) → slice_index (replicate n 0) i ≡ 0
none_at zero i = refl
none_at (suc n) zero = refl
none_at (suc n) (suc i) = none_at n i

one_more : (xs : List ℕ) (i : ℕ) → i < length xs → total (slice_set xs i (slice_index xs i + 1)) ≡ total xs + 1
one_more [] i within = absurd (omega (arith, within))
one_more (x ∷ xs) zero within = sums (x + 1) xs ∙ (let was = sums x xs in omega (arith, was))
one_more (x ∷ xs) (suc i) within =
    let rest = one_more xs i (omega (arith, within)) in
    let was = sums x xs in
    sums x (slice_set xs i (slice_index xs i + 1)) ∙ omega (arith, rest, was)

pub none_counted : (g : GrantsState) (counts : List ℕ) → counts ≡ replicate 1024 0 → AreLying g 0 counts
none_counted g counts is = subst (AreLying g 0) (sym is) (record {
  size = length-replicate {A = ℕ} 1024 0;
  each = λ frame low. none_at 1024 frame;
  few = (let none = none_in_all 1024 in omega (arith, none));
})

-- a page that lives is counted in its frame
one_counted : (g : GrantsState) (page : ℕ) (counts : List ℕ) → slice_index g.lies page < 1024 → is_live g page ≡ true → AreLying g page counts
    → AreLying g (page + 1) (slice_set counts (slice_index g.lies page) (slice_index counts (slice_index g.lies page) + 1))
one_counted g page counts low live k =
    let here : ℕ = slice_index g.lies page in
    let size = k.size in
    let few = k.few in
    let more = one_more counts here (omega (arith, low, size)) in
    record {
      size = length-set counts here (slice_index counts here + 1) ∙ k.size;
      each = λ frame within. elim (cases_eq frame here) [
        | inl same ↦
            let one = lies_there g here page live refl in
            let was = k.each here low in
            let now : slice_index (slice_set counts here (slice_index counts here + 1)) here ≡ slice_index counts here + 1 = get_or-set_same counts here (slice_index counts here + 1) 0 (omega (arith, low, size)) in
            let both : slice_index (slice_set counts here (slice_index counts here + 1)) here ≡ count_lying g here (suc page) = omega (arith, one, was, now) in
            subst (λ (n : ℕ). slice_index (slice_set counts here (slice_index counts here + 1)) frame ≡ count_lying g frame n) (let e : suc page ≡ page + 1 = omega arith in e)
            (subst (λ (f : ℕ). slice_index (slice_set counts here (slice_index counts here + 1)) f ≡ count_lying g f (suc page)) (sym same) both)
        | inr apart ↦
            let other : (here == frame) ≡ false = grind (arith, nat_tests) in
            let none : truth (is_live g page && (here == frame)) ≡ 0 = ap₂ (λ (a b : Bool). truth (a && b)) live other in
            let was = k.each frame within in
            let now : slice_index (slice_set counts here (slice_index counts here + 1)) frame ≡ slice_index counts frame = get_or-set_other counts here frame (slice_index counts here + 1) 0 apart in
            let both : slice_index (slice_set counts here (slice_index counts here + 1)) frame ≡ count_lying g frame (suc page) = omega (arith, none, was, now) in
            subst (λ (n : ℕ). slice_index (slice_set counts here (slice_index counts here + 1)) frame ≡ count_lying g frame n) (let e : suc page ≡ page + 1 = omega arith in e) both
      ];
      few = omega (arith, more, few);
    }

-- the same of what code made
pub one_counted_as : (g : GrantsState) (page frame : ℕ) (counts new : List ℕ) → frame ≡ slice_index g.lies page → frame < 1024 → is_live g page ≡ true → new ≡ slice_set counts frame (slice_index counts frame + 1) → AreLying g page counts → AreLying g (page + 1) new
one_counted_as g page frame counts new lies low live is k =
    subst (AreLying g (page + 1)) (sym (is ∙ ap (λ (f : ℕ). slice_set counts f (slice_index counts f + 1)) lies))
    (one_counted g page counts (subst (λ (f : ℕ). f < 1024) lies low) live k)

-- and one that doesn't is not
pub none_more : (g : GrantsState) (page : ℕ) (counts : List ℕ) → is_live g page ≡ false → AreLying g page counts → AreLying g (page + 1) counts
none_more g page counts dead k = record {
  size = k.size;
  each = λ frame within.
      let none : truth (is_live g page && (slice_index g.lies page == frame)) ≡ 0 = ap (λ (a : Bool). truth (a && (slice_index g.lies page == frame))) dead in
      let was = k.each frame within in
      let both : slice_index counts frame ≡ count_lying g frame (suc page) = omega (arith, none, was) in
      subst (λ (n : ℕ). slice_index counts frame ≡ count_lying g frame n) (let e : suc page ≡ page + 1 = omega arith in e) both;
  few = (let few = k.few in omega (arith, few));
}

-- pages lie in frames that are counted, and few lie in one
pub is_counted : (g : GrantsState) (page : ℕ) → AreLaidOut g → g.frames ≤ 1024 → page < g.frames → slice_index g.lies page < 1024
is_counted g page laid few within = let low = laid.within page within in omega (arith, low, few)

pub few_there : (g : GrantsState) (pages : ℕ) (counts : List ℕ) (frame : ℕ) → AreLying g pages counts → frame < 1024 → pages ≤ 1024 → slice_index counts frame + 1 < 2 ^ 32
few_there g pages counts frame k low few = let is = k.each frame low in let most = few_lie g frame pages in omega (arith, is, most, few)

-- A frame that a page may have alone.

-- not all frames are taken where one has two pages
all_taken : (g : GrantsState) (counts : List ℕ) (frame : ℕ) → AreLying g g.frames counts → g.frames ≤ 1024 → frame < g.frames → 2 ≤ slice_index counts frame → ((f : ℕ) → f < g.frames → 0 < slice_index counts f) → ⊥
all_taken g counts frame k few within two all =
    let part : List ℕ = take g.frames counts in
    let size = k.size in
    let long : length part ≡ g.frames = length-take-le g.frames counts (omega (arith, size, few)) in
    let less = sum_by-take-le (λ (n : ℕ). n) counts g.frames in
    let most = k.few in
    let same : slice_index part frame ≡ slice_index counts frame = get_or-take g.frames counts frame 0 within in
    let found = free part frame (omega (arith, less, most, long)) (omega (arith, two, same)) in
    let low : found.0 < g.frames = (let below = found.1 in omega (arith, below, long)) in
    let there : slice_index part found.0 ≡ slice_index counts found.0 = get_or-take g.frames counts found.0 0 low in
    let some = all found.0 low in
    let none = found.2 in
    omega (arith, some, none, there)

-- no other page that lives lies there
abbrev pub IsAlone : GrantsState → ℕ → ℕ → Type 0
IsAlone g page frame = (q : ℕ) → is_live g q ≡ true → q ≢ page → slice_index g.lies q ≢ frame

-- pages that live are counted
abbrev pub AreBelow : GrantsState → Type 0
AreBelow g = (q : ℕ) → is_live g q ≡ true → q < g.frames

pub alone_there : (g : GrantsState) (counts : List ℕ) (page frame : ℕ) → AreLying g g.frames counts → AreBelow g → page < g.frames → is_live g page ≡ true → frame ≡ slice_index g.lies page → frame < 1024 → slice_index counts frame < 2 → IsAlone g page frame
alone_there g counts page frame k below within live lies low one q on apart =
    λ (e : ◌≡◌ {A = ℕ} (slice_index g.lies q) frame). (let two = two_lie g frame g.frames q page (below q on) within apart on live e (sym lies) in let is = k.each frame low in omega (arith, two, is, one))

pub alone_free : (g : GrantsState) (counts : List ℕ) (page frame : ℕ) → AreLying g g.frames counts → AreBelow g → frame < 1024 → slice_index counts frame ≡ 0 → IsAlone g page frame
alone_free g counts page frame k below low none q on apart =
    λ (e : ◌≡◌ {A = ℕ} (slice_index g.lies q) frame). (let one = one_lies g frame g.frames q (below q on) on e in let is = k.each frame low in omega (arith, one, is, none))

pub alone_never : (g : GrantsState) (counts : List ℕ) (page frame : ℕ) → AreLying g g.frames counts → g.frames ≤ 1024 → frame < g.frames → 2 ≤ slice_index counts frame → ((f : ℕ) → f < g.frames → 0 < slice_index counts f) → IsAlone g page frame
alone_never g counts page frame k few within two all = absurd (all_taken g counts frame k few within two all)

-- A page lies in a frame alone.
module _ (g : GrantsState) (page frame : ℕ) (laid : AreLaidOut g) (below : AreBelow g) (within : page < g.frames) (live : is_live g page ≡ true) (inside : frame < g.frames) (alone : IsAlone g page frame) where
  abbrev own : GrantsState
  own = with_own_frame g page frame

  long : page < length g.lies
  long = (let size = laid.frames in omega (arith, size, within))

  lies_own : slice_index own.lies page ≡ frame
  lies_own = get_or-set_same g.lies page frame 0 long

  lies_other : (q : ℕ) → q ≢ page → slice_index own.lies q ≡ slice_index g.lies q
  lies_other q apart = get_or-set_other g.lies page q frame 0 apart

  mark_other : (q : ℕ) → q ≢ page → is_shared own q ≡ is_shared g q
  mark_other q apart = get_or-set_other g.shared page q false false apart

  pub mark_own : is_shared own page ≡ false
  mark_own = get_or-set_same g.shared page false false (let size = laid.marks in omega (arith, size, within))

  pub laid_own : AreLaidOut own
  laid_own = record {
    frames = length-set g.lies page frame ∙ laid.frames;
    marks = length-set g.shared page false ∙ laid.marks;
    within = λ q low. elim (cases_eq q page) [
      | inl here ↦ subst (λ (n : ℕ). n < g.frames) (sym (ap (slice_index own.lies) here ∙ lies_own)) inside
      | inr other ↦ subst (λ (n : ℕ). n < g.frames) (sym (lies_other q other)) (laid.within q low)
    ];
    alone = λ j k low high on off apart same. elim (cases_eq j page) [
      | inl first ↦ elim (cases_eq k page) [
        | inl second ↦ absurd (apart (first ∙ sym second))
        | inr away ↦ absurd (alone k off away (sym (lies_other k away) ∙ (sym same ∙ (ap (slice_index own.lies) first ∙ lies_own))))
      ]
      | inr away ↦ elim (cases_eq k page) [
        | inl second ↦ absurd (alone j on away (sym (lies_other j away) ∙ (same ∙ (ap (slice_index own.lies) second ∙ lies_own))))
        | inr other ↦ mark_other k other ∙ laid.alone j k low high on off apart (sym (lies_other j away) ∙ (same ∙ lies_other k other))
      ]
    ];
  }

  pub sound_own : IsSound g → IsSound own
  sound_own sound = record { rows = sound.rows; processes = sound.processes; ended = sound.ended; named = sound.named; frames = sound.frames }

  -- it has its bytes there, and all other pages have theirs
  module _ (memory new : List ℕ) (few : g.frames ≤ 1024) (size : length new ≡ 2 ^ 23) (is : new ≡ with_frame memory (frame + 402) (frame_of memory (slice_index g.lies page + 402))) where
    abbrev bytes : List ℕ
    bytes = frame_of memory (slice_index g.lies page + 402)

    room : 2 ^ 23 ≤ length memory
    room = long-with_frame memory bytes (frame + 402) (2 ^ 23) (subst (λ (n : ℕ). 2 ^ 23 ≤ n) (sym size ∙ ap length is) (omega arith))

    source : slice_index g.lies page < g.frames
    source = laid.within page within

    whole : length bytes ≡ 4096
    whole = (let low = source in let most = few in let all = room in frame_long memory (slice_index g.lies page + 402) (omega (arith, low, most, all)))

    bytes_own : frame_of new (frame + 402) ≡ bytes
    bytes_own = ap (λ (m : List ℕ). frame_of m (frame + 402)) is ∙ (let all = room in frame_of-with_frame memory bytes (frame + 402) whole (omega (arith, inside, few, all)))

    bytes_other : (f : ℕ) → f ≢ frame + 402 → frame_of new f ≡ frame_of memory f
    bytes_other f apart = (let low = source in let all = room in frames_apart memory new (slice_index g.lies page) frame f (omega (arith, all)) (omega (arith, low, few)) (omega (arith, inside, few)) apart is)

    pub high_own : IsHigh memory new
    high_own = (
      ap length is ∙ (let all = room in length-with_frame memory bytes (frame + 402) whole (omega (arith, inside, few, all))),
      λ f low. bytes_other f (λ (e : ◌≡◌ {A = ℕ} f (frame + 402)). omega (arith, e, low)),
    )

    page_own : (q : ℕ) → page_in own new q ≡ page_in g memory q
    page_own q = by (is_live g q) refl
      where
        by : (b : Bool) → is_live g q ≡ b → cond b (Some (frame_of new (slice_index own.lies q + 402))) None ≡ cond b (Some (frame_of memory (slice_index g.lies q + 402))) None
        by false off = refl
        by true on = elim (cases_eq q page) [
          | inl here ↦
              ap (λ (f : ℕ). Some (frame_of new (f + 402))) (ap (slice_index own.lies) here ∙ lies_own)
              ∙ (ap Some bytes_own ∙ ap (λ (p : ℕ). Some (frame_of memory (slice_index g.lies p + 402))) (sym here))
          | inr other ↦
              let away : slice_index g.lies q ≢ frame = alone q on other in
              ap (λ (f : ℕ). Some (frame_of new (f + 402))) (lies_other q other)
              ∙ ap Some (bytes_other (slice_index g.lies q + 402) (λ (e : ◌≡◌ {A = ℕ} (slice_index g.lies q + 402) (frame + 402)). away (omega (arith, e))))
        ]

    pub state_own : page_state own new ≡ page_state g memory
    state_own = ap (λ (pages : Pages). record { pages = pages; table = g.table; named = g.named }) pages
      where
        pages : pages_in own new ≡ pages_in g memory
        pages = same_lists (pages_in own new) (pages_in g memory) (length-map-range_with_len (page_in own new) 0 g.frames ∙ sym (length-map-range_with_len (page_in g memory) 0 g.frames))
            (λ k d h.
            let long = length-map-range_with_len (page_in own new) 0 g.frames in
            let low : k < g.frames = omega (arith, h, long) in
            get_or-map-range_with_len (page_in own new) 0 g.frames k k d low (omega arith)
            ∙ (page_own k
            ∙ sym (get_or-map-range_with_len (page_in g memory) 0 g.frames k k d low (omega arith))))

-- who has an entry is a process
found_process : (t : Table) (p a : ℕ) (grant : Grant) → 0 < p → entry_at t p a ≡ Some grant → p ≤ length t
found_process t p a grant low is = elim (cases_lt (p - 1) (length t)) [
  | inl within ↦ omega (arith, low, within)
  | inr past ↦ (
      let none : entry_at t p a ≡ None = ap (λ (es : List Entry). found es a) (get_or_past t (p - 1) [] past) in
      let no : None ≡ Some grant = sym none ∙ is in absurd cc)
]

-- the page that a process may write is one that lives
pub written_page : (g : GrantsState) (holders : List ℕ) (p a page : ℕ) (grant : Grant) → 0 < p → g.frames ≡ length holders → AreCounted g.table holders → IsSound g → AreLaidOut g
    → entry_at g.table p a ≡ Some grant → grant.right ≡ Write → page_of (entry_at g.table p a) ≡ Some page → (page < g.frames) × (is_live g page ≡ true)
written_page g holders p a page grant low frames counted sound laid is right page_is =
    let k = has_page g holders p a grant low (found_process g.table p a grant low is) frames counted sound laid is (ap is_some_right right) in
    let both : Some page ≡ Some k.page = sym page_is ∙ (ap page_of is ∙ k.named) in
    let same : page ≡ k.page = cc in
    (subst (λ (q : ℕ). q < g.frames) (sym same) k.within, subst (λ (q : ℕ). is_live g q ≡ true) (sym same) k.lives)

-- all else is as it was
pub lies_alone : (g : GrantsState) (page frame : ℕ) → LiesOtherwise page g (with_own_frame g page frame)
lies_alone g page frame = record {
  table = refl;
  frames = refl;
  named = refl;
  ended = refl;
  lies = λ q apart. get_or-set_other g.lies page q frame 0 apart;
  shared = λ q apart. get_or-set_other g.shared page q false false apart;
}
