-- Where pages lie, when entries are put and removed, and when a copy is laid in the frame of its page.
use Rattle.std.proofs.Common.{◌≡◌, ◌≢◌, ◌⊎◌, ℕ, ◌+◌, ◌<◌, ◌≤◌, ◌||◌, Bool, true, false, nat_lt, List, length, length-set, replicate, Option, Some, None, refl, sym, ap, subst, ◌∙◌, inl, inr, arith, IfSome}
use Rattle.std.specs.Prelude.{slice_index, slice_index_or, slice_set}
use Rattle.std.specs.List.{range_with_len}
use Rattle.std.proofs.lemmas.Bool.{cases_Bool, cases_eq, cases_lt, false≢true}
use Rattle.std.proofs.lemmas.Bool.Decides.{nat_tests}
use Rattle.std.proofs.lemmas.List.{get_or-set_same, get_or-set_other, length-replicate}
use Rattle.std.proofs.lemmas.List.FromFn.{length-range_with_len, get_or-range_with_len}
use Rattle.ds_policy.specs.declared.grant.Grant.{Grant}
use Rattle.ds_policy.specs.Pages.{Table, names, with_entry, is_named_by}
use Rattle.ds_grants.specs.State.{GrantsState, is_live, is_shared}
use Rattle.ds_grants.specs.Inner.State.{with_grant}
use Rattle.ds_grants.specs.Inner.Counts.{holders_of}
use Rattle.ds_grants.specs.Sound.{AreLaidOut}
use Rattle.ds_grants.specs.Inner.Sound.{AreCounted, IsSound}
use Rattle.ds_grants.specs.Inner.Copies.{with_copy, IsMarked, LiesOtherwise}
use Rattle.ds_grants.proofs.HolderCounts.{holders_with, named_by_holders, counted_within}
use Rattle.ds_grants.proofs.Living.{some_of, none_named}

-- a page that lives is one of those that may
pub live_below : (g : GrantsState) (holders : List ℕ) → AreCounted g.table holders → g.frames ≡ length holders → g.named ≤ g.frames → (q : ℕ) → is_live g q ≡ true → q < g.frames
live_below g holders counted frames named q lives = elim (cases_lt q g.named) [
  | inl low ↦ omega (arith, low, named)
  | inr high ↦
      let unnamed : nat_lt q g.named ≡ false = grind (arith, nat_tests) in
      let by_table : is_named_by g.table q ≡ true = subst (λ (b : Bool). (b || is_named_by g.table q) ≡ true) unnamed lives in
      let some : 0 < holders_of g.table q = some_of (holders_of g.table q) (sym (named_by_holders g.table q) ∙ by_table) in
      let count = counted q in
      let within = counted_within holders q (omega (arith, some, count)) in
      omega (arith, within, frames)
]

-- a page that lives shares its frame with none but such as are marked
pub live_marked : (g : GrantsState) → ((q : ℕ) → is_live g q ≡ true → q < g.frames) → AreLaidOut g → (page : ℕ) → is_live g page ≡ true → IsMarked g page
live_marked g below laid page lives = λ other on apart same. (
  laid.alone page other (below page lives) (below other on) lives on (λ (e : ◌≡◌ {A = ℕ} page other). apart (sym e)) (sym same),
  laid.alone other page (below other on) (below page lives) on lives apart same,
)

-- where fewer pages live, they lie as before
pub laid_fewer : (g : GrantsState) (t : Table) (ended : List Bool) → ((q : ℕ) → is_live (record g { table = t; ended = ended }) q ≡ true → is_live g q ≡ true) → AreLaidOut g → AreLaidOut (record g { table = t; ended = ended })
laid_fewer g t ended fewer laid = record {
  frames = laid.frames;
  marks = laid.marks;
  within = laid.within;
  alone = λ j k low high on off apart same. laid.alone j k low high (fewer j on) (fewer k off) apart same;
}

-- a page of which fewer entries are lives where it still does
pub live_fewer : (g : GrantsState) (t : Table) (ended : List Bool) → ((q : ℕ) → holders_of t q ≤ holders_of g.table q) → (q : ℕ) → is_live (record g { table = t; ended = ended }) q ≡ true → is_live g q ≡ true
live_fewer g t ended fewer q on = elim (cases_Bool (nat_lt q g.named)) [
  | inl is ↦ ap (λ (b : Bool). b || is_named_by g.table q) is
  | inr unnamed ↦
      let by_table : is_named_by t q ≡ true = subst (λ (b : Bool). (b || is_named_by t q) ≡ true) unnamed on in
      let some : 0 < holders_of t q = some_of (holders_of t q) (sym (named_by_holders t q) ∙ by_table) in
      let le = fewer q in
      let before : nat_lt 0 (holders_of g.table q) ≡ true = grind (arith, nat_tests) in
      ap (λ (b : Bool). b || is_named_by g.table q) unnamed ∙ (named_by_holders g.table q ∙ before)
]

module _ (g : GrantsState) (p a : ℕ) (grant : Grant) (low : 0 < p) (high : p ≤ length g.table) where
  -- a page that lives once an entry is put lived before, or the entry names it
  live_after : (q : ℕ) → is_live (with_grant g p a grant) q ≡ true → (is_live g q ≡ true) ⊎ (names q grant.page ≡ true)
  live_after q on = elim (cases_Bool (names q grant.page)) [
    | inl new ↦ inr new
    | inr other ↦ inl (elim (cases_Bool (nat_lt q g.named)) [
      | inl is ↦ ap (λ (b : Bool). b || is_named_by g.table q) is
      | inr unnamed ↦
          let by_table : is_named_by (with_entry g.table p a grant) q ≡ true = subst (λ (b : Bool). (b || is_named_by (with_entry g.table p a grant) q) ≡ true) unnamed on in
          let some : 0 < holders_of (with_entry g.table p a grant) q = some_of (holders_of (with_entry g.table p a grant) q) (sym (named_by_holders (with_entry g.table p a grant) q) ∙ by_table) in
          let all = holders_with g.table p a grant q (omega (arith, low, high)) in
          let none = none_named q grant.page other in
          let before : nat_lt 0 (holders_of g.table q) ≡ true = held (holders_of g.table q) (omega (arith, all, none, some)) in
          ap (λ (b : Bool). b || is_named_by g.table q) unnamed ∙ (named_by_holders g.table q ∙ before)
    ])
  ]
    where
      held : (n : ℕ) → 0 < n → nat_lt 0 n ≡ true
      held n some = grind (arith, nat_tests)

  -- the page that an entry names is marked
  marked_named : (o : Option ℕ) → IfSome o (λ q. IsMarked g q) → (q : ℕ) → names q o ≡ true → IsMarked g q
  marked_named None marked q named = absurd (false≢true named)
  marked_named (Some r) marked q named = subst (λ (n : ℕ). IsMarked g n) (let e : r ≡ q = grind (arith, nat_tests) in e) marked

  one_named : (o : Option ℕ) (j k : ℕ) → names j o ≡ true → names k o ≡ true → j ≡ k
  one_named None j k first second = absurd (false≢true first)
  one_named (Some r) j k first second = grind (arith, nat_tests)

  -- so pages lie as before where the entry's page is marked
  pub laid_put : IfSome grant.page (λ q. IsMarked g q) → AreLaidOut g → AreLaidOut (with_grant g p a grant)
  laid_put marked laid = record {
    frames = laid.frames;
    marks = laid.marks;
    within = laid.within;
    alone = λ j k below within on off apart same. elim (live_after j on) [
      | inl first ↦ elim (live_after k off) [
        | inl second ↦ laid.alone j k below within first second apart same
        | inr new ↦ (marked_named grant.page marked k new j first apart same).1
      ]
      | inr new ↦ elim (live_after k off) [
        | inl second ↦ (marked_named grant.page marked j new k second (λ (e : ◌≡◌ {A = ℕ} k j). apart (sym e)) (sym same)).0
        | inr too ↦ absurd (apart (one_named grant.page j k new too))
      ]
    ];
  }

-- at first each page lies in the frame of its number
pub laid_first : (t : Table) (frames named : ℕ) (ended : List Bool) → AreLaidOut (record { table = t; frames = frames; named = named; ended = ended; lies = range_with_len 0 frames; shared = replicate frames false })
laid_first t frames named ended = record {
  frames = length-range_with_len 0 frames;
  marks = length-replicate frames false;
  within = λ page below. subst (λ (n : ℕ). n < frames) (sym (lies page below)) below;
  alone = λ j k low high on off apart same. absurd (apart (sym (lies j low) ∙ (same ∙ lies k high)));
}
  where
    lies : (q : ℕ) → q < frames → slice_index (range_with_len 0 frames) q ≡ q
    lies q below = get_or-range_with_len 0 frames q 0 below ∙ (let e : 0 + q ≡ q = omega arith in e)

-- but for the copy, all lies and is marked as before
abbrev pub between : GrantsState → ℕ → ℕ → GrantsState
between g k n = record g { lies = slice_set g.lies n (slice_index g.lies k); shared = slice_set g.shared n true }

-- bounds ask nothing of where pages lie
pub sound_copy : (g : GrantsState) (k n : ℕ) → IsSound g → IsSound (with_copy g k n)
sound_copy g k n sound = record { rows = sound.rows; processes = sound.processes; ended = sound.ended; named = sound.named; frames = sound.frames }

-- a copy lies in the frame of its page
module _ (g : GrantsState) (k n : ℕ) (laid : AreLaidOut g) (page : k < g.frames) (lives : is_live g k ≡ true) (copy : n < g.frames) (free : is_live g n ≡ false) where
  other : (j : ℕ) → is_live g j ≡ true → j ≢ n
  other j on = λ (e : ◌≡◌ {A = ℕ} j n). (let no : true ≡ false = sym on ∙ (ap (is_live g) e ∙ free) in absurd cc)

  long : n < length g.lies
  long = omega (arith, copy, laid.frames)

  lies_new : slice_index (with_copy g k n).lies n ≡ slice_index g.lies k
  lies_new = get_or-set_same g.lies n (slice_index g.lies k) 0 long

  pub lies_at : (j : ℕ) → j ≢ n → slice_index (with_copy g k n).lies j ≡ slice_index g.lies j
  lies_at j apart = get_or-set_other g.lies n j (slice_index g.lies k) 0 apart

  mark_new : is_shared (with_copy g k n) n ≡ true
  mark_new = get_or-set_same (slice_set g.shared k true) n true false (subst (λ (x : ℕ). n < x) (sym (length-set g.shared k true ∙ laid.marks)) copy)

  marked_page : is_shared (record g { shared = slice_set g.shared k true }) k ≡ true
  marked_page = get_or-set_same g.shared k true false (subst (λ (x : ℕ). k < x) (sym laid.marks) page)

  mark_old : is_shared (with_copy g k n) k ≡ true
  mark_old = get_or-set_other (slice_set g.shared k true) n k true false (other k lives) ∙ marked_page

  mark_at : (j : ℕ) → j ≢ n → is_shared g j ≡ true → is_shared (with_copy g k n) j ≡ true
  mark_at j apart is = get_or-set_other (slice_set g.shared k true) n j true false apart ∙ elim (cases_eq j k) [
    | inl same ↦ ap (λ (x : ℕ). slice_index_or (slice_set g.shared k true) x false) same ∙ marked_page
    | inr away ↦ get_or-set_other g.shared k j true false away ∙ is
  ]

  -- whoever lies there is marked
  marked_with : (j : ℕ) → j < g.frames → is_live g j ≡ true → slice_index g.lies j ≡ slice_index g.lies k → is_shared (with_copy g k n) j ≡ true
  marked_with j below on same = elim (cases_eq j k) [
    | inl is ↦ subst (λ (x : ℕ). is_shared (with_copy g k n) x ≡ true) (sym is) mark_old
    | inr away ↦ mark_at j (other j on) (laid.alone k j page below lives on (λ (e : ◌≡◌ {A = ℕ} k j). away (sym e)) (sym same))
  ]

  pub laid_copy : AreLaidOut (with_copy g k n)
  laid_copy = record {
    frames = length-set g.lies n (slice_index g.lies k) ∙ laid.frames;
    marks = length-set (slice_set g.shared k true) n true ∙ (length-set g.shared k true ∙ laid.marks);
    within = λ q below. elim (cases_eq q n) [
      | inl new ↦ subst (λ (x : ℕ). x < g.frames) (sym (ap (slice_index (with_copy g k n).lies) new ∙ lies_new)) (laid.within k page)
      | inr old ↦ subst (λ (x : ℕ). x < g.frames) (sym (lies_at q old)) (laid.within q below)
    ];
    alone = λ i j low high on off apart same. mark_at j (other j off) (laid.alone i j low high on off apart (sym (lies_at i (other i on)) ∙ (same ∙ lies_at j (other j off))));
  }

  pub copy_marked : ((q : ℕ) → is_live g q ≡ true → q < g.frames) → IsMarked (with_copy g k n) n
  copy_marked below = λ j on apart same. (marked_with j (below j on) on (sym (lies_at j apart) ∙ (same ∙ lies_new)), mark_new)

  -- so the page alone is marked anew
  pub page_differs : LiesOtherwise k (between g k n) (with_copy g k n)
  page_differs = record {
    table = refl;
    frames = refl;
    named = refl;
    ended = refl;
    lies = λ q apart. refl;
    shared = λ q apart. elim (cases_eq q n) [
      | inl new ↦ ap (λ (x : ℕ). is_shared (with_copy g k n) x) new ∙ (mark_new ∙ sym (ap (λ (x : ℕ). is_shared (between g k n) x) new ∙ get_or-set_same g.shared n true false (subst (λ (x : ℕ). n < x) (sym laid.marks) copy)))
      | inr old ↦ get_or-set_other (slice_set g.shared k true) n q true false old ∙ (get_or-set_other g.shared k q true false apart ∙ sym (get_or-set_other g.shared n q true false old))
    ];
  }
