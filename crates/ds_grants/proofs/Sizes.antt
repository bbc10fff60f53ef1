-- What is true of the grants stays true when an entry is put or removed.
use Rattle.std.proofs.Common.{◌≡◌, ℕ, ◌+◌, ◌-◌, ◌<◌, ◌≤◌, ◌==◌, not, Bool, true, false, List, [], ◌∷◌, length, length-set, filter, is_some, IsNone, IsErr, OnOk, Result, Ok, Err, slice_index, ◌↔◌, Option, Some, None, refl, sym, ap, subst, ◌∙◌, inl, inr, arith, slice_set}
use Rattle.std.specs.Prelude.{◌%◌, ◌^◌, nat_le, IfSome}
use Rattle.std.specs.List.{All, AllByRecursion, IsDistinct}
use Rattle.std.proofs.lemmas.Bool.{cases_Bool, false≢true}
use Rattle.std.proofs.lemmas.Bool.Decides.{nat_tests}
use Rattle.std.proofs.lemmas.List.Elements.{All-nil, All-head, All-tail, All-cons, All-set, All-filter, All-get_or}
use Rattle.std.proofs.lemmas.List.Sums.{length-filter, count_by-le-length}
use Rattle.ds_policy.specs.declared.grant.Entry.{Entry}
use Rattle.ds_policy.specs.declared.grant.Grant.{Grant}
use Rattle.ds_policy.specs.Pages.{Table, names, found, put, entries_of, entry_at, with_entry, erased_entry}
use Rattle.ds_policy.specs.Families.{parent_of, without_entry, without_entries}
use Rattle.ds_policy.specs.Grants.{is_some_right, has_right}
use Rattle.ds_grants.specs.State.{GrantsState}
use Rattle.ds_grants.specs.Inner.State.{LayoutState, with_grant, erased_grant}
use Rattle.ds_grants.specs.Sound.{AreLaidOut}
use Rattle.ds_grants.specs.Inner.Sound.{AreCounted, IsWhole, IsAtPage, has_same_address, IsGoodRow, IsSound}
use Rattle.ds_grants.specs.Inner.Parents.{AreAlike}
use Rattle.ds_grants.specs.Inner.Copies.{IsMarked}
use Rattle.ds_grants.specs.Inner.Order.{is_no_page}
use Rattle.ds_grants.specs.Inner.Counts.{one_if_named, page_of, holders_in, AreOneMore, AreOneFewer}
use Rattle.ds_grants.proofs.FifthRegion.{either, same_number}
use Rattle.ds_grants.proofs.HolderCounts.{holders_at, put_counts, erase_counts, end_counts, holders_erased, holders_fewer, itself, found_holds, row_holders, counted_within}
use Rattle.ds_grants.proofs.Living.{one_named, found_lives}
use Rattle.ds_grants.proofs.Laying.{live_below, live_marked, laid_fewer, live_fewer, laid_put}
use Rattle.ds_grants.proofs.Bare.{handed_alike}
use Rattle.ds_grants.proofs.Parents.{alike_counted, alike_sound, alike_laid, alike_rows}
use Rattle.ds_grants.proofs.Emptying.{end_alike}
use Rattle.ds_grants.specs.Inner.Free.{HasPage}

-- an entry in the place of another leaves as many, and one at the end has room
put_length : (es : List Entry) (a : ℕ) (g : Grant) (before : ℕ) → before + length es ≤ 256 → (IsNone (found es a) → before + length es < 256) → before + length (put es a g) ≤ 256
put_length [] a g before few room = let more = room refl in omega arith
put_length (e ∷ es) a g before few room = elim (cases_Bool (e.address == a)) [
  | inl here ↦ rw here few
  | inr there ↦ rw there (
      let free : IsNone (found es a) → before + length (e ∷ es) < 256 = rw there at room in
      let rest = put_length es a g (before + 1) (omega arith) (λ none. let more = free none in omega arith) in
      omega arith)
]

-- what is true of each entry and of the one put in is true of each then
pub all_put : (P : Entry → Type 0) (es : List Entry) (a : ℕ) (g : Grant) → All P es → P (record { address = a; grant = g }) → All P (put es a g)
all_put P [] a g all new = All-cons P (record { address = a; grant = g }) [] new (All-nil P)
all_put P (e ∷ es) a g all new = elim (cases_Bool (e.address == a)) [
  | inl here ↦ rw here (All-cons P (record { address = a; grant = g }) es new (All-tail P e es all))
  | inr other ↦ rw other (All-cons P e (put es a g) (All-head P e es all) (all_put P es a g (All-tail P e es all) new))
]

-- an entry that is put is at a page's address
at_page : (a : ℕ) (grant : Grant) → is_no_page a ≡ false → IsAtPage (record { address = a; grant = grant })
at_page a grant page =
    let tests = either (not (a % 4096 == 0)) (nat_le (2 ^ 31) a) page in
    let aligned = tests.0 in
    let user = tests.1 in
    record { whole = grind (arith, nat_tests); user = grind (arith, nat_tests) }

-- No two entries of a process are at one address.

put_apart : (x : Entry) (es : List Entry) (a : ℕ) (g : Grant) → (x.address == a) ≡ false → AllByRecursion (λ (y : Entry). has_same_address x y ≡ false) es → AllByRecursion (λ (y : Entry). has_same_address x y ≡ false) (put es a g)
put_apart x [] a g other all = (other, tt)
put_apart x (e ∷ es) a g other all = elim (cases_Bool (e.address == a)) [
  | inl here ↦ rw here (other, all.1)
  | inr there ↦ rw there (all.0, put_apart x es a g other all.1)
]

pub put_places : (es : List Entry) (a : ℕ) (g : Grant) → IsDistinct has_same_address es → IsDistinct has_same_address (put es a g)
unfolding IsDistinct
put_places [] a g apart = (tt, tt)
put_places (e ∷ es) a g apart = elim (cases_Bool (e.address == a)) [
  | inl here ↦ rw here (subst (λ (n : ℕ). AllByRecursion (λ (y : Entry). (n == y.address) ≡ false) es) (same_number e.address a here) apart.0, apart.1)
  | inr there ↦ rw there (put_apart e es a g there apart.0, put_places es a g apart.1)
]

filter_apart : (p : Entry → Bool) (x : Entry) (es : List Entry) → AllByRecursion (λ (y : Entry). has_same_address x y ≡ false) es → AllByRecursion (λ (y : Entry). has_same_address x y ≡ false) (filter p es)
filter_apart p x [] all = tt
filter_apart p x (e ∷ es) all = elim (cases_Bool (p e)) [
  | inl stays ↦ rw stays (all.0, filter_apart p x es all.1)
  | inr goes ↦ rw goes (filter_apart p x es all.1)
]

filter_places : (p : Entry → Bool) (es : List Entry) → IsDistinct has_same_address es → IsDistinct has_same_address (filter p es)
unfolding IsDistinct
filter_places p [] apart = tt
filter_places p (e ∷ es) apart = elim (cases_Bool (p e)) [
  | inl stays ↦ rw stays (filter_apart p e es apart.0, filter_places p es apart.1)
  | inr goes ↦ rw goes (filter_places p es apart.1)
]

-- a process that has nothing
pub empty_row : IsGoodRow []
unfolding IsDistinct
empty_row = record { few = omega arith; whole = All-nil IsWhole; pages = All-nil IsAtPage; places = tt }

-- the entries of each process are good
pub good_row : (t : Table) (p : ℕ) → 0 < p → p ≤ length t → All IsGoodRow t → IsGoodRow (entries_of t p)
good_row t p low high all = All-get_or IsGoodRow t (p - 1) [] (omega arith) all

pub sound_put : (g : GrantsState) (p a : ℕ) (grant : Grant) → 0 < p → p ≤ length g.table
    → (IsNone (entry_at g.table p a) → length (entries_of g.table p) < 256)
    → is_some grant.page ≡ is_some_right grant.right → is_no_page a ≡ false → IsSound g → IsSound (with_grant g p a grant)
sound_put g p a grant low high room whole page sound =
    let row = good_row g.table p low high sound.rows in
    let size = length-set g.table (p - 1) (put (entries_of g.table p) a grant) in
    record {
      rows = All-set IsGoodRow g.table (p - 1) (put (entries_of g.table p) a grant) (record {
        few = (let few = row.few in let all = put_length (entries_of g.table p) a grant 0 (omega arith) (λ none. let more = room none in omega arith) in let size : 0 + length (put (entries_of g.table p) a grant) ≤ 256 = all in omega arith);
        whole = all_put IsWhole (entries_of g.table p) a grant row.whole whole;
        pages = all_put IsAtPage (entries_of g.table p) a grant row.pages (at_page a grant page);
        places = put_places (entries_of g.table p) a grant row.places;
      }) sound.rows;
      processes = let few = sound.processes in omega arith;
      ended = sound.ended ∙ sym size;
      named = sound.named;
      frames = sound.frames;
    }

erased_rows : (t : Table) (p a : ℕ) → 0 < p → p ≤ length t → All IsGoodRow t → All IsGoodRow (erased_entry t p a)
erased_rows t p a low high good =
    let others : Entry → Bool = λ e. not (e.address == a) in
    let row = good_row t p low high good in
    let few = row.few in
    let stay = length-filter others (entries_of t p) in
    let fewer = count_by-le-length others (entries_of t p) in
    All-set IsGoodRow t (p - 1) (filter others (entries_of t p)) (record {
      few = omega arith;
      whole = All-filter others IsWhole (entries_of t p) row.whole;
      pages = All-filter others IsAtPage (entries_of t p) row.pages;
      places = filter_places others (entries_of t p) row.places;
    }) good

-- rows stay good when an entry is removed
pub without_rows : (t : Table) (p a : ℕ) → 0 < p → p ≤ length t → All IsGoodRow t → All IsGoodRow (without_entry t p a)
without_rows t p a low high good =
    alike_rows (erased_entry t p a) (without_entry t p a) (handed_alike (erased_entry t p a) p a (parent_of (entry_at t p a))) (erased_rows t p a low high good)

pub sound_erased : (g : GrantsState) (p a : ℕ) → 0 < p → p ≤ length g.table → IsSound g → IsSound (erased_grant g p a)
sound_erased g p a low high sound =
    let size = length-set g.table (p - 1) (filter (λ (e : Entry). not (e.address == a)) (entries_of g.table p)) in
    record {
      rows = erased_rows g.table p a low high sound.rows;
      processes = let few = sound.processes in omega arith;
      ended = sound.ended ∙ sym size;
      named = sound.named;
      frames = sound.frames;
    }

-- the grants of which so many pages may live as are counted
abbrev pub held : Table → List ℕ → ℕ → List Bool → LayoutState → GrantsState
held t holders named ended layout = record { table = t; frames = length holders; named = named; ended = ended; lies = layout.lies; shared = layout.shared }

-- they are counted and within their bounds, and their pages lie in frames
abbrev pub AreKept : Table → List ℕ → ℕ → List Bool → LayoutState → Type 0
AreKept t holders named ended layout = AreCounted t holders × IsSound (held t holders named ended layout) × AreLaidOut (held t holders named ended layout)

kept_as : (t : Table) (holders new : List ℕ) (named : ℕ) (ended : List Bool) (layout : LayoutState) → length new ≡ length holders → AreCounted t new → IsSound (held t holders named ended layout) → AreLaidOut (held t holders named ended layout) → AreKept t new named ended layout
kept_as t holders new named ended layout size counted sound laid = (
  counted,
  subst (λ n. IsSound (record { table = t; frames = n; named = named; ended = ended; lies = layout.lies; shared = layout.shared })) (sym size) sound,
  subst (λ n. AreLaidOut (record { table = t; frames = n; named = named; ended = ended; lies = layout.lies; shared = layout.shared })) (sym size) laid,
)

-- what is kept is kept where entries have other parents
pub alike_kept : (t u : Table) (holders : List ℕ) (named : ℕ) (ended : List Bool) (layout : LayoutState) → AreAlike u t → AreKept t holders named ended layout → AreKept u holders named ended layout
alike_kept t u holders named ended layout alike known = (
  alike_counted t u holders alike known.0,
  alike_sound (held t holders named ended layout) u alike known.1,
  alike_laid (held t holders named ended layout) u alike known.2,
)

-- when an entry was erased
pub erased_sound : (t : Table) (holders new : List ℕ) (named : ℕ) (ended : List Bool) (layout : LayoutState) (p a : ℕ) → 0 < p → p ≤ length t
    → AreKept t holders named ended layout
    → ((q : ℕ) → slice_index new q + holders_at q a (entries_of t p) ≡ slice_index holders q) → length new ≡ length holders
    → AreKept (erased_entry t p a) new named ended layout
erased_sound t holders new named ended layout p a low high known fewer size =
    kept_as (erased_entry t p a) holders new named ended layout size (erase_counts t p a holders new low high known.0 fewer)
    (sound_erased (held t holders named ended layout) p a low high known.1)
    (laid_fewer (held t holders named ended layout) (erased_entry t p a) ended (live_fewer (held t holders named ended layout) (erased_entry t p a) ended (λ q. let all = holders_erased t p a q (omega (arith, low, high)) in omega (arith, all))) known.2)

sound_end : (g : GrantsState) (p : ℕ) → IsSound g → IsSound (record g { table = slice_set g.table (p - 1) []; ended = slice_set g.ended (p - 1) true })
sound_end g p sound =
    let size = length-set g.table (p - 1) [] in
    let marked = length-set g.ended (p - 1) true in
    record {
      rows = All-set IsGoodRow g.table (p - 1) [] empty_row sound.rows;
      processes = let few = sound.processes in omega arith;
      ended = marked ∙ sound.ended ∙ sym size;
      named = sound.named;
      frames = sound.frames;
    }

-- when a process ended
pub ended_sound : (t : Table) (holders new : List ℕ) (named : ℕ) (ended : List Bool) (layout : LayoutState) (p : ℕ) → 0 < p → p ≤ length t
    → AreKept t holders named ended layout
    → ((q : ℕ) → slice_index new q + holders_in q (entries_of t p) ≡ slice_index holders q) → length new ≡ length holders
    → AreKept (without_entries t p (entries_of t p)) new named (slice_set ended (p - 1) true) layout
ended_sound t holders new named ended layout p low high known fewer size =
    alike_kept (slice_set t (p - 1) []) (without_entries t p (entries_of t p)) new named (slice_set ended (p - 1) true) layout (end_alike t p low high known.1.rows)
    (kept_as (slice_set t (p - 1) []) holders new named (slice_set ended (p - 1) true) layout size (end_counts t p holders new low high known.0 fewer)
    (sound_end (held t holders named ended layout) p known.1)
    (laid_fewer (held t holders named ended layout) (slice_set t (p - 1) []) (slice_set ended (p - 1) true) (live_fewer (held t holders named ended layout) (slice_set t (p - 1) []) (slice_set ended (p - 1) true) (λ q. holders_fewer t p q low high)) known.2))

-- when an entry was put
pub put_sound : (t : Table) (holders middle new : List ℕ) (named : ℕ) (ended : List Bool) (layout : LayoutState) (p a : ℕ) (grant : Grant) → 0 < p → p ≤ length t
    → (IsNone (entry_at t p a) → length (entries_of t p) < 256) → is_some grant.page ≡ is_some_right grant.right → is_no_page a ≡ false
    → IfSome grant.page (λ q. IsMarked (held t holders named ended layout) q) → AreKept t holders named ended layout
    → AreOneFewer (page_of (entry_at t p a)) holders middle → AreOneMore grant.page middle new
    → AreKept (with_entry t p a grant) new named ended layout
put_sound t holders middle new named ended layout p a grant low high room whole page marked known fewer more =
    kept_as (with_entry t p a grant) holders new named ended layout (more.size ∙ fewer.size) (put_counts t p a grant holders middle new low high known.0 fewer more)
    (sound_put (held t holders named ended layout) p a grant low high room whole page known.1)
    (laid_put (held t holders named ended layout) p a grant low high marked known.2)

-- what is done where there is something to be done
pub done : {E : Type 0} (r : Result (Unit {0}) E) (o : Option Grant) (P : Type 0) → OnOk r P → (IsErr r ↔ IsNone o) → is_some o ≡ true → P
done (Ok x) o P did absent there = did
done (Err e) o P did absent there = absurd (false≢true (sym (absent.0 refl) ∙ there))

-- what is found among good entries is whole
found_whole : (es : List Entry) (a : ℕ) (grant : Grant) → All IsWhole es → found es a ≡ Some grant → is_some grant.page ≡ is_some_right grant.right
found_whole [] a grant all is = absurd (cc)
found_whole (e ∷ es) a grant all is = elim (cases_Bool (e.address == a)) [
  | inl here ↦
      let same : Some e.grant ≡ Some grant = rw here at is in
      let is_it : e.grant ≡ grant = cc in
      subst (λ (g : Grant). is_some g.page ≡ is_some_right g.right) is_it (All-head IsWhole e es all)
  | inr there ↦ found_whole es a grant (All-tail IsWhole e es all) (rw there at is)
]

some_page : (o : Option ℕ) → is_some o ≡ true → (q : ℕ) × (o ≡ Some q)
some_page None h = absurd (false≢true h)
some_page (Some q) h = (q, refl)

-- what is granted with a right has a page, which lives
pub has_page : (g : GrantsState) (holders : List ℕ) (p a : ℕ) (grant : Grant) → 0 < p → p ≤ length g.table → g.frames ≡ length holders → AreCounted g.table holders → IsSound g → AreLaidOut g
    → entry_at g.table p a ≡ Some grant → is_some_right grant.right ≡ true → HasPage g grant
has_page g holders p a grant low high frames counted sound laid is right =
    let row = good_row g.table p low high sound.rows in
    let (q, named) = some_page grant.page (found_whole (entries_of g.table p) a grant row.whole is ∙ right) in
    let names_it : names q grant.page ≡ true = ap (names q) named ∙ itself q in
    let one = one_named q grant.page names_it in
    let found = found_holds q (entries_of g.table p) a in
    let as_found : one_if_named q (page_of (entry_at g.table p a)) ≡ one_if_named q grant.page = ap (λ o. one_if_named q (page_of o)) is in
    let among = row_holders g.table (p - 1) q in
    let count = counted q in
    let within = counted_within holders q (omega arith) in
    let lives = found_lives g p a grant q is names_it in
    record { page = q; named = named; within = omega arith; lives = lives; marked = live_marked g (live_below g holders counted frames sound.named) laid q lives }

-- where no right is granted, no page is
no_page_in : (es : List Entry) (a : ℕ) → All IsWhole es → (o : Option Grant) → found es a ≡ o → has_right o ≡ false → page_of o ≡ None
no_page_in es a all None is no_right = refl
no_page_in es a all (Some grant) is no_right = no_some grant.page (found_whole es a grant all is ∙ no_right)
  where
    no_some : (o : Option ℕ) → is_some o ≡ false → o ≡ None
    no_some None h = refl
    no_some (Some q) h = absurd (false≢true (sym h))

pub no_page : (t : Table) (p a : ℕ) → 0 < p → p ≤ length t → All IsGoodRow t → has_right (entry_at t p a) ≡ false → page_of (entry_at t p a) ≡ None
no_page t p a low high rows no_right = no_page_in (entries_of t p) a (good_row t p low high rows).whole (entry_at t p a) refl no_right
