-- Changes of the table leave pages whole.
use Rattle.std.proofs.Common.{◌≡◌, ◌≢◌, ℕ, zero, suc, ◌+◌, ◌-◌, ◌<◌, Bool, true, false, cond, not, ◌||◌, ◌==◌, List, [], ◌∷◌, length, Option, Some, None, Result, Ok, Err, inl, inr, refl, sym, ap, ◌∙◌, subst, arith}
use Rattle.std.specs.Prelude.{◌&&◌, nat_lt, nat_le, is_some, unwrap_or, slice_set, slice_index_or}
use Rattle.std.specs.List.{list_any}
use Rattle.std.proofs.lemmas.Bool.{cases_Bool, cases_eq}
use Rattle.std.proofs.lemmas.Bool.Decides.{nat_tests}
use Rattle.std.proofs.lemmas.List.{get_or-set_other}
use Rattle.ds_policy.specs.declared.grant.Right.{Right}
use Rattle.ds_policy.specs.declared.grant.Right.TheVariants.{Read, Write}
use Rattle.ds_policy.specs.declared.grant.Grant.{Grant}
use Rattle.ds_policy.specs.declared.grant.Entry.{Entry}
use Rattle.ds_policy.specs.declared.grant.EntryPlace.{EntryPlace}
use Rattle.ds_policy.specs.Pages.{Pages, Table, entries_of, found, entry_at, names, is_named_by, bytes_of, count_live, fresh, kept}
use Rattle.ds_policy.specs.Families.{without_entry, without_entries, cut_entry, forbid_entry}
use Rattle.ds_policy.specs.Ends.{has_some_expired, expired_table, expired}
use Rattle.ds_policy.specs.Grants.{PageState, ◌or_else◌, refused, not_page, is_some_right, has_right, no_right, no_entry, no_grant, table_full, fifth_region, no_frames, may_not_give, live_only, granted, removed, cut, forbidden_by, forbidden, shared_from, copied, given, give, take as take_back, drop_own, grant, narrow, revoke, drop_by_command, end_process}
use Rattle.ds_promise.specs.Stores.{live_page}
use Rattle.ds_promise.specs.Families.{AllHaveOwnAddresses}
use Rattle.ds_promise.specs.Whole.{Lives, NamesLiving, ArePagesWhole}
use Rattle.ds_promise.proofs.Entries.{false_is_not_true, or_first, or_second, one_grant, no_grant_found}
use Rattle.ds_promise.proofs.Tables.{AllGrants, with_entry_table, without_entry_table, without_entries_table, cut_table, forbid_table, expire_table, with_entry_all, without_entry_all, without_entries_all, cut_all, forbid_all, expire_all}
use Rattle.ds_promise.proofs.Stores.{set_cases, set_lives, none_is_not_some, fresh_is_free, kept_was, bytes_of_lives}

-- Pages that an entry names.

same_number : (page : ℕ) → (page == page) ≡ true
same_number page = grind (arith, nat_tests)

names_it : (page : ℕ) (o : Option ℕ) → o ≡ Some page → names page o ≡ true
names_it page o e = ap (names page) e ∙ same_number page

row_names : (es : List Entry) (b page : ℕ) (h : Grant) → found es b ≡ Some h → h.page ≡ Some page → list_any (λ (e : Entry). names page e.grant.page) es ≡ true
row_names [] b page h e n = no_grant_found h e
row_names (x ∷ es) b page h e n = elim (cases_Bool (x.address == b)) [
  | inl here ↦ or_first (names page x.grant.page) (list_any (λ (e : Entry). names page e.grant.page) es)
      (names_it page x.grant.page (ap (λ (g : Grant). g.page) (sym (one_grant x.grant h (subst (λ (c : Bool). cond c (Some x.grant) (found es b) ≡ Some h) here e))) ∙ n))
  | inr there ↦ or_second (names page x.grant.page) (list_any (λ (e : Entry). names page e.grant.page) es)
      (row_names es b page h (subst (λ (c : Bool). cond c (Some x.grant) (found es b) ≡ Some h) there e) n)
]

table_names : (t : Table) (i b page : ℕ) (h : Grant) → found (slice_index_or t i []) b ≡ Some h → h.page ≡ Some page → is_named_by t page ≡ true
table_names [] i b page h e n = no_grant_found h e
table_names (row ∷ t) zero b page h e n = or_first (list_any (λ (e : Entry). names page e.grant.page) row) (is_named_by t page) (row_names row b page h e n)
table_names (row ∷ t) (suc i) b page h e n = or_second (list_any (λ (e : Entry). names page e.grant.page) row) (is_named_by t page) (table_names t i b page h e n)

kept_here : (c : Bool) (x : Option (List ℕ)) → c ≡ true → cond c x None ≡ x
kept_here true x e = refl
kept_here false x e = false_is_not_true e

kept_lives : (ps : Pages) (t : Table) (named at i : ℕ) (bytes : List ℕ) → live_page ps i ≡ Some bytes → (nat_lt (at + i) named || is_named_by t (at + i)) ≡ true → live_page (kept ps t named at) i ≡ Some bytes
kept_lives [] t named at i bytes e k = e
kept_lives (b ∷ ps) t named at zero bytes e k = kept_here (nat_lt at named || is_named_by t at) b (subst (λ (n : ℕ). (nat_lt n named || is_named_by t n) ≡ true) (none_more at) k) ∙ e
  where
    none_more : (at : ℕ) → at + 0 ≡ at
    none_more at = omega arith
kept_lives (b ∷ ps) t named at (suc i) bytes e k = kept_lives ps t named (at + 1) i bytes e (subst (λ (n : ℕ). (nat_lt n named || is_named_by t n) ≡ true) (one_more at i) k)
  where
    one_more : (at i : ℕ) → at + suc i ≡ at + 1 + i
    one_more at i = omega arith

from_zero : (t : Table) (named page : ℕ) → (nat_lt page named || is_named_by t page) ≡ true → (nat_lt (0 + page) named || is_named_by t (0 + page)) ≡ true
from_zero t named page e = subst (λ (n : ℕ). (nat_lt n named || is_named_by t n) ≡ true) (no_more page) e
  where
    no_more : (page : ℕ) → page ≡ 0 + page
    no_more page = omega arith

below_is : (page named : ℕ) → page < named → nat_lt page named ≡ true
below_is page named e = grind (arith, nat_tests)

-- Changes of page states.

-- the same number of pages are named by the policy, and pages are whole
pub record StaysWhole (s t : PageState) : Type 0 where
  pub named : t.named ≡ s.named
  pub whole : ArePagesWhole t

module _ (s : PageState) (k : ArePagesWhole s) where
  -- each grant with a right names a page that lives
  abbrev Good : Grant → Type 0
  Good g = is_some_right g.right ≡ true → NamesLiving s.pages g

  -- whatever the parent
  any_parent : (g : Grant) (parent : Option EntryPlace) → Good g → Good (record g { parent = parent })
  any_parent g parent good = λ right. let l = good right in record { page = l.page; names = l.names; lives = l.lives }

  all_good : AllGrants Good s.table
  all_good p address g e right = k.granted p address g e right

  unchanged : StaysWhole s s
  unchanged = record { named = refl; whole = k }

  granted_whole : (p a : ℕ) (g : Grant) → Good g → StaysWhole s (granted s p a g)
  granted_whole p a g good = record { named = refl; whole = record { sizes = k.sizes; named = k.named; granted = with_entry_all Good s.table p a g all_good good; places = with_entry_table s.table p a g k.places } }

  -- where a table grants no more, the pages that it or the policy names stay
  fewer_whole : (t : Table) → AllHaveOwnAddresses t → AllGrants Good t → StaysWhole s (live_only (record s { table = t }))
  fewer_whole t own all = record {
    named = refl;
    whole = record {
      sizes = λ page bytes e. k.sizes page bytes (kept_was s.pages t s.named 0 page bytes e);
      named = λ page below. let l = k.named page below in (l.0, kept_lives s.pages t s.named 0 page l.0 l.1 (from_zero t s.named page (or_first (nat_lt page s.named) (is_named_by t page) (below_is page s.named below))));
      granted = λ p address g e right.
          let l = all p address g e right in
          record { page = l.page; names = l.names; lives = (l.lives.0, kept_lives s.pages t s.named 0 l.page l.lives.0 l.lives.1 (from_zero t s.named l.page (or_second (nat_lt l.page s.named) (is_named_by t l.page) (table_names t (p - 1) address l.page g e l.names)))) };
      places = own;
    };
  }

  removed_whole : (p a : ℕ) → StaysWhole s (removed s p a)
  removed_whole p a = fewer_whole (without_entry s.table p a) (without_entry_table s.table p a k.places) (without_entry_all Good any_parent s.table p a all_good)

  cut_whole : (p a : ℕ) → StaysWhole s (cut s p a)
  cut_whole p a = fewer_whole (cut_entry s.table p a) (cut_table s.table p a k.places) (cut_all Good any_parent s.table p a k.places all_good)

  forbidden_whole : (p a rule : ℕ) → StaysWhole s (forbidden s p a rule)
  forbidden_whole p a rule =
      let g = forbidden_by rule in
      fewer_whole (forbid_entry s.table p a g) (forbid_table s.table p a g k.places) (forbid_all Good s.table p a g all_good (λ right. false_is_not_true right))

  pub ended_whole : (p : ℕ) → StaysWhole s (end_process s p)
  ended_whole p =
      let es = entries_of s.table p in
      fewer_whole (without_entries s.table p es) (without_entries_table p es s.table k.places) (without_entries_all Good any_parent p es s.table all_good)

  pub expired_whole : (time : ℕ) → StaysWhole s (expired s time)
  expired_whole time = by (has_some_expired time s.table)
    where
      by : (c : Bool) → StaysWhole s (cond c (live_only (record s { table = expired_table time s.table })) s)
      by true = fewer_whole (expired_table time s.table) (expire_table time s.table k.places) (expire_all Good time s.table all_good (λ rule right. false_is_not_true right))
      by false = unchanged

-- Copies.

-- where fewer pages live than may, the new page has room
pub fresh_fits : (ps : Pages) → count_live ps < length ps → fresh ps < length ps
fresh_fits [] e = e
fresh_fits (None ∷ ps) e = omega arith
fresh_fits (Some b ∷ ps) e = let f = fresh_fits ps (omega (arith, e)) in omega (arith, f)

pub set_same : (ps : Pages) (i : ℕ) (x : Option (List ℕ)) → i < length ps → live_page (slice_set ps i x) i ≡ x
set_same [] i x e = absurd (omega (arith, e))
set_same (b ∷ ps) zero x e = refl
set_same (b ∷ ps) (suc i) x e = set_same ps i x (omega (arith, e))

-- a page that lives stays where another is put
set_stays : (ps : Pages) (i page : ℕ) (x : Option (List ℕ)) (bytes : List ℕ) → live_page ps i ≡ None → live_page ps page ≡ Some bytes → live_page (slice_set ps i x) page ≡ Some bytes
set_stays ps i page x bytes none e = elim (cases_eq page i) [
  | inl is ↦ none_is_not_some bytes (sym none ∙ (ap (live_page ps) (sym is) ∙ e))
  | inr other ↦ get_or-set_other ps i page x None other ∙ e
]

-- a page that lives still lives once the bytes of one are put anew
pub still_lives : (ps : Pages) (i page : ℕ) (new old : List ℕ) → live_page ps i ≡ Some old → Lives ps page → Lives (slice_set ps i (Some new)) page
still_lives ps i page new old e l = elim (cases_eq page i) [
  | inl is ↦ (new, ap (live_page (slice_set ps i (Some new))) is ∙ set_lives ps i old (Some new) e)
  | inr other ↦ (l.0, get_or-set_other ps i page (Some new) None other ∙ l.1)
]

one_list : (xs ys : List ℕ) → ◌≡◌ {A = Option (List ℕ)} (Some xs) (Some ys) → ys ≡ xs
one_list xs ys e = cc

module _ (s : PageState) (k : ArePagesWhole s) (bytes : List ℕ) (size : length bytes ≡ 4096) (room : fresh s.pages < length s.pages) where
  pub copied_whole : ArePagesWhole (record s { pages = slice_set s.pages (fresh s.pages) (Some bytes) })
  copied_whole = record {
    sizes = λ page new e. elim (set_cases s.pages (fresh s.pages) page (Some bytes) new e) [
      | inl before ↦ k.sizes page new before
      | inr put ↦ ap (λ (bs : List ℕ). length bs) (one_list bytes new put.1) ∙ size
    ];
    named = λ page below. let l = k.named page below in (l.0, set_stays s.pages (fresh s.pages) page (Some bytes) l.0 (fresh_is_free s.pages) l.1);
    granted = λ p address g e right.
        let l = k.granted p address g e right in
        record { page = l.page; names = l.names; lives = (l.lives.0, set_stays s.pages (fresh s.pages) l.page (Some bytes) l.lives.0 (fresh_is_free s.pages) l.lives.1) };
    places = k.places;
  }

-- Refusals.

-- P holds of what was done
abbrev pub OfDone : (PageState → Type 0) → Result PageState ℕ → Type 0
OfDone P (Ok s) = P s
OfDone P (Err number) = Unit {0}

-- what comes after a condition knows that it isn't met
pub unless_refused : (P : PageState → Type 0) (o : Option ℕ) (r : Result PageState ℕ) → (o ≡ None → OfDone P r) → OfDone P (o or_else r)
unless_refused P None r h = h refl
unless_refused P (Some number) r h = tt

pub not_refused : (number : ℕ) (b : Bool) → refused number b ≡ None → b ≡ false
not_refused number true e = absurd (no_such number e)
  where
    no_such : (number : ℕ) → ◌≡◌ {A = Option ℕ} (Some number) None → ⊥
    no_such number e = cc
not_refused number false e = refl

pub not_true : (b : Bool) → not b ≡ false → b ≡ true
not_true true e = refl
not_true false e = false_is_not_true (sym e)

-- an entry with a right, as one finds it
pub record HasGrant (o : Option Grant) : Type 0 where
  pub grant : Grant
  pub is : o ≡ Some grant
  pub same : unwrap_or o no_grant ≡ grant
  pub right : is_some_right grant.right ≡ true

pub granted_there : (o : Option Grant) → has_right o ≡ true → HasGrant o
granted_there None e = false_is_not_true e
granted_there (Some g) e = record { grant = g; is = refl; same = refl; right = e }

-- where no_right doesn't refuse there is an entry with a right
pub right_there : (s : PageState) (p a : ℕ) → no_right s p a ≡ None → HasGrant (entry_at s.table p a)
right_there s p a e = granted_there (entry_at s.table p a) (not_true (has_right (entry_at s.table p a)) (not_refused 14 _ e))

-- Calls and commands over page states.

pub take_whole : (alive : ℕ → Bool) (s : PageState) (caller p a : ℕ) → ArePagesWhole s → OfDone (StaysWhole s) (take_back alive s caller p a)
take_whole alive s caller p a k =
    let P = StaysWhole s in
    unless_refused P (refused 12 (not (alive p))) _ (λ _. unless_refused P (not_page a) _ (λ _. unless_refused P (no_right s p a) _ (λ _.
    unless_refused P (refused 19 (not ((unwrap_or (entry_at s.table p a) no_grant).giver == caller))) (Ok (cut s p a)) (λ _. cut_whole s k p a))))

pub drop_whole : (s : PageState) (caller a : ℕ) → ArePagesWhole s → OfDone (StaysWhole s) (drop_own s caller a)
drop_whole s caller a k =
    let P = StaysWhole s in
    unless_refused P (not_page a) _ (λ _. unless_refused P (no_right s caller a) (Ok (removed s caller a)) (λ _. removed_whole s k caller a))

pub grant_whole : (alive : ℕ → Bool) (s : PageState) (p a page : ℕ) (right : Right) (leave : Bool) (rule : ℕ) → ArePagesWhole s → page < s.named → OfDone (StaysWhole s) (grant alive s p a page right leave rule)
grant_whole alive s p a page right leave rule k below =
    let P = StaysWhole s in
    let g : Grant = record { right = right; page = Some page; rule = rule; give = leave; giver = 0; parent = None; until = None } in
    unless_refused P (refused 12 (not (alive p))) _ (λ _. unless_refused P (not_page a) _ (λ _. unless_refused P (refused 16 (has_right (entry_at s.table p a))) _ (λ _.
    unless_refused P (table_full s p a) _ (λ _. unless_refused P (fifth_region s p a) (Ok (granted s p a g)) (λ _.
    granted_whole s k p a g (λ some. record { page = page; names = refl; lives = k.named page below }))))))

pub narrow_whole : (alive : ℕ → Bool) (s : PageState) (p a : ℕ) → ArePagesWhole s → OfDone (StaysWhole s) (narrow alive s p a)
narrow_whole alive s p a k =
    let P = StaysWhole s in
    let g = unwrap_or (entry_at s.table p a) no_grant in
    unless_refused P (refused 12 (not (alive p))) _ (λ _. unless_refused P (not_page a) _ (λ _. unless_refused P (no_right s p a) (Ok (granted s p a (record g { right = Read }))) (λ has.
    let there = right_there s p a has in
    let l = k.granted p a there.grant there.is there.right in
    granted_whole s k p a (record g { right = Read }) (λ some. record { page = l.page; names = ap (λ (h : Grant). h.page) there.same ∙ l.names; lives = l.lives }))))

pub revoke_whole : (alive : ℕ → Bool) (s : PageState) (p a rule : ℕ) → ArePagesWhole s → OfDone (StaysWhole s) (revoke alive s p a rule)
revoke_whole alive s p a rule k =
    let P = StaysWhole s in
    unless_refused P (refused 12 (not (alive p))) _ (λ _. unless_refused P (not_page a) _ (λ _.
    unless_refused P (no_right s p a) (Ok (forbidden s p a rule)) (λ _. forbidden_whole s k p a rule)))

pub drop_command_whole : (alive : ℕ → Bool) (s : PageState) (p a : ℕ) → ArePagesWhole s → OfDone (StaysWhole s) (drop_by_command alive s p a)
drop_command_whole alive s p a k =
    let P = StaysWhole s in
    unless_refused P (refused 12 (not (alive p))) _ (λ _. unless_refused P (not_page a) _ (λ _.
    unless_refused P (no_entry s p a) (Ok (removed s p a)) (λ _. removed_whole s k p a)))

-- Give.

-- what a give by mode 3 does: a new page, which the receiver may write, with the bytes of the giver's
pub record IsCopyOf (s t : PageState) (caller a receiver to : ℕ) : Type 0 where
  pub grant : Grant
  pub held : entry_at s.table caller a ≡ Some grant
  pub right : is_some_right grant.right ≡ true
  pub page : ℕ
  pub names : grant.page ≡ Some page
  pub bytes : List ℕ
  pub holds : live_page s.pages page ≡ Some bytes
  pub room : fresh s.pages < length s.pages
  pub is : t ≡ granted (record s { pages = slice_set s.pages (fresh s.pages) (Some bytes) }) receiver to (record grant { right = Write; page = Some (fresh s.pages); giver = caller; parent = None; until = None })

-- what a give does: by mode 3 a copy, and by the others nothing to the pages
pub record IsGiven (alive : ℕ → Bool) (s t : PageState) (caller a receiver to mode : ℕ) : Type 0 where
  pub whole : StaysWhole s t
  pub there : alive receiver ≡ true
  pub others : mode ≢ 3 → t.pages ≡ s.pages
  pub copies : mode ≡ 3 → IsCopyOf s t caller a receiver to

pub third_mode : (mode : ℕ) (leave rest : Bool) → ((not (nat_lt 0 mode && nat_lt mode 4) || leave) || rest) ≡ false → (mode == 1) ≡ false → (mode == 2) ≡ false → mode ≡ 3
third_mode mode leave rest e f g = grind (arith, nat_tests)

pub not_third : (k mode : ℕ) → k < 3 → (mode == k) ≡ true → mode ≢ 3
not_third k mode below e = λ (is : ◌≡◌ {A = ℕ} mode 3). apart k mode below e is
  where
    apart : (k mode : ℕ) → k < 3 → (mode == k) ≡ true → mode ≡ 3 → ⊥
    apart k mode below e is = absurd (grind (arith, nat_tests))

room_there : (s : PageState) (mode : ℕ) → mode ≡ 3 → no_frames s mode ≡ None → fresh s.pages < length s.pages
room_there s mode is e = fresh_fits s.pages (by (count_live s.pages) (length s.pages) (subst (λ (n : ℕ). ((n == 3) && nat_le (length s.pages) (count_live s.pages)) ≡ false) is (not_refused 18 _ e)))
  where
    by : (live room : ℕ) → nat_le room live ≡ false → live < room
    by live room e = grind (arith, nat_tests)

module _ (alive : ℕ → Bool) (s : PageState) (k : ArePagesWhole s) (caller a receiver to mode : ℕ) (there : alive receiver ≡ true) (has : HasGrant (entry_at s.table caller a)) where
  -- the giver's entry, as one finds it
  abbrev own : Grant
  own = unwrap_or (entry_at s.table caller a) no_grant

  names_page : NamesLiving s.pages has.grant
  names_page = k.granted caller a has.grant has.is has.right

  -- the giver's page with another right
  shared_given : (right : Right) → mode ≢ 3 → IsGiven alive s (granted s receiver to (shared_from caller a own right)) caller a receiver to mode
  shared_given right apart = record {
    whole = granted_whole s k receiver to (shared_from caller a own right) (λ some. record { page = names_page.page; names = ap (λ (g : Grant). g.page) has.same ∙ names_page.names; lives = names_page.lives });
    there = there;
    others = λ _. refl;
    copies = λ (is : ◌≡◌ {A = ℕ} mode 3). absurd (apart is);
  }

  -- the grant of the new page
  abbrev new_grant : Grant → Grant
  new_grant g = record g { right = Write; page = Some (fresh s.pages); giver = caller; parent = None; until = None }

  abbrev with_copy : List ℕ → PageState
  with_copy bytes = record s { pages = slice_set s.pages (fresh s.pages) (Some bytes) }

  copy_is : granted (copied s own.page) receiver to (new_grant own) ≡ granted (with_copy names_page.lives.0) receiver to (new_grant has.grant)
  copy_is =
      ap (λ (g : Grant). granted (copied s g.page) receiver to (new_grant g)) has.same
      ∙ ap (λ (bytes : List ℕ). granted (with_copy bytes) receiver to (new_grant has.grant)) (ap (λ (o : Option ℕ). bytes_of s.pages (unwrap_or o 0)) names_page.names ∙ bytes_of_lives s.pages names_page.page names_page.lives.0 names_page.lives.1)

  copy_whole : fresh s.pages < length s.pages → StaysWhole s (granted (with_copy names_page.lives.0) receiver to (new_grant has.grant))
  copy_whole room =
      let bytes = names_page.lives.0 in
      let whole = copied_whole s k bytes (k.sizes names_page.page bytes names_page.lives.1) room in
      let more = granted_whole (with_copy bytes) whole receiver to (new_grant has.grant) (λ some. record { page = fresh s.pages; names = refl; lives = (bytes, set_same s.pages (fresh s.pages) (Some bytes) room) }) in
      record { named = refl; whole = more.whole }

  copy_given : mode ≡ 3 → fresh s.pages < length s.pages → IsGiven alive s (granted (copied s own.page) receiver to (new_grant own)) caller a receiver to mode
  copy_given is room = record {
    whole = subst (StaysWhole s) (sym copy_is) (copy_whole room);
    there = there;
    others = λ (apart : mode ≢ 3). absurd (apart is);
    copies = λ _. record { grant = has.grant; held = has.is; right = has.right; page = names_page.page; names = names_page.names; bytes = names_page.lives.0; holds = names_page.lives.1; room = room; is = copy_is };
  }

  given_by : (one two : Bool) → (one ≡ true → mode ≢ 3) → (two ≡ true → mode ≢ 3) → (one ≡ false → two ≡ false → mode ≡ 3) → (mode ≡ 3 → fresh s.pages < length s.pages)
      → IsGiven alive s (cond one (granted s receiver to (shared_from caller a own Read)) (cond two (granted s receiver to (shared_from caller a own Write)) (granted (copied s own.page) receiver to (new_grant own)))) caller a receiver to mode
  given_by true two first second third room = shared_given Read (first refl)
  given_by false true first second third room = shared_given Write (second refl)
  given_by false false first second third room = copy_given (third refl refl) (room (third refl refl))

pub give_whole : (alive : ℕ → Bool) (s : PageState) (caller a receiver to mode : ℕ) → ArePagesWhole s → OfDone (λ (t : PageState). IsGiven alive s t caller a receiver to mode) (give alive s caller a receiver to mode)
give_whole alive s caller a receiver to mode k =
    let P : PageState → Type 0 = λ (t : PageState). IsGiven alive s t caller a receiver to mode in
    let g = unwrap_or (entry_at s.table caller a) no_grant in
    unless_refused P (refused 12 (not (alive receiver))) _ (λ living. unless_refused P (not_page a) _ (λ _. unless_refused P (not_page to) _ (λ _.
    unless_refused P (no_right s caller a) _ (λ has. unless_refused P (refused 15 (may_not_give g mode)) _ (λ leave.
    unless_refused P (refused 16 (is_some (entry_at s.table receiver to))) _ (λ _. unless_refused P (table_full s receiver to) _ (λ _.
    unless_refused P (fifth_region s receiver to) _ (λ _. unless_refused P (no_frames s mode) (Ok (given s caller a g receiver to mode)) (λ room.
    given_by alive s k caller a receiver to mode (not_true (alive receiver) (not_refused 12 _ living)) (right_there s caller a has) (mode == 1) (mode == 2)
    (not_third 1 mode (omega arith)) (not_third 2 mode (omega arith)) (third_mode mode (not g.give) _ (not_refused 15 _ leave)) (λ third. room_there s mode third room))))))))))
