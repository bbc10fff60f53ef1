-- What was shared ends with what it was shared from: changes of tables.
use Rattle.std.proofs.Common.{◌≡◌, ◌≢◌, ◌⊎◌, inl, inr, ℕ, zero, suc, ◌-◌, ◌<◌, Bool, true, false, cond, ◌||◌, ◌==◌, List, [], ◌∷◌, Option, Some, None, refl, sym, ap, ◌∙◌, subst, arith}
use Rattle.std.specs.Prelude.{◌&&◌, slice_set, slice_index_or}
use Rattle.std.specs.Option.{option_map}
use Rattle.std.proofs.lemmas.Bool.{cases_Bool, cases_eq}
use Rattle.std.proofs.lemmas.Bool.Decides.{nat_tests}
use Rattle.std.proofs.lemmas.List.{get_or-set_other}
use Rattle.ds_policy.specs.declared.grant.Right.TheVariants.{Read}
use Rattle.ds_policy.specs.declared.grant.Grant.{Grant}
use Rattle.ds_policy.specs.declared.grant.Entry.{Entry}
use Rattle.ds_policy.specs.declared.grant.EntryPlace.{EntryPlace}
use Rattle.ds_policy.specs.Pages.{Table, entries_of, found, put, entry_at, with_entry}
use Rattle.ds_policy.specs.Families.{parent_of, is_place, comes_from, count_entries, without_entry, without_entries, cut_entry, forbid_entry}
use Rattle.ds_policy.specs.Grants.{is_some_right, forbidden_by}
use Rattle.ds_policy.specs.Ends.{is_reached, expired_table}
use Rattle.ds_promise.specs.Families.{CameOf, AllHaveOwnAddresses}
use Rattle.ds_promise.specs.Ends.{StandsAbove, EndsWithParents}
use Rattle.ds_promise.proofs.Entries.{false_is_not_true, or_first, or_second, one_grant, no_grant_found, found_put_other, handed, handed_grant, same_place, entry_same, without_left, without_gone}
use Rattle.ds_promise.proofs.Families.{however_long}
use Rattle.ds_promise.proofs.Reach.{put_there, taken_itself, taken_gone, taken_stays, revoked_itself, revoked_came, revoked_stays}
use Rattle.ds_promise.proofs.Tables.{was_another, expired_grant, expired_at}
use Rattle.ds_promise.proofs.Expiry.{has_come, not_come}
use Rattle.ds_promise.proofs.ShareEnds.{row_same}

pub some_is_none : {X : Type 0} (place : EntryPlace) → ◌≡◌ {A = Option EntryPlace} (Some place) None → X
some_is_none place e = absurd (no_such place e)
  where
    no_such : (place : EntryPlace) → ◌≡◌ {A = Option EntryPlace} (Some place) None → ⊥
    no_such place e = cc

-- A grant that is put.

row_other : (t : Table) (i a b : ℕ) (g : Grant) → b ≢ a → found (slice_index_or (slice_set t i (put (slice_index_or t i []) a g)) i []) b ≡ found (slice_index_or t i []) b
row_other [] i a b g apart = refl
row_other (row ∷ t) zero a b g apart = found_put_other row a b g apart
row_other (row ∷ t) (suc i) a b g apart = row_other t i a b g apart

put_elsewhere : (t : Table) (p a : ℕ) (g : Grant) (q b : ℕ) → (q - 1 ≢ p - 1) ⊎ (b ≢ a) → entry_at (with_entry t p a g) q b ≡ entry_at t q b
put_elsewhere t p a g q b (inl other) = ap (λ (es : List Entry). found es b) (get_or-set_other t (p - 1) (q - 1) (put (entries_of t p) a g) [] other)
put_elsewhere t p a g q b (inr apart) = elim (cases_eq (q - 1) (p - 1)) [
  | inr other ↦ ap (λ (es : List Entry). found es b) (get_or-set_other t (p - 1) (q - 1) (put (entries_of t p) a g) [] other)
  | inl is ↦ ap (λ (i : ℕ). found (slice_index_or (with_entry t p a g) i []) b) is ∙ (row_other t (p - 1) a b g apart ∙ ap (λ (i : ℕ). found (slice_index_or t i []) b) (sym is))
]

put_here : (t : Table) (p a : ℕ) (g : Grant) (q b : ℕ) (h : Grant) → q - 1 ≡ p - 1 → b ≡ a → entry_at (with_entry t p a g) q b ≡ Some h → h ≡ g
put_here t p a g q b h is same e = row_same t (p - 1) a g h (sym (entry_same (with_entry t p a g) q b p a is same) ∙ e)

-- Places.

is_it : (x p y a : ℕ) → 0 < x → 0 < p → x - 1 ≡ p - 1 → y ≡ a → (x == p && y == a) ≡ true
is_it x p y a over above is same = grind (arith, nat_tests)

not_it : (x p y a : ℕ) → (x ≢ p) ⊎ (y ≢ a) → (x == p && y == a) ≡ false
not_it x p y a (inl other) = grind (arith, nat_tests)
not_it x p y a (inr apart) = grind (arith, nat_tests)

itself : (x y : ℕ) → (x == x && y == y) ≡ true
itself x y = grind (arith, nat_tests)

-- the parent that is a place
record IsThere (p a : ℕ) (parent : Option EntryPlace) : Type 0 where
  place : EntryPlace
  is : parent ≡ Some place
  process : place.process ≡ p
  address : place.address ≡ a

parent_there : (p a : ℕ) (parent : Option EntryPlace) → is_place p a parent ≡ true → IsThere p a parent
parent_there p a None e = false_is_not_true e
parent_there p a (Some place) e = record { place = place; is = refl; process = first place.process p place.address a e; address = second place.process p place.address a e }
  where
    first : (x p y a : ℕ) → (x == p && y == a) ≡ true → x ≡ p
    first x p y a e = grind (arith, nat_tests)

    second : (x p y a : ℕ) → (x == p && y == a) ≡ true → y ≡ a
    second x p y a e = grind (arith, nat_tests)

no_right_left : (rule : ℕ) (h : Grant) → ◌≡◌ {A = Option Grant} (Some (forbidden_by rule)) (Some h) → is_some_right h.right ≡ true → ⊥
no_right_left rule h e right = false_is_not_true (subst (λ (x : Grant). is_some_right x.right ≡ true) (one_grant (forbidden_by rule) h e) right)

same_rank : (rank : ℕ → ℕ → ℕ) (x y a b : ℕ) → x ≡ y → a ≡ b → rank x a ≡ rank y b
same_rank rank x y a b e f = ap (λ (n : ℕ). rank n a) e ∙ ap (rank y) f

-- What lasts past a time.

-- what is left where rights end was there before, and its end has not come
record Lasts (time : ℕ) (o : Option Grant) (h : Grant) : Type 0 where
  old : o ≡ Some h
  lasts : is_reached time h.until ≡ false

lasting : (time : ℕ) (t : Table) (q b : ℕ) (h : Grant) → entry_at (expired_table time t) q b ≡ Some h → is_some_right h.right ≡ true → Lasts time (entry_at t q b) h
lasting time t q b h e right =
    let w = was_another (expired_grant time) (entry_at t q b) h (sym (expired_at time t q b) ∙ e) in
    by (has_come time w.old) w.old refl w.was w.is
  where
    by : (c : Bool) (old : Grant) → has_come time old ≡ c → entry_at t q b ≡ Some old → h ≡ cond c (forbidden_by old.rule) old → Lasts time (entry_at t q b) h
    by true old comes was is = false_is_not_true (subst (λ (x : Grant). is_some_right x.right ≡ true) is right)
    by false old stays was is = record { old = was ∙ ap (λ (x : Grant). Some x) (sym is); lasts = not_come time h (ap (has_come time) is ∙ stays) right }

and_false : (c d : Bool) → d ≡ false → (c && d) ≡ false
and_false true d e = e
and_false false d e = refl

module _ (t : Table) (k : EndsWithParents t) where
  -- what has a right was there before, or was shared from nothing; and a parent stays where what was shared from it does
  thinned : (u : Table)
      → ((q b : ℕ) (h : Grant) → entry_at u q b ≡ Some h → is_some_right h.right ≡ true → (entry_at t q b ≡ Some h) ⊎ (h.parent ≡ None))
      → ((q b : ℕ) (h : Grant) (place : EntryPlace) (g : Grant) → entry_at u q b ≡ Some h → is_some_right h.right ≡ true → entry_at t q b ≡ Some h → h.parent ≡ Some place → 0 < place.process
      → entry_at t place.process place.address ≡ Some g → is_some_right g.right ≡ true → g.until ≡ h.until → entry_at u place.process place.address ≡ Some g)
      → EndsWithParents u
  thinned u was stays = record {
    rank = k.rank;
    parents = λ q b h place e right from. elim (was q b h e right) [
      | inl old ↦
          let s = k.parents q b h place old right from in
          record { counted = s.counted; grant = s.grant; held = stays q b h place s.grant e right old from s.counted s.held s.right s.same; right = s.right; same = s.same; lower = s.lower }
      | inr none ↦ some_is_none place (sym from ∙ none)
    ];
  }

  pub expired_kin : (time : ℕ) → EndsWithParents (expired_table time t)
  expired_kin time = thinned (expired_table time t)
      (λ q b h e right. inl (lasting time t q b h e right).old)
      (λ q b h place g e right old from over held some same.
      expired_at time t place.process place.address ∙ (ap (option_map (expired_grant time)) held
      ∙ ap (λ (c : Bool). Some (cond c (forbidden_by g.rule) g)) (and_false (is_some_right g.right) (is_reached time g.until) (ap (is_reached time) same ∙ (lasting time t q b h e right).lasts))))

  -- Where an entry goes, or its right, with all that came of it.

  module _ (p a : ℕ) (above : 0 < p) (u : Table)
      (gone : (q b : ℕ) (h : Grant) → q - 1 ≡ p - 1 → b ≡ a → entry_at u q b ≡ Some h → is_some_right h.right ≡ true → ⊥)
      (came : (q b : ℕ) (h : Grant) → CameOf t p a q b → entry_at u q b ≡ Some h → is_some_right h.right ≡ true → ⊥)
      (others : (q b : ℕ) → (q - 1 ≢ p - 1) ⊎ (b ≢ a) → (CameOf t p a q b → ⊥) → entry_at u q b ≡ entry_at t q b) where
    came_or_not : (q b : ℕ) → CameOf t p a q b ⊎ (CameOf t p a q b → ⊥)
    came_or_not q b = by (entry_at t q b) refl
      where
        by : (o : Option Grant) → entry_at t q b ≡ o → CameOf t p a q b ⊎ (CameOf t p a q b → ⊥)
        by None none = inr (λ (c : CameOf t p a q b). no_grant_found c.grant (sym none ∙ c.held))
        by (Some g) held = elim (cases_Bool (comes_from t p a (count_entries t) g.parent)) [
          | inl comes ↦ inl (record { grant = g; held = held; steps = count_entries t; way = comes })
          | inr stays ↦ inr (λ (c : CameOf t p a q b). false_is_not_true (sym stays ∙ subst (λ (x : Grant). comes_from t p a (count_entries t) x.parent ≡ true) (one_grant g c.grant (sym held ∙ c.held)) (however_long t q b c.grant p a c.steps c.held c.way)))
        ]

    was_there : (q b : ℕ) (h : Grant) → entry_at u q b ≡ Some h → is_some_right h.right ≡ true → (entry_at t q b ≡ Some h) ⊎ (h.parent ≡ None)
    was_there q b h e right = elim (same_place q b p a) [
      | inl same ↦ absurd (gone q b h same.0 same.1 e right)
      | inr apart ↦ elim (came_or_not q b) [
        | inl comes ↦ absurd (came q b h comes e right)
        | inr other ↦ inl (sym (others q b apart other) ∙ e)
      ]
    ]

    parent_stays : (q b : ℕ) (h : Grant) (place : EntryPlace) (g : Grant) → entry_at u q b ≡ Some h → is_some_right h.right ≡ true → entry_at t q b ≡ Some h → h.parent ≡ Some place → 0 < place.process
        → entry_at t place.process place.address ≡ Some g → is_some_right g.right ≡ true → g.until ≡ h.until → entry_at u place.process place.address ≡ Some g
    parent_stays q b h place g e right old from over held some same =
        others place.process place.address away (λ (c : CameOf t p a place.process place.address). came q b h (further c) e right) ∙ held
      where
        child : is_place p a (Some place) ≡ true → CameOf t p a q b
        child here = record { grant = h; held = old; steps = 1; way = subst (λ (o : Option EntryPlace). comes_from t p a 1 o ≡ true) (sym from) (or_first (is_place p a (Some place)) false here) }

        further : CameOf t p a place.process place.address → CameOf t p a q b
        further c = record {
          grant = h;
          held = old;
          steps = suc c.steps;
          way = subst (λ (o : Option EntryPlace). comes_from t p a (suc c.steps) o ≡ true) (sym from)
              (or_second (is_place p a (Some place)) (comes_from t p a c.steps (parent_of (entry_at t place.process place.address))) (ap (λ (o : Option Grant). comes_from t p a c.steps (parent_of o)) c.held ∙ c.way));
        }

        away : (place.process - 1 ≢ p - 1) ⊎ (place.address ≢ a)
        away = elim (same_place place.process place.address p a) [
          | inl it ↦ absurd (came q b h (child (is_it place.process p place.address a over above it.0 it.1)) e right)
          | inr apart ↦ apart
        ]

    without_family : EndsWithParents u
    without_family = thinned u was_there parent_stays

  pub taken_kin : (p a : ℕ) → 0 < p → AllHaveOwnAddresses t → EndsWithParents (cut_entry t p a)
  taken_kin p a above own = without_family p a above (cut_entry t p a)
      (λ q b h is same e right. no_grant_found h (sym (entry_same (cut_entry t p a) q b p a is same ∙ taken_itself t p a) ∙ e))
      (λ q b h comes e right. no_grant_found h (sym (taken_gone t p a q b own comes) ∙ e))
      (λ q b apart other. taken_stays t p a q b apart other)

  pub revoked_kin : (p a rule : ℕ) (old : Grant) → 0 < p → entry_at t p a ≡ Some old → EndsWithParents (forbid_entry t p a (forbidden_by rule))
  revoked_kin p a rule old above there = without_family p a above (forbid_entry t p a (forbidden_by rule))
      (λ q b h is same e right. no_right_left rule h (sym (entry_same (forbid_entry t p a (forbidden_by rule)) q b p a is same ∙ revoked_itself t p a (forbidden_by rule) old there) ∙ e) right)
      (λ q b h comes e right. no_right_left rule h (sym (revoked_came t p a (forbidden_by rule) old there q b comes) ∙ e) right)
      (λ q b apart other. revoked_stays t p a (forbidden_by rule) old there q b apart other)

  -- Where an entry goes alone.

  module _ (p a : ℕ) (above : 0 < p) where
    abbrev up : Option EntryPlace
    up = parent_of (entry_at t p a)

    abbrev left : Table
    left = without_entry t p a

    still_above : (place : EntryPlace) (until : Option ℕ) (below : ℕ) → (place.process - 1 ≢ p - 1) ⊎ (place.address ≢ a) → StandsAbove t k.rank place until below → StandsAbove left k.rank place until below
    still_above place until below apart s = record {
      counted = s.counted;
      grant = handed_grant p a up s.grant;
      held = without_left t p a place.process place.address apart ∙ ap (option_map (handed_grant p a up)) s.held;
      right = s.right;
      same = s.same;
      lower = s.lower;
    }

    -- it keeps its parent
    own_parent : (q b : ℕ) (old : Grant) (place : EntryPlace) → entry_at t q b ≡ Some old → is_some_right old.right ≡ true → is_place p a old.parent ≡ false → old.parent ≡ Some place → StandsAbove left k.rank place old.until (k.rank (q - 1) b)
    own_parent q b old place was right other from =
        let s = k.parents q b old place was right from in
        still_above place old.until (k.rank (q - 1) b) (elim (same_place place.process place.address p a) [
          | inl it ↦ false_is_not_true (sym other ∙ (ap (is_place p a) from ∙ is_it place.process p place.address a s.counted above it.0 it.1))
          | inr apart ↦ apart
        ]) s

    -- or gets that of the one that goes
    next_parent : (q b : ℕ) (old : Grant) (place : EntryPlace) → entry_at t q b ≡ Some old → is_some_right old.right ≡ true → is_place p a old.parent ≡ true → up ≡ Some place → StandsAbove left k.rank place old.until (k.rank (q - 1) b)
    next_parent q b old place was right here from =
        let i = parent_there p a old.parent here in
        let s = k.parents q b old i.place was right i.is in
        let held : entry_at t p a ≡ Some s.grant = sym (entry_same t i.place.process i.place.address p a (ap (λ (n : ℕ). n - 1) i.process) i.address) ∙ s.held in
        let n = k.parents p a s.grant place held s.right (sym (ap parent_of held) ∙ from) in
        let low = n.lower in
        let lower = s.lower in
        let middle : k.rank (i.place.process - 1) i.place.address ≡ k.rank (p - 1) a = same_rank k.rank (i.place.process - 1) (p - 1) i.place.address a (ap (λ (n : ℕ). n - 1) i.process) i.address in
        still_above place old.until (k.rank (q - 1) b) (elim (same_place place.process place.address p a) [
          | inl it ↦ absurd (never (k.rank (p - 1) a) (subst (λ (r : ℕ). r < k.rank (p - 1) a) (same_rank k.rank (place.process - 1) (p - 1) place.address a it.0 it.1) low))
          | inr apart ↦ apart
        ]) (record { counted = n.counted; grant = n.grant; held = n.held; right = n.right; same = n.same ∙ s.same; lower = between (k.rank (place.process - 1) place.address) (k.rank (p - 1) a) _ (k.rank (q - 1) b) low middle lower })
      where
        never : (n : ℕ) → n < n → ⊥
        never n e = absurd (omega (arith, e))

        between : (x y z w : ℕ) → x < y → z ≡ y → z < w → x < w
        between x y z w e f g = omega (arith, e, f, g)

    either_parent : (q b : ℕ) (old : Grant) (place : EntryPlace) → entry_at t q b ≡ Some old → is_some_right old.right ≡ true → handed p a up old.parent ≡ Some place → StandsAbove left k.rank place old.until (k.rank (q - 1) b)
    either_parent q b old place was right from = elim (cases_Bool (is_place p a old.parent)) [
      | inl here ↦ next_parent q b old place was right here (subst (λ (c : Bool). cond c up old.parent ≡ Some place) here from)
      | inr other ↦ own_parent q b old place was right other (subst (λ (c : Bool). cond c up old.parent ≡ Some place) other from)
    ]

    pub dropped_kin : EndsWithParents left
    dropped_kin = record {
      rank = k.rank;
      parents = λ q b h place e right from. elim (same_place q b p a) [
        | inl same ↦ no_grant_found h (sym (entry_same left q b p a same.0 same.1 ∙ without_gone t p a p refl) ∙ e)
        | inr apart ↦
            let w = was_another (handed_grant p a up) (entry_at t q b) h (sym (without_left t p a q b apart) ∙ e) in
            subst (λ (until : Option ℕ). StandsAbove left k.rank place until (k.rank (q - 1) b)) (ap (λ (x : Grant). x.until) (sym w.is))
            (either_parent q b w.old place w.was (ap (λ (x : Grant). is_some_right x.right) (sym w.is) ∙ right) (ap (λ (x : Grant). x.parent) (sym w.is) ∙ from))
      ];
    }

  -- Where something is put.

  -- what is shared from nothing, where nothing had a right
  pub orphan_kin : (p a : ℕ) (g : Grant) → g.parent ≡ None → ((o : Grant) → entry_at t p a ≡ Some o → is_some_right o.right ≡ true → ⊥) → EndsWithParents (with_entry t p a g)
  orphan_kin p a g none free = thinned (with_entry t p a g)
      (λ q b h e right. elim (same_place q b p a) [
        | inl same ↦ inr (ap (λ (x : Grant). x.parent) (put_here t p a g q b h same.0 same.1 e) ∙ none)
        | inr apart ↦ inl (sym (put_elsewhere t p a g q b apart) ∙ e)
      ])
      (λ q b h place o e right old from over held some same. elim (same_place place.process place.address p a) [
        | inl it ↦ absurd (free o (sym (entry_same t place.process place.address p a it.0 it.1) ∙ held) some)
        | inr apart ↦ put_elsewhere t p a g place.process place.address apart ∙ held
      ])

  -- the right to read in the place of a right
  pub read_kin : (p a : ℕ) (g : Grant) → entry_at t p a ≡ Some g → is_some_right g.right ≡ true → EndsWithParents (with_entry t p a (record g { right = Read }))
  read_kin p a g held some = record {
    rank = k.rank;
    parents = λ q b h place e right from. elim (same_place q b p a) [
      | inl same ↦
          let is = put_here t p a (record g { right = Read }) q b h same.0 same.1 e in
          let s = k.parents p a g place held some (ap (λ (x : Grant). x.parent) (sym is) ∙ from) in
          subst (λ (until : Option ℕ). StandsAbove narrowed k.rank place until (k.rank (q - 1) b)) (ap (λ (x : Grant). x.until) (sym is))
          (subst (λ (r : ℕ). StandsAbove narrowed k.rank place g.until r) (ap (k.rank (p - 1)) (sym same.1) ∙ ap (λ (x : ℕ). k.rank x b) (sym same.0)) (still place g.until (k.rank (p - 1) a) s))
      | inr apart ↦ still place h.until (k.rank (q - 1) b) (k.parents q b h place (sym (put_elsewhere t p a (record g { right = Read }) q b apart) ∙ e) right from)
    ];
  }
    where
      narrowed : Table
      narrowed = with_entry t p a (record g { right = Read })

      still : (place : EntryPlace) (until : Option ℕ) (below : ℕ) → StandsAbove t k.rank place until below → StandsAbove narrowed k.rank place until below
      still place until below s = elim (same_place place.process place.address p a) [
        | inl it ↦
            let is = one_grant g s.grant (sym held ∙ (sym (entry_same t place.process place.address p a it.0 it.1) ∙ s.held)) in
            record {
              counted = s.counted;
              grant = record g { right = Read };
              held = entry_same narrowed place.process place.address p a it.0 it.1 ∙ put_there t p a (record g { right = Read }) g held;
              right = refl;
              same = ap (λ (x : Grant). x.until) (sym is) ∙ s.same;
              lower = s.lower;
            }
        | inr apart ↦ record { counted = s.counted; grant = s.grant; held = put_elsewhere t p a (record g { right = Read }) place.process place.address apart ∙ s.held; right = s.right; same = s.same; lower = s.lower }
      ]

  -- what is shared from an entry with a right, where nothing was
  module _ (c a r to : ℕ) (g new : Grant) (over : 0 < c) (held : entry_at t c a ≡ Some g) (some : is_some_right g.right ≡ true) (free : entry_at t r to ≡ None)
      (from : new.parent ≡ Some (record { process = c; address = a })) (ends : new.until ≡ g.until) where
    abbrev with_share : Table
    with_share = with_entry t r to new

    -- above all that it was shared from
    abbrev next : ℕ → ℕ → ℕ
    next i b = cond (i == r - 1 && b == to) (suc (k.rank (c - 1) a)) (k.rank i b)

    next_here : (i b : ℕ) → i ≡ r - 1 → b ≡ to → next i b ≡ suc (k.rank (c - 1) a)
    next_here i b is same = ap (λ (x : ℕ). next x b) is ∙ (ap (next (r - 1)) same ∙ ap (λ (x : Bool). cond x (suc (k.rank (c - 1) a)) (k.rank (r - 1) to)) (itself (r - 1) to))

    next_else : (i b : ℕ) → (i ≢ r - 1) ⊎ (b ≢ to) → next i b ≡ k.rank i b
    next_else i b apart = ap (λ (x : Bool). cond x (suc (k.rank (c - 1) a)) (k.rank i b)) (not_it i (r - 1) b to apart)

    away : (x y : ℕ) (h : Grant) → entry_at t x y ≡ Some h → (x - 1 ≢ r - 1) ⊎ (y ≢ to)
    away x y h there = elim (same_place x y r to) [
      | inl it ↦ no_grant_found h (sym free ∙ (sym (entry_same t x y r to it.0 it.1) ∙ there))
      | inr apart ↦ apart
    ]

    place_of : (place : EntryPlace) → ◌≡◌ {A = Option EntryPlace} (Some (record { process = c; address = a })) (Some place) → (place.process ≡ c) × (place.address ≡ a)
    place_of place e = (first place e, second place e)
      where
        first : (place : EntryPlace) → ◌≡◌ {A = Option EntryPlace} (Some (record { process = c; address = a })) (Some place) → place.process ≡ c
        first place e = cc

        second : (place : EntryPlace) → ◌≡◌ {A = Option EntryPlace} (Some (record { process = c; address = a })) (Some place) → place.address ≡ a
        second place e = cc

    less : (x y z : ℕ) → x ≡ y → z ≡ suc y → x < z
    less x y z e f = omega (arith, e, f)

    moved : (x y z w : ℕ) → x ≡ y → z ≡ w → y < w → x < z
    moved x y z w e f l = omega (arith, e, f, l)

    pub shared_kin : EndsWithParents with_share
    shared_kin = record {
      rank = next;
      parents = λ q b h place e right above. elim (same_place q b r to) [
        | inl same ↦
            let is = put_here t r to new q b h same.0 same.1 e in
            let at = place_of place (sym from ∙ (ap (λ (x : Grant). x.parent) (sym is) ∙ above)) in
            let there : entry_at t place.process place.address ≡ Some g = entry_same t place.process place.address c a (ap (λ (n : ℕ). n - 1) at.0) at.1 ∙ held in
            let apart = away place.process place.address g there in
            record {
              counted = subst (λ (n : ℕ). 0 < n) (sym at.0) over;
              grant = g;
              held = put_elsewhere t r to new place.process place.address apart ∙ there;
              right = some;
              same = sym ends ∙ ap (λ (x : Grant). x.until) (sym is);
              lower = less _ (k.rank (c - 1) a) _ (next_else (place.process - 1) place.address apart ∙ (ap (λ (n : ℕ). k.rank (n - 1) place.address) at.0 ∙ ap (k.rank (c - 1)) at.1)) (next_here (q - 1) b same.0 same.1);
            }
        | inr other ↦
            let s = k.parents q b h place (sym (put_elsewhere t r to new q b other) ∙ e) right above in
            let apart = away place.process place.address s.grant s.held in
            record {
              counted = s.counted;
              grant = s.grant;
              held = put_elsewhere t r to new place.process place.address apart ∙ s.held;
              right = s.right;
              same = s.same;
              lower = moved _ (k.rank (place.process - 1) place.address) _ (k.rank (q - 1) b) (next_else (place.process - 1) place.address apart) (next_else (q - 1) b other) s.lower;
            }
      ];
    }

  -- What came of an entry.

  -- however long the way, it ends with that entry
  came_ends : (p a n : ℕ) (g : Grant) → entry_at t p a ≡ Some g → (q b : ℕ) (h : Grant) → entry_at t q b ≡ Some h → is_some_right h.right ≡ true → comes_from t p a n h.parent ≡ true → h.until ≡ g.until
  came_ends p a zero g there q b h held right way = false_is_not_true way
  came_ends p a (suc n) g there q b h held right way = by h.parent refl way (came_ends p a n g there)
    where
      at_place : (place other : EntryPlace) → ◌≡◌ {A = Option EntryPlace} (Some place) (Some other) → other.process ≡ p → other.address ≡ a → entry_at t place.process place.address ≡ entry_at t p a
      at_place place other e is same = entry_same t place.process place.address p a (ap (λ (n : ℕ). n - 1) (one place other e ∙ is)) (two place other e ∙ same)
        where
          one : (x y : EntryPlace) → ◌≡◌ {A = Option EntryPlace} (Some x) (Some y) → x.process ≡ y.process
          one x y e = cc

          two : (x y : EntryPlace) → ◌≡◌ {A = Option EntryPlace} (Some x) (Some y) → x.address ≡ y.address
          two x y e = cc

      by : (parent : Option EntryPlace) → h.parent ≡ parent → comes_from t p a (suc n) parent ≡ true
          → ((r c : ℕ) (o : Grant) → entry_at t r c ≡ Some o → is_some_right o.right ≡ true → comes_from t p a n o.parent ≡ true → o.until ≡ g.until) → h.until ≡ g.until
      by None none way above = false_is_not_true way
      by (Some place) from way above =
          let s = k.parents q b h place held right from in
          elim (cases_Bool (is_place p a (Some place))) [
            | inl here ↦
                let i = parent_there p a (Some place) here in
                sym s.same ∙ ap (λ (x : Grant). x.until) (one_grant g s.grant (sym there ∙ (sym (at_place place i.place i.is i.process i.address) ∙ s.held)))
            | inr on ↦ sym s.same ∙ above place.process place.address s.grant s.held s.right
                (sym (ap (λ (o : Option Grant). comes_from t p a n (parent_of o)) s.held) ∙ subst (λ (c : Bool). (c || comes_from t p a n (parent_of (entry_at t place.process place.address))) ≡ true) on way)
          ]

  pub came_of_ends : (p a q b : ℕ) (g h : Grant) → CameOf t p a q b → entry_at t p a ≡ Some g → entry_at t q b ≡ Some h → is_some_right h.right ≡ true → h.until ≡ g.until
  came_of_ends p a q b g h c there held right =
      came_ends p a c.steps g there q b h held right (subst (λ (x : Grant). comes_from t p a c.steps x.parent ≡ true) (one_grant h c.grant (sym held ∙ c.held)) c.way)

-- the entries of a process go one after the other
pub ended_kin : (p : ℕ) (es : List Entry) (t : Table) → 0 < p → EndsWithParents t → EndsWithParents (without_entries t p es)
ended_kin p [] t above k = k
ended_kin p (e ∷ rest) t above k = ended_kin p rest (without_entry t p e.address) above (dropped_kin t k p e.address above)
