-- A process that is alone does in any run what it does alone.
use Rattle.std.proofs.Common.{◌≡◌, ◌≢◌, ℕ, zero, suc, Bool, true, false, cond, not, ◌||◌, ◌==◌, List, [], ◌∷◌, ◌++◌, length, Option, Some, None, refl, sym, ap, ap₂, ◌∙◌, subst, arith, inl, inr}
use Rattle.std.specs.Prelude.{◌&&◌, is_some}
use Rattle.std.specs.List.{All}
use Rattle.std.proofs.lemmas.Bool.{cases_Bool}
use Rattle.std.proofs.lemmas.Bool.Decides.{nat_tests}
use Rattle.std.proofs.lemmas.List.Elements.{All-head}
use Rattle.ds_procs.specs.declared.process.Standing.TheVariants.{Ready}
use Rattle.ds_pagemap.specs.declared.turn.Turn.{Turn}
use Rattle.ds_pagemap.specs.Machine.{State, process_of, first}
use Rattle.ds_pagemap.specs.Unit.{unit}
use Rattle.ds_pagemap.specs.Boundary.{is_first}
use Rattle.ds_pagemap.specs.Run.{half_turn, goes_on, go}
use Rattle.ds_pagemap_laws.specs.Lawful.{IsReady, IsLawful}
use Rattle.ds_pagemap_laws.proofs.LawfulRuns.{half_lawful}
use Rattle.ds_promise.proofs.Entries.{false_is_not_true}
use Rattle.ds_promise.proofs.WholeStates.{half_whole}
use Rattle.ds_alone.specs.Alone.{IsAlone, StandsAlone, unit_gives, is_given_nothing, NothingWaits, SeemsAlike}
use Rattle.ds_alone.specs.Deeds.{Deed, deed, runs, deeds, only, is_ready, deeds_alone, next_asks_nothing, asks_nothing_alone}
use Rattle.ds_alone.proofs.Silence.{waits_by}
use Rattle.ds_alone.proofs.Units.{unit_seems, deed_alike, fine_step, waits_only, waits_next, asks_too}
use Rattle.ds_alone.proofs.Turns.{half_is_unit, half_is_boundary, left_seems, LeavesIt, other_unit, idle_unit, a_boundary}
use Rattle.ds_alone.proofs.Mine.{own_unit}

-- Who runs next.

pub owed_by : (listens : Bool) (p : ℕ) (m : State) (o : Option Turn) → m.owed ≡ o → (is_some m.owed || not (unit_gives m m.ready p)) ≡ true → runs p m ≡ false → StandsAlone listens p m → LeavesIt listens p m (half_turn false m)
owed_by listens p m (Some turn) is given other k = subst (LeavesIt listens p m) (sym (half_is_boundary m turn is)) (a_boundary listens p m turn k.alone k.whole k.lawful is)
owed_by listens p m None is given other k = subst (LeavesIt listens p m) (sym (half_is_unit m is)) (ready_by m.ready refl)
  where
    nothing : (ready : List ℕ) → m.ready ≡ ready → unit_gives m ready p ≡ false
    nothing ready here = not_so (unit_gives m ready p) (subst (λ (o : Option Turn). (is_some o || not (unit_gives m ready p)) ≡ true) is (subst (λ (r : List ℕ). (is_some m.owed || not (unit_gives m r p)) ≡ true) here given))
      where
        not_so : (b : Bool) → not b ≡ true → b ≡ false
        not_so true e = false_is_not_true e
        not_so false e = refl

    another : (q : ℕ) (rest : List ℕ) → m.ready ≡ q ∷ rest → p ≢ q
    another q rest here = λ (e : ◌≡◌ {A = ℕ} p q). no_run q p (sym e) (subst (λ (r : List ℕ). is_first (first r) p ≡ false) here (subst (λ (o : Option Turn). (not (is_some o) && is_first (first m.ready) p) ≡ false) is other))
      where
        no_run : (q p : ℕ) → q ≡ p → (q == p) ≡ false → ⊥
        no_run q p e f = absurd (grind (arith, nat_tests))

    ready_by : (ready : List ℕ) → m.ready ≡ ready → LeavesIt listens p m (unit m)
    ready_by [] here = idle_unit listens p m k.alone k.whole is here
    ready_by (q ∷ rest) here =
        let i : IsReady m q = All-head (IsReady m) q rest (subst (All (IsReady m)) here k.lawful.formed.ready) in
        other_unit listens p q (another q rest here) m rest k.alone k.whole is here i.0 i.1 (nothing (q ∷ rest) here)

-- it runs where no boundary is owed and it is the first of those that are ready
pub record RunsNext (p : ℕ) (m : State) : Type 0 where
  pub none : m.owed ≡ None
  pub rest : List ℕ
  pub here : m.ready ≡ p ∷ rest

pub runs_next : (p : ℕ) (m : State) → runs p m ≡ true → RunsNext p m
runs_next p m e = by m.owed refl
  where
    front : (ready : List ℕ) → m.ready ≡ ready → m.owed ≡ None → is_first (first ready) p ≡ true → RunsNext p m
    front [] here none f = false_is_not_true f
    front (q ∷ rest) here none f = record { none = none; rest = rest; here = here ∙ ap (λ (n : ℕ). n ∷ rest) (one q p f) }
      where
        one : (q p : ℕ) → (q == p) ≡ true → q ≡ p
        one q p e = grind (arith, nat_tests)

    by : (o : Option Turn) → m.owed ≡ o → RunsNext p m
    by None none = front m.ready refl none (subst (λ (o : Option Turn). (not (is_some o) && is_first (first m.ready) p) ≡ true) none e)
    by (Some turn) is = false_is_not_true (subst (λ (o : Option Turn). (not (is_some o) && is_first (first m.ready) p) ≡ true) is e)

-- who runs is ready
pub ready_there : (p : ℕ) (m : State) (rest : List ℕ) → IsLawful m → m.ready ≡ p ∷ rest → (process_of m p).standing ≡ Ready
ready_there p m rest k here = let i : IsReady m p = All-head (IsReady m) p rest (subst (All (IsReady m)) here k.formed.ready) in i.2

-- The run.

both : (a b : Bool) → (a && b) ≡ true → (a ≡ true) × (b ≡ true)
both true b e = (refl, e)
both false b e = false_is_not_true e

pub when_on : (on fine : Bool) → (not on || fine) ≡ true → on ≡ true → fine ≡ true
when_on true fine e is = e
when_on false fine e is = false_is_not_true is

-- what it does in a run is so much of what it does alone
abbrev IsAsAlone : ℕ → List Deed → State → Type 0
IsAsAlone p ds t = ds ≡ deeds_alone p (length ds) t

carried : (p : ℕ) (xs ys : List Deed) (t : State) → xs ≡ ys → IsAsAlone p ys t → IsAsAlone p xs t
carried p xs ys t e k = subst (λ (zs : List Deed). zs ≡ deeds_alone p (length zs) t) (sym e) k

pub if_ready : (b : Bool) (xs : List Deed) → b ≡ true → xs ≡ cond b xs []
if_ready true xs e = refl
if_ready false xs e = false_is_not_true e

-- the law for so many half turns
abbrev Law : Bool → ℕ → ℕ → ℕ → Type 0
Law listens p n k = (t m : State) → SeemsAlike p t m → NothingWaits listens p t → StandsAlone listens p m → is_given_nothing p n k m ≡ true → ((j : ℕ) → asks_nothing_alone listens p j t ≡ true) → IsAsAlone p (deeds p n k m) t

-- and for one more
one_more : (listens : Bool) (p n k : ℕ) → Law listens p n k → Law listens p n (suc k)
one_more listens p n k law t m s none st given asks = by (goes_on n m) refl
  where
    parts : ((not (goes_on n m) || (is_some m.owed || not (unit_gives m m.ready p))) ≡ true) × (is_given_nothing p n k (go n false m) ≡ true)
    parts = both (not (goes_on n m) || (is_some m.owed || not (unit_gives m m.ready p))) (is_given_nothing p n k (go n false m)) given

    turned : goes_on n m ≡ true → go n false m ≡ half_turn false m
    turned on = ap (λ (b : Bool). cond b (half_turn false m) m) on

    rest_given : goes_on n m ≡ true → is_given_nothing p n k (half_turn false m) ≡ true
    rest_given on = ap (is_given_nothing p n k) (sym (turned on)) ∙ parts.1

    next : StandsAlone listens p m → IsAlone listens p (half_turn false m) → StandsAlone listens p (half_turn false m)
    next x a = record { lawful = half_lawful false m x.lawful; whole = half_whole false m x.whole; alone = a }

    own_turn : goes_on n m ≡ true → runs p m ≡ true → IsAsAlone p (deeds p n (suc k) m) t
    own_turn on mine =
        let r = runs_next p m mine in
        let ready = ready_there p m r.rest st.lawful r.here in
        let stands : is_ready (process_of t p).standing ≡ true = ap is_ready (s.standing ∙ ready) in
        let f = fine_step (is_ready (process_of t p).standing) (next_asks_nothing listens p (only p t)) (asks_nothing_alone listens p zero (unit (only p t))) (asks 1) stands in
        let o : SeemsAlike p (only p t) m = record {
          look = record { above = s.look.above; here = s.look.here; there = s.look.there; registers = s.look.registers; pc = s.look.pc; entries = s.look.entries; pages = s.look.pages; room = s.look.room };
          standing = s.standing;
        } in
        let here = waits_by listens p m st.alone.hears in
        let same : deed p m ≡ deed p (only p t) = sym (deed_alike listens p (only p t) m [] r.rest o refl r.here f.0 (waits_only listens p t none) here) in
        let after : SeemsAlike p (unit (only p t)) (unit m) = unit_seems listens p (only p t) m [] r.rest o refl r.here f.0 (waits_only listens p t none) here in
        let is = half_is_unit m r.none in
        let asks_here : next_asks_nothing listens p m ≡ true = asks_too listens m (only p t) p o f.0 in
        let alone : IsAlone listens p (unit m) = own_unit listens p m r.rest st.alone st.whole r.here asks_here in
        let ih = law (unit (only p t)) (half_turn false m) (subst (SeemsAlike p (unit (only p t))) (sym is) after) (waits_next listens p t s.look.above s.look.here none) (next st (subst (IsAlone listens p) (sym is) alone)) (rest_given on)
        (λ j. (fine_step (is_ready (process_of t p).standing) (next_asks_nothing listens p (only p t)) (asks_nothing_alone listens p j (unit (only p t))) (asks (suc j)) stands).1) in
        let ds = deeds p n k (half_turn false m) in
        carried p (deeds p n (suc k) m) (deed p m ∷ ds) t
        (ap₂ (λ (a b : Bool). cond (a && b) (deed p m ∷ []) [] ++ deeds p n k (go n false m)) on mine ∙ ap (λ (x : State). deed p m ∷ deeds p n k x) (turned on))
        (ap₂ (λ (d : Deed) (es : List Deed). d ∷ es) same ih ∙ if_ready (is_ready (process_of t p).standing) (deed p (only p t) ∷ deeds_alone p (length ds) (unit (only p t))) stands)

    other_turn : goes_on n m ≡ true → runs p m ≡ false → IsAsAlone p (deeds p n (suc k) m) t
    other_turn on other =
        let l = owed_by listens p m m.owed refl (when_on (goes_on n m) _ parts.0 on) other st in
        let ih = law t (half_turn false m) (left_seems p t m (half_turn false m) l.left s) none (next st l.alone) (rest_given on) asks in
        carried p (deeds p n (suc k) m) (deeds p n k (half_turn false m)) t
        (ap₂ (λ (a b : Bool). cond (a && b) (deed p m ∷ []) [] ++ deeds p n k (go n false m)) on other ∙ ap (deeds p n k) (turned on)) ih

    over : goes_on n m ≡ false → IsAsAlone p (deeds p n (suc k) m) t
    over off =
        let still : go n false m ≡ m = ap (λ (b : Bool). cond b (half_turn false m) m) off in
        let ih = law t m s none st (ap (is_given_nothing p n k) (sym still) ∙ parts.1) asks in
        carried p (deeds p n (suc k) m) (deeds p n k m) t
        (ap (λ (a : Bool). cond (a && runs p m) (deed p m ∷ []) [] ++ deeds p n k (go n false m)) off ∙ ap (deeds p n k) still) ih

    by : (on : Bool) → goes_on n m ≡ on → IsAsAlone p (deeds p n (suc k) m) t
    by true on = elim (cases_Bool (runs p m)) [
      | inl mine ↦ own_turn on mine
      | inr other ↦ other_turn on other
    ]
    by false off = over off

pub as_alone : (listens : Bool) (p n k : ℕ) (t m : State) → SeemsAlike p t m → NothingWaits listens p t → StandsAlone listens p m → is_given_nothing p n k m ≡ true → ((j : ℕ) → asks_nothing_alone listens p j t ≡ true) → deeds p n k m ≡ deeds_alone p (length (deeds p n k m)) t
as_alone listens p n zero t m s none k given asks = refl
as_alone listens p n (suc k) t m s none st given asks = one_more listens p n k (as_alone listens p n k) t m s none st given asks
