-- A quiet process that is alone does in each run what it does alone, whatever is touched.
use Rattle.std.proofs.Common.{◌≡◌, ℕ, zero, suc, ◌≤◌, Bool, true, false, cond, not, ◌||◌, List, [], ◌∷◌, ◌++◌, map, length, Option, refl, sym, ap, ap₂, ◌∙◌, subst, arith, inl, inr}
use Rattle.std.specs.Prelude.{◌&&◌, is_some}
use Rattle.std.proofs.lemmas.Bool.{cases_Bool}
use Rattle.ds_pagemap.specs.declared.turn.Turn.{Turn}
use Rattle.ds_pagemap.specs.Machine.{State, Process, process_of, first, touched}
use Rattle.ds_pagemap.specs.Unit.{unit}
use Rattle.ds_pagemap.specs.Boundary.{is_first}
use Rattle.ds_pagemap.specs.Run.{half_turn, goes_on, go}
use Rattle.ds_pagemap.proofs.Processes.{process_of-with_process}
use Rattle.ds_pagemap_laws.proofs.LawfulRuns.{half_lawful}
use Rattle.ds_promise.proofs.Entries.{false_is_not_true}
use Rattle.ds_promise.proofs.WholeStates.{half_whole}
use Rattle.ds_promise.specs.Alike.{AreAlike}
use Rattle.ds_promise.specs.Quiet.{quiet_first}
use Rattle.ds_promise.proofs.Inputs.{have_registers}
use Rattle.ds_alone.specs.Alone.{IsAlone, StandsAlone, unit_gives, NothingWaits, SeemsAlike}
use Rattle.ds_alone.specs.Deeds.{deed, runs, only, is_ready, deeds_alone, next_asks_nothing, asks_nothing_alone}
use Rattle.ds_alone.specs.Touched.{Doing, doing, doings, is_given_nothing_by, quiet_alone}
use Rattle.ds_alone.proofs.Silence.{waits_by, waits_too}
use Rattle.ds_alone.proofs.Units.{unit_seems, deed_alike, fine_step, waits_only, waits_next, asks_too}
use Rattle.ds_alone.proofs.Turns.{half_is_unit, IsLeft}
use Rattle.ds_alone.proofs.Mine.{own_unit}
use Rattle.ds_alone.proofs.Runs.{owed_by, runs_next, ready_there, when_on, if_ready}
use Rattle.ds_alone.proofs.Touched.{SeemsTouched, untouched, untouched_seems, untouched_twins, from_twin, touches, touch_seems, touch_stands, half_touch, first_same, unit_twins, asks_same, doing_same}

-- what others leave still seems touched only
left_touched : (p : ℕ) (t m s : State) → IsLeft p m s → SeemsTouched p t m → SeemsTouched p t s
left_touched p t m s l k = record {
  above = k.above;
  here = k.here;
  there = more l.many k.there;
  registers = subst (λ (q : Process). AreAlike (process_of t p).registers q.registers) (sym l.process) k.registers;
  pc = k.pc ∙ ap (λ (q : Process). q.pc) (sym l.process);
  standing = k.standing ∙ ap (λ (q : Process). q.standing) (sym l.process);
  entries = λ a. k.entries a ∙ sym (l.entries a);
  pages = λ a page g held right names. k.pages a page g held right names ∙ sym (l.pages a page g (sym (k.entries a) ∙ held) right names);
  room = k.room ∙ sym l.room;
}
  where
    more : length s.processes ≡ length m.processes → p ≤ length m.processes → p ≤ length s.processes
    more e within = omega (arith, e, within)

both : (a b : Bool) → (a && b) ≡ true → (a ≡ true) × (b ≡ true)
both true b e = (refl, e)
both false b e = false_is_not_true e

-- what it does in a run is so much of what it does alone
abbrev IsAsAlone : ℕ → List Doing → State → Type 0
IsAsAlone p ds t = ds ≡ map doing (deeds_alone p (length ds) t)

carried : (p : ℕ) (xs ys : List Doing) (t : State) → xs ≡ ys → IsAsAlone p ys t → IsAsAlone p xs t
carried p xs ys t e k = subst (λ (zs : List Doing). zs ≡ map doing (deeds_alone p (length zs) t)) (sym e) k

-- the law for these choices
abbrev Law : Bool → ℕ → ℕ → List Bool → Type 0
Law listens p n choices = (t m : State) → SeemsTouched p t m → NothingWaits listens p t → StandsAlone listens p m → is_given_nothing_by p n choices m ≡ true → ((j : ℕ) → asks_nothing_alone listens p j t ≡ true) → ((j : ℕ) → quiet_alone p j t ≡ true) → IsAsAlone p (doings p n choices m) t

-- and for one more
one_more : (listens : Bool) (p n : ℕ) (b : Bool) (choices : List Bool) → Law listens p n choices → Law listens p n (b ∷ choices)
one_more listens p n b choices law t m s none st given asks quiet = by (goes_on n m) refl
  where
    m1 : State
    m1 = touched b m

    s1 : SeemsTouched p t m1
    s1 = touch_seems p m m1 (touches p b m) t s

    st1 : StandsAlone listens p m1
    st1 = touch_stands listens p b m st

    parts : ((not (goes_on n m) || (is_some m.owed || not (unit_gives m1 m.ready p))) ≡ true) × (is_given_nothing_by p n choices (go n b m) ≡ true)
    parts = both (not (goes_on n m) || (is_some m.owed || not (unit_gives m1 m.ready p))) (is_given_nothing_by p n choices (go n b m)) given

    turned : goes_on n m ≡ true → go n b m ≡ half_turn false m1
    turned on = ap (λ (c : Bool). cond c (half_turn b m) m) on ∙ half_touch b m

    rest_given : goes_on n m ≡ true → is_given_nothing_by p n choices (half_turn false m1) ≡ true
    rest_given on = ap (is_given_nothing_by p n choices) (sym (turned on)) ∙ parts.1

    next : IsAlone listens p (half_turn false m1) → StandsAlone listens p (half_turn false m1)
    next a = record { lawful = half_lawful false m1 st1.lawful; whole = half_whole false m1 st1.whole; alone = a }

    same_runs : runs p m1 ≡ runs p m
    same_runs = let x = touches p b m in ap₂ (λ (o : Option Turn) (ready : List ℕ). not (is_some o) && is_first (first ready) p) x.owed x.ready

    given_here : goes_on n m ≡ true → (is_some m1.owed || not (unit_gives m1 m1.ready p)) ≡ true
    given_here on =
        let x = touches p b m in
        ap₂ (λ (o : Option Turn) (ready : List ℕ). is_some o || not (unit_gives m1 ready p)) x.owed x.ready ∙ when_on (goes_on n m) _ parts.0 on

    own_turn : goes_on n m ≡ true → runs p m ≡ true → IsAsAlone p (doings p n (b ∷ choices) m) t
    own_turn on mine =
        let r = runs_next p m1 (same_runs ∙ mine) in
        let ready = ready_there p m1 r.rest st1.lawful r.here in
        let stands : is_ready (process_of t p).standing ≡ true = ap is_ready (s1.standing ∙ ready) in
        let f = fine_step (is_ready (process_of t p).standing) (next_asks_nothing listens p (only p t)) (asks_nothing_alone listens p zero (unit (only p t))) (asks 1) stands in
        let q = fine_step (is_ready (process_of t p).standing) (quiet_first (only p t) (p ∷ [])) (quiet_alone p zero (unit (only p t))) (quiet 1) stands in
        let x = untouched p t m1 in
        let seems = untouched_seems p t m1 s1 in
        let o : SeemsAlike p (only p t) x = record {
          look = record { above = seems.look.above; here = seems.look.here; there = seems.look.there; registers = seems.look.registers; pc = seems.look.pc; entries = seems.look.entries; pages = seems.look.pages; room = seems.look.room };
          standing = seems.standing;
        } in
        let twins = untouched_twins p t m1 (have_registers m1 st1.lawful) s1 in
        let quiet_here : quiet_first x (p ∷ r.rest) ≡ true = sym (first_same p (only p t) x [] r.rest o.look) ∙ q.0 in
        let line : (process_of x p).line ≡ (process_of m1 p).line = ap (λ (q : Process). q.line) (process_of-with_process m1 p (record (process_of m1 p) { registers = (process_of t p).registers }) s1.above s1.there) in
        let none_x = waits_too listens p m1 x line refl (waits_by listens p m1 st1.alone.hears) in
        let none_t = waits_only listens p t none in
        let asks_x : next_asks_nothing listens p x ≡ true = asks_too listens x (only p t) p o f.0 in
        let asks_m : next_asks_nothing listens p m1 ≡ true = sym (asks_same p x m1.processes r.rest twins r.here quiet_here listens) ∙ asks_x in
        let same : doing (deed p m1) ≡ doing (deed p (only p t)) =
        sym (doing_same p x m1.processes r.rest twins r.here quiet_here) ∙ ap doing (sym (deed_alike listens p (only p t) x [] r.rest o refl r.here f.0 none_t none_x)) in
        let after : SeemsTouched p (unit (only p t)) (unit m1) =
        from_twin p (unit (only p t)) (unit x) (unit m1) (unit_seems listens p (only p t) x [] r.rest o refl r.here f.0 none_t none_x) (unit_twins p x m1.processes r.rest twins r.here quiet_here) in
        let is = half_is_unit m1 r.none in
        let alone : IsAlone listens p (unit m1) = own_unit listens p m1 r.rest st1.alone st1.whole r.here asks_m in
        let ih = law (unit (only p t)) (half_turn false m1) (subst (SeemsTouched p (unit (only p t))) (sym is) after) (waits_next listens p t s1.above s1.here none) (next (subst (IsAlone listens p) (sym is) alone)) (rest_given on)
        (λ j. (fine_step (is_ready (process_of t p).standing) (next_asks_nothing listens p (only p t)) (asks_nothing_alone listens p j (unit (only p t))) (asks (suc j)) stands).1)
        (λ j. (fine_step (is_ready (process_of t p).standing) (quiet_first (only p t) (p ∷ [])) (quiet_alone p j (unit (only p t))) (quiet (suc j)) stands).1) in
        let ds = doings p n choices (half_turn false m1) in
        carried p (doings p n (b ∷ choices) m) (doing (deed p m1) ∷ ds) t
        (ap₂ (λ (a c : Bool). cond (a && c) (doing (deed p m1) ∷ []) [] ++ doings p n choices (go n b m)) on mine ∙ ap (λ (y : State). doing (deed p m1) ∷ doings p n choices y) (turned on))
        (ap₂ (λ (d : Doing) (es : List Doing). d ∷ es) same ih ∙ ap (map doing) (if_ready (is_ready (process_of t p).standing) (deed p (only p t) ∷ deeds_alone p (length ds) (unit (only p t))) stands))

    other_turn : goes_on n m ≡ true → runs p m ≡ false → IsAsAlone p (doings p n (b ∷ choices) m) t
    other_turn on other =
        let l = owed_by listens p m1 m1.owed refl (given_here on) (same_runs ∙ other) st1 in
        let ih = law t (half_turn false m1) (left_touched p t m1 (half_turn false m1) l.left s1) none (next l.alone) (rest_given on) asks quiet in
        carried p (doings p n (b ∷ choices) m) (doings p n choices (half_turn false m1)) t
        (ap₂ (λ (a c : Bool). cond (a && c) (doing (deed p m1) ∷ []) [] ++ doings p n choices (go n b m)) on other ∙ ap (doings p n choices) (turned on)) ih

    over : goes_on n m ≡ false → IsAsAlone p (doings p n (b ∷ choices) m) t
    over off =
        let still : go n b m ≡ m = ap (λ (c : Bool). cond c (half_turn b m) m) off in
        let ih = law t m s none st (ap (is_given_nothing_by p n choices) (sym still) ∙ parts.1) asks quiet in
        carried p (doings p n (b ∷ choices) m) (doings p n choices m) t
        (ap (λ (a : Bool). cond (a && runs p m) (doing (deed p m1) ∷ []) [] ++ doings p n choices (go n b m)) off ∙ ap (doings p n choices) still) ih

    by : (on : Bool) → goes_on n m ≡ on → IsAsAlone p (doings p n (b ∷ choices) m) t
    by true on = elim (cases_Bool (runs p m)) [
      | inl mine ↦ own_turn on mine
      | inr other ↦ other_turn on other
    ]
    by false off = over off

pub as_alone_by : (listens : Bool) (p n : ℕ) (choices : List Bool) (t m : State) → SeemsTouched p t m → NothingWaits listens p t → StandsAlone listens p m → is_given_nothing_by p n choices m ≡ true
    → ((j : ℕ) → asks_nothing_alone listens p j t ≡ true) → ((j : ℕ) → quiet_alone p j t ≡ true)
    → doings p n choices m ≡ map doing (deeds_alone p (length (doings p n choices m)) t)
as_alone_by listens p n [] t m s none k given asks quiet = refl
as_alone_by listens p n (b ∷ choices) t m s none k given asks quiet = one_more listens p n b choices (as_alone_by listens p n choices) t m s none k given asks quiet
