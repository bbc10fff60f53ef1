-- What the users of two runs can see of a process that is alone.
use Rattle.std.proofs.Common.{◌≡◌, ◌⊎◌, ℕ, ◌≤◌, Bool, true, false, cond, not, ◌||◌, List, [], ◌∷◌, ◌++◌, map, reverse, length, Option, refl, sym, ap, ap₂, ◌∙◌, subst, arith, inl, inr, append-nil}
use Rattle.std.specs.Prelude.{◌&&◌, is_some}
use Rattle.std.specs.List.{list_all}
use Rattle.std.proofs.lemmas.Bool.{cases_lt}
use Rattle.std.proofs.lemmas.Grind.{flat_map-append}
use Rattle.std.proofs.lemmas.List.{map-append, append_assoc, reverse-append}
use Rattle.ds_policy.specs.declared.grant.Entry.{Entry}
use Rattle.ds_policy.specs.Grants.{PageState}
use Rattle.ds_pagemap.specs.declared.turn.Turn.{Turn}
use Rattle.ds_pagemap.specs.Boundary.{is_first}
use Rattle.ds_pagemap.specs.Machine.{State, process_of, first, touched_process, touch_first, touched}
use Rattle.ds_pagemap.specs.Unit.{instruction}
use Rattle.ds_pagemap.specs.Run.{half_turn, goes_on, go, after}
use Rattle.ds_pagemap_laws.specs.Lawful.{IsLawful}
use Rattle.ds_pagemap_laws.proofs.LawfulRuns.{half_lawful}
use Rattle.ds_pagemap_laws.proofs.LawfulUnits.{touched_lawful}
use Rattle.ds_promise.specs.Whole.{HasWholePages}
use Rattle.ds_promise.proofs.Entries.{false_is_not_true}
use Rattle.ds_promise.proofs.Placed.{AllPlaced}
use Rattle.ds_promise.proofs.WholeStates.{half_whole, touched_whole}
use Rattle.ds_alone.specs.Alone.{StandsAlone, unit_gives, SeemsAlike}
use Rattle.ds_alone.specs.Deeds.{Deed, deed, runs, deeds_alone, AsksNothing, puts_of, IsFront}
use Rattle.ds_alone.specs.Touched.{Doing, doing, doings, is_given_nothing_by, IsQuietAlone, puts_by}
use Rattle.ds_alone.specs.Tests.{nobody_may_give}
use Rattle.ds_alone.specs.Consoles.{HasOwnLine, console_of}
use Rattle.ds_alone.proofs.Units.{alone_alike}
use Rattle.ds_alone.proofs.Fronts.{alone_front}
use Rattle.ds_alone.proofs.Tests.{both}
use Rattle.ds_alone.proofs.Given.{Stingy, AllStingy, NobodyGives, half_keeps, rows_stingy, unit_is_stingy}
use Rattle.ds_alone.proofs.Consoles.{Prints, silent_prints, half_prints, own_puts}
use Rattle.ds_alone.proofs.Lines.{Silent, put_silent, still}
use Rattle.ds_alone.proofs.Silence.{waits_by}
use Rattle.ds_alone.proofs.Touched.{touches, half_touch, touched_from}
use Rattle.ds_alone.proofs.Choices.{as_alone_by}

-- Fronts.

-- one of two lists is a front of the other
front_of_doings : (xs ys : List Deed) → IsFront xs ys → IsFront (map doing xs) (map doing ys)
front_of_doings xs ys f = record { more = map doing f.more; is = ap (map doing) f.is ∙ map-append doing xs f.more }

pub front_of_puts : (xs ys : List Doing) → IsFront xs ys → IsFront (puts_by xs) (puts_by ys)
front_of_puts xs ys f = record { more = puts_by f.more; is = ap puts_by f.is ∙ flat_map-append (λ (d : Doing). d.puts) xs f.more }

pub run_by : (listens : Bool) (p n : ℕ) (choices : List Bool) (m : State) → StandsAlone listens p m → AsksNothing listens p m → IsQuietAlone p m → is_given_nothing_by p n choices m ≡ true → doings p n choices m ≡ map doing (deeds_alone p (length (doings p n choices m)) m)
run_by listens p n choices m s asks quiet given = as_alone_by listens p n choices m m (touched_from p m s.lawful s.alone.above s.alone.here) (waits_by listens p m s.alone.hears) s given asks.units quiet.units

pub fronts_by : (listens : Bool) (p n o : ℕ) (choices others : List Bool) (m t : State) → StandsAlone listens p m → StandsAlone listens p t → SeemsAlike p m t → AsksNothing listens p m → AsksNothing listens p t → IsQuietAlone p m → IsQuietAlone p t
    → is_given_nothing_by p n choices m ≡ true → is_given_nothing_by p o others t ≡ true
    → IsFront (doings p n choices m) (doings p o others t) ⊎ IsFront (doings p o others t) (doings p n choices m)
fronts_by listens p n o choices others m t here there seems asks too quiet calm given free = elim (cases_lt i j) [
  | inl less ↦ inl (by (doings p n choices m) (doings p o others t) i j one two (omega (arith, less)))
  | inr more ↦ inr (by (doings p o others t) (doings p n choices m) j i two one more)
]
  where
    i : ℕ
    i = length (doings p n choices m)

    j : ℕ
    j = length (doings p o others t)

    one : doings p n choices m ≡ map doing (deeds_alone p i m)
    one = run_by listens p n choices m here asks quiet given

    two : doings p o others t ≡ map doing (deeds_alone p j m)
    two = run_by listens p o others t there too calm free ∙ ap (map doing) (sym (alone_alike listens p j m t seems (waits_by listens p m here.alone.hears) (waits_by listens p t there.alone.hears) (asks.units j)))

    by : (xs ys : List Doing) (a b : ℕ) → xs ≡ map doing (deeds_alone p a m) → ys ≡ map doing (deeds_alone p b m) → a ≤ b → IsFront xs ys
    by xs ys a b e f h =
        subst (λ (zs : List Doing). IsFront zs ys) (sym e) (subst (λ (zs : List Doing). IsFront (map doing (deeds_alone p a m)) zs) (sym f) (front_of_doings (deeds_alone p a m) (deeds_alone p b m) (alone_front p a b m h)))

-- Nobody may give.

touch_keeps : (p : ℕ) (b : Bool) (m : State) → NobodyGives m → NobodyGives (touched b m)
touch_keeps p b m k = let x = touches p b m in record { table = subst (λ (s : PageState). AllPlaced Stingy s.table) (sym x.memory) k.table; commands = subst AllStingy (sym x.commands) k.commands }

go_keeps : (n : ℕ) (b : Bool) (m : State) → IsLawful m → HasWholePages m → NobodyGives m → IsLawful (go n b m) × HasWholePages (go n b m) × NobodyGives (go n b m)
go_keeps n b m lawful whole k = by (goes_on n m)
  where
    half : IsLawful (half_turn b m) × HasWholePages (half_turn b m) × NobodyGives (half_turn b m)
    half =
        let l = touched_lawful b m lawful in
        let w = touched_whole b m whole in
        (half_lawful b m lawful, half_whole b m whole, subst NobodyGives (sym (half_touch b m)) (half_keeps (touched b m) l w (touch_keeps 1 b m k)))

    by : (on : Bool) → IsLawful (cond on (half_turn b m) m) × HasWholePages (cond on (half_turn b m) m) × NobodyGives (cond on (half_turn b m) m)
    by true = half
    by false = (lawful, whole, k)

nothing_by : (p n : ℕ) (choices : List Bool) (m : State) → IsLawful m → HasWholePages m → NobodyGives m → is_given_nothing_by p n choices m ≡ true
nothing_by p n [] m lawful whole g = refl
nothing_by p n (b ∷ choices) m lawful whole g =
    let next = go_keeps n b m lawful whole g in
    let x = touches p b m in
    let stingy : unit_gives (touched b m) m.ready p ≡ false = unit_is_stingy (touched b m) p m.ready (touch_keeps p b m g).table in
    fine (not (goes_on n m)) (is_some m.owed) (unit_gives (touched b m) m.ready p) (is_given_nothing_by p n choices (go n b m)) stingy (nothing_by p n choices (go n b m) next.0 next.1 next.2)
  where
    fine : (off owed gives more : Bool) → gives ≡ false → more ≡ true → ((off || (owed || not gives)) && more) ≡ true
    fine true owed gives more e f = f
    fine false true gives more e f = f
    fine false false true more e f = false_is_not_true (sym e)
    fine false false false more e f = f

pub nobody_is_given_by : (p n : ℕ) (choices : List Bool) (m : State) → IsLawful m → HasWholePages m → nobody_may_give m ≡ true → is_given_nothing_by p n choices m ≡ true
nobody_is_given_by p n choices m lawful whole e =
    let parts = both (list_all (λ (row : List Entry). list_all (λ (e : Entry). not e.grant.give) row) m.memory.table) _ e in
    nothing_by p n choices m lawful whole (record { table = rows_stingy m.memory.table parts.0; commands = parts.1 })

-- Lines.

pub touch_silent : (b : Bool) (m : State) → Silent m (touched b m)
touch_silent false m = still m
touch_silent true m = by m.ready
  where
    by : (ready : List ℕ) → Silent m (touch_first m ready)
    by [] = still m
    by (q ∷ rest) = put_silent m q (touched_process (process_of m q)) refl

go_prints_by : (p n : ℕ) (b : Bool) (m : State) → IsLawful m → p ≤ length m.processes → HasOwnLine p m → Prints p m (go n b m) (puts_by (cond (goes_on n m && runs p m) (doing (deed p (touched b m)) ∷ []) []))
go_prints_by p n b m lawful within k = by (goes_on n m)
  where
    m1 : State
    m1 = touched b m

    one : (c : Bool) → cond c (puts_of m1 p (instruction m1 p (process_of m1 p).pc)) [] ≡ puts_by (cond c (doing (deed p m1) ∷ []) [])
    one true = sym (append-nil (puts_of m1 p (instruction m1 p (process_of m1 p).pc)))
    one false = refl

    same_runs : runs p m1 ≡ runs p m
    same_runs = let x = touches p b m in ap₂ (λ (o : Option Turn) (ready : List ℕ). not (is_some o) && is_first (first ready) p) x.owed x.ready

    half : Prints p m (half_turn b m) (puts_by (cond (runs p m) (doing (deed p m1) ∷ []) []))
    half =
        let t = silent_prints p m m1 (touch_silent b m) within k in
        let h = half_prints p m1 (touched_lawful b m lawful) t.here t.own in
        subst (λ (x : State). Prints p m x (puts_by (cond (runs p m) (doing (deed p m1) ∷ []) []))) (sym (half_touch b m)) (record {
          console = h.console ∙ (ap (λ (c : List ℕ). c ++ own_puts p m1) (t.console ∙ append-nil (console_of p m)) ∙ ap (λ (c : List ℕ). console_of p m ++ c) (one (runs p m1) ∙ ap (λ (c : Bool). puts_by (cond c (doing (deed p m1) ∷ []) [])) same_runs));
          here = h.here;
          own = h.own;
        })

    by : (on : Bool) → Prints p m (cond on (half_turn b m) m) (puts_by (cond (on && runs p m) (doing (deed p m1) ∷ []) []))
    by true = half
    by false = silent_prints p m m (still m) within k

go_lawful : (n : ℕ) (b : Bool) (m : State) → IsLawful m → IsLawful (go n b m)
go_lawful n b m k = by (goes_on n m)
  where
    by : (on : Bool) → IsLawful (cond on (half_turn b m) m)
    by true = half_lawful b m k
    by false = k

-- a run that takes one half turn more from the front
pub from_front : (n : ℕ) (choices : List Bool) (b : Bool) (m : State) → after n (choices ++ b ∷ []) m ≡ after n choices (go n b m)
unfolding after
from_front n [] b m = refl
from_front n (c ∷ choices) b m = ap (go n c) (from_front n choices b m)

pub console_by : (p n : ℕ) (choices : List Bool) (m : State) → IsLawful m → p ≤ length m.processes → HasOwnLine p m → console_of p (after n (reverse choices) m) ≡ console_of p m ++ puts_by (doings p n choices m)
unfolding after
console_by p n [] m lawful within own = sym (append-nil (console_of p m))
console_by p n (b ∷ choices) m lawful within own =
    let g = go_prints_by p n b m lawful within own in
    let now = cond (goes_on n m && runs p m) (doing (deed p (touched b m)) ∷ []) [] in
    ap (λ (cs : List Bool). console_of p (after n cs m)) (reverse-append (b ∷ []) choices)
    ∙ (ap (console_of p) (from_front n (reverse choices) b m)
    ∙ (console_by p n choices (go n b m) (go_lawful n b m lawful) g.here g.own
    ∙ (ap (λ (c : List ℕ). c ++ puts_by (doings p n choices (go n b m))) g.console
    ∙ (append_assoc (console_of p m) (puts_by now) (puts_by (doings p n choices (go n b m)))
    ∙ ap (λ (x : List ℕ). console_of p m ++ x) (sym (flat_map-append (λ (d : Doing). d.puts) now (doings p n choices (go n b m))))))))
