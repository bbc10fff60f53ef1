-- Two inputs in which a process has the same, and is alone.
use Rattle.std.proofs.Common.{◌≡◌, ℕ, zero, suc, ◌≤◌, Bool, true, false, cond, List, [], ◌∷◌, ◌++◌, map, reverse, length, Ok, refl, sym, ap, ap₂, ◌∙◌, subst, inl, inr}
use Rattle.std.specs.Prelude.{◌&&◌, flat_map, replicate, slice_index_or}
use Rattle.std.proofs.lemmas.Grind.{flat_map-append}
use Rattle.std.proofs.lemmas.List.Folds.{flat_map-map}
use Rattle.std.proofs.lemmas.List.{reverse-reverse}
use Rattle.ds_log.specs.declared.line.Line.{Line}
use Rattle.ds_pagemap.specs.Machine.{State, process_of, touch_first, touched}
use Rattle.ds_pagemap.specs.Unit.{unit}
use Rattle.ds_pagemap.specs.First.{first_state}
use Rattle.ds_policy.specs.PolicyFacts.{IsGoodPolicy}
use Rattle.ds_policy.specs.Value.{PolicyValue}
use Rattle.ds_pagemap.specs.Inputs.{Sources, inputs, inputs_under}
use Rattle.ds_pagemap.specs.Run.{after, Reaches}
use Rattle.ds_pagemap_laws.specs.Lawful.{IsLawful}
use Rattle.ds_pagemap_laws.proofs.FirstStates.{made, first_lawful, inputs_lawful}
use Rattle.ds_promise.proofs.FirstPages.{inputs_whole, made_under, under_whole}
use Rattle.ds_promise.specs.Quiet.{quiet_first}
use Rattle.ds_alone.specs.Alone.{StandsAlone, NothingWaits, SeemsAlike}
use Rattle.ds_alone.specs.Deeds.{Deed, deeds_alone, puts, only, is_ready, next_asks_nothing, asks_nothing_alone, AsksNothing, IsFront, AreFronts}
use Rattle.ds_alone.specs.Touched.{Doing, doing, doings, is_given_nothing_by, quiet_alone, IsQuietAlone, puts_by}
use Rattle.ds_alone.specs.Tests.{is_alone, nobody_may_give, holdings}
use Rattle.ds_alone.specs.Consoles.{has_own_line, console_of}
use Rattle.ds_alone.specs.Log.{said_of, told_by, ShowsMore, ShowsAlone}
use Rattle.ds_alone.proofs.Log.{said_by}
use Rattle.ds_alone.proofs.Silence.{waits_by}
use Rattle.ds_alone.proofs.Units.{only_seems, unit_seems, fine_step, waits_only, waits_next, units_ask_too}
use Rattle.ds_alone.proofs.Tests.{is_found_alone, seen_alike}
use Rattle.ds_alone.proofs.Touched.{first_same}
use Rattle.ds_alone.proofs.Consoles.{own_line_found}
use Rattle.ds_alone.proofs.Everyone.{touch_silent, run_by, fronts_by, front_of_puts, nobody_is_given_by, console_by}

-- What is quiet alone is so in a state that seems alike.

if_so : (b x : Bool) → (b ≡ true → x ≡ true) → cond b x true ≡ true
if_so true x h = h refl
if_so false x h = refl

and_so : (a b : Bool) → a ≡ true → b ≡ true → (a && b) ≡ true
and_so true b e f = f
and_so false b e f = e

pub units_quiet_too : (listens : Bool) (p k : ℕ) (m t : State) → SeemsAlike p m t → NothingWaits listens p m → NothingWaits listens p t → asks_nothing_alone listens p k m ≡ true → quiet_alone p k m ≡ true → quiet_alone p k t ≡ true
units_quiet_too listens p zero m t s none too asks quiet = refl
units_quiet_too listens p (suc k) m t s none too asks quiet = if_so (is_ready (process_of t p).standing) _ (λ there.
    let o = only_seems p m t s in
    let here = ap is_ready s.standing ∙ there in
    let f = fine_step (is_ready (process_of m p).standing) (next_asks_nothing listens p (only p m)) (asks_nothing_alone listens p k (unit (only p m))) asks here in
    let q = fine_step (is_ready (process_of m p).standing) (quiet_first (only p m) (p ∷ [])) (quiet_alone p k (unit (only p m))) quiet here in
    and_so (quiet_first (only p t) (p ∷ [])) (quiet_alone p k (unit (only p t))) (sym (first_same p (only p m) (only p t) [] [] o.look) ∙ q.0)
    (units_quiet_too listens p k (unit (only p m)) (unit (only p t)) (unit_seems listens p (only p m) (only p t) [] [] o refl refl f.0 (waits_only listens p m none) (waits_only listens p t too))
    (waits_next listens p m s.look.above s.look.here none) (waits_next listens p t s.look.above s.look.there too) f.1 q.1))

-- in two runs by any choices the one is a front of the other
pub doings_fronts : (listens : Bool) (p n o : ℕ) (choices others : List Bool) (m t : State) → StandsAlone listens p m → StandsAlone listens p t → SeemsAlike p m t → AsksNothing listens p m → IsQuietAlone p m
    → is_given_nothing_by p n choices m ≡ true → is_given_nothing_by p o others t ≡ true
    → AreFronts (doings p n choices m) (doings p o others t)
doings_fronts listens p n o choices others m t here there seems asks quiet given free =
    let none = waits_by listens p m here.alone.hears in
    let too = waits_by listens p t there.alone.hears in
    fronts_by listens p n o choices others m t here there seems asks (record { units = λ k. units_ask_too listens p k m t seems none too (asks.units k) }) quiet
    (record { units = λ k. units_quiet_too listens p k m t seems none too (asks.units k) (quiet.units k) }) given free

pub puts_by_fronts : (xs ys : List Doing) → AreFronts xs ys → AreFronts (puts_by xs) (puts_by ys)
puts_by_fronts xs ys f = elim f [
  | inl a ↦ inl (front_of_puts xs ys a)
  | inr a ↦ inr (front_of_puts ys xs a)
]

told_fronts : (xs ys : List Doing) → IsFront xs ys → IsFront (told_by xs) (told_by ys)
told_fronts xs ys f = record { more = told_by f.more; is = ap told_by f.is ∙ flat_map-append (λ (d : Doing). d.told) xs f.more }

told_by_fronts : (xs ys : List Doing) → AreFronts xs ys → AreFronts (told_by xs) (told_by ys)
told_by_fronts xs ys f = elim f [
  | inl a ↦ inl (told_fronts xs ys a)
  | inr a ↦ inr (told_fronts ys xs a)
]

-- First states.

pub stands_first : (listens : Bool) (p : ℕ) (text : List ℕ) (sources : Sources) (input : List ℕ) (n random : ℕ) (m : State) → inputs text sources input n random ≡ Ok m → is_alone listens p m ≡ true → StandsAlone listens p m
stands_first listens p text sources input n random m h e = record { lawful = inputs_lawful text sources input n random m h; whole = inputs_whole text sources input n random m h; alone = is_found_alone listens p m e }

none_there : (n l : ℕ) → slice_index_or (replicate {A = List ℕ} n []) l [] ≡ []
none_there zero l = refl
none_there (suc n) zero = refl
none_there (suc n) (suc l) = none_there n l

nothing_yet : (p : ℕ) (text : List ℕ) (sources : Sources) (input : List ℕ) (n random : ℕ) (m : State) → inputs text sources input n random ≡ Ok m → console_of p m ≡ []
unfolding inputs
nothing_yet p text sources input n random m h =
    let it = made first_state text sources input n random m h in
    ap (λ (cs : List (List ℕ)). slice_index_or cs (process_of m p).line []) (ap (λ (s : State). s.consoles) (sym it.is)) ∙ none_there 4 (process_of m p).line

nothing_said : (p : ℕ) (text : List ℕ) (sources : Sources) (input : List ℕ) (n random : ℕ) (m : State) → inputs text sources input n random ≡ Ok m → said_of p m.log ≡ []
unfolding inputs
nothing_said p text sources input n random m h =
    let it = made first_state text sources input n random m h in
    ap (said_of p) (ap (λ (s : State). s.log) (sym it.is))

-- what the log says of it in a state that a run reaches
pub reached_log : (p n : ℕ) (m u : State) (r : Reaches n m u) → said_of p u.log ≡ said_of p m.log ++ told_by (doings p n (reverse r.choices) m)
reached_log p n m u r =
    ap (λ (s : State). said_of p s.log) r.comes_to
    ∙ (ap (said_of p) (touch_log r.early (after n r.choices m))
    ∙ (ap (λ (cs : List Bool). said_of p (after n cs m).log) (sym (reverse-reverse r.choices))
    ∙ said_by p n (reverse r.choices) m))
  where
    touch_log : (b : Bool) (m : State) → (touched b m).log ≡ m.log
    touch_log false m = refl
    touch_log true m = by m.ready
      where
        by : (ready : List ℕ) → (touch_first m ready).log ≡ m.log
        by [] = refl
        by (q ∷ rest) = refl

-- what stands on its line in a state that a run reaches
reached_console : (p n : ℕ) (m u : State) (r : Reaches n m u) → IsLawful m → p ≤ length m.processes → has_own_line p m ≡ true → console_of p u ≡ console_of p m ++ puts_by (doings p n (reverse r.choices) m)
reached_console p n m u r lawful within own =
    let t = after n r.choices m in
    let silent = touch_silent r.early t in
    ap (console_of p) r.comes_to
    ∙ (ap₂ (λ (cs : List (List ℕ)) (l : ℕ). slice_index_or cs l []) silent.consoles (silent.lines p)
    ∙ (ap (λ (cs : List Bool). console_of p (after n cs m)) (sym (reverse-reverse r.choices))
    ∙ console_by p n (reverse r.choices) m lawful within (own_line_found p m own)))

-- What is shown of it is what it does alone.
pub shown_more : (listens : Bool) (p n : ℕ) (m u : State) → StandsAlone listens p m → AsksNothing listens p m → IsQuietAlone p m → nobody_may_give m ≡ true → Reaches n m u → ShowsMore p m u
shown_more listens p n m u s asks quiet stingy r =
    let xs = doings p n (reverse r.choices) m in
    let ds = deeds_alone p (length xs) m in
    let is : xs ≡ map doing ds = run_by listens p n (reverse r.choices) m s asks quiet (nobody_is_given_by p n (reverse r.choices) m s.lawful s.whole stingy) in
    record {
      units = length xs;
      log = reached_log p n m u r ∙ ap (λ (ls : List Line). said_of p m.log ++ ls) (ap told_by is ∙ flat_map-map (λ (d : Doing). d.told) doing ds);
      console = λ own. reached_console p n m u r s.lawful s.alone.here own ∙ ap (λ (bs : List ℕ). console_of p m ++ bs) (ap puts_by is ∙ flat_map-map (λ (d : Doing). d.puts) doing ds);
    }

-- where nothing was said before, and nothing written
only_more : (p : ℕ) (m u : State) → said_of p m.log ≡ [] → console_of p m ≡ [] → ShowsMore p m u → ShowsAlone p m u
only_more p m u log console k = record {
  units = k.units;
  log = k.log ∙ ap (λ (ls : List Line). ls ++ flat_map (λ (d : Deed). d.told) (deeds_alone p k.units m)) log;
  console = λ own. k.console own ∙ ap (λ (bs : List ℕ). bs ++ puts (deeds_alone p k.units m)) console;
}

pub shown_alone : (listens : Bool) (p n random : ℕ) (text : List ℕ) (sources : Sources) (input : List ℕ) (m u : State) → inputs text sources input n random ≡ Ok m → is_alone listens p m ≡ true → AsksNothing listens p m → IsQuietAlone p m → nobody_may_give m ≡ true
    → Reaches n m u → ShowsAlone p m u
shown_alone listens p n random text sources input m u first here asks quiet stingy r =
    only_more p m u (nothing_said p text sources input n random m first) (nothing_yet p text sources input n random m first)
    (shown_more listens p n m u (stands_first listens p text sources input n random m first here) asks quiet stingy r)

-- the same under a policy that was read before
pub shown_under : (listens : Bool) (p n random : ℕ) (policy : PolicyValue) (sources : Sources) (input : List ℕ) (m u : State) → IsGoodPolicy policy → inputs_under policy sources input n random ≡ Ok m → is_alone listens p m ≡ true → AsksNothing listens p m → IsQuietAlone p m
    → nobody_may_give m ≡ true → Reaches n m u → ShowsAlone p m u
shown_under listens p n random policy sources input m u good first here asks quiet stingy r =
    let it = made_under policy sources input n random m first in
    let stands : StandsAlone listens p m = record {
      lawful = subst IsLawful it.is (first_lawful policy it.images it.events good.process_count.1 good.processes);
      whole = under_whole policy sources input n random m good first;
      alone = is_found_alone listens p m here;
    } in
    only_more p m u (ap (λ (s : State). said_of p s.log) (sym it.is)) (ap (λ (cs : List (List ℕ)). slice_index_or cs (process_of m p).line []) (ap (λ (s : State). s.consoles) (sym it.is)) ∙ none_there 4 (process_of m p).line)
    (shown_more listens p n m u stands asks quiet stingy r)

-- The law for two inputs.
module _ (listens : Bool) (p n random o start : ℕ) (text other : List ℕ) (sources others : Sources) (input more : List ℕ) (m t : State)
    (first : inputs text sources input n random ≡ Ok m) (second : inputs other others more o start ≡ Ok t)
    (here : is_alone listens p m ≡ true) (there : is_alone listens p t ≡ true) (same : holdings p m ≡ holdings p t) (asks : AsksNothing listens p m) (quiet : IsQuietAlone p m)
    (stingy : nobody_may_give m ≡ true) (mean : nobody_may_give t ≡ true) where
  standing : StandsAlone listens p m
  standing = stands_first listens p text sources input n random m first here

  too : StandsAlone listens p t
  too = stands_first listens p other others more o start t second there

  pub inputs_fronts : (choices later : List Bool) → AreFronts (doings p n choices m) (doings p o later t)
  inputs_fronts choices later =
      doings_fronts listens p n o choices later m t standing too (seen_alike p m t standing.alone.above standing.alone.here too.alone.here same) asks quiet
      (nobody_is_given_by p n choices m standing.lawful standing.whole stingy) (nobody_is_given_by p o later t too.lawful too.whole mean)

  pub inputs_consoles : (u v : State) → Reaches n m u → Reaches o t v → has_own_line p m ≡ true → has_own_line p t ≡ true → AreFronts (console_of p u) (console_of p v)
  inputs_consoles u v r s own alike =
      let xs = doings p n (reverse r.choices) m in
      let ys = doings p o (reverse s.choices) t in
      let one : console_of p u ≡ puts_by xs = reached_console p n m u r standing.lawful standing.alone.here own ∙ ap (λ (c : List ℕ). c ++ puts_by xs) (nothing_yet p text sources input n random m first) in
      let two : console_of p v ≡ puts_by ys = reached_console p o t v s too.lawful too.alone.here alike ∙ ap (λ (c : List ℕ). c ++ puts_by ys) (nothing_yet p other others more o start t second) in
      subst (λ (c : List ℕ). AreFronts c (console_of p v)) (sym one) (subst (AreFronts (puts_by xs)) (sym two) (puts_by_fronts xs ys (inputs_fronts (reverse r.choices) (reverse s.choices))))

  pub inputs_logs : (u v : State) → Reaches n m u → Reaches o t v → AreFronts (said_of p u.log) (said_of p v.log)
  inputs_logs u v r s =
      let xs = doings p n (reverse r.choices) m in
      let ys = doings p o (reverse s.choices) t in
      let one : said_of p u.log ≡ told_by xs = reached_log p n m u r ∙ ap (λ (c : List Line). c ++ told_by xs) (nothing_said p text sources input n random m first) in
      let two : said_of p v.log ≡ told_by ys = reached_log p o t v s ∙ ap (λ (c : List Line). c ++ told_by ys) (nothing_said p other others more o start t second) in
      subst (λ (c : List Line). AreFronts c (said_of p v.log)) (sym one) (subst (AreFronts (told_by xs)) (sym two) (told_by_fronts xs ys (inputs_fronts (reverse r.choices) (reverse s.choices))))

pub two_inputs : (listens : Bool) (p n random o start : ℕ) (text other : List ℕ) (sources others : Sources) (input more : List ℕ) (m t : State) → inputs text sources input n random ≡ Ok m → inputs other others more o start ≡ Ok t
    → is_alone listens p m ≡ true → is_alone listens p t ≡ true → holdings p m ≡ holdings p t → AsksNothing listens p m → IsQuietAlone p m → nobody_may_give m ≡ true → nobody_may_give t ≡ true
    → (choices later : List Bool) → AreFronts (doings p n choices m) (doings p o later t)
two_inputs listens p n random o start text other sources others input more m t first second here there same asks quiet stingy mean choices later =
    inputs_fronts listens p n random o start text other sources others input more m t first second here there same asks quiet stingy mean choices later

pub two_consoles : (listens : Bool) (p n random o start : ℕ) (text other : List ℕ) (sources others : Sources) (input more : List ℕ) (m t u v : State) → inputs text sources input n random ≡ Ok m → inputs other others more o start ≡ Ok t
    → is_alone listens p m ≡ true → is_alone listens p t ≡ true → holdings p m ≡ holdings p t → AsksNothing listens p m → IsQuietAlone p m → nobody_may_give m ≡ true → nobody_may_give t ≡ true
    → Reaches n m u → Reaches o t v → has_own_line p m ≡ true → has_own_line p t ≡ true → AreFronts (console_of p u) (console_of p v)
two_consoles listens p n random o start text other sources others input more m t u v first second here there same asks quiet stingy mean r s own alike =
    inputs_consoles listens p n random o start text other sources others input more m t first second here there same asks quiet stingy mean u v r s own alike

pub two_logs : (listens : Bool) (p n random o start : ℕ) (text other : List ℕ) (sources others : Sources) (input more : List ℕ) (m t u v : State) → inputs text sources input n random ≡ Ok m → inputs other others more o start ≡ Ok t
    → is_alone listens p m ≡ true → is_alone listens p t ≡ true → holdings p m ≡ holdings p t → AsksNothing listens p m → IsQuietAlone p m → nobody_may_give m ≡ true → nobody_may_give t ≡ true
    → Reaches n m u → Reaches o t v → AreFronts (said_of p u.log) (said_of p v.log)
two_logs listens p n random o start text other sources others input more m t u v first second here there same asks quiet stingy mean r s =
    inputs_logs listens p n random o start text other sources others input more m t first second here there same asks quiet stingy mean u v r s
